use Rattle.std.proofs.Common.{◌≤◌, Bool, [], length, sym, ap, subst, ◌∙◌}
use Rattle.block_codec.specs.Placement.{bytes_digest, most_blocks}
use Rattle.chain_exec.specs.Compiled.{compiled_in}
use Rattle.chain_replay.specs.Chain.{placement_by_mark, placement_kept}
use Rattle.chain_replay.specs.Judging.{is_marked_for, place_kept, placement_for}
use Rattle.chain_replay.proofs.Judgements.{judged_of_bytes, next_of_bytes}
use Rattle.chain_replay.proofs.Kept.{few_for}
use Rattle.chain_replay.proofs.replaying.Replay.judge.Goals as goal

pub place-placement-requires-clause-few : goal.place-placement-requires-clause-few
place-placement-requires-clause-few g c =
    let kept = g.Self.Replay.kept c.args.self.now in
    subst (λ (marked : Bool). length kept.digests ≤ most_blocks marked)
    (sym c.is_marked_for-marked.ensures)
    (few_for c.args.marking c.in-Ok.block (length kept.digests) c.requires.few)

pub returns-in-Ok-clause-judged : goal.returns-in-Ok-clause-judged
returns-in-Ok-clause-judged g c blocks stands =
    let digest = c.block_digest-digest.ensures ∙ ap bytes_digest c.in-Ok.ensures.found.spelled in
    judged_of_bytes c.judge_block.result (placement_for compiled_in c.args.marking) blocks
    c.args.bytes.now c.in-Ok.block c.place-placement.result c.judge_block.ensures.judged
    c.in-Ok.ensures.exact
    (c.place-placement.ensures.stands blocks stands digest
    ∙ ap (λ (marked : Bool). placement_by_mark compiled_in marked blocks c.in-Ok.block)
    c.is_marked_for-marked.ensures)

pub returns-in-Ok-clause-kept : goal.returns-in-Ok-clause-kept
returns-in-Ok-clause-kept g c =
    let kept = g.Self.Replay.kept c.args.self.now in
    let block = c.in-Ok.block in
    let digest = c.block_digest-digest.ensures ∙ ap bytes_digest c.in-Ok.ensures.found.spelled in
    judged_of_bytes c.judge_block.result (place_kept c.args.marking kept) [] c.args.bytes.now block
    c.place-placement.result c.judge_block.ensures.judged c.in-Ok.ensures.exact
    (c.place-placement.ensures.placement
    ∙ ap (λ (marked : Bool). placement_kept marked kept block c.block_digest-digest.result)
    c.is_marked_for-marked.ensures
    ∙ ap (placement_kept (is_marked_for c.args.marking block) kept block) digest)

pub returns-in-Ok-clause-next : goal.returns-in-Ok-clause-next
returns-in-Ok-clause-next g c =
    let kept = g.Self.Replay.kept c.args.self.now in
    let digest = c.block_digest-digest.ensures ∙ ap bytes_digest c.in-Ok.ensures.found.spelled in
    next_of_bytes c.judge_block.result c.args.marking kept c.args.bytes.now c.in-Ok.block
    c.block_digest-digest.result c.place-placement.result c.judge_block.ensures.next
    c.in-Ok.ensures.exact c.in-Ok.ensures.found.lawful digest
    (c.place-placement.ensures.placement
    ∙ ap (λ (marked : Bool). placement_kept marked kept c.in-Ok.block c.block_digest-digest.result)
    c.is_marked_for-marked.ensures)
    c.place-placement.ensures.room
