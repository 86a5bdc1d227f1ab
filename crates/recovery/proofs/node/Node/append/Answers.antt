use Rattle.std.proofs.Common.{◌≡◌, ℕ, true≢false, List, Option, Result, Ok, refl, sym, ap, subst}
use Rattle.std.proofs.Common.{◌∙◌}
use Rattle.std.proofs.lemmas.List.{append-nil}
use Rattle.lc_io.specs.Disk.{DiskState}
use Rattle.lc_io.proofs.Retaining.{retains_refl}
use Rattle.disk_model.specs.Disk.{Keeps}
use Rattle.block_codec.specs.Reading.{block_in}
use Rattle.block_codec.specs.declared.block.Block.{Block}
use Rattle.rooted_chain.specs.chain_replay.Judging.{Taken, Known, judgement_of}
use Rattle.rooted_chain.specs.chain_replay.declared.marking.Marking.TheVariants.{OfLog}
use Rattle.rooted_chain.specs.chain_replay.declared.refusal.Refusal.{Refusal}
use Rattle.rooted_chain.proofs.chain_replay.Judgements.{added}
use Rattle.recovery.specs.Node.{NodeState, IsAppendAnswer, IsAsJudged, IsNodeOf, IsStepOf}
use Rattle.recovery.specs.Node.{blocks_after, logged_in, stored_placement}
use Rattle.recovery.specs.declared.node.Appended.TheVariants as appendeds
use Rattle.recovery.proofs.ByLog.{still_log}
use Rattle.recovery.proofs.Leaving.{none_blamed}
use Rattle.recovery.proofs.Nodes.{still, still_only}
use Rattle.recovery.proofs.node.Node.append.Goals as goal

pub returns-in-Ok-Known-clause-images : goal.returns-in-Ok-Known-clause-images
returns-in-Ok-Known-clause-images g c told blocks content is shown = still g.M.Clock.now
    g.M.Clock.disk c.args.machine.now c.args.self blocks content
    (judgement_of (stored_placement c.args.self.log.is_marked) blocks (block_in c.args.bytes.now))
    is shown

pub returns-in-Ok-Next-clause-images : goal.returns-in-Ok-Next-clause-images
returns-in-Ok-Next-clause-images g c told blocks content is shown =
    let marked = c.args.self.log.is_marked in
    let a =
    added (stored_placement marked) (OfLog marked) blocks c.args.self.chain c.args.bytes.now
    c.in-Ok-Next.field-0 c.in-Ok-Next.block c.in-Ok-Next.digest c.in-Ok-Next.field-0-is
    (c.in-Ok-Next.ensures.judged blocks is.kept) c.in-Ok-Next.ensures.next in
    subst (λ (j : Result Taken Refusal). Keeps g.M.Clock.now g.M.Clock.disk c.args.machine.now
    c.add.new.machine (IsStepOf (logged_in c.args.self.log blocks) j)) (sym a.judgement)
    (c.add.ensures.images told blocks content is shown a.judgement)

pub returns-in-Ok-Refused-clause-images : goal.returns-in-Ok-Refused-clause-images
returns-in-Ok-Refused-clause-images g c told blocks content is shown = still g.M.Clock.now
    g.M.Clock.disk c.args.machine.now c.args.self blocks content
    (judgement_of (stored_placement c.args.self.log.is_marked) blocks (block_in c.args.bytes.now))
    is shown

pub returns-in-Err-clause-images : goal.returns-in-Err-clause-images
returns-in-Err-clause-images g c told blocks content is shown = still g.M.Clock.now g.M.Clock.disk
    c.args.machine.now c.args.self blocks content
    (judgement_of (stored_placement c.args.self.log.is_marked) blocks (block_in c.args.bytes.now))
    is shown

pub returns-in-Ok-Known-clause-only_image : goal.returns-in-Ok-Known-clause-only_image
returns-in-Ok-Known-clause-only_image g c unreached content shown = still_only g.M.Clock.now
    g.M.Clock.disk c.args.machine.now c.args.machine.now c.args.self.log refl c.requires.ready.log
    content shown

pub returns-in-Ok-Next-clause-only_image : goal.returns-in-Ok-Next-clause-only_image
returns-in-Ok-Next-clause-only_image g c unreached content shown = still_only g.M.Clock.now
    g.M.Clock.disk c.args.machine.now c.add.new.machine c.args.self.log
    (c.add.ensures.untouched unreached) c.requires.ready.log content shown

pub returns-in-Ok-Refused-clause-only_image : goal.returns-in-Ok-Refused-clause-only_image
returns-in-Ok-Refused-clause-only_image g c unreached content shown = still_only g.M.Clock.now
    g.M.Clock.disk c.args.machine.now c.args.machine.now c.args.self.log refl c.requires.ready.log
    content shown

pub returns-in-Err-clause-only_image : goal.returns-in-Err-clause-only_image
returns-in-Err-clause-only_image g c unreached content shown = still_only g.M.Clock.now
    g.M.Clock.disk c.args.machine.now c.args.machine.now c.args.self.log refl c.requires.ready.log
    content shown

pub returns-in-Ok-Known-clause-log_images : goal.returns-in-Ok-Known-clause-log_images
returns-in-Ok-Known-clause-log_images g c logged content told stands = still_log g.M.Clock.now
    g.M.Clock.disk c.args.machine.now c.args.self.log content logged (block_in c.args.bytes.now)
    c.requires.ready.log told stands

pub returns-in-Ok-Refused-clause-log_images : goal.returns-in-Ok-Refused-clause-log_images
returns-in-Ok-Refused-clause-log_images g c logged content told stands = still_log g.M.Clock.now
    g.M.Clock.disk c.args.machine.now c.args.self.log content logged (block_in c.args.bytes.now)
    c.requires.ready.log told stands

pub returns-in-Err-clause-log_images : goal.returns-in-Err-clause-log_images
returns-in-Err-clause-log_images g c logged content told stands = still_log g.M.Clock.now
    g.M.Clock.disk c.args.machine.now c.args.self.log content logged (block_in c.args.bytes.now)
    c.requires.ready.log told stands

-- a block that is held already leaves the node as it was
known_answer : (node : NodeState) (state : Option DiskState) (blocks : List Block)
    (judgement : Result Taken Refusal) (number : ℕ)
    → ((block : Block) × (judgement ≡ Ok (Known block)) × (number ≡ block.number))
    → IsNodeOf node state blocks
    → IsAppendAnswer node state blocks judgement (Ok (node, appendeds.Known number))
known_answer node state blocks judgement number (block, is, number_is) of = (
  (block, is, number_is, refl),
  subst (λ (all : List Block). IsNodeOf node state all)
      (sym (ap (blocks_after blocks) is ∙ append-nil blocks)) of,
)

-- ---- the rest, by what became of the block

pub returns-in-Ok-Known-clause-answer : goal.returns-in-Ok-Known-clause-answer
returns-in-Ok-Known-clause-answer g c told blocks is =
    let judged = rw c.in-Ok-Known.field-0-is at (c.in-Ok-Known.ensures.judged blocks is.kept) in
    known_answer c.args.self _ blocks
    (judgement_of (stored_placement c.args.self.log.is_marked) blocks (block_in c.args.bytes.now))
    c.in-Ok-Known.number judged is

pub returns-in-Ok-Known-clause-kept : goal.returns-in-Ok-Known-clause-kept
returns-in-Ok-Known-clause-kept g c =
    rw c.in-Ok-Known.field-0-is at c.in-Ok-Known.ensures.kept

pub returns-in-Ok-Known-clause-node : goal.returns-in-Ok-Known-clause-node
returns-in-Ok-Known-clause-node g c = refl

pub returns-in-Ok-Known-clause-ready : goal.returns-in-Ok-Known-clause-ready
returns-in-Ok-Known-clause-ready g c = c.requires.ready

pub returns-in-Ok-Known-clause-disk_cause : goal.returns-in-Ok-Known-clause-disk_cause
returns-in-Ok-Known-clause-disk_cause g c = none_blamed _ _ _ refl (λ blames. blames)

pub returns-in-Ok-Known-clause-scratch : goal.returns-in-Ok-Known-clause-scratch
returns-in-Ok-Known-clause-scratch g c = record {
  retains = retains_refl _;
  cause = none_blamed _ _ _ refl (λ blames. blames);
}

pub returns-in-Ok-Next-clause-answer : goal.returns-in-Ok-Next-clause-answer
returns-in-Ok-Next-clause-answer g c told blocks is =
    let marked = c.args.self.log.is_marked in
    let a =
    added (stored_placement marked) (OfLog marked) blocks c.args.self.chain c.args.bytes.now
    c.in-Ok-Next.field-0 c.in-Ok-Next.block c.in-Ok-Next.digest c.in-Ok-Next.field-0-is
    (c.in-Ok-Next.ensures.judged blocks is.kept) c.in-Ok-Next.ensures.next in
    subst (λ (j : Result Taken Refusal). IsAppendAnswer c.args.self
    (g.M.Clock.disk c.add.new.machine (g.M.Clock.now c.add.new.machine)) blocks j c.add.result)
    (sym a.judgement) (c.add.ensures.answer told blocks is a.judgement)

pub returns-in-Ok-Next-clause-kept : goal.returns-in-Ok-Next-clause-kept
returns-in-Ok-Next-clause-kept g c = subst (λ (j : Result Taken Refusal). IsAsJudged j c.add.result)
    (sym (rw c.in-Ok-Next.field-0-is at c.in-Ok-Next.ensures.kept)) c.add.ensures.kept

pub returns-in-Ok-Next-clause-node : goal.returns-in-Ok-Next-clause-node
returns-in-Ok-Next-clause-node g c = c.add.ensures.node

pub returns-in-Ok-Next-clause-ready : goal.returns-in-Ok-Next-clause-ready
returns-in-Ok-Next-clause-ready g c = c.add.ensures.ready

pub returns-in-Ok-Next-clause-disk_cause : goal.returns-in-Ok-Next-clause-disk_cause
returns-in-Ok-Next-clause-disk_cause g c = c.add.ensures.disk_cause

pub returns-in-Ok-Next-clause-scratch : goal.returns-in-Ok-Next-clause-scratch
returns-in-Ok-Next-clause-scratch g c = c.add.ensures.scratch

pub returns-in-Ok-Next-clause-log_images : goal.returns-in-Ok-Next-clause-log_images
returns-in-Ok-Next-clause-log_images g c = c.add.ensures.log_images

pub returns-in-Ok-Refused-clause-answer : goal.returns-in-Ok-Refused-clause-answer
returns-in-Ok-Refused-clause-answer g c told blocks is =
    let judged = rw c.in-Ok-Refused.field-0-is at (c.in-Ok-Refused.ensures.judged blocks is.kept) in
    (judged, refl, is)

pub returns-in-Ok-Refused-clause-kept : goal.returns-in-Ok-Refused-clause-kept
returns-in-Ok-Refused-clause-kept g c =
    rw c.in-Ok-Refused.field-0-is at c.in-Ok-Refused.ensures.kept

pub returns-in-Ok-Refused-clause-node : goal.returns-in-Ok-Refused-clause-node
returns-in-Ok-Refused-clause-node g c = refl

pub returns-in-Ok-Refused-clause-ready : goal.returns-in-Ok-Refused-clause-ready
returns-in-Ok-Refused-clause-ready g c = c.requires.ready

pub returns-in-Ok-Refused-clause-disk_cause : goal.returns-in-Ok-Refused-clause-disk_cause
returns-in-Ok-Refused-clause-disk_cause g c =
    none_blamed _ _ _ refl (λ blames. true≢false (sym blames))

pub returns-in-Ok-Refused-clause-scratch : goal.returns-in-Ok-Refused-clause-scratch
returns-in-Ok-Refused-clause-scratch g c = record {
  retains = retains_refl _;
  cause = none_blamed _ _ _ refl (λ blames. true≢false (sym blames));
}

pub returns-in-Err-clause-answer : goal.returns-in-Err-clause-answer
returns-in-Err-clause-answer g c told blocks is = refl

pub returns-in-Err-clause-kept : goal.returns-in-Err-clause-kept
returns-in-Err-clause-kept g c = tt

pub returns-in-Err-clause-disk_cause : goal.returns-in-Err-clause-disk_cause
returns-in-Err-clause-disk_cause g c =
    none_blamed _ _ _ refl (λ blames. true≢false (sym blames))

pub returns-in-Err-clause-scratch : goal.returns-in-Err-clause-scratch
returns-in-Err-clause-scratch g c = record {
  retains = retains_refl _;
  cause = none_blamed _ _ _ refl (λ blames. true≢false (sym blames));
}
