use Rattle.std.proofs.Common.{◌≡◌, ◌<◌, ◌≤◌, ℕ, List, [], ◌∷◌, ◌++◌, length, Err, ap, subst, sym, ◌∙◌, arith}
use Rattle.std.specs.Prelude.{◌==◌}
use Rattle.std.specs.Map.{lookup}
use Rattle.std.specs.Cmp.Lexicographic.{pointwise}
use Rattle.block_codec.specs.declared.limits.TheConstants.{MAX_MARKED_BLOCKS, MAX_ROWS_BEFORE_BLOCK}
use Rattle.lc_base.specs.History.{IsLawful}
use Rattle.lc_base.specs.declared.row.Row.{Row}
use Rattle.lc_base.specs.declared.digest.Digest.{Digest}
use Rattle.world_state.specs.declared.held.Held.{Held}
use Rattle.chain_replay.specs.Chain.{ChainState, IsKeptChain, StandsFor}
use Rattle.chain_replay.proofs.Chains.{is_after, stands_after}
use Rattle.chain_replay.proofs.Kept.{next_lawful, next_kept}
use Rattle.chain_replay.proofs.chain.Chain.with_block.Goals as goal

pub record-requires : goal.record-requires
record-requires c =
    let numbered : c.args.block.now.number ≡ length c.self.inside.digests = c.requires.room.number ∙ sym (ap (λ (kept : ChainState). length kept.digests) c.self.view_is) in
    let lawful = next_lawful c.self.inside.digests c.self.inside.rows c.self.inside.world c.in-Ok.run'.rows c.args.block.now.number (length c.args.block.now.txs) c.self.invariant numbered
    (subst (λ (kept : ChainState). length kept.rows ≤ MAX_ROWS_BEFORE_BLOCK) (sym c.self.view_is) c.requires.room.few_rows) c.requires.is_block.few_txs c.in-Ok.ensures.lawful in
    record { lawful = subst (λ (rows : List Row). IsLawful (rows ++ c.in-Ok.run'.rows)) (sym c.in-Ok.ensures.same) lawful }

pub invariant_of-chain : goal.invariant_of-chain
invariant_of-chain c =
    let numbered : c.args.block.now.number ≡ length c.self.inside.digests = c.requires.room.number ∙ sym (ap (λ (kept : ChainState). length kept.digests) c.self.view_is) in
    let lawful = next_lawful c.self.inside.digests c.self.inside.rows c.self.inside.world c.in-Ok.run'.rows c.args.block.now.number (length c.args.block.now.txs) c.self.invariant numbered
    (subst (λ (kept : ChainState). length kept.rows ≤ MAX_ROWS_BEFORE_BLOCK) (sym c.self.view_is) c.requires.room.few_rows) c.requires.is_block.few_txs c.in-Ok.ensures.lawful in
    let before = λ (key : List ℕ). ap (λ (newest : List (List ℕ × Held)). lookup (pointwise ◌==◌ key) newest) c.in-Ok.ensures.newest ∙ c.self.invariant.stands key in
    let stands = c.in_ok-world.ensures.rows c.self.inside.rows c.in-Ok.run'.rows before c.in-Ok.ensures.staged in
    let kept = next_kept c.self.inside.digests c.self.inside.rows c.self.inside.world c.in-Ok.run'.rows c.args.block.now.number (length c.args.block.now.txs) c.self.invariant numbered c.in_ok-world.world c.args.digest
    (subst (λ (kept : ChainState). length kept.digests < MAX_MARKED_BLOCKS) (sym c.self.view_is) c.requires.room.room) lawful c.in-Ok.ensures.lawful stands c.in_ok-world.ensures.no_rows c.in_ok-world.ensures.no_codes in
    subst (λ (digests : List Digest). IsKeptChain digests c.record.new.rows c.in_ok-world.world) (sym c.in-Ok-record.ensures.digests)
    (subst (λ (rows : List Row). IsKeptChain (c.self.inside.digests ++ c.args.digest ∷ []) rows c.in_ok-world.world) (sym (c.in-Ok-record.ensures.rows ∙ ap (λ (rows : List Row). rows ++ c.in-Ok.run'.rows) c.in-Ok.ensures.same)) kept)

pub returns-in-Ok-record-clause-stands : goal.returns-in-Ok-record-clause-stands
returns-in-Ok-record-clause-stands c =
    let rows = c.in-Ok-record.ensures.rows ∙ ap (λ (rows : List Row). rows ++ c.in-Ok.run'.rows) c.in-Ok.ensures.same in
    let after = is_after c.self.inside.digests c.record.new.digests c.self.inside.rows c.record.new.rows c.self.inside.world c.run_block.new.world c.in_ok-world.world c.args.block.now c.args.digest c.in-Ok.run'
    c.in-Ok.ensures.effects c.in-Ok.ensures.codes c.in_ok-world.ensures.codes c.in-Ok-record.ensures.digests rows in
    λ blocks stands is next.
    stands_after _ _ blocks c.args.block.now c.args.digest c.in-Ok.run' after (subst (λ (kept : ChainState). StandsFor kept blocks) (sym c.self.view_is) stands) is next

pub unreachable-requires : goal.unreachable-requires
unreachable-requires c =
    let rose_from_none : 1 ≤ 0 = c.in-Err-Fault.ensures.cause.failed (ap Err c.in-Err-Fault.field-0-is) in
    omega (arith, rose_from_none)
