use Rattle.std.proofs.Common.{◌≡◌, true, List, [], ◌∷◌, ◌++◌, length, Ok, refl, sym, ap, subst, ◌∙◌}
use Rattle.std.proofs.Common.{true≢false}
use Rattle.std.proofs.Common.{arith}
use Rattle.std.proofs.lemmas.List.{length-append}
use Rattle.lc_base.specs.declared.digest.Digest.{Digest}
use Rattle.lc_base.specs.declared.row.Row.{Row}
use Rattle.lc_io.specs.Scratch.{is_known}
use Rattle.block_codec.specs.Reading.{block_in}
use Rattle.block_codec.specs.declared.block.Block.{Block}
use Rattle.block_codec.specs.declared.placement.Placement.TheVariants.{Next}
use Rattle.rooted_chain.specs.chain_exec.Compiled.{compiled_in}
use Rattle.rooted_chain.specs.chain_exec.Effect.{History}
use Rattle.rooted_chain.specs.chain_exec.Fold.{block_effects}
use Rattle.rooted_chain.specs.chain_replay.Chain.{placement_in}
use Rattle.rooted_chain.specs.chain_replay.Judging.{Added, judgement_of, IsNextBlock}
use Rattle.rooted_chain.specs.chain_replay.declared.marking.Marking.TheVariants.{OfLog}
use Rattle.rooted_chain.proofs.chain_replay.Judgements.{added_is_next}
use Rattle.rooted_chain.specs.Roots.{kept_in}
use Rattle.rooted_chain.proofs.merkle_dag.Causes.{unblamed}
use Rattle.recovery.specs.Node.{NodeState, AreOfBlocks, IsNodeOf, logged_in, stored_placement}
use Rattle.recovery.specs.contracts.node.Node.{the_view}
use Rattle.recovery.proofs.Placing.{next_of_log, next_stored}
use Rattle.recovery.proofs.ByLog.{still_log, spelled_log}
use Rattle.recovery.proofs.Leaving.{last_blamed, none_blamed}
use Rattle.recovery.proofs.Nodes.{is_added, still, next_after, longer_node, hashed, one_more}
use Rattle.recovery.proofs.Unrun.{disk_spared, none_back, none_handed, scratch_blamed}
use Rattle.recovery.proofs.node.Node.add.Given.{Over}
use Rattle.recovery.proofs.node.Node.add.Goals as goal
use Rattle.recovery.proofs.node.Node.add.Goals.{After-drop-run}

pub returns-in-Err-clause-images : goal.returns-in-Err-clause-images
returns-in-Err-clause-images g c told blocks content is shown judgement = still g.M.Clock.now
    g.M.Clock.disk c.args.machine.now c.args.self blocks content (Ok (Added c.args.block.now)) is
    shown

pub store-requires-clause-next : goal.store-requires-clause-next
store-requires-clause-next g c =
    let next : IsNextBlock (OfLog c.self.inside.log.is_marked) (kept_in c.self.inside.chain)
    c.args.bytes.now c.args.block.now c.args.digest = subst
    (λ (n : NodeState). IsNextBlock (OfLog n.log.is_marked) n.chain c.args.bytes.now
    c.args.block.now c.args.digest) (sym c.self.view_is) c.requires.next in
    next_of_log (kept_in c.self.inside.chain) c.self.inside.log c.args.bytes.now c.args.block.now
    c.args.digest c.self.invariant next

pub store-requires-clause-digest : goal.store-requires-clause-digest
store-requires-clause-digest g c = hashed c.args.self.log.is_marked c.args.self.chain
    c.args.bytes.now c.args.block.now c.args.digest (λ i. omega (arith, c.type_inv.bytes i)) c.requires.next

pub returns-in-Ok-store-clause-node : goal.returns-in-Ok-store-clause-node
returns-in-Ok-store-clause-node g c =
    let here = ap (λ (n : NodeState). n.chain.digests) c.self.view_is in (
      c.requires.next.room.number,
      c.in-Ok.ensures.digests
          ∙ ap (λ (ds : List Digest). ds ++ c.args.digest ∷ []) here
          ∙ ap (λ (d : Digest). c.args.self.chain.digests ++ d ∷ [])
          (hashed c.args.self.log.is_marked c.args.self.chain c.args.bytes.now c.args.block.now
          c.args.digest (λ i. omega (arith, c.type_inv.bytes i)) c.requires.next),
      omega (
        arith,
        c.len.ensures,
        ap (length {A = Row}) c.in-Ok.ensures.rows,
        length-append c.self.inside.chain.rows c.in-Ok.done.1.rows,
        ap (λ (n : NodeState). length n.chain.rows) c.self.view_is,
      ),
    )

pub overflow_cast-added : goal.overflow_cast-added
overflow_cast-added g c =
    let rows = ap (length {A = Row}) c.in-Ok.ensures.rows in
    omega (
      arith,
      rows,
      c.len.ensures,
      c.in-Ok.ensures.few,
      c.requires.next.lawful.few_txs,
      length-append c.self.inside.chain.rows c.in-Ok.done.1.rows,
    )

pub invariant_of-result : goal.invariant_of-result
invariant_of-result g c =
    let next : IsNextBlock (OfLog c.self.inside.log.is_marked) (kept_in c.self.inside.chain)
    c.args.bytes.now c.args.block.now c.args.digest = subst
    (λ (n : NodeState). IsNextBlock (OfLog n.log.is_marked) n.chain c.args.bytes.now
    c.args.block.now c.args.digest) (sym c.self.view_is) c.requires.next in
    one_more (kept_in c.self.inside.chain) (kept_in c.in-Ok.done.0) c.self.inside.log
    c.in-Ok-store.log c.args.bytes.now c.args.block.now c.args.digest
    (λ i. omega (arith, c.type_inv.bytes i)) c.self.invariant next c.in-Ok.ensures.digests
    c.in-Ok-store.ensures.count c.in-Ok-store.ensures.last c.in-Ok-store.ensures.head

module _ (g : Over) (c : After-drop-run g)
    (told : is_known (g.S.Scratch.state c.args.scratch.now) ≡ true) (blocks : List Block)
    (is : IsNodeOf c.args.self
    (g.M.Clock.disk c.args.machine.now (g.M.Clock.now c.args.machine.now)) blocks)
    (judgement : judgement_of (stored_placement c.args.self.log.is_marked) blocks
    (block_in c.args.bytes.now) ≡ Ok (Added c.args.block.now)) where
  -- the node, seen by its parts
  inner : IsNodeOf (the_view c.self.inside)
      (g.M.Clock.disk c.args.machine.now (g.M.Clock.now c.args.machine.now)) blocks
  inner = subst (λ (n : NodeState). IsNodeOf n
      (g.M.Clock.disk c.args.machine.now (g.M.Clock.now c.args.machine.now)) blocks)
      (sym c.self.view_is) is

  placed : stored_placement c.args.self.log.is_marked blocks c.args.block.now ≡ Next
  placed = added_is_next (stored_placement c.args.self.log.is_marked) blocks
      (block_in c.args.bytes.now) c.args.block.now c.args.block.now c.requires.next.decoded
      judgement

  by_versions : placement_in compiled_in blocks c.args.block.now ≡ Next
  by_versions = next_stored c.args.self.log.is_marked blocks c.args.block.now is.fits placed

  -- it is that of the chain with the block
  longer : AreOfBlocks (kept_in c.in-Ok.done.0) c.in-Ok-store.log
      (g.M.Clock.disk c.store.new.machine (g.M.Clock.now c.store.new.machine))
      (blocks ++ c.args.block.now ∷ [])
  longer =
      let same : c.self.inside.log.is_marked ≡ c.args.self.log.is_marked = ap
      (λ (n : NodeState). n.log.is_marked) c.self.view_is in
      longer_node c.args.self
      (g.M.Clock.disk c.args.machine.now (g.M.Clock.now c.args.machine.now))
      (g.M.Clock.disk c.store.new.machine (g.M.Clock.now c.store.new.machine)) blocks
      c.args.block.now (kept_in c.in-Ok.done.0) c.in-Ok-store.log
      is placed (c.in-Ok.ensures.stands told blocks inner.kept c.requires.next.digest_is
      by_versions) (c.in-Ok-store.ensures.marked ∙ same)
      c.in-Ok-store.ensures.still_known c.in-Ok-store.ensures.agrees
      (λ content shown. c.in-Ok-store.ensures.added stored_placement content
      (logged_in c.args.self.log blocks) c.args.block.now shown
      (next_after c.args.self (g.M.Clock.disk c.args.machine.now (g.M.Clock.now c.args.machine.now))
      blocks content c.args.bytes.now c.args.block.now is shown c.requires.next.decoded
      judgement))

pub returns-in-Ok-store-clause-answer : goal.returns-in-Ok-store-clause-answer
returns-in-Ok-store-clause-answer g c told blocks is judgement =
    let node = inner g c told blocks is judgement in
    let kept = node.kept in
    let after = c.in-Ok.ensures.after told in
    let rows = after.rows ∙ ap
    (λ (h : History). (block_effects compiled_in h c.args.block.now).rows) kept.history_is in
    let receipts = after.receipts
    ∙ ap (λ (h : History). (block_effects compiled_in h c.args.block.now).receipts)
    kept.history_is in (
      (
        c.args.block.now,
        refl,
        refl,
        c.len.ensures
            ∙ ap (length {A = Row}) rows,
        receipts,
        c.in-Ok.ensures.root_in told blocks kept
            c.requires.next.digest_is
            (by_versions g c told blocks is judgement),
      ),
      longer g c told blocks is judgement,
    )

pub returns-in-Ok-store-clause-ready : goal.returns-in-Ok-store-clause-ready
returns-in-Ok-store-clause-ready g c = record {
  agrees = c.in-Ok.ensures.agrees;
  log = c.in-Ok-store.ensures.agrees;
  of = λ told_now.
      let told = sym c.in-Ok.ensures.retains.known ∙ told_now in
      let node = c.requires.ready.of told in
      let judgement = is_added c.args.self.log.is_marked c.args.self.chain c.args.bytes.now
      node.0 c.args.block.now c.args.digest c.requires.next node.1.kept in
      (node.0 ++ c.args.block.now ∷ [], longer g c told node.0 node.1 judgement);
}

pub returns-in-Ok-store-clause-images : goal.returns-in-Ok-store-clause-images
returns-in-Ok-store-clause-images g c told blocks content is shown judgement =
    c.store.ensures.images stored_placement content (logged_in c.args.self.log blocks)
    c.args.block.now shown
    (next_after c.args.self (g.M.Clock.disk c.args.machine.now (g.M.Clock.now c.args.machine.now))
    blocks content c.args.bytes.now c.args.block.now is shown c.requires.next.decoded judgement)

pub returns-in-Err-store-clause-images : goal.returns-in-Err-store-clause-images
returns-in-Err-store-clause-images g c told blocks content is shown judgement =
    c.store.ensures.images stored_placement content (logged_in c.args.self.log blocks)
    c.args.block.now shown
    (next_after c.args.self (g.M.Clock.disk c.args.machine.now (g.M.Clock.now c.args.machine.now))
    blocks content c.args.bytes.now c.args.block.now is shown c.requires.next.decoded judgement)

pub returns-in-Err-clause-log_images : goal.returns-in-Err-clause-log_images
returns-in-Err-clause-log_images g c logged content told stands = still_log g.M.Clock.now
    g.M.Clock.disk c.args.machine.now c.args.self.log content logged (block_in c.args.bytes.now)
    c.requires.ready.log told stands

pub returns-in-Ok-store-clause-log_images : goal.returns-in-Ok-store-clause-log_images
returns-in-Ok-store-clause-log_images g c logged content told stands = spelled_log g.M.Clock.now
    g.M.Clock.disk c.args.machine.now c.store.new.machine logged c.args.block.now
    (block_in c.args.bytes.now) c.requires.next.decoded
    (c.store.ensures.log_images content logged c.args.block.now told stands
    c.requires.next.decoded)

pub returns-in-Err-store-clause-log_images : goal.returns-in-Err-store-clause-log_images
returns-in-Err-store-clause-log_images g c logged content told stands = spelled_log g.M.Clock.now
    g.M.Clock.disk c.args.machine.now c.store.new.machine logged c.args.block.now
    (block_in c.args.bytes.now) c.requires.next.decoded
    (c.store.ensures.log_images content logged c.args.block.now told stands
    c.requires.next.decoded)

pub returns-in-Ok-store-clause-scratch : goal.returns-in-Ok-store-clause-scratch
returns-in-Ok-store-clause-scratch g c =
    let same = unblamed _ _ c.in-Ok.ensures.cause in
    record {
      retains = c.in-Ok.ensures.retains;
      cause = record {
        later = omega (arith, same);
        failed = λ none. absurd none;
        told = λ differ. differ same;
      };
    }

pub returns-in-Err-store-clause-scratch : goal.returns-in-Err-store-clause-scratch
returns-in-Err-store-clause-scratch g c =
    let same = unblamed _ _ c.in-Ok.ensures.cause in
    record {
      retains = c.in-Ok.ensures.retains;
      cause = record {
        later = omega (arith, same);
        failed = λ is. absurd (true≢false (sym is));
        told = λ differ. absurd (differ same);
      };
    }

pub store-requires-clause-headless : goal.store-requires-clause-headless
store-requires-clause-headless g c = c.self.invariant.headless

-- ---- a block that did not run

pub returns-in-Err-clause-answer : goal.returns-in-Err-clause-answer
returns-in-Err-clause-answer g c told blocks is judgement = none_handed c.in-Err.error
    c.run_error.result c.run_error.ensures c.args.self _ blocks (Ok (Added c.args.block.now))

pub returns-in-Err-clause-node : goal.returns-in-Err-clause-node
returns-in-Err-clause-node g c = tt

pub returns-in-Err-clause-ready : goal.returns-in-Err-clause-ready
returns-in-Err-clause-ready g c = tt

pub returns-in-Err-clause-marked : goal.returns-in-Err-clause-marked
returns-in-Err-clause-marked g c = tt

pub returns-in-Err-clause-handed : goal.returns-in-Err-clause-handed
returns-in-Err-clause-handed g c =
    none_back c.in-Err.error c.run_error.result c.run_error.ensures

pub returns-in-Err-clause-untouched : goal.returns-in-Err-clause-untouched
returns-in-Err-clause-untouched g c unreached = refl

pub returns-in-Err-clause-wire : goal.returns-in-Err-clause-wire
returns-in-Err-clause-wire g c = record { told = refl; faults = refl }

pub returns-in-Err-clause-disk_cause : goal.returns-in-Err-clause-disk_cause
returns-in-Err-clause-disk_cause g c =
    none_blamed _ _ _ refl (disk_spared c.in-Err.error c.run_error.result c.run_error.ensures)

pub returns-in-Err-clause-scratch : goal.returns-in-Err-clause-scratch
returns-in-Err-clause-scratch g c = record {
  retains = c.in-Err.ensures.retains;
  cause = scratch_blamed c.in-Err.error c.run_error.result c.run_error.ensures _ _
      c.in-Err.ensures.cause;
}

-- ---- a block that was stored

pub returns-in-Ok-store-clause-marked : goal.returns-in-Ok-store-clause-marked
returns-in-Ok-store-clause-marked g c = c.in-Ok-store.ensures.marked
    ∙ ap (λ (n : NodeState). n.log.is_marked) c.self.view_is

pub returns-in-Ok-store-clause-handed : goal.returns-in-Ok-store-clause-handed
returns-in-Ok-store-clause-handed g c = tt

pub returns-in-Ok-store-clause-untouched : goal.returns-in-Ok-store-clause-untouched
returns-in-Ok-store-clause-untouched g c unreached = absurd (true≢false unreached)

pub returns-in-Ok-store-clause-wire : goal.returns-in-Ok-store-clause-wire
returns-in-Ok-store-clause-wire g c = c.store.ensures.wire

pub returns-in-Ok-store-clause-disk_cause : goal.returns-in-Ok-store-clause-disk_cause
returns-in-Ok-store-clause-disk_cause g c =
    last_blamed _ _ _ _ _ refl c.in-Ok-store.ensures.cause (λ blames. absurd (true≢false (sym blames)))
    (λ blames. absurd blames)

-- ---- a block that ran, and was not stored

pub returns-in-Err-store-clause-answer : goal.returns-in-Err-store-clause-answer
returns-in-Err-store-clause-answer g c told blocks is judgement = refl

pub returns-in-Err-store-clause-node : goal.returns-in-Err-store-clause-node
returns-in-Err-store-clause-node g c = tt

pub returns-in-Err-store-clause-ready : goal.returns-in-Err-store-clause-ready
returns-in-Err-store-clause-ready g c = tt

pub returns-in-Err-store-clause-marked : goal.returns-in-Err-store-clause-marked
returns-in-Err-store-clause-marked g c = tt

pub returns-in-Err-store-clause-handed : goal.returns-in-Err-store-clause-handed
returns-in-Err-store-clause-handed g c = refl

pub returns-in-Err-store-clause-untouched : goal.returns-in-Err-store-clause-untouched
returns-in-Err-store-clause-untouched g c unreached = absurd (true≢false unreached)

pub returns-in-Err-store-clause-wire : goal.returns-in-Err-store-clause-wire
returns-in-Err-store-clause-wire g c = c.store.ensures.wire

pub returns-in-Err-store-clause-disk_cause : goal.returns-in-Err-store-clause-disk_cause
returns-in-Err-store-clause-disk_cause g c =
    last_blamed _ _ _ _ _ refl c.in-Err-store.ensures.cause (λ blames. refl) (λ blames. refl)
