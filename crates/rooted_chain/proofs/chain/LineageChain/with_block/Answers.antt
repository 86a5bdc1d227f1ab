use Rattle.std.proofs.Common.{◌≡◌, true, [], ◌∷◌, ◌++◌, length, ap, sym, ◌∙◌, arith}
use Rattle.std.proofs.lemmas.List.{length-append}
use Rattle.lc_base.specs.declared.row.Row.{Row}
use Rattle.lc_io.specs.Scratch.{is_known}
use Rattle.lc_io.proofs.Retaining.{retains_trans}
use Rattle.chain_replay.specs.Chain.{IsAfter}
use Rattle.chain_replay.proofs.Chains.{stands_after}
use Rattle.root_laws.specs.Root.{root_of}
use Rattle.prov_query.specs.merkle_dag.Ledger.{Ledger}
use Rattle.prov_query.proofs.merkle_dag.Causes.{unblamed, blameless}
use Rattle.rooted_chain.specs.Roots.{RootedState, kept_in}
use Rattle.rooted_chain.proofs.Rooted.{rooted}
use Rattle.rooted_chain.proofs.Blame.{passed_on}
use Rattle.rooted_chain.proofs.HasRun.{rooted_of, after_added, digest_added, kept_added, rows_added}
use Rattle.rooted_chain.proofs.chain.LineageChain.with_block.Given.{Over}
use Rattle.rooted_chain.proofs.chain.LineageChain.with_block.Goals as goal
use Rattle.rooted_chain.proofs.chain.LineageChain.with_block.Goals.{In-Ok-add_block}

module _ (g : Over) (c : In-Ok-add_block g) where
  abbrev longer : RootedState
  longer = rooted_of c.in-Ok-add_block.lineage c.in-Ok.committed.world.codes

  -- if it is known which bytes the device holds, the block did what it is defined to do
  after : is_known (g.S.Scratch.state c.args.scratch.now) ≡ true → IsAfter (kept_in c.args.self) c.args.block.now c.args.digest (kept_in longer) c.in-Ok.committed.run
  after told =
      after_added c.args.self c.in-Ok.committed.lineage c.in-Ok-add_block.lineage c.args.digest c.in-Ok.committed.run.rows c.in-Ok.ensures.digests c.in-Ok.ensures.rows c.in-Ok-add_block.ensures.kept
      c.args.block.now c.in-Ok.committed.world.codes c.in-Ok.committed.run (c.in-Ok.ensures.after told c.args.digest)

pub invariant_of-chain : goal.invariant_of-chain
invariant_of-chain g c =
    kept_added c.args.self c.in-Ok.committed.lineage c.in-Ok-add_block.lineage c.args.digest c.in-Ok.committed.run.rows c.in-Ok.ensures.digests c.in-Ok.ensures.rows c.in-Ok-add_block.ensures.kept
    c.in-Ok.committed.world (c.in-Ok.ensures.kept c.args.digest)

pub returns-in-Ok-add_block-clause-after : goal.returns-in-Ok-add_block-clause-after
returns-in-Ok-add_block-clause-after g c = after g c

pub returns-in-Ok-add_block-clause-stands : goal.returns-in-Ok-add_block-clause-stands
returns-in-Ok-add_block-clause-stands g c told blocks stands is next = stands_after _ _ blocks c.args.block.now c.args.digest c.in-Ok.committed.run (after g c told) stands is next

pub returns-in-Ok-add_block-clause-root_in : goal.returns-in-Ok-add_block-clause-root_in
returns-in-Ok-add_block-clause-root_in g c told blocks stands is next =
    let stand = stands_after _ _ blocks c.args.block.now c.args.digest c.in-Ok.committed.run (after g c told) stands is next in
    c.in-Ok-add_block.ensures.root ∙ ap (λ (ledger : Ledger). root_of ledger.rows ledger.digests c.args.block.now.number) (sym c.in-Ok-add_block.ensures.kept)
    ∙ rooted _ (blocks ++ c.args.block.now ∷ []) c.args.block.now.number stand

pub returns-in-Ok-add_block-clause-digests : goal.returns-in-Ok-add_block-clause-digests
returns-in-Ok-add_block-clause-digests g c =
    digest_added c.args.self c.in-Ok.committed.lineage c.in-Ok-add_block.lineage c.args.digest c.in-Ok.committed.run.rows c.in-Ok.ensures.digests c.in-Ok.ensures.rows c.in-Ok-add_block.ensures.kept

pub returns-in-Ok-add_block-clause-rows : goal.returns-in-Ok-add_block-clause-rows
returns-in-Ok-add_block-clause-rows g c =
    rows_added c.args.self c.in-Ok.committed.lineage c.in-Ok-add_block.lineage c.args.digest c.in-Ok.committed.run.rows c.in-Ok.ensures.digests c.in-Ok.ensures.rows c.in-Ok-add_block.ensures.kept

pub returns-in-Ok-add_block-clause-few : goal.returns-in-Ok-add_block-clause-few
returns-in-Ok-add_block-clause-few g c =
    let rows =
    ap (length {A = Row})
    (rows_added c.args.self c.in-Ok.committed.lineage c.in-Ok-add_block.lineage c.args.digest c.in-Ok.committed.run.rows c.in-Ok.ensures.digests c.in-Ok.ensures.rows c.in-Ok-add_block.ensures.kept) in
    omega (arith, rows, c.in-Ok.ensures.few, length-append c.args.self.rows c.in-Ok.committed.run.rows)

pub returns-in-Ok-add_block-clause-retains : goal.returns-in-Ok-add_block-clause-retains
returns-in-Ok-add_block-clause-retains g c = retains_trans _ _ _ c.in-Ok.ensures.retains c.in-Ok-add_block.ensures.retains

pub returns-in-Ok-add_block-clause-cause : goal.returns-in-Ok-add_block-clause-cause
returns-in-Ok-add_block-clause-cause g c =
    let ran = unblamed _ _ c.in-Ok.ensures.cause in
    let added = unblamed _ _ c.in-Ok-add_block.ensures.cause in
    blameless _ _ (added ∙ ran)

pub returns-in-Err-add_block-clause-cause : goal.returns-in-Err-add_block-clause-cause
returns-in-Err-add_block-clause-cause g c = passed_on _ _ _ (unblamed _ _ c.in-Ok.ensures.cause) c.in-Err-add_block.ensures.cause
