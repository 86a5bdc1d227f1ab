use Rattle.std.proofs.Common.{◌≡◌, true, length, ap, ◌∙◌, arith}
use Rattle.std.proofs.lemmas.List.{length-append}
use Rattle.lc_base.specs.declared.row.Row.{Row}
use Rattle.lc_io.specs.Scratch.{is_known}
use Rattle.lc_io.proofs.Retaining.{retains_trans}
use Rattle.chain_replay.specs.Chain.{IsAfter}
use Rattle.chain_replay.proofs.Chains.{stands_after}
use Rattle.prov_query.proofs.merkle_dag.Causes.{unblamed, blameless}
use Rattle.rooted_chain.specs.Roots.{RootedState, kept_in}
use Rattle.rooted_chain.proofs.Blame.{passed_on}
use Rattle.rooted_chain.proofs.HasRun.{rooted_of, after_added, digest_added, kept_added, rows_added}
use Rattle.rooted_chain.proofs.chain.LineageChain.with_rows.Given.{Over}
use Rattle.rooted_chain.proofs.chain.LineageChain.with_rows.Goals as goal
use Rattle.rooted_chain.proofs.chain.LineageChain.with_rows.Goals.{In-Ok-add_rows}

module _ (g : Over) (c : In-Ok-add_rows g) where
  abbrev longer : RootedState
  longer = rooted_of c.in-Ok-add_rows.lineage c.in-Ok.committed.world.codes

  -- if it is known which bytes the device holds, the block did what it is defined to do
  after : is_known (g.S.Scratch.state c.args.scratch.now) ≡ true → IsAfter (kept_in c.args.self) c.args.block.now c.args.digest (kept_in longer) c.in-Ok.committed.run
  after told =
      after_added c.args.self c.in-Ok.committed.lineage c.in-Ok-add_rows.lineage c.args.digest c.in-Ok.committed.run.rows c.in-Ok.ensures.digests c.in-Ok.ensures.rows c.in-Ok-add_rows.ensures.kept
      c.args.block.now c.in-Ok.committed.world.codes c.in-Ok.committed.run (c.in-Ok.ensures.after told c.args.digest)

pub invariant_of-chain : goal.invariant_of-chain
invariant_of-chain g c =
    kept_added c.args.self c.in-Ok.committed.lineage c.in-Ok-add_rows.lineage c.args.digest c.in-Ok.committed.run.rows c.in-Ok.ensures.digests c.in-Ok.ensures.rows c.in-Ok-add_rows.ensures.kept
    c.in-Ok.committed.world (c.in-Ok.ensures.kept c.args.digest)

pub returns-in-Ok-add_rows-clause-after : goal.returns-in-Ok-add_rows-clause-after
returns-in-Ok-add_rows-clause-after g c = after g c

pub returns-in-Ok-add_rows-clause-stands : goal.returns-in-Ok-add_rows-clause-stands
returns-in-Ok-add_rows-clause-stands g c told blocks stands is next = stands_after _ _ blocks c.args.block.now c.args.digest c.in-Ok.committed.run (after g c told) stands is next

pub returns-in-Ok-add_rows-clause-digests : goal.returns-in-Ok-add_rows-clause-digests
returns-in-Ok-add_rows-clause-digests g c =
    digest_added c.args.self c.in-Ok.committed.lineage c.in-Ok-add_rows.lineage c.args.digest c.in-Ok.committed.run.rows c.in-Ok.ensures.digests c.in-Ok.ensures.rows c.in-Ok-add_rows.ensures.kept

pub returns-in-Ok-add_rows-clause-rows : goal.returns-in-Ok-add_rows-clause-rows
returns-in-Ok-add_rows-clause-rows g c =
    rows_added c.args.self c.in-Ok.committed.lineage c.in-Ok-add_rows.lineage c.args.digest c.in-Ok.committed.run.rows c.in-Ok.ensures.digests c.in-Ok.ensures.rows c.in-Ok-add_rows.ensures.kept

pub returns-in-Ok-add_rows-clause-few : goal.returns-in-Ok-add_rows-clause-few
returns-in-Ok-add_rows-clause-few g c =
    let rows =
    ap (length {A = Row})
    (rows_added c.args.self c.in-Ok.committed.lineage c.in-Ok-add_rows.lineage c.args.digest c.in-Ok.committed.run.rows c.in-Ok.ensures.digests c.in-Ok.ensures.rows c.in-Ok-add_rows.ensures.kept) in
    omega (arith, rows, c.in-Ok.ensures.few, length-append c.args.self.rows c.in-Ok.committed.run.rows)

pub returns-in-Ok-add_rows-clause-retains : goal.returns-in-Ok-add_rows-clause-retains
returns-in-Ok-add_rows-clause-retains g c = retains_trans _ _ _ c.in-Ok.ensures.retains c.in-Ok-add_rows.ensures.retains

pub returns-in-Ok-add_rows-clause-cause : goal.returns-in-Ok-add_rows-clause-cause
returns-in-Ok-add_rows-clause-cause g c =
    let ran = unblamed _ _ c.in-Ok.ensures.cause in
    let added = unblamed _ _ c.in-Ok-add_rows.ensures.cause in
    blameless _ _ (added ∙ ran)

pub returns-in-Err-add_rows-clause-cause : goal.returns-in-Err-add_rows-clause-cause
returns-in-Err-add_rows-clause-cause g c = passed_on _ _ _ (unblamed _ _ c.in-Ok.ensures.cause) c.in-Err-add_rows.ensures.cause
