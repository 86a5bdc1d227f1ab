use Rattle.std.proofs.Common.{◌≤◌, ◌∙◌, List, refl, ap, subst, arith}
use Rattle.lc_base.specs.declared.digest.Digest.{Digest}
use Rattle.lc_base.specs.declared.row.Row.{Row}
use Rattle.lc_io.specs.Scratch.{is_known}
use Rattle.rooted_chain.specs.merkle_dag.Ledger.{most_looked_at}
use Rattle.rooted_chain.specs.merkle_dag.Staying.{stays_refl, stays_trans}
use Rattle.chain_load.specs.Lookups.{lookup_drawn, looked_at, bytes_found}
use Rattle.chain_load.proofs.Counting.{IsCounted, begins, goes_on, count_few}
use Rattle.rooted_chain.proofs.merkle_dag.Causes.{unblamed}
use Rattle.chain_load.proofs.looking.look_up_all.Goals as goal

pub loop-init : goal.loop-init
loop-init g c = record {
  same = stays_refl _ _;
  looking = begins (is_known (g.S.Scratch.state c.args.scratch.now)) c.args.lineage.now.rows
      (most_looked_at c.args.lineage.now.digests) c.args.blocks c.args.generator;
  no_fault = refl;
}

pub with-looked-requires-clause-entries : goal.with-looked-requires-clause-entries
with-looked-requires-clause-entries g c =
    let few = c.loop.invariant.looking.few in
    let lookup = (lookup_drawn c.args.blocks c.loop.generator.state).0 in
    let count = count_few c.args.lineage.now.rows lookup c.in-Ok.one.entries
    c.requires.ready.few_rows
    (c.in-Ok.ensures.entries ∙ ap (λ (rows : List Row). looked_at rows lookup)
    c.loop.invariant.same.rows) in
    omega (arith, few, count)

pub with-looked-requires-clause-bytes : goal.with-looked-requires-clause-bytes
with-looked-requires-clause-bytes g c =
    omega (arith, c.loop.invariant.looking.few_bytes, c.in-Ok.ensures.few_bytes)

pub loop-preserved : goal.loop-preserved
loop-preserved g c =
    let known = is_known (g.S.Scratch.state c.args.scratch.now) in
    let most = most_looked_at c.args.lineage.now.digests in
    let lookup = (lookup_drawn c.args.blocks c.loop.generator.state).0 in
    let counted : IsCounted known c.args.lineage.now.rows most c.args.blocks c.loop.generator.state
    c.in-Ok.one = record {
      entries_are = c.in-Ok.ensures.entries
          ∙ ap (λ (rows : List Row). looked_at rows lookup) c.loop.invariant.same.rows;
      few = subst (λ (digests : List Digest). c.in-Ok.one.entries ≤ most_looked_at digests)
          c.loop.invariant.same.digests c.in-Ok.ensures.few;
      bytes_are = λ told.
          c.in-Ok.ensures.bytes (c.loop.invariant.same.retains.known ∙ told)
          ∙ ap (λ (rows : List Row). bytes_found rows lookup) c.loop.invariant.same.rows;
      few_bytes = c.in-Ok.ensures.few_bytes;
    } in
    record {
      same = stays_trans _ _ _ _ _ _ c.loop.invariant.same c.look_up.ensures.leaves.same;
      looking = goes_on known c.args.lineage.now.rows most c.args.blocks c.args.generator.state
          c.loop.counter c.in-Ok.one c.loop.generator c.look_up.new.generator c.loop.looked
          c.with-looked.result c.loop.invariant.looking c.requires.ready.few_rows counted
          c.look_up.ensures.state c.with-looked.ensures;
      no_fault = unblamed _ _ c.in-Ok.ensures.leaves.cause ∙ c.loop.invariant.no_fault;
    }
