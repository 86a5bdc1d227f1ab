use Rattle.std.proofs.Common.{◌≡◌, ◌∙◌, List, slice_get, ap, subst, arith}
use Rattle.std.specs.List.{flat_map}
use Rattle.lc_base.specs.declared.row.Row.{Row}
use Rattle.merkle_dag.specs.Staying.{stays_trans}
use Rattle.proof_checks.specs.LedgerTexts.{texts_of_row}
use Rattle.text_clashes.specs.Searching.{Searches}
use Rattle.answer_exposing.proofs.OneMore.{item_at}
use Rattle.answer_exposing.proofs.Onward.{texts_go_on, texts_end}
use Rattle.answer_exposing.proofs.rows.search_rows.Goals as goal

pub loop-index-preserved : goal.loop-index-preserved
loop-index-preserved g c =
    let so_far = c.loop-index.invariant in
    let rows = c.args.lineage.now.rows in
    let old = c.loop-index.search in
    let new = c.search_row.new.search in
    let i = c.loop-index.index in
    let row = item_at rows i
    (omega (arith, c.loop-index-test.true, c.row_count-index-end.ensures.count)) in
    let unblamed : g.S.Scratch.scratch_faults c.search_row.new.scratch ≡ g.S.Scratch.scratch_faults
    c.loop-index.scratch =
    grind (arith, c.in-Ok.ensures.leaves.cause.told, c.in-Ok.ensures.leaves.cause.later) in
    record {
      same =
          stays_trans c.args.lineage.now (g.S.Scratch.state c.args.scratch.now) c.loop-index.lineage
          (g.S.Scratch.state c.loop-index.scratch) c.search_row.new.lineage
          (g.S.Scratch.state c.search_row.new.scratch) so_far.same c.search_row.ensures.leaves.same;
      texts = λ told.
          texts_go_on (texts_of_row rows) rows i row.0 (flat_map (texts_of_row rows) rows)
          c.args.search.now old new row.1 (so_far.texts told)
          (subst (λ (rs : List Row). Searches (texts_of_row rs row.0) old new) so_far.same.rows
          (c.in-Ok.ensures.texts (so_far.same.retains.known ∙ told) row.0
          (ap (λ (rs : List Row). slice_get rs i) so_far.same.rows ∙ row.1)));
      no_fault = unblamed ∙ so_far.no_fault;
    }

pub returns-clause-texts : goal.returns-clause-texts
returns-clause-texts g c told =
    let rows = c.args.lineage.now.rows in
    texts_end (texts_of_row rows) rows c.loop-index.index (flat_map (texts_of_row rows) rows)
    c.args.search.now c.loop-index.search
    (omega (arith, c.loop-index-test.false, c.row_count-index-end.ensures.count))
    (c.loop-index.invariant.texts told)
