use Rattle.std.proofs.Common.{◌∙◌, List, subst, arith}
use Rattle.std.specs.List.{flat_map}
use Rattle.lc_base.specs.declared.row.Dep.{Dep}
use Rattle.proof_checks.specs.LedgerTexts.{texts_of_row_uses}
use Rattle.proof_checks.specs.ProofTexts.{texts_of_uses}
use Rattle.text_clashes.specs.Searching.{Searches}
use Rattle.answer_exposing.proofs.OneMore.{item_at}
use Rattle.answer_exposing.proofs.Onward.{texts_go_on, texts_end}
use Rattle.answer_exposing.proofs.rows.search_all_uses.Goals as goal

pub loop-index-preserved : goal.loop-index-preserved
loop-index-preserved c =
    let rows = c.args.lineage.now.rows in
    let row = item_at rows c.loop-index.index
    (omega (arith, c.loop-index-test.true, c.row_count-index-end.ensures.count)) in
    texts_go_on (texts_of_row_uses rows) rows c.loop-index.index row.0
    (flat_map (texts_of_row_uses rows) rows) c.args.search.now c.loop-index.search
    c.search_uses.new.search row.1 c.loop-index.invariant
    (subst (λ (uses : List Dep).
    Searches (texts_of_uses uses) c.loop-index.search c.search_uses.new.search)
    (c.as_slice.ensures ∙ c.in_ok-uses.ensures row.0 row.1) c.in_ok-search_uses.ensures)

pub returns : goal.returns
returns c =
    let rows = c.args.lineage.now.rows in
    texts_end (texts_of_row_uses rows) rows c.loop-index.index
    (flat_map (texts_of_row_uses rows) rows) c.args.search.now c.loop-index.search
    (omega (arith, c.loop-index-test.false, c.row_count-index-end.ensures.count))
    c.loop-index.invariant
