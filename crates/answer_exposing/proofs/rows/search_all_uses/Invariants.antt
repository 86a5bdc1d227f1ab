use Rattle.std.proofs.Common.{drop}
use Rattle.std.specs.List.{flat_map}
use Rattle.proof_checks.specs.LedgerTexts.{texts_of_row_uses}
use Rattle.answer_exposing.proofs.Onward.{SearchesUpTo}
use Rattle.answer_exposing.proofs.rows.search_all_uses.Given as goal

abbrev pub invariant-loop-index : goal.invariant-loop-index
invariant-loop-index l = SearchesUpTo (flat_map (texts_of_row_uses l.lineage.rows)
    (drop l.index l.lineage.rows)) (flat_map (texts_of_row_uses l.lineage.rows) l.lineage.rows)
    l.fn.search l.search
