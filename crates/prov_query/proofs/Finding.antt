-- The answer to a question is about the version that a lookup finds.
use Rattle.std.proofs.Common.{◌≡◌, ◌∙◌, ◌==◌, ℕ, List, Some, sym, ap}
use Rattle.lc_base.specs.declared.row.Row.{Row}
use Rattle.lc_base.specs.declared.answer.Query.{Query}
use Rattle.lc_base.specs.declared.answer.Kind.TheVariants.{Fwd}
use Rattle.lc_base.specs.History.{latest, uses, scan, answer_about, answer_of}
use Rattle.lc_base.specs.Parts.{question, list_in}
use Rattle.merkle_dag.proofs.plain_rows.Recorded.{of_key}

-- so the answer to a question is about the row that was found
pub about_row : (rows : List Row) (query : Query) (row : Row)
    → latest rows query.key query.at ≡ Some row
    → answer_about rows query.kind row.key row ≡ scan rows query
about_row rows query row found =
    ap (λ (key : List ℕ). answer_about rows query.kind key row)
    (of_key rows query.key query.at row found) ∙ sym (ap (answer_of rows query) found)

pub uses_told : (rows : List Row) (key : List ℕ) (at : ℕ) (row : Row)
    → latest rows key at ≡ Some row
    → list_in (scan rows (question Fwd key at)) ≡ Some (uses rows row.key row.block)
uses_told rows key at row found = ap list_in (sym (about_row rows (question Fwd key at) row found))
