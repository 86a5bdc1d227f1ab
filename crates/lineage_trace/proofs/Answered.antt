-- An answer about dependencies is about the version that a lookup finds, whatever a body says.
use Rattle.std.proofs.Common.{ℕ, List, Option, Some, None, ap}
use Rattle.lc_base.specs.declared.answer.Answer.{Answer}
use Rattle.lc_base.specs.declared.answer.Kind.TheVariants.{Back}
use Rattle.lc_base.specs.declared.row.Row.{Row}
use Rattle.lc_base.specs.History.{latest, scan, answer_of}
use Rattle.lc_base.specs.Parts.{question}
use Rattle.prov_query.specs.Bodiless.{IsButForBody}
use Rattle.row_walks.specs.Finding.{derived_in}
use Rattle.lineage_trace.specs.Finding.{IsButForDeps}

pub but_for_deps : (rows : List Row) (key : List ℕ) (at : ℕ) (answer : Answer)
    → IsButForBody (scan rows (question Back key at)) answer
    → IsButForDeps (latest rows key at) (derived_in answer)
but_for_deps rows key at answer = go (latest rows key at)
  where
    go : (found : Option Row) → IsButForBody (answer_of rows (question Back key at) found) answer
        → IsButForDeps found (derived_in answer)
    go None is = ap derived_in is
    go (Some row) is = (is.0, ap derived_in is.1)
