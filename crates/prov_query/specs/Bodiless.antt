-- What is promised of an answer though it is not known which bytes the scratch device holds.
use Rattle.std.specs.Prelude.{◌≡◌, List, Option, Some, None}
use Rattle.lc_base.specs.declared.answer.Answer.{Answer}
use Rattle.lc_base.specs.declared.answer.Answer.TheVariants as answers
use Rattle.lc_base.specs.declared.row.Dep.{Dep}
use Rattle.lc_base.specs.declared.row.Version.{Version}
use Rattle.lc_base.specs.declared.value.Value.{Value}

-- An answer is this one, but for what the body of the version says: its value and its dependencies.
-- Whether there is a version, its block, its transaction and its uses are the same.
abbrev pub IsButForBody : Answer → Answer → Type 0
IsButForBody answers.Nothing answer = answer ≡ answers.Nothing
IsButForBody (answers.Hist block tx value) answer = (other : Value)
    × (answer ≡ answers.Hist block tx other)
IsButForBody (answers.Back block deps) answer = (others : List Dep)
    × (answer ≡ answers.Back block others)
IsButForBody (answers.Fwd block uses) answer = answer ≡ answers.Fwd block uses

-- A version is this one, but for its value; and there is one exactly if there is this one.
abbrev pub IsButForValue : Option Version → Option Version → Type 0
IsButForValue None found = found ≡ None
IsButForValue (Some version) found =
    (other : Value) × (found ≡ Some
    (record { block = version.block; tx = version.tx; value = other }))
