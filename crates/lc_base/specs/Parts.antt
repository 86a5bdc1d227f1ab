-- The parts of answers, as a host returns them one by one.
use Rattle.std.specs.Prelude.{ℕ, List, length, Option, Some, None, slice_get}
use Rattle.std.specs.Option.{option_map}
use Rattle.lc_base.specs.declared.answer.Kind.{Kind}
use Rattle.lc_base.specs.declared.answer.Query.{Query}
use Rattle.lc_base.specs.declared.answer.Answer.{Answer}
use Rattle.lc_base.specs.declared.answer.Answer.TheVariants.{Nothing, Hist, Back, Fwd}
use Rattle.lc_base.specs.declared.row.Dep.{Dep}
use Rattle.lc_base.specs.declared.row.Version.{Version}

-- The question of this kind about a key in the blocks up to `at`.
abbrev pub question : Kind → List ℕ → ℕ → Query
question kind key at = record { kind = kind; key = key; at = at }

-- The version in an answer.
abbrev pub version_in : Answer → Option Version
version_in Nothing = None
version_in (Hist block tx value) = Some (record { block = block; tx = tx; value = value })
version_in (Back block deps) = None
version_in (Fwd block uses) = None

-- The dependencies or the uses in an answer.
abbrev pub list_in : Answer → Option (List Dep)
list_in Nothing = None
list_in (Hist block tx value) = None
list_in (Back block deps) = Some deps
list_in (Fwd block uses) = Some uses

-- How many dependencies or uses an answer has.
abbrev pub count_in : Answer → Option ℕ
count_in answer = option_map length (list_in answer)

-- The item at an index, from 0, of an optional list.
abbrev pub item_at : ℕ → Option (List Dep) → Option Dep
item_at index None = None
item_at index (Some deps) = slice_get deps index

-- The dependency or use at an index, from 0, of an answer.
abbrev pub item_in : ℕ → Answer → Option Dep
item_in index answer = item_at index (list_in answer)
