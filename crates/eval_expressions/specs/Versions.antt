-- What is wanted of a version of a key is either a part of it or the length of one of its lists.
use Rattle.std.specs.Prelude.{ℕ, List, Result}
use Rattle.lc_base.specs.declared.row.Row.{Row}
use Rattle.lc_base.specs.declared.tx_status.TxStatus.{TxStatus}
use Rattle.lc_base.specs.declared.value.Value.{Value}
use Rattle.contract_semantics.specs.Builtins.{version_part, count_part}
use Rattle.eval_expressions.specs.Sides.{kind_of}
use Rattle.eval_expressions.specs.declared.wanted.Wanted.{Wanted}
use Rattle.eval_expressions.specs.declared.wanted.Wanted.TheVariants.{Part, Count}

-- What a builtin returns of the version that a text and a number ask about.
abbrev pub version_told : List Row → ℕ → Wanted → List Value → Result Value TxStatus
version_told rows number (Part builtin) args = version_part rows number builtin args
version_told rows number (Count side) args = count_part rows number (kind_of side) args
