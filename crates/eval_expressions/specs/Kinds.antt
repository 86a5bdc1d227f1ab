-- A builtin that returns a number or a text fails with WrongKind for a value of the other kind.
use Rattle.std.specs.Prelude.{Result}
use Rattle.lc_base.specs.declared.value.Value.{Value}
use Rattle.lc_base.specs.declared.tx_status.TxStatus.{TxStatus}
use Rattle.contract_tree.specs.declared.tree.ValueKind.{ValueKind}
use Rattle.contract_tree.specs.declared.tree.ValueKind.TheVariants.{Int, Text}
use Rattle.contract_semantics.specs.Reading.{int_in, text_in}

-- The value if it is of this kind, else WrongKind.
abbrev pub in_kind : ValueKind → Value → Result Value TxStatus
in_kind Int value = int_in value
in_kind Text value = text_in value
