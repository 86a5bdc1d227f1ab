-- Every part of a call has a fixed charge, so the cost of a call doesn't depend on the machine that
-- runs it.
use Rattle.std.specs.Prelude.{ℕ}
use Rattle.contract_tree.specs.declared.builtin.Builtin.{Builtin}
use Rattle.contract_tree.specs.declared.builtin.Builtin.TheVariants as b
use Rattle.contract_semantics.specs.declared.charge.TheConstants.{CHARGE_READ, CHARGE_HISTORY}

-- What a builtin costs in addition to its node, once its arguments have been evaluated.
abbrev pub charge_of : Builtin → ℕ
charge_of b.GetInt = CHARGE_READ
charge_of b.GetText = CHARGE_READ
charge_of b.Has = CHARGE_READ
charge_of b.Caller = 0
charge_of b.Block = 0
charge_of b.Len = 0
charge_of b.Text = 0
charge_of b.HistInt = CHARGE_HISTORY
charge_of b.HistText = CHARGE_HISTORY
charge_of b.HistBlock = CHARGE_HISTORY
charge_of b.HistTx = CHARGE_HISTORY
charge_of b.Seen = CHARGE_HISTORY
charge_of b.BackCount = CHARGE_HISTORY
charge_of b.FwdCount = CHARGE_HISTORY
charge_of b.BackKey = CHARGE_HISTORY
charge_of b.FwdKey = CHARGE_HISTORY
charge_of b.BackBlock = CHARGE_HISTORY
charge_of b.FwdBlock = CHARGE_HISTORY
