use Rattle.std.proofs.Common.{◌∙◌, sym}
use Rattle.contract_check.proofs.Noting.{same_index, now_forgotten}
use Rattle.contract_check.proofs.indexes.forget_index.Goals as goal

pub returns-then-eq : goal.returns-then-eq
returns-then-eq c =
    now_forgotten c.args.indexes.now c.remove.new.self c.args.name.now c.code_of-code.result c.args.index c.code_of-code.ensures.code c.code_of-code.ensures.is_name
    (sym c.get.ensures.value ∙ sym c.copied.ensures ∙ same_index c.copied.result c.args.index (sym c.if-eq.ensures)) c.remove.ensures.updates.0
