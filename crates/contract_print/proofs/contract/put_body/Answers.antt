use Rattle.std.proofs.Common.{◌≡◌, ◌++◌, OnOk, codes, sym, subst}
use Rattle.contract_print.proofs.Lists.{statements_are}
use Rattle.contract_print.proofs.contract.put_body.Goals as goal

pub returns : goal.returns
returns c = subst (λ l. OnOk c.put_lines.result (c.put_lines.new.out.items ≡ c.args.out.now.items ++ l)) (sym (statements_are (codes "  ") c.args.body.now)) c.put_lines.ensures
