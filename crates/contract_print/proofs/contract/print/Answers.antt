use Rattle.std.proofs.Common.{sym, ◌∙◌, subst}
use Rattle.contract_tree.specs.Tree.{contract_of}
use Rattle.contract_print.specs.Canonical.{ReadsAgain, IsFixed}
use Rattle.contract_print.proofs.RereadContracts.{reads_again}
use Rattle.contract_print.proofs.WithoutOffsets.{one_text, same_text}
use Rattle.contract_print.proofs.contract.print.Goals as goal

pub returns-in_err-text-clause-one_text : goal.returns-in_err-text-clause-one_text
returns-in_err-text-clause-one_text c = one_text (contract_of c.args.contract.now)

pub returns-clause-one_text : goal.returns-clause-one_text
returns-clause-one_text c = one_text (contract_of c.args.contract.now)

pub returns-clause-again : goal.returns-clause-again
returns-clause-again c source i = subst (λ l. ReadsAgain c.args.contract.now.edition l (contract_of c.args.contract.now)) (sym (c.from_vec.ensures ∙ c.in_ok-text.ensures)) (reads_again source (contract_of c.args.contract.now) i)

pub returns-clause-fixed : goal.returns-clause-fixed
returns-clause-fixed c source i = subst (IsFixed c.args.contract.now.edition) (sym (c.from_vec.ensures ∙ c.in_ok-text.ensures)) (same_text source (contract_of c.args.contract.now) i)
