use Rattle.std.proofs.Common.{◌≡◌, ◌++◌, take}
use Rattle.std.specs.List.{flat_map}
use Rattle.contract_tree.specs.Tree.{statement_of}
use Rattle.contract_print.specs.Canonical.{statement_text}
use Rattle.contract_print.proofs.statement.+put_statement.Given as goal

abbrev pub invariant-put_body-loop-x : goal.invariant-put_body-loop-x
invariant-put_body-loop-x l = l.out.items ≡ l.initial.out.items ++ flat_map (λ x. statement_text l.inner.items (statement_of x)) (take l.x-index l.body)
