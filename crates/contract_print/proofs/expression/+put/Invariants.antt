use Rattle.std.proofs.Common.{◌≡◌, ◌++◌, take, codes}
use Rattle.std.specs.List.{flat_map}
use Rattle.contract_tree.specs.Tree.{tree_of}
use Rattle.contract_print.specs.Canonical.{expression_text}
use Rattle.contract_print.proofs.expression.+put.Given as goal

abbrev pub invariant-put_args-loop-x : goal.invariant-put_args-loop-x
invariant-put_args-loop-x l = l.out.items ≡ l.initial.out.items ++ flat_map (λ x. codes ", " ++ expression_text (tree_of x)) (take l.x-index l.rest)
