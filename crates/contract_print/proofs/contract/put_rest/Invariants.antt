use Rattle.std.proofs.Common.{◌≡◌, ◌++◌, take, codes}
use Rattle.std.specs.List.{flat_map}
use Rattle.contract_tree.specs.Tree.{function_of}
use Rattle.contract_print.specs.Canonical.{function_text}
use Rattle.contract_print.proofs.contract.put_rest.Given as goal

abbrev pub invariant-loop-function : goal.invariant-loop-function
invariant-loop-function l = l.out.items ≡ l.fn.out.items ++ flat_map (λ f. codes "\n" ++ function_text (function_of f)) (take l.function-index l.functions)
