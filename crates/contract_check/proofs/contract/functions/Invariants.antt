use Rattle.std.proofs.Common.{◌≡◌, [], map, drop}
use Rattle.contract_tree.specs.Tree.{function_of}
use Rattle.contract_check.specs.Faults.{used_after_functions}
use Rattle.contract_check.proofs.contract.functions.Given as goal

abbrev pub invariant-loop-next : goal.invariant-loop-next
invariant-loop-next l = used_after_functions l.used (map function_of (drop l.next-index l.functions)) ≡ used_after_functions [] (map function_of l.functions)
