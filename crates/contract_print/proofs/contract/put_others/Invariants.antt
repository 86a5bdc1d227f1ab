use Rattle.std.proofs.Common.{◌≡◌, ◌++◌, take, codes}
use Rattle.std.specs.List.{flat_map}
use Rattle.contract_print.specs.Canonical.{param_text}
use Rattle.contract_print.proofs.contract.put_others.Given as goal

abbrev pub invariant-loop-param : goal.invariant-loop-param
invariant-loop-param l = l.out.items ≡ l.fn.out.items ++ flat_map (λ p. codes ", " ++ param_text p) (take l.param-index l.params)
