use Rattle.std.proofs.Common.{◌≡◌, drop}
use Rattle.contract_check.specs.Faults.{names_after_params}
use Rattle.contract_check.proofs.contract.params.Given as goal

abbrev pub invariant-loop-param : goal.invariant-loop-param
invariant-loop-param l = names_after_params l.scope (drop l.param-index l.params) ≡ names_after_params l.initial.scope l.params
