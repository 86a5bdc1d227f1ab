use Rattle.std.proofs.Common.{◌≡◌, [], drop}
use Rattle.eval_expressions.specs.contract_semantics.Puts.{keys_in}
use Rattle.contract_eval.proofs.putting.keys_in.Given as goal

abbrev pub invariant-loop-value : goal.invariant-loop-value
invariant-loop-value l = keys_in l.keys (drop l.value-index l.values) ≡ keys_in [] l.values
