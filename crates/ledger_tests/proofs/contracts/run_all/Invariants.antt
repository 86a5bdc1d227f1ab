use Rattle.std.proofs.Common.{◌≡◌, []}
use Rattle.ledger_tests.proofs.contracts.run_all.Given as goal

abbrev pub invariant-loop-pair : goal.invariant-loop-pair
invariant-loop-pair l = (l.world.staged ≡ []) × (l.world.staged_codes ≡ [])
