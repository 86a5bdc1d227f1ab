use Rattle.std.proofs.Common.{◌≡◌, ◌<◌, ◌-◌, ◌^◌, length, drop}
use Rattle.contract_check.specs.Codes.{code}
use Rattle.contract_check.proofs.code.code_of_bytes.Given as goal

abbrev pub invariant-loop-i : goal.invariant-loop-i
invariant-loop-i l = (l.code ≡ code (drop l.i l.bytes)) × (l.code < 256 ^ (length l.bytes - l.i))
