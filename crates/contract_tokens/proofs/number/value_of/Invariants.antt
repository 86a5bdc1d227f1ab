use Rattle.std.proofs.Common.{◌≡◌, ◌<◌, ◌^◌, drop}
use Rattle.contract_tokens.specs.Pieces.{value_from}
use Rattle.contract_tokens.proofs.number.value_of.Given as goal

abbrev pub invariant-loop-byte : goal.invariant-loop-byte
invariant-loop-byte l = record { small : l.number < 2 ^ 63; same : value_from l.number (drop l.byte-index l.digits) ≡ value_from 0 l.digits }
