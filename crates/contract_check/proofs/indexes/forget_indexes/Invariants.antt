use Rattle.std.proofs.Common.{◌≤◌, length, take, min}
use Rattle.contract_check.specs.Indexes.{AreNoted}
use Rattle.contract_check.proofs.indexes.forget_indexes.Given as goal

abbrev pub invariant-loop-index : goal.invariant-loop-index
invariant-loop-index g l = AreNoted (take l.index l.entries) l.indexes × (min l.count (length l.entries) ≤ l.index)
