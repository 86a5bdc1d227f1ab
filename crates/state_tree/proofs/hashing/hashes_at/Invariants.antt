use Rattle.std.proofs.Common.{◌≡◌, take, map}
use Rattle.state_tree.specs.Order.{hash_at}
use Rattle.state_tree.proofs.hashing.hashes_at.Given as goal

abbrev pub invariant-loop-index : goal.invariant-loop-index
invariant-loop-index l = l.hashes.items ≡ map (hash_at l.leaves) (take l.index-index l.indexes)
