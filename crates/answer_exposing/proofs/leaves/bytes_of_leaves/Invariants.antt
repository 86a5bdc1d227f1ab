use Rattle.std.proofs.Common.{◌≡◌, ◌++◌, map, drop}
use Rattle.prov_entry.specs.Spelling.{leaf_bytes}
use Rattle.answer_exposing.proofs.leaves.bytes_of_leaves.Given as goal

abbrev pub invariant-loop-index : goal.invariant-loop-index
invariant-loop-index l = l.list ++ map leaf_bytes (drop l.index l.tree) ≡ map leaf_bytes l.tree
