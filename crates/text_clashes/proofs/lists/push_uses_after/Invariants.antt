use Rattle.std.proofs.Common.{◌≡◌, ◌++◌, length}
use Rattle.merkle_tree.specs.Chains.{chain_texts}
use Rattle.prov_entry.specs.ForwardLists.{use_text}
use Rattle.text_clashes.proofs.lists.push_uses_after.Given as goal

abbrev pub invariant-loop-one : goal.invariant-loop-one
invariant-loop-one l = l.texts ++ chain_texts use_text l.digest.0 l.uses ≡ l.fn.texts ++ chain_texts use_text l.fn.digest.0 l.fn.uses

abbrev pub decreases-loop-one : goal.decreases-loop-one
decreases-loop-one l = length l.uses
