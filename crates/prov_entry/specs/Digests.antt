-- What is added to a hasher, whatever was added before.
use Rattle.std.specs.Prelude.{ℕ, List, ◌++◌}
use Rattle.merkle_tree.specs.digest_kit.Hasher.{HasAdded}
use Rattle.merkle_tree.specs.digest_kit.declared.hasher.TagHasher.{TagHasher}

-- These bytes were added behind those that were added before.
abbrev pub Adds : TagHasher → TagHasher → List ℕ → Type 0
Adds old new bytes = (message : List ℕ) → HasAdded old message → HasAdded new (message ++ bytes)
