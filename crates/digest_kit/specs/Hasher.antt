-- Which bytes were added to a hasher.
use Rattle.std.specs.Prelude.{ℕ, List}
use Rattle.sha2.specs.Hashers.{Holds256}
use Rattle.digest_kit.specs.declared.hasher.TagHasher.{TagHasher}

-- These bytes were added to the hasher, the tag first.
abbrev pub HasAdded : TagHasher → List ℕ → Type 0
HasAdded hasher message = Holds256 hasher.hasher message
