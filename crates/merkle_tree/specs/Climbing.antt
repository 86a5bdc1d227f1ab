-- The way up from a leaf, by the hashes of a path that a caller has, whether it is an audit path or
-- not.
use Rattle.std.specs.Prelude.{ℕ, List, map}
use Rattle.lc_base.specs.declared.digest.Digest.{Digest}
use Rattle.merkle_tree.specs.Tree.{Climb, climb_to}
use Rattle.merkle_tree.specs.declared.limits.TheConstants.{MAX_HEIGHT}

-- The bytes of some digests.
abbrev pub bytes_of : List Digest → List (List ℕ)
bytes_of digests = map (λ (digest : Digest). digest.0) digests

-- The hash of a leaf, and the audit path that is to be taken from it.
abbrev pub start_at : Digest → List Digest → Climb
start_at leaf path = record { hash = leaf.0; left = bytes_of path }

-- The hash at the top, from leaf m of n.
abbrev pub top_of : ℕ → ℕ → Climb → List ℕ
top_of m n climb = (climb_to MAX_HEIGHT m n climb).hash
