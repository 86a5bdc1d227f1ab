-- On the climb from a leaf, each node has the hash so far on one side and the next hash of the
-- audit path on the other.
use Rattle.std.specs.Prelude.{ℕ, Bool, if◌then◌else◌, List}
use Rattle.merkle_tree.specs.Tree.{Climb, text_on_left, text_on_right}

-- The text of the node above, with this hash on the left or on the right.
abbrev pub text_above : Bool → Climb → List ℕ
text_above is_left climb = if is_left then text_on_left climb else text_on_right climb
