-- A pull of a fake takes a prefix of what is left, and nothing only at the end.
use Rattle.std.proofs.Common.{◌≡◌, ℕ, ◌<◌, ◌≤◌, List, [], ◌++◌, length, take, drop, sym, ap, ◌∙◌, arith}
use Rattle.std.proofs.lemmas.List.{take_at, take-append-drop, length-take-le, nil_from_length}
use Rattle.lc_io.specs.Fakes.{SourceState, pulled_count}

-- what was left is what the buffer begins with now, then the rest
pub left_is_pulled : (s : SourceState) (room n : ℕ) (buffer : List ℕ) → n ≡ pulled_count s room → s.left ≡ take n (take n s.left ++ drop n buffer) ++ drop n s.left
left_is_pulled s room n buffer count =
    let there : n ≤ length s.left = omega arith in
    let prefix : take n (take n s.left ++ drop n buffer) ≡ take n s.left = take_at (take n s.left) (drop n buffer) n (length-take-le n s.left there) in
    sym (ap (λ (x : List ℕ). x ++ drop n s.left) prefix ∙ take-append-drop n s.left)

-- a pull into a buffer with room takes nothing only if nothing is left
pub none_is_left : (s : SourceState) (room n : ℕ) → 0 < s.piece → 0 < room → n ≡ pulled_count s room → n ≡ 0 → s.left ≡ []
none_is_left s room n piece some count none = nil_from_length s.left (omega arith)
