-- Reading an input piece by piece: what was read and what is left are the input, at every turn.
use Rattle.std.proofs.Common.{◌≡◌, ℕ, ◌+◌, ◌≤◌, List, ◌++◌, length, take, drop, Option, Some, None, sym, ap, subst, ◌∙◌, arith}
use Rattle.std.specs.Prelude.{IfSome}
use Rattle.std.proofs.lemmas.List.{append_assoc, length-append, length-take-le, drop_at}
use Rattle.lc_io.specs.Outside.{prepend}
use Rattle.cli_lines.specs.declared.whole.TheConstants.{MAX_WHOLE_INPUT_BYTES}
use Rattle.cli_lines.specs.Whole.{IsWholeInput}

-- the input at first is what was read so far, and then what is left; no pull has failed
pub record IsReading (first now : Option (List ℕ)) (faults_first faults_now : ℕ) (bytes : List ℕ) : Type 0 where
  pub taken : first ≡ prepend bytes now
  pub short : length bytes ≤ MAX_WHOLE_INPUT_BYTES
  pub still : faults_now ≡ faults_first

-- what follows two pieces that have `k` bytes together
after : (k : ℕ) (bytes piece rest : List ℕ) → length bytes + length piece ≡ k → drop k (bytes ++ (piece ++ rest)) ≡ rest
after k bytes piece rest count =
    ap (drop k) (sym (append_assoc bytes piece rest)) ∙ drop_at (bytes ++ piece) rest k (length-append bytes piece ∙ count)

at_least : (k : ℕ) (bytes piece rest : List ℕ) → length bytes + length piece ≡ k → k ≤ length (bytes ++ (piece ++ rest))
at_least k bytes piece rest count = omega (arith, count, length-append bytes (piece ++ rest), length-append piece rest)

-- one byte more than may be read whole was taken
pub one_too_many : (first before now : Option (List ℕ)) (bytes chunk : List ℕ) (n : ℕ) → first ≡ prepend bytes before → before ≡ prepend (take n chunk) now → n ≤ length chunk → length bytes + n ≡ (MAX_WHOLE_INPUT_BYTES + 1)
    → IfSome first (λ input. IsWholeInput None input now)
one_too_many None before now bytes chunk n taken pulled there count = tt
one_too_many (Some input) before None bytes chunk n taken pulled there count = absurd (cc (ap (prepend bytes) pulled))
one_too_many (Some input) before (Some rest) bytes chunk n taken pulled there count =
    let piece : List ℕ = take n chunk in
    let whole : Some input ≡ Some (bytes ++ (piece ++ rest)) = taken ∙ ap (prepend bytes) pulled in
    let is : input ≡ bytes ++ (piece ++ rest) = cc in
    let size : length bytes + length piece ≡ (MAX_WHOLE_INPUT_BYTES + 1) = omega (arith, count, length-take-le n chunk there) in
    let long : (MAX_WHOLE_INPUT_BYTES + 1) ≤ length input = subst (λ (xs : List ℕ). (MAX_WHOLE_INPUT_BYTES + 1) ≤ length xs) (sym is) (at_least (MAX_WHOLE_INPUT_BYTES + 1) bytes piece rest size) in
    (omega (arith, long), ap Some (sym (ap (drop (MAX_WHOLE_INPUT_BYTES + 1)) is ∙ after (MAX_WHOLE_INPUT_BYTES + 1) bytes piece rest size)))
