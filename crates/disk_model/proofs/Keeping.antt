-- Recording one more call changes none of the recorded ones.
use Rattle.std.proofs.Common.{◌≡◌, ℕ, ◌+◌, ◌≤◌, List, [], ◌∷◌, ◌++◌, length, drop, refl, sym, arith}
use Rattle.std.proofs.lemmas.List.{take-append-le, drop-append-le, length-drop, nil_from_length}
use Rattle.std.proofs.Math.Seq.{take-length}
use Rattle.disk_model.specs.declared.mem_machine.Mark.{Mark}
use Rattle.disk_model.specs.Marks.{kept_len, call_of, calls_of, total_len}

-- one more mark, with its bytes, is one more call
pub calls_append : (marks : List Mark) (bytes new : List ℕ) (mark : Mark) → kept_len mark ≡ length new → total_len marks ≡ length bytes
    → calls_of (marks ++ mark ∷ []) (bytes ++ new) ≡ calls_of marks bytes ++ call_of mark new ∷ []
calls_append [] bytes new mark len whole =
    let none : bytes ≡ [] = nil_from_length bytes (sym whole) in
    rw (none, len, take-length new) refl
calls_append (m ∷ marks) bytes new mark len whole =
    let le : kept_len m ≤ length bytes = omega (arith, whole) in
    let rest : total_len marks ≡ length (drop (kept_len m) bytes) = omega (arith, whole, length-drop (kept_len m) bytes) in
    rw (take-append-le (kept_len m) bytes new le, drop-append-le (kept_len m) bytes new le, calls_append marks (drop (kept_len m) bytes) new mark len rest) refl

pub total_len_append : (marks : List Mark) (mark : Mark) → total_len (marks ++ mark ∷ []) ≡ total_len marks + kept_len mark
total_len_append [] mark = omega arith
total_len_append (m ∷ marks) mark = omega (arith, total_len_append marks mark)

pub length_calls : (marks : List Mark) (bytes : List ℕ) → length (calls_of marks bytes) ≡ length marks
length_calls [] bytes = refl
length_calls (m ∷ marks) bytes = omega (arith, length_calls marks (drop (kept_len m) bytes))
