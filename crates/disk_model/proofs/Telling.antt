-- The printed pieces, found among the recorded calls.
use Rattle.std.proofs.Common.{◌≡◌, ℕ, ◌+◌, List, [], ◌∷◌, length, drop, filter, refl, arith}
use Rattle.std.specs.List.{slice_get}
use Rattle.disk_model.specs.declared.mem_machine.Mark.{Mark}
use Rattle.disk_model.specs.declared.mem_machine.Mark.TheVariants as marks
use Rattle.disk_model.specs.Machine.{tells_from}
use Rattle.disk_model.specs.Marks.{is_told, calls_of, total_len}

-- the number of pieces is the number of marks of printing
length_from : (n : ℕ) (all : List Mark) (bytes : List ℕ) → length (tells_from n (calls_of all bytes)) ≡ length (filter is_told all)
length_from n [] bytes = refl
length_from n (marks.Wrote at len ∷ all) bytes = length_from (n + 1) all (drop len bytes)
length_from n (marks.FailedWrite at len ∷ all) bytes = length_from (n + 1) all (drop 0 bytes)
length_from n (marks.Synced ∷ all) bytes = length_from (n + 1) all (drop 0 bytes)
length_from n (marks.Told len ∷ all) bytes = omega (arith, length_from (n + 1) all (drop len bytes))
length_from n (marks.Idle ∷ all) bytes = length_from (n + 1) all (drop 0 bytes)

pub length_tells : (all : List Mark) (bytes : List ℕ) → length (tells_from 0 (calls_of all bytes)) ≡ length (filter is_told all)
length_tells all bytes = length_from 0 all bytes

-- The piece at an index among all marks is the piece at `left` among the marks from a number on,
-- whose bytes are `rest`.
pub record IsRest (all : List Mark) (bytes : List ℕ) (index number : ℕ) (rest : List ℕ) (left : ℕ) : Type 0 where
  pub whole : total_len (drop number all) ≡ length rest
  pub same : slice_get (tells_from 0 (calls_of all bytes)) index ≡ slice_get (tells_from number (calls_of (drop number all) rest)) left
  pub count : length (tells_from 0 (calls_of all bytes)) + left ≡ length (tells_from number (calls_of (drop number all) rest)) + index
