-- A range proof is read exactly if all of the bytes are its fields; any byte after them is a fault.
use Rattle.std.proofs.Common.{◌≡◌, ◌∙◌, ℕ, ◌-◌, ◌≤◌, Bool, true, false, cond, eqb, List, [], ◌++◌}
use Rattle.std.proofs.Common.{length, Result, Ok, Err, IfOk, IfSome, refl, sym, ap, subst}
use Rattle.std.specs.Prelude.{IfErr}
use Rattle.std.specs.List.{concat}
use Rattle.std.proofs.lemmas.Bool.{eqb-true}
use Rattle.std.proofs.lemmas.List.{append-nil, nil_from_length}
use Rattle.lc_base.specs.Answers.{Answers}
use Rattle.byte_fields.specs.Reading.{Field, all_read}
use Rattle.byte_fields.specs.Spelling.{IsBytes}
use Rattle.byte_fields.proofs.Laws.{left_of}
use Rattle.byte_fields.proofs.LongestPrefixes.{longest_prefix, left_within}
use Rattle.proof_codec.specs.declared.proof_view.ViewError.{ViewError}
use Rattle.proof_codec.specs.declared.proof_view.ViewError.TheVariants.{Malformed}
use Rattle.proof_codec.specs.Viewing.{told_at}
use Rattle.proof_verifier.specs.proof_checks.declared.range_proof.RangeProof.{RangeProof}
use Rattle.proof_verifier.specs.proof_checks.RangeSpelling.{SpellsRange, range_fields}
use Rattle.range_verifier.specs.Reading.{range_at, with_offset, range_in, IsInvalidAt}
use Rattle.range_verifier.proofs.Fields.{range_field}

-- ---- what is read

read_to_end : (read : RangeProof × List ℕ) (b : Bool) (range : RangeProof)
    → eqb (length read.1) 0 ≡ b → cond b (Ok read.0) (Err (length read.1)) ≡ Ok range
    → (length read.1 ≡ 0) × (read.0 ≡ range)
read_to_end read true range is e = (eqb-true (length read.1) 0 is, cc)
read_to_end read false range is e = absurd cc

without_offset : (total : ℕ) (r : Result RangeProof ℕ) (range : RangeProof)
    → with_offset total r ≡ Ok range → r ≡ Ok range
without_offset total (Ok found) range e = e
without_offset total (Err left) range e = absurd cc

all_taken : (bytes : List ℕ) (range : RangeProof) → IsBytes bytes
    → (r : Field RangeProof) → range_at bytes ≡ r
    → with_offset (length bytes) (all_read r) ≡ Ok range → SpellsRange bytes range
all_taken bytes range fits (Ok read) e got =
    let is = range_field.takes bytes read.0 read.1 fits e in
    let whole = without_offset (length bytes) (all_read (Ok read)) range got in
    let ended = read_to_end read (eqb (length read.1) 0) range refl whole in
    let fields : List ℕ = concat (range_fields read.0) in
    let none = nil_from_length read.1 ended.0 in
    let all : bytes ≡ fields =
    is.parts ∙ ap (λ (t : List ℕ). fields ++ t) none ∙ append-nil fields in
    subst (SpellsRange bytes) ended.1 (record { lawful = is.is; spelled = all })
all_taken bytes range fits (Err left) e got = absurd cc

-- What is read is spelled by the bytes.
pub is_spelled : (bytes : List ℕ) (range : RangeProof) → IsBytes bytes → range_in bytes ≡ Ok range
    → SpellsRange bytes range
unfolding range_in
is_spelled bytes range fits e = all_taken bytes range fits (range_at bytes) refl e

-- What the bytes spell is read.
pub is_read : (bytes : List ℕ) (range : RangeProof) → SpellsRange bytes range
    → range_in bytes ≡ Ok range
unfolding range_in
is_read bytes range is =
    let fields : List ℕ = concat (range_fields range) in
    let read : range_at bytes ≡ Ok (range, []) =
    ap range_at (is.spelled ∙ sym (append-nil fields)) ∙ range_field.again range [] is.lawful in
    ap (λ (r : Field RangeProof). with_offset (length bytes) (all_read r)) read

-- ---- a fault

offset_is : (total : ℕ) (r : Field RangeProof) (at : ℕ) → with_offset total (all_read r) ≡ Err at
    → at ≡ total - left_of r
offset_is total (Ok read) at e = go (eqb (length read.1) 0) e
  where
    go : (b : Bool) → with_offset total (cond b (Ok read.0) (Err (length read.1))) ≡ Err at
        → at ≡ total - length read.1
    go true e = absurd cc
    go false e = cc
offset_is total (Err left) at e = cc

-- It is at the end of the longest prefix that is whole fields of some range proof.
is_invalid : (bytes : List ℕ) (at : ℕ) → IsBytes bytes → range_in bytes ≡ Err at
    → IsInvalidAt bytes at
unfolding range_in
is_invalid bytes at fits e =
    longest_prefix range_field bytes fits at (offset_is (length bytes) (range_at bytes) at e)

-- ---- the clauses

pub found_this : (bytes : List ℕ) (result : Result RangeProof ViewError) → IsBytes bytes
    → Answers (λ range. range) told_at result (range_in bytes)
    → IfOk result (λ range. SpellsRange bytes range)
found_this bytes (Ok range) fits told = is_spelled bytes range fits told
found_this bytes (Err error) fits told = tt

pub only_this : (bytes : List ℕ) (result : Result RangeProof ViewError)
    → Answers (λ range. range) told_at result (range_in bytes)
    → (range : RangeProof) → SpellsRange bytes range → result ≡ Ok range
only_this bytes (Ok found) told range is = let read = is_read bytes range is in cc
only_this bytes (Err (Malformed at)) told range is = let read = is_read bytes range is in absurd cc

pub fault_this : (bytes : List ℕ) (result : Result RangeProof ViewError) → IsBytes bytes
    → Answers (λ range. range) told_at result (range_in bytes)
    → IfErr result (λ error. IfSome (told_at error) (IsInvalidAt bytes))
fault_this bytes (Ok range) fits told = tt
fault_this bytes (Err (Malformed at)) fits told = is_invalid bytes at fits told

-- How many bytes are left after a range proof, or from its fault on.
pub left_low : (bytes : List ℕ) (r : Field RangeProof) → IsBytes bytes → range_at bytes ≡ r
    → left_of r ≤ length bytes
left_low bytes r fits e =
    subst (λ (read : Field RangeProof). left_of read ≤ length bytes) e
    (left_within range_field bytes fits)
