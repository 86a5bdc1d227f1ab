-- A proof is read exactly if all of the bytes are its fields; any byte after them is a fault.
use Rattle.std.proofs.Common.{◌≡◌, ◌∙◌, ℕ, ◌-◌, ◌≤◌, Bool, true, false, cond, eqb, List, [], ◌++◌, length, Result, Ok, Err, refl, sym, ap, subst}
use Rattle.std.specs.Prelude.{IfOk, IfErr, IfSome}
use Rattle.std.specs.List.{concat}
use Rattle.std.proofs.lemmas.Bool.{eqb-true}
use Rattle.std.proofs.lemmas.List.{append-nil, nil_from_length}
use Rattle.entry_views.specs.byte_fields.Prefixes.{IsLongestPrefix}
use Rattle.entry_views.specs.byte_fields.Reading.{Field, all_read}
use Rattle.entry_views.specs.byte_fields.Spelling.{IsBytes}
use Rattle.lc_base.specs.Answers.{Answers}
use Rattle.entry_views.proofs.byte_fields.Laws.{left_of}
use Rattle.entry_views.proofs.byte_fields.LongestPrefixes.{longest_prefix, left_within}
use Rattle.proof_codec.specs.declared.proof.Proof.{Proof}
use Rattle.proof_codec.specs.Spelling.{IsProof, proof_fields}
use Rattle.proof_codec.specs.Reading.{proof_at}
use Rattle.proof_codec.proofs.Proofs.{proof_field}
use Rattle.proof_codec.specs.declared.proof_view.ViewError.{ViewError}
use Rattle.proof_codec.specs.declared.proof_view.ViewError.TheVariants.{Malformed}
use Rattle.proof_codec.specs.Viewing.{Spells, with_offset, proof_in, told_at}

read_to_end : (read : Proof × List ℕ) (b : Bool) (proof : Proof) → eqb (length read.1) 0 ≡ b → cond b (Ok read.0) (Err (length read.1)) ≡ Ok proof → (length read.1 ≡ 0) × (read.0 ≡ proof)
read_to_end read true proof is e = (eqb-true _ _ is, cc)
read_to_end read false proof is e = absurd cc

all_takes : (bytes : List ℕ) (proof : Proof) → IsBytes bytes → (r : Field Proof) → proof_at bytes ≡ r → with_offset (length bytes) (all_read r) ≡ Ok proof → Spells bytes proof
all_takes bytes proof fits (Ok read) e got =
    let t = proof_field.takes bytes read.0 read.1 fits e in
    let ended = read_to_end read (eqb (length read.1) 0) proof refl (whole (all_read (Ok read)) got) in
    let all : bytes ≡ concat (proof_fields read.0) = t.parts ∙ ap (λ (rest : List ℕ). concat (proof_fields read.0) ++ rest) (nil_from_length read.1 ended.0) ∙ append-nil (concat (proof_fields read.0)) in
    subst (Spells bytes) ended.1 (record { lawful = t.is; spelled = all })
  where
    whole : (r : Result Proof ℕ) → with_offset (length bytes) r ≡ Ok proof → r ≡ Ok proof
    whole (Ok found) e = e
    whole (Err left) e = absurd cc
all_takes bytes proof fits (Err left) e got = absurd cc

-- What is read is spelled by the bytes.
is_spelled : (bytes : List ℕ) (proof : Proof) → IsBytes bytes → proof_in bytes ≡ Ok proof → Spells bytes proof
unfolding proof_in
is_spelled bytes proof fits e = all_takes bytes proof fits (proof_at bytes) refl e

-- What the bytes spell is read.
pub is_read : (bytes : List ℕ) (proof : Proof) → Spells bytes proof → proof_in bytes ≡ Ok proof
unfolding proof_in
is_read bytes proof is =
    let read : proof_at bytes ≡ Ok (proof, []) = ap proof_at (is.spelled ∙ sym (append-nil (concat (proof_fields proof)))) ∙ proof_field.again proof [] is.lawful in
    ap (λ (r : Field Proof). with_offset (length bytes) (all_read r)) read

offset_is : (total : ℕ) (r : Field Proof) (at : ℕ) → with_offset total (all_read r) ≡ Err at → at ≡ total - left_of r
offset_is total (Ok read) at e = go (eqb (length read.1) 0) e
  where
    go : (b : Bool) → with_offset total (cond b (Ok read.0) (Err (length read.1))) ≡ Err at → at ≡ total - length read.1
    go true e = absurd cc
    go false e = cc
offset_is total (Err left) at e = cc

-- A fault is at the end of the longest prefix that is whole fields of some proof.
is_invalid : (bytes : List ℕ) (at : ℕ) → IsBytes bytes → proof_in bytes ≡ Err at → IsLongestPrefix proof_fields IsProof bytes at
unfolding proof_in
is_invalid bytes at fits e = longest_prefix proof_field bytes fits at (offset_is (length bytes) (proof_at bytes) at e)

pub found_this : (bytes : List ℕ) (result : Result Proof ViewError) → IsBytes bytes → Answers (λ p. p) told_at result (proof_in bytes) → IfOk result (λ proof. Spells bytes proof)
found_this bytes (Ok proof) fits told = is_spelled bytes proof fits told
found_this bytes (Err error) fits told = tt

pub only_this : (bytes : List ℕ) (result : Result Proof ViewError) → Answers (λ p. p) told_at result (proof_in bytes) → (proof : Proof) → Spells bytes proof → result ≡ Ok proof
only_this bytes (Ok found) told proof is = let f = is_read bytes proof is in cc
only_this bytes (Err (Malformed at)) told proof is = let f = is_read bytes proof is in absurd cc

pub fault_this : (bytes : List ℕ) (result : Result Proof ViewError) → IsBytes bytes → Answers (λ p. p) told_at result (proof_in bytes) → IfErr result (λ error. IfSome (told_at error) (IsLongestPrefix proof_fields IsProof bytes))
fault_this bytes (Ok proof) fits told = tt
fault_this bytes (Err (Malformed at)) fits told = is_invalid bytes at fits told

pub left_low : (bytes : List ℕ) (r : Field Proof) → IsBytes bytes → proof_at bytes ≡ r → left_of r ≤ length bytes
left_low bytes r fits e = subst (λ (r : Field Proof). left_of r ≤ length bytes) e (left_within proof_field bytes fits)
