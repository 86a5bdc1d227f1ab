-- A trace is read exactly if all of the bytes are its fields; any byte after them is a fault.
use Rattle.std.proofs.Common.{◌≡◌, ◌∙◌, ℕ, Bool, true, false, cond, eqb, List, [], ◌++◌}
use Rattle.std.proofs.Common.{length, Result, Ok, Err, IfOk, refl, sym, ap, subst}
use Rattle.std.specs.List.{concat}
use Rattle.std.proofs.lemmas.Bool.{eqb-true}
use Rattle.std.proofs.lemmas.List.{append-nil, nil_from_length}
use Rattle.lc_base.specs.Answers.{Answers}
use Rattle.byte_fields.specs.Reading.{Field, all_read}
use Rattle.byte_fields.specs.Spelling.{IsBytes}
use Rattle.proof_codec.specs.declared.proof_view.ViewError.{ViewError}
use Rattle.proof_codec.specs.declared.proof_view.ViewError.TheVariants.{Malformed}
use Rattle.proof_codec.specs.Viewing.{told_at}
use Rattle.proof_verifier.specs.proof_checks.declared.trace_proof.TraceProof.{TraceProof}
use Rattle.proof_verifier.specs.proof_checks.TraceSpelling.{SpellsTrace, trace_fields}
use Rattle.trace_verifier.specs.Reading.{trace_proof_at, with_offset, trace_in}
use Rattle.trace_verifier.proofs.Fields.{trace_taken, trace_again}

read_to_end : (read : TraceProof × List ℕ) (b : Bool) (trace : TraceProof)
    → eqb (length read.1) 0 ≡ b → cond b (Ok read.0) (Err (length read.1)) ≡ Ok trace
    → (length read.1 ≡ 0) × (read.0 ≡ trace)
read_to_end read true trace is e = (eqb-true (length read.1) 0 is, cc)
read_to_end read false trace is e = absurd cc

without_offset : (total : ℕ) (r : Result TraceProof ℕ) (trace : TraceProof)
    → with_offset total r ≡ Ok trace → r ≡ Ok trace
without_offset total (Ok found) trace e = e
without_offset total (Err left) trace e = absurd cc

all_taken : (bytes : List ℕ) (trace : TraceProof) → IsBytes bytes
    → (r : Field TraceProof) → trace_proof_at bytes ≡ r
    → with_offset (length bytes) (all_read r) ≡ Ok trace → SpellsTrace bytes trace
all_taken bytes trace fits (Ok read) e got =
    let is = trace_taken bytes read.0 read.1 fits e in
    let whole = without_offset (length bytes) (all_read (Ok read)) trace got in
    let ended = read_to_end read (eqb (length read.1) 0) trace refl whole in
    let fields : List ℕ = concat (trace_fields read.0) in
    let none = nil_from_length read.1 ended.0 in
    let all : bytes ≡ fields =
    is.parts ∙ ap (λ (t : List ℕ). fields ++ t) none ∙ append-nil fields in
    subst (SpellsTrace bytes) ended.1 (record { lawful = is.lawful; spelled = all })
all_taken bytes trace fits (Err left) e got = absurd cc

-- What is read is spelled by the bytes.
pub is_spelled : (bytes : List ℕ) (trace : TraceProof) → IsBytes bytes → trace_in bytes ≡ Ok trace
    → SpellsTrace bytes trace
unfolding trace_in
is_spelled bytes trace fits e = all_taken bytes trace fits (trace_proof_at bytes) refl e

-- What the bytes spell is read.
pub is_read : (bytes : List ℕ) (trace : TraceProof) → SpellsTrace bytes trace
    → trace_in bytes ≡ Ok trace
unfolding trace_in
is_read bytes trace is =
    let fields : List ℕ = concat (trace_fields trace) in
    let read : trace_proof_at bytes ≡ Ok (trace, []) =
    ap trace_proof_at (is.spelled ∙ sym (append-nil fields)) ∙ trace_again trace [] is.lawful in
    ap (λ (r : Field TraceProof). with_offset (length bytes) (all_read r)) read

pub found_this : (bytes : List ℕ) (result : Result TraceProof ViewError) → IsBytes bytes
    → Answers (λ trace. trace) told_at result (trace_in bytes)
    → IfOk result (λ trace. SpellsTrace bytes trace)
found_this bytes (Ok trace) fits told = is_spelled bytes trace fits told
found_this bytes (Err error) fits told = tt

pub only_this : (bytes : List ℕ) (result : Result TraceProof ViewError)
    → Answers (λ trace. trace) told_at result (trace_in bytes)
    → (trace : TraceProof) → SpellsTrace bytes trace → result ≡ Ok trace
only_this bytes (Ok found) told trace is = let read = is_read bytes trace is in cc
only_this bytes (Err (Malformed at)) told trace is = let read = is_read bytes trace is in absurd cc
