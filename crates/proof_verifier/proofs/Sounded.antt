-- What an accepted proof shows follows from the verdict on the proof that its bytes spell.
use Rattle.std.proofs.Common.{◌≡◌, ◌∙◌, ◌<◌, ◌^◌, ℕ, List, Option, Some, None, Result, Ok, Err}
use Rattle.std.proofs.Common.{IfOk, IfSome, IsSomeAnd, sym, ap, subst}
use Rattle.lc_base.specs.Answers.{Answers}
use Rattle.lc_base.specs.declared.digest.Digest.{Digest}
use Rattle.lc_base.specs.declared.row.Row.{Row}
use Rattle.lc_base.specs.declared.row.Dep.{Dep}
use Rattle.lc_base.specs.declared.answer.Kind.{Kind}
use Rattle.lc_base.specs.declared.answer.Kind.TheVariants.{Hist, Back, Fwd}
use Rattle.lc_base.specs.declared.answer.Answer.{Answer}
use Rattle.lc_base.specs.declared.answer.Query.{Query}
use Rattle.prov_entry.specs.declared.entry.Header.{Header}
use Rattle.prov_entry.specs.declared.entry.Body.{Body}
use Rattle.prov_entry.specs.Spelling.{IsBody}
use Rattle.proof_checks.specs.root_laws.Root.{root_of}
use Rattle.proof_checks.specs.proof_codec.declared.proof.Proof.{Proof}
use Rattle.proof_checks.specs.proof_codec.Spelling.{IsProof, IsIfAny, last_of}
use Rattle.proof_checks.specs.proof_codec.Viewing.{proof_in, told_at}
use Rattle.proof_checks.specs.proof_codec.declared.proof_view.ViewError.{ViewError}
use Rattle.proof_checks.specs.proof_codec.declared.proof_view.ViewError.TheVariants as views
use Rattle.proof_checks.specs.declared.reject.Reject.{Reject}
use Rattle.proof_checks.specs.Checks.{judgement, verdict, query_fault, fault_in, answer_in}
use Rattle.proof_checks.specs.Checks.{answer_from, answer_by}
use Rattle.proof_checks.specs.ProofTexts.{proof_texts}
use Rattle.proof_checks.specs.root_laws.TypedLedger.{IsTypedHistory}
use Rattle.proof_checks.specs.Soundness.{AnswersOrClashes}
use Rattle.proof_checks.proofs.Tests.{goes_on, accepted}
use Rattle.proof_checks.proofs.Sound.{accepted_is_sound}
use Rattle.proof_verifier.specs.declared.found.Found.{Found}
use Rattle.proof_verifier.specs.Answering.{answer_seen, fault_told, HasValue, malformed_at}
use Rattle.proof_verifier.specs.Answering.{fault_of_view, answer_of_proof, verdict_on}

pub read_exact : (root : List ℕ) (query : Query) (bytes : List ℕ) (proof : Proof) (result : Result Found Reject)
    → proof_in bytes ≡ Ok proof → Answers answer_seen fault_told result (verdict root query proof)
    → Answers answer_seen fault_told result (verdict_on root query bytes)
unfolding verdict_on
read_exact root query bytes proof result read told = subst (λ (r : Result Proof ℕ). Answers answer_seen fault_told result (answer_of_proof root query r)) (sym read) told

pub refused_exact : (root : List ℕ) (query : Query) (bytes : List ℕ) (proof : Proof) (fault : Reject)
    → proof_in bytes ≡ Ok proof → verdict root query proof ≡ Err fault
    → verdict_on root query bytes ≡ Err fault
unfolding verdict_on
refused_exact root query bytes proof fault is told = ap (answer_of_proof root query) is ∙ told

abbrev read : Proof → Result Proof ViewError
read proof = Ok proof

abbrev refused : Reject → Result Answer Reject
refused fault = Err fault

pub unread_exact : (root : List ℕ) (query : Query) (bytes : List ℕ) (error : ViewError) (fault : Reject)
    → fault ≡ fault_of_view error → IfSome (told_at error) (λ at. proof_in bytes ≡ Err at)
    → verdict_on root query bytes ≡ Err fault
unfolding verdict_on
unread_exact root query bytes (views.Malformed at) fault same is =
    ap (answer_of_proof root query) is ∙ ap refused (sym same)

-- If the bytes spell a proof, the result is the verdict on it.
pub read_spelled : (root : List ℕ) (query : Query) (view given : Proof) (result : Result Found Reject)
    → Ok view ≡ read given → Answers answer_seen fault_told result (verdict root query view)
    → Answers answer_seen fault_told result (verdict root query given)
read_spelled root query view given result same told = let e : view ≡ given = cc in subst (λ (p : Proof). Answers answer_seen fault_told result (verdict root query p)) e told

pub read_sound : (root : List ℕ) (query : Query) (given : Proof) (result : Result Found Reject) → IsProof given → Answers answer_seen fault_told result (verdict root query given)
    → (rows : List Row) (digests : List Digest) (block : ℕ) → IsTypedHistory rows → block < 2 ^ 32 → root_of rows digests block ≡ root → IfOk result (λ found. AnswersOrClashes rows digests block query (proof_texts given) (answer_seen found))
read_sound root query given (Ok found) is told rows digests block history fits root_is = accepted_is_sound root query given (answer_seen found) is told rows digests block history fits root_is
read_sound root query given (Err fault) is told rows digests block history fits root_is = tt

-- ---- the value

value_by : (kind : Kind) (header : Header) (body : Body) (uses : Option (List Dep)) → IsBody body
    → HasValue (answer_by kind header body uses)
value_by Hist header body uses is = is.value_is_value
value_by Back header body uses is = tt
value_by Fwd header body None is = tt
value_by Fwd header body (Some uses) is = tt

value_in : (proof : Proof) → IsProof proof → HasValue (answer_in proof)
unfolding answer_in
value_in proof is = go (last_of proof.headers) proof.body is.body_is_body
  where
    go : (last : Option Header) (body : Option Body) → IsIfAny IsBody body
        → HasValue (answer_from proof.query.kind last body proof.uses)
    go None body is = tt
    go (Some last) None is = tt
    go (Some last) (Some body) is = value_by proof.query.kind last body proof.uses is

pub read_value : (root : List ℕ) (query : Query) (proof : Proof) (result : Result Found Reject)
    → IsProof proof → Answers answer_seen fault_told result (verdict root query proof)
    → IfOk result (λ found. HasValue (answer_seen found))
read_value root query proof (Ok found) is told = let accept = accepted (fault_in root proof) (answer_in proof) (answer_seen found) (goes_on (query_fault query proof) (judgement root proof) (answer_seen found) told).1 in subst HasValue accept.1 (value_in proof is)
read_value root query proof (Err fault) is told = tt

-- ---- bytes that aren't a proof

pub unread_malformed : (P : ℕ → Type 0) (error : ViewError) (fault : Reject)
    → fault ≡ fault_of_view error → IfSome (told_at error) P → IsSomeAnd (malformed_at fault) P
unread_malformed P (views.Malformed at) fault same is = rw same is
