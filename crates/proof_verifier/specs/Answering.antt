-- What `verify` returns for the bytes of a proof, if the reader has a root and a query.
use Rattle.std.specs.Prelude.{ℕ, List, map, Option, Some, None, Result, Ok, Err}
use Rattle.lc_base.specs.declared.answer.Kind.{Kind}
use Rattle.lc_base.specs.declared.answer.Query.{Query}
use Rattle.lc_base.specs.declared.row.Dep.{Dep}
use Rattle.prov_entry.specs.declared.entry.Body.{Body}
use Rattle.proof_verifier.specs.Walking.{HeaderClaim}
use Rattle.lc_base.specs.declared.answer.Answer.{Answer}
use Rattle.lc_base.specs.declared.answer.Answer.TheVariants as answers
use Rattle.byte_fields.specs.Reader.{value_seen}
use Rattle.byte_fields.specs.Spelling.{IsValue}
use Rattle.proof_checks.specs.proof_codec.declared.proof.Proof.{Proof}
use Rattle.proof_checks.specs.proof_codec.Viewing.{proof_in}
use Rattle.proof_checks.specs.proof_codec.declared.proof_view.ViewError.{ViewError}
use Rattle.proof_checks.specs.proof_codec.declared.proof_view.ViewError.TheVariants as views
use Rattle.proof_checks.specs.declared.reject.Reject.{Reject}
use Rattle.proof_checks.specs.declared.reject.Reject.TheVariants.{Malformed}
use Rattle.proof_checks.specs.Checks.{after, verdict, dep_of, fault_of_body, fault_of_uses}
use Rattle.proof_checks.specs.Checks.{answer_by}
use Rattle.proof_verifier.specs.declared.found.Found.{Found}
use Rattle.proof_verifier.specs.declared.found.Found.TheVariants.{Nothing, Hist, Back, Fwd}

-- The answer that a result stands for.
abbrev pub answer_seen : Found → Answer
answer_seen Nothing = answers.Nothing
answer_seen (Hist block tx value) = answers.Hist block tx (value_seen value)
answer_seen (Back block deps) = answers.Back block (map dep_of deps)
answer_seen (Fwd block uses) = answers.Fwd block uses

-- If the answer has a value, the value is lawful.
abbrev pub HasValue : Answer → Type 0
HasValue (answers.Hist block tx value) = IsValue value
HasValue answer = Unit {0}

-- A fault is reported as it is.
abbrev pub fault_told : Reject → Option Reject
fault_told fault = Some fault

-- The offset in a fault; `None` if the bytes are a proof.
abbrev pub malformed_at : Reject → Option ℕ
malformed_at (Malformed at) = Some at
malformed_at fault = None

-- What a version answers, or what is wrong with its body or its uses.
abbrev pub version_answer : Kind → HeaderClaim → Body → Option (List Dep) → Result Answer Reject
version_answer kind told body uses = after (fault_of_body (Some told.header) (Some body)) (after (fault_of_uses told.claim uses) (Ok (answer_by kind told.header body uses)))

-- The fault for bytes that aren't a proof.
abbrev pub fault_of_view : ViewError → Reject
fault_of_view (views.Malformed at) = Malformed at

-- What a proof that was read answers.
abbrev pub answer_of_proof : List ℕ → Query → Result Proof ℕ → Result Answer Reject
answer_of_proof root query (Err at) = Err (Malformed at)
answer_of_proof root query (Ok proof) = verdict root query proof

-- What bytes answer, or the first check that fails.
unfoldable pub verdict_on : List ℕ → Query → List ℕ → Result Answer Reject
verdict_on root query bytes = answer_of_proof root query (proof_in bytes)
