-- What an accepted start shows: the block of its version, and what that was derived from.
use Rattle.std.proofs.Common.{◌≡◌, ◌∙◌, ℕ, List, Option, Some, None, Ok, refl, sym, ap}
use Rattle.lc_base.specs.declared.answer.Kind.{Kind}
use Rattle.lc_base.specs.declared.answer.Kind.TheVariants.{Back}
use Rattle.lc_base.specs.declared.answer.Answer.{Answer}
use Rattle.lc_base.specs.declared.answer.Query.{Query}
use Rattle.lc_base.specs.declared.row.Dep.{Dep}
use Rattle.prov_entry.specs.declared.entry.Header.{Header}
use Rattle.prov_entry.specs.declared.entry.Body.{Body}
use Rattle.proof_codec.specs.declared.proof.Proof.{Proof}
use Rattle.proof_codec.specs.Spelling.{last_of}
use Rattle.proof_verifier.specs.proof_checks.declared.reject.Reject.TheVariants.{OtherQuery}
use Rattle.proof_verifier.specs.proof_checks.Checks.{query_fault, fault_in, answer_in, answer_from}
use Rattle.proof_verifier.specs.proof_checks.Checks.{judgement}
use Rattle.proof_verifier.specs.proof_checks.Checks.{verdict}
use Rattle.proof_verifier.proofs.proof_checks.Tests.{passed, goes_on, accepted, query_is}
use Rattle.proof_verifier.specs.proof_checks.TraceChecks.{start_query, wanted_by_start}
use Rattle.trace_verifier.specs.Starting.{block_of_answer, wanted_in}

-- The block of the version, given the last header and the body.
abbrev pub block_shown : Option Header → Option Body → Option ℕ
block_shown None body = None
block_shown (Some header) None = None
block_shown (Some header) (Some body) = Some header.block

same_block : (last : Option Header) (body : Option Body) (uses : Option (List Dep))
    → block_of_answer (answer_from Back last body uses) ≡ block_shown last body
same_block None body uses = refl
same_block (Some header) None uses = refl
same_block (Some header) (Some body) uses = refl

block_by_kind : (proof : Proof) → proof.query.kind ≡ Back
    → block_of_answer (answer_in proof) ≡ block_shown (last_of proof.headers) proof.body
unfolding answer_in
block_by_kind proof is =
    let last = last_of proof.headers in
    let answer = λ (kind : Kind). answer_from kind last proof.body proof.uses in
    ap (λ (kind : Kind). block_of_answer (answer kind)) is ∙ same_block last proof.body proof.uses

-- The answer of an accepted start is of the version of its last header if there is a body.
pub block_is : (root key : List ℕ) (at : ℕ) (start : Proof) (answer : Answer)
    → verdict root (start_query key at) start ≡ Ok answer
    → block_of_answer answer ≡ block_shown (last_of start.headers) start.body
block_is root key at start answer e =
    let query = start_query key at in
    let judged = goes_on (query_fault query start) (judgement root start) answer e in
    let own : start.query ≡ query = query_is query start.query (passed _ OtherQuery judged.0) in
    let is = (accepted (fault_in root start) (answer_in start) answer judged.1).1 in
    ap block_of_answer (sym is) ∙ block_by_kind start (ap (λ (q : Query). q.kind) own)

-- What it wants follows from that block and the body.
pub same_wanted : (last : Option Header) (body : Option Body)
    → wanted_by_start last body ≡ wanted_in (block_shown last body) body
same_wanted None body = refl
same_wanted (Some header) None = refl
same_wanted (Some header) (Some body) = refl
