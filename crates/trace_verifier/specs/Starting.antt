-- What an accepted start says of its version, and what it wants.
use Rattle.std.specs.Prelude.{ℕ, List, [], Option, Some, None, Result, Ok, Err}
use Rattle.lc_base.specs.declared.answer.Answer.{Answer}
use Rattle.lc_base.specs.declared.answer.Answer.TheVariants as answers
use Rattle.prov_entry.specs.declared.entry.BodyDep.{BodyDep}
use Rattle.prov_entry.specs.declared.entry.Body.{Body}
use Rattle.proof_verifier.specs.proof_checks.declared.reject.Reject.{Reject}
use Rattle.proof_verifier.specs.proof_checks.declared.trace_reject.TraceReject.{TraceReject}
use Rattle.proof_verifier.specs.proof_checks.TraceChecks.{with_deps}

-- The block of the version that an answer about what it was derived from is of; `None` for any
-- other answer.
abbrev pub block_of_answer : Answer → Option ℕ
block_of_answer (answers.Back block deps) = Some block
block_of_answer answer = None

-- The block of the version that a start with this verdict shows; its fault if it isn't accepted.
abbrev pub block_if : Result Answer Reject → Result (Option ℕ) Reject
block_if (Ok answer) = Ok (block_of_answer answer)
block_if (Err fault) = Err fault

-- What the start wants, given the block of its version and its body.
abbrev pub wanted_in : Option ℕ → Option Body → Result (List BodyDep) TraceReject
wanted_in None body = Ok []
wanted_in (Some block) None = Ok []
wanted_in (Some block) (Some body) = with_deps 0 block body.deps []
