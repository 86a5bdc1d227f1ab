use Rattle.std.proofs.Common.{List, ℕ, subst}
use Rattle.cli_output.specs.proof_commands.Verifying.{IsVerification}
use Rattle.cli_proofs.proofs.Verifies.{long_verified, whole_verified, verify_ends}
use Rattle.cli_proofs.proofs.verifying.verify.Goals as goal

pub returns-in_ok-bad_input-in-None-clause-outcome : goal.returns-in_ok-bad_input-in-None-clause-outcome
returns-in_ok-bad_input-in-None-clause-outcome g c =
    long_verified c.args.root.now.0 c.args.question.now (g.I.Source.left c.args.source.now) (g.I.Source.left c.read_whole.new.source) c.in_ok-read_whole.field-0 c.in_ok-bad_input-in-None.field-0 c.in-None.is c.in_ok-read_whole.ensures.whole c.in_ok-bad_input-in-None.ensures

pub returns-in_ok-verification_outcome-in-Some-clause-outcome : goal.returns-in_ok-verification_outcome-in-Some-clause-outcome
returns-in_ok-verification_outcome-in-Some-clause-outcome g c =
    whole_verified c.args.root.now.0 c.args.question.now (g.I.Source.left c.args.source.now) (g.I.Source.left c.read_whole.new.source) c.in_ok-read_whole.field-0 c.in-Some.bytes c.in_ok-found-in-Some.found c.in_ok-verification_outcome-in-Some.field-0
    c.in-Some.is c.in_ok-read_whole.ensures.whole (subst (λ (b : List ℕ). IsVerification c.args.root.now.0 c.args.question.now b c.in_ok-found-in-Some.found) c.as_bytes.ensures c.in_ok-found-in-Some.ensures) c.in_ok-verification_outcome-in-Some.ensures

pub returns-in_ok-verification_outcome-in-Some-clause-ends : goal.returns-in_ok-verification_outcome-in-Some-clause-ends
returns-in_ok-verification_outcome-in-Some-clause-ends g c = verify_ends c.args.root.now c.args.question.now c.in_ok-found-in-Some.found c.in_ok-verification_outcome-in-Some.field-0 c.in_ok-verification_outcome-in-Some.ensures
