use Rattle.std.proofs.Common.{arith}
use Rattle.light_client.proofs.Verdicts as verdicts
use Rattle.light_client.proofs.checking.check.Goals as goal

pub returns-clause-malformed : goal.returns-clause-malformed
returns-clause-malformed c =
    verdicts.malformed c.args.file.now c.args.proof.now c.light_verdict.result
    (λ i. omega (arith, c.type_inv.proof i)) c.light_verdict.ensures

pub returns-clause-readable : goal.returns-clause-readable
returns-clause-readable c =
    verdicts.readable c.args.file.now c.args.proof.now c.light_verdict.result
    c.light_verdict.ensures

pub returns-clause-unknown : goal.returns-clause-unknown
returns-clause-unknown c =
    verdicts.unknown c.args.file.now c.args.proof.now c.light_verdict.result c.light_verdict.ensures

pub returns-clause-differs : goal.returns-clause-differs
returns-clause-differs c =
    verdicts.differs c.args.file.now c.args.proof.now c.light_verdict.result c.light_verdict.ensures

pub returns-clause-rejected : goal.returns-clause-rejected
returns-clause-rejected c =
    verdicts.rejected c.args.file.now c.args.proof.now c.light_verdict.result
    c.light_verdict.ensures

pub returns-clause-accepted : goal.returns-clause-accepted
returns-clause-accepted c =
    verdicts.accepted c.args.file.now c.args.proof.now c.light_verdict.result
    c.light_verdict.ensures

pub returns-clause-sound : goal.returns-clause-sound
returns-clause-sound c =
    verdicts.sound c.args.file.now c.args.proof.now c.light_verdict.result c.light_verdict.ensures

pub returns-clause-value : goal.returns-clause-value
returns-clause-value c =
    verdicts.value c.args.file.now c.args.proof.now c.light_verdict.result
    (λ i. omega (arith, c.type_inv.proof i)) c.light_verdict.ensures
