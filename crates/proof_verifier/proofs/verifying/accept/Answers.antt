use Rattle.proof_verifier.proofs.Sounded.{refused_exact, unread_exact}
use Rattle.proof_verifier.proofs.verifying.accept.Goals as goal

pub returns-in-Err-judge_for-clause-fails : goal.returns-in-Err-judge_for-clause-fails
returns-in-Err-judge_for-clause-fails c = refused_exact c.args.root.now.0 c.args.query.now c.args.proof.now c.in-Ok.view c.in-Err-judge_for.fault c.in-Ok.ensures.exact c.in-Err-judge_for.ensures

pub returns-in-Err-clause-fails : goal.returns-in-Err-clause-fails
returns-in-Err-clause-fails c = unread_exact c.args.root.now.0 c.args.query.now c.args.proof.now c.in-Err.error c.fault_of_view.result c.fault_of_view.ensures c.in-Err.ensures.exact
