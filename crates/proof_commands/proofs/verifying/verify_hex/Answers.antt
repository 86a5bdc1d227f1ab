use Rattle.proof_commands.proofs.Verified.{by_function}
use Rattle.proof_commands.proofs.verifying.verify_hex.Goals as goal

pub returns : goal.returns
returns c = by_function c.args.root.now.0 c.args.question.now c.args.input.now c.verify_input.result c.verify_input.ensures
