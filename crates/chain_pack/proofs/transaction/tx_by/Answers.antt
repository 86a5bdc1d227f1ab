use Rattle.std.proofs.Common.{rules}
use Rattle.chain_pack.proofs.transaction.tx_by.Goals as goal

pub returns-in-Some-get : goal.returns-in-Some-get
returns-in-Some-get c = search (rules, c.deploy_in.ensures c.args.longest)
