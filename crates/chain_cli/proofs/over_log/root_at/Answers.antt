use Rattle.std.proofs.Common.{arith}
use Rattle.merkle_dag.specs.Lineage.{ledger_in}
use Rattle.chain_cli.proofs.Rewound.{root_rewound}
use Rattle.chain_cli.proofs.over_log.root_at.Goals as goal

pub returns-in-Ok : goal.returns-in-Ok
returns-in-Ok c = root_rewound (ledger_in c.args.lineage.now) (ledger_in c.in-Ok.rewound)
    c.args.at c.root-root.result c.in-Ok.ensures.rewound
    (omega (arith, c.requires, c.if-last-at.false)) c.root-root.ensures
