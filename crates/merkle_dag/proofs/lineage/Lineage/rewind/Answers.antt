use Rattle.merkle_dag.proofs.lineage.Lineage.rewind.Goals as goal

pub returns-clause-bodies : goal.returns-clause-bodies
returns-clause-bodies c = rw (← c.self.view_is) c.in_ok-kept.ensures.bodies

pub returns-clause-agrees : goal.returns-clause-agrees
returns-clause-agrees c = rw (← c.self.view_is)
    (λ scratch agrees. c.in_ok-kept.ensures.agrees scratch agrees)
