use Rattle.lineage_index.proofs.index.LineageIndex.latest_row.Goals as goal

pub returns-in-None-clause-latest : goal.returns-in-None-clause-latest
returns-in-None-clause-latest g c rows n is = rw c.in-None.is at (c.latest.ensures.latest rows n is)

pub returns-in-Some-clause-latest : goal.returns-in-Some-clause-latest
returns-in-Some-clause-latest g c rows n is = rw c.in-Some.is at (c.latest.ensures.latest rows n is)
