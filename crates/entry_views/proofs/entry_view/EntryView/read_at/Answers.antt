use Rattle.std.proofs.Common.{arith}
use Rattle.entry_views.proofs.Placing.{found, only, fault}
use Rattle.entry_views.proofs.entry_view.EntryView.read_at.Goals as goal

pub returns-clause-found : goal.returns-clause-found
returns-clause-found g c = found g.F.EntryFields.codec.agrees c.args.bytes.now c.args.at (λ i. omega (arith, c.type_inv.bytes i)) c.entry_of_fields.result c.entry_of_fields.ensures

pub returns-clause-only : goal.returns-clause-only
returns-clause-only g c = λ value end is. only g.F.EntryFields.codec.agrees c.args.bytes.now c.args.at c.entry_of_fields.result c.entry_of_fields.ensures value end is

pub returns-clause-fault : goal.returns-clause-fault
returns-clause-fault g c = fault g.F.EntryFields.codec.agrees c.args.bytes.now c.args.at (λ i. omega (arith, c.type_inv.bytes i)) c.entry_of_fields.result c.entry_of_fields.ensures
