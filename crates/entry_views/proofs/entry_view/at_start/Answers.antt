use Rattle.std.proofs.Common.{sym, ◌∙◌, arith}
use Rattle.entry_views.proofs.Read.{ended, stopped}
use Rattle.entry_views.proofs.entry_view.at_start.Goals as goal

pub returns-in-Ok-clause-read : goal.returns-in-Ok-clause-read
returns-in-Ok-clause-read g c = (ended g.F.EntryFields.codec.agrees c.args.bytes.now (λ i. omega (arith, c.type_inv.bytes i)) c.in-Ok.entry (sym c.requires ∙ c.in-Ok.is)).1

pub returns-in-Ok-clause-within : goal.returns-in-Ok-clause-within
returns-in-Ok-clause-within g c = (ended g.F.EntryFields.codec.agrees c.args.bytes.now (λ i. omega (arith, c.type_inv.bytes i)) c.in-Ok.entry (sym c.requires ∙ c.in-Ok.is)).0

pub returns-in-Err-clause-read : goal.returns-in-Err-clause-read
returns-in-Err-clause-read g c = (stopped g.F.EntryFields.codec.agrees c.args.bytes.now (λ i. omega (arith, c.type_inv.bytes i)) c.in-Err.error (sym c.requires ∙ c.in-Err.is)).1
