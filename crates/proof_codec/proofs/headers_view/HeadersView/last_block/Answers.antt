use Rattle.std.proofs.Common.{sym, ap, ◌∙◌, arith}
use Rattle.entry_views.specs.byte_fields.Reading.{items_at}
use Rattle.entry_views.specs.Items.{items_read}
use Rattle.entry_views.specs.Reading.{header_at}
use Rattle.entry_views.proofs.First.{no_items}
use Rattle.entry_views.proofs.Items.{items_counted}
use Rattle.proof_codec.specs.Last.{last_block}
use Rattle.proof_codec.proofs.Last.{of_some}
use Rattle.proof_codec.proofs.headers_view.HeadersView.last_block.Goals as goal

pub returns-then-self-eq0 : goal.returns-then-self-eq0
returns-then-self-eq0 c = sym (ap last_block (sym c.self.view_is ∙ no_items header_at c.self.inside.count c.self.inside.reader c.if-self-eq0.true c.self.invariant.0))

pub returns : goal.returns
returns c =
    let count = items_counted header_at c.self.inside.count c.self.inside.reader c.self.invariant.0 in
    of_some c.self.inside.last_block (items_read (items_at header_at c.self.inside.count c.self.inside.reader)) (omega (arith, count, c.if-self-eq0.false)) c.self.invariant.1 ∙ ap last_block c.self.view_is
