use Rattle.std.proofs.Common.{sym, ◌∙◌, arith}
use Rattle.std.proofs.lemmas.Option.{slice_get_past}
use Rattle.byte_fields.specs.Reading.{items_at}
use Rattle.entry_views.specs.Items.{items_read}
use Rattle.entry_views.specs.Reading.{link_at}
use Rattle.entry_views.proofs.Items.{items_counted}
use Rattle.entry_views.proofs.Links.{link_there}
use Rattle.entry_views.proofs.link_view.link_of.Goals as goal

pub returns-then-i-count : goal.returns-then-i-count
returns-then-i-count c =
    let count = items_counted link_at c.args.count c.args.bytes.now c.requires in
    sym (slice_get_past (items_read (items_at link_at c.args.count c.args.bytes.now)) c.args.i (omega (arith, count, c.if-i-count.true)))

pub returns : goal.returns
returns c =
    c.ok.ensures.value
    ∙ link_there c.args.count c.args.i c.args.bytes.now (λ i. omega (arith, c.type_inv.bytes i)) c.requires c.if-i-count.false c.new-reader.result (c.new-reader.ensures ∙ c.tail.ensures) c.read.result c.read.new.reader c.read.ensures
