use Rattle.std.proofs.Common.{◌==◌, ◌∙◌, Bool, ap, slice_get, sym}
use Rattle.std.specs.Cmp.Lexicographic.{pointwise}
use Rattle.dep_capture.proofs.Places.{item_at, found_at}
use Rattle.dep_capture.proofs.keyed.Keyed.get.Goals as goal

pub returns-in-None : goal.returns-in-None
returns-in-None g c =
    let is_of : g.row.T.Denot → Bool = λ item. pointwise ◌==◌ (g.T.HasKey.key item)
    c.args.key.now in
    ap (item_at is_of c.args.self.now) (sym c.in-None.is ∙ c.place_of.ensures)
    ∙ found_at is_of c.args.self.now

pub returns-in-Some : goal.returns-in-Some
returns-in-Some g c =
    let is_of : g.row.T.Denot → Bool = λ item. pointwise ◌==◌ (g.T.HasKey.key item)
    c.args.key.now in
    c.item_at.ensures
    ∙ ap (λ items. slice_get items c.in-Some.place) c.as_slice.ensures
    ∙ ap (item_at is_of c.args.self.now) (sym c.in-Some.is ∙ c.place_of.ensures)
    ∙ found_at is_of c.args.self.now
