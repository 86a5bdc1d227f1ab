use Rattle.std.proofs.Common.{◌==◌, ◌∙◌, ap, is_some}
use Rattle.std.specs.Cmp.Lexicographic.{pointwise}
use Rattle.dep_capture.proofs.Places.{is_there}
use Rattle.dep_capture.proofs.keyed.Keyed.has.Goals as goal

pub returns : goal.returns
returns g c = c.is_some.ensures ∙ ap is_some c.place_of.ensures
    ∙ is_there (λ item. pointwise ◌==◌ (g.T.HasKey.key item) c.args.key.now) c.args.self.now
