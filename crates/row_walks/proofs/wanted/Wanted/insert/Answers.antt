use Rattle.std.proofs.Common.{◌∙◌, map, ap}
use Rattle.root_laws.specs.Ancestors.{inserted, itself}
use Rattle.root_laws.specs.Places.{Place, version_at}
use Rattle.row_walks.proofs.Places.{put_in}
use Rattle.row_walks.proofs.wanted.Wanted.insert.Goals as goal

pub returns : goal.returns
returns c =
    let place : Place = record { 0 = (c.args.version.now.block, c.args.version.now.key) } in
    ap (map version_at) c.in_ok-insert.ensures.keys
    ∙ put_in c.self.inside.places.keys place
    ∙ ap (inserted itself c.args.version.now) c.self.view_is
