use Rattle.std.proofs.Common.{◌==◌, ◌∙◌}
use Rattle.std.specs.Cmp.Lexicographic.{pointwise}
use Rattle.world_state.proofs.FirstCodes.{found_in_parts}
use Rattle.world_state.proofs.codes.Codes.is_used.Goals as goal

pub returns : goal.returns
returns g c = rw (← c.self.view_is) (c.contains_key.ensures
    ∙ found_in_parts (pointwise ◌==◌ c.args.name.now) c.self.inside.codes.entries c.self.inside.committed)
