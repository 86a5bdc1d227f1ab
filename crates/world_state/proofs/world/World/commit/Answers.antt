use Rattle.std.proofs.Common.{◌==◌, ◌∙◌, ap, sym}
use Rattle.std.specs.Option.{option_or}
use Rattle.std.specs.Cmp.Lexicographic.{pointwise}
use Rattle.std.specs.Map.{lookup}
use Rattle.world_state.specs.Rows.{newest_staged}
use Rattle.world_state.proofs.Newest.{held_in_more}
use Rattle.world_state.proofs.world.World.commit.Goals as goal

pub returns-clause-newest : goal.returns-clause-newest
returns-clause-newest g c = λ key.
    rw (← c.self.view_is) (c.in_ok-add_newest.ensures.newest key
    ∙ ap (λ entries. option_or (newest_staged entries key) (lookup (pointwise ◌==◌ key) c.self.inside.newest.entries)) c.into_entries.ensures)

pub returns-clause-codes : goal.returns-clause-codes
returns-clause-codes g c = rw (← c.self.view_is) (ap (λ codes. codes.committed) c.commit.ensures)

pub returns-clause-rows : goal.returns-clause-rows
returns-clause-rows g c = λ rows more stands staged key.
    returns-clause-newest g c key
    ∙ (λ i. option_or (newest_staged (staged i) key) (stands key i))
    ∙ sym (held_in_more rows more key)
