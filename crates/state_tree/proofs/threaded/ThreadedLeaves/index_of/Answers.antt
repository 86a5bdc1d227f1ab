use Rattle.std.proofs.Common.{ℕ, ◌+◌, ◌∙◌, ap, sym}
use Rattle.std.specs.Option.{option_map}
use Rattle.state_tree.proofs.Entries.{index_past}
use Rattle.state_tree.proofs.threaded.ThreadedLeaves.index_of.Goals as goal

pub returns-in-None : goal.returns-in-None
returns-in-None c =
    rw (← c.self.view_is) (ap (option_map (λ (n : ℕ). n + 1)) c.in-None.ensures.index
    ∙ sym (index_past c.self.inside.first c.self.inside.entries.entries c.args.key.now))

pub returns-in-Some : goal.returns-in-Some
returns-in-Some c =
    rw (← c.self.view_is) (ap (option_map (λ (n : ℕ). n + 1)) c.in-Some.ensures.index
    ∙ sym (index_past c.self.inside.first c.self.inside.entries.entries c.args.key.now))
