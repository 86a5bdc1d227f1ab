use Rattle.std.proofs.Common.{◌==◌, ◌∙◌, None, cond, ap, sym, lt-ltb, le-ltb}
use Rattle.std.specs.Map.{lookup}
use Rattle.std.specs.Cmp.Lexicographic.{pointwise}
use Rattle.world_state.proofs.FirstCodes.{below, found_in_first}
use Rattle.world_state.proofs.codes.Codes.get.Goals as goal

pub returns-in-None : goal.returns-in-None
returns-in-None g c =
    let test = pointwise ◌==◌ c.args.name.now in
    let entries = c.self.inside.codes.entries in
    let committed = c.self.inside.committed in
    rw (← c.self.view_is)
    (ap (λ index. below committed index (lookup test entries)) c.in-None.ensures.index
    ∙ sym (found_in_first test entries committed))

pub returns-then-index-self : goal.returns-then-index-self
returns-then-index-self g c =
    let test = pointwise ◌==◌ c.args.name.now in
    let entries = c.self.inside.codes.entries in
    let committed = c.self.inside.committed in
    rw (← c.self.view_is) (
    c.in-Some.ensures.value
    ∙ ap (λ b. cond b (lookup test entries) None)
    (sym (lt-ltb c.in-Some.index committed c.if-index-self.true))
    ∙ ap (λ index. below committed index (lookup test entries)) c.in-Some.ensures.index
    ∙ sym (found_in_first test entries committed)
    )

pub returns-else-index-self : goal.returns-else-index-self
returns-else-index-self g c =
    let test = pointwise ◌==◌ c.args.name.now in
    let entries = c.self.inside.codes.entries in
    let committed = c.self.inside.committed in
    rw (← c.self.view_is) (
    ap (λ b. cond b (lookup test entries) None)
    (sym (le-ltb c.in-Some.index committed c.if-index-self.false))
    ∙ ap (λ index. below committed index (lookup test entries)) c.in-Some.ensures.index
    ∙ sym (found_in_first test entries committed)
    )
