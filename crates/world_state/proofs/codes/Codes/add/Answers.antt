use Rattle.std.proofs.Common.{◌≡◌, ◌==◌, ◌∷◌, [], ◌∙◌, take, drop, false, ap, sym, subst}
use Rattle.std.specs.Cmp.Lexicographic.{pointwise}
use Rattle.std.proofs.lemmas.List.{take-append-le, drop-append-le}
use Rattle.world_state.specs.KnownCodes.{is_used}
use Rattle.world_state.proofs.FirstCodes.{added_last}
use Rattle.world_state.proofs.codes.Codes.add.Goals as goal

pub returns-clause-ok : goal.returns-clause-ok
returns-clause-ok g c =
    let codes = c.self.inside.codes in
    let committed = c.self.inside.committed in
    let new = (c.args.name, c.args.code) ∷ [] in
    let free = subst (λ known. is_used known c.args.name ≡ false) (sym c.self.view_is) c.requires in
    let last = c.in_ok-insert.ensures.entries ∙ added_last (pointwise ◌==◌) codes committed c.args.name c.args.code free in
    let first = ap (take committed) last ∙ take-append-le committed codes.entries new c.self.invariant in
    let others = ap (drop committed) last ∙ drop-append-le committed codes.entries new c.self.invariant in
    rw (← c.self.view_is) (λ i. record { committed = first i; staged = others i })
