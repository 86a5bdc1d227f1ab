use Rattle.std.proofs.Common.{◌≡◌, ◌∙◌, List, ℕ, [], ◌∷◌, ◌++◌, Option, sym, ap, subst}
use Rattle.text_clashes.specs.declared.found.Found.{Found}
use Rattle.text_clashes.specs.Search.{Search}
use Rattle.text_clashes.specs.Searching.{IsFirstFound}
use Rattle.text_clashes.proofs.search.ClashSearch.add.Goals as goal

pub returns : goal.returns
returns c given own has =
    let same : c.self.inside.given ≡ given = ap (λ (s : Search). s.given) c.self.view_is ∙ has.0 in
    let lent : c.as_slice.result.now ≡ given = c.as_slice.ensures ∙ same in
    let taken : c.take-found.result ≡ c.args.self.now.found = c.take-found.ensures.value
    ∙ ap (λ (s : Search). s.found) c.self.view_is in (
      same,
      subst (λ (texts : List (List ℕ)). IsFirstFound texts (own ++ c.args.text ∷ [])
          c.found_after.result) lent (c.found_after.ensures.first own
          (subst (λ (texts : List (List ℕ)). IsFirstFound texts own c.take-found.result) (sym lent)
          (subst (λ (found : Option Found). IsFirstFound given own found) (sym taken) has.1))),
    )
