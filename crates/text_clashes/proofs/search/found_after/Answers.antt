use Rattle.std.proofs.Common.{List, ℕ, [], ◌∷◌, ◌++◌, Option, None, sym, subst}
use Rattle.text_clashes.specs.declared.found.Found.{Found}
use Rattle.text_clashes.specs.Places.{IsFirstOther, IsOtherAt}
use Rattle.text_clashes.specs.Searching.{IsFirstFound}
use Rattle.text_clashes.proofs.Searched.{none_more, some_more}
use Rattle.text_clashes.proofs.search.found_after.Goals as goal

pub returns-in-None-clause-first : goal.returns-in-None-clause-first
returns-in-None-clause-first c own first =
    none_more c.args.given.now own c.args.text c.args.found
    (subst (λ (text : List ℕ). IsFirstOther text c.args.given.now None) c.as_slice.ensures
    c.in-None.ensures) first

pub returns-in-Some-clause-first : goal.returns-in-Some-clause-first
returns-in-Some-clause-first c own first =
    subst (λ (found : Option Found). IsFirstFound c.args.given.now (own ++ c.args.text ∷ []) found)
    (sym c.found_with.ensures)
    (some_more c.args.given.now own c.args.text c.args.found c.in-Some.place
    (subst (λ (text : List ℕ). IsOtherAt text c.args.given.now c.in-Some.place) c.as_slice.ensures
    c.in-Some.ensures) first)
