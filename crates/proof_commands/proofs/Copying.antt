-- A loop that copies a list has copied the items before its index.
use Rattle.std.proofs.Common.{◌≡◌, ◌∙◌, ℕ, ◌+◌, ◌<◌, List, [], ◌∷◌, ◌++◌, length, map, take, get_or, slice_get, Option, sym, ap, append_assoc}
use Rattle.std.proofs.lemmas.List.{take_more, append-nil, map-append}
use Rattle.std.proofs.lemmas.Option.{slice_get-get_or}
use Rattle.lc_base.specs.declared.row.Dep.{Dep}
use Rattle.prov_entry.specs.declared.entry.BodyDep.{BodyDep}
use Rattle.proof_checks.specs.Checks.{dep_of}
use Rattle.proof_commands.specs.Copying.{with_dep}

-- One more dependency is copied.
pub one_dep : (deps : List BodyDep) (list : List Dep) (i : ℕ) (dep : Option BodyDep) → i < length deps → dep ≡ slice_get deps i → list ≡ map dep_of (take i deps) → with_dep list dep ≡ map dep_of (take (i + 1) deps)
one_dep deps list i dep low is so_far =
    let none : BodyDep = record { key = []; block = 0; digest = record { 0 = [] } } in
    let this = get_or deps i none in
    ap (with_dep list) (is ∙ slice_get-get_or deps i none low)
    ∙ ap (λ (t : List Dep). t ++ dep_of this ∷ []) so_far
    ∙ sym (map-append dep_of (take i deps) (this ∷ []))
    ∙ ap (map dep_of) (sym (take_more deps i none low))

-- One more use is copied.
pub one_use : (list rest after all : List Dep) (use_ : Dep) → rest ≡ use_ ∷ after → list ++ rest ≡ all → (list ++ use_ ∷ []) ++ after ≡ all
one_use list rest after all use_ parts so_far = append_assoc list (use_ ∷ []) after ∙ ap (λ (t : List Dep). list ++ t) (sym parts) ∙ so_far

pub no_use : (list rest all : List Dep) → rest ≡ [] → list ++ rest ≡ all → list ≡ all
no_use list rest all none so_far = sym (append-nil list) ∙ ap (λ (t : List Dep). list ++ t) (sym none) ∙ so_far
