-- One version after another is reached, and what it was derived from is wanted.
use Rattle.std.proofs.Common.{◌≡◌, ◌∙◌, ℕ, zero, suc, ◌-◌, ◌<◌, List, [], ◌∷◌, ◌++◌}
use Rattle.std.proofs.Common.{length}
use Rattle.std.proofs.Common.{refl, sym, ap, subst, arith, append-nil, append_assoc}
use Rattle.std.specs.List.{Contains}
use Rattle.lc_base.specs.declared.row.Dep.{Dep}
use Rattle.lc_base.specs.declared.row.Row.{Row}
use Rattle.lc_base.specs.History.{IsLawful, latest}
use Rattle.root_laws.specs.Ancestors.{itself, all_inserted, deps_of, deps_in, reached_from}
use Rattle.root_laws.proofs.Enough.{AreWanted, are_wanted, next_wanted}
use Rattle.row_walks.proofs.LatestAt.{deps_at}

-- All that is reached from some versions.
abbrev pub all_reached : List Row → List Dep → List Dep
all_reached rows deps = reached_from (length rows) rows (all_inserted itself deps [])

-- What was found so far, and what is reached from what is wanted in the steps that are left, are
-- all that is reached.
pub record IsReaching (rows : List Row) (deps : List Dep) (left : ℕ) (found wanted : List Dep) :
    Type 0 where
  pub are : AreWanted rows wanted
  pub whole : found ++ reached_from left rows wanted ≡ all_reached rows deps

pub begins : (rows : List Row) (row : Row) (deps none first found : List Dep) (left : ℕ)
    → IsLawful rows → Contains rows row → deps ≡ row.deps → none ≡ []
    → first ≡ all_inserted itself deps none → found ≡ [] → left ≡ length rows
    → IsReaching rows row.deps left found first
begins rows row deps none first found left lawful has own empty is nothing all =
    let same : first ≡ all_inserted itself row.deps [] =
    is ∙ ap (λ (ds : List Dep). all_inserted itself ds none) own
    ∙ ap (all_inserted itself row.deps) empty in
    rw (same, nothing, all) (record { are = are_wanted rows row lawful has; whole = refl })

module _ (rows : List Row) (deps : List Dep) (left : ℕ) (found wanted rest : List Dep)
    (version : Dep) (lawful : IsLawful rows) (some : 0 < left) (last : wanted ≡ version ∷ rest)
    (so_far : IsReaching rows deps left found wanted) where
  before : IsReaching rows deps (suc (left - 1)) found (version ∷ rest)
  before =
      let one : left ≡ suc (left - 1) = omega (arith, some) in
      subst (λ (n : ℕ). IsReaching rows deps n found (version ∷ rest)) one
      (subst (IsReaching rows deps left found) last so_far)

  own_deps : all_inserted itself (deps_of (latest rows version.key version.block)) rest
      ≡ all_inserted itself (deps_in rows version) rest
  own_deps = ap (λ (ds : List Dep). all_inserted itself ds rest)
      (sym (deps_at rows version lawful before.are.versions.0))

  pub step : found ++ version ∷ reached_from (left - 1) rows
      (all_inserted itself (deps_in rows version) rest) ≡ all_reached rows deps
  unfolding reached_from
  step = before.whole

  pub goes_on : (next more : List Dep)
      → next ≡ all_inserted itself (deps_of (latest rows version.key version.block)) rest
      → more ≡ found ++ version ∷ [] → IsReaching rows deps (left - 1) more next
  goes_on next more is pushed =
      let same = is ∙ own_deps in
      rw pushed (record {
        are = subst (AreWanted rows) (sym same) (next_wanted rows version rest lawful before.are);
        whole = append_assoc found (version ∷ []) (reached_from (left - 1) rows next)
            ∙ ap (λ (ds : List Dep). found ++ version ∷ reached_from (left - 1) rows ds) same
            ∙ step;
      })

-- Nothing is wanted any more.
none_reached : (n : ℕ) (rows : List Row) → reached_from n rows [] ≡ []
unfolding reached_from
none_reached zero rows = refl
none_reached (suc n) rows = refl

no_steps : (rows : List Row) (wanted : List Dep) → reached_from 0 rows wanted ≡ []
unfolding reached_from
no_steps rows wanted = refl

pub ends : (rows : List Row) (deps : List Dep) (left : ℕ) (found wanted : List Dep) → wanted ≡ []
    → IsReaching rows deps left found wanted → found ≡ all_reached rows deps
ends rows deps left found wanted none so_far =
    sym (append-nil found)
    ∙ ap (λ (ds : List Dep). found ++ ds)
    (sym (ap (reached_from left rows) none ∙ none_reached left rows)) ∙ so_far.whole

pub ends_full : (rows : List Row) (deps : List Dep) (left : ℕ) (found wanted : List Dep) → left ≡ 0
    → IsReaching rows deps left found wanted → found ≡ all_reached rows deps
ends_full rows deps left found wanted none so_far =
    sym (append-nil found)
    ∙ ap (λ (ds : List Dep). found ++ ds)
    (sym (ap (λ (n : ℕ). reached_from n rows wanted) none ∙ no_steps rows wanted)) ∙ so_far.whole
