-- The rows of a typed history up to a block are a typed history.
use Rattle.std.proofs.Common.{◌≡◌, ℕ, ◌≤◌, Bool, true, nat_lt, nat_le, List, [], ◌∷◌, length, sym, subst, arith, filter, inl, inr, IsSomeAnd}
use Rattle.std.specs.List.{All}
use Rattle.std.proofs.lemmas.Bool.{cases_Bool, ltb-true, leb-true, le-leb}
use Rattle.std.proofs.lemmas.List.Elements.{recursion_from_All, All-from_recursion, All-filter, filter_passes}
use Rattle.std.proofs.lemmas.List.Kept.{AllPairs-filter}
use Rattle.lc_base.specs.declared.row.Row.{Row}
use Rattle.lc_base.specs.declared.row.Dep.{Dep}
use Rattle.lc_base.specs.History.{IsLawful, HasLawfulDeps, StandsBefore, below, up_to, newest}
use Rattle.skip_links.proofs.Towers.{filter_twice}
use Rattle.root_laws.proofs.Lists.{all_weaker, all_both}
use Rattle.root_laws.specs.TypedLedger.{IsTypedRow}
use Rattle.root_laws.specs.TypedLaws.{PartsAreTyped, BlocksAreTyped}

pub filter_short : {X : Type 0} (p : X → Bool) (xs : List X) → length (filter p xs) ≤ length xs
filter_short p [] = omega arith
filter_short p (x ∷ xs) = let rest = filter_short p xs in elim (cases_Bool (p x)) [
  | inl t ↦ rw t (omega (arith, rest))
  | inr t ↦ rw t (omega (arith, rest))
]

below_of_up_to : (rows : List Row) (block at : ℕ) → at ≤ block → below (up_to rows block) at ≡ below rows at
below_of_up_to rows block at l = filter_twice (λ (row : Row). nat_lt row.block at) (λ (row : Row). nat_le row.block block) rows
    (λ row t. let low = ltb-true row.block at t in le-leb row.block block (omega (arith, low, l)))

deps_up_to : (rows : List Row) (block : ℕ) (row : Row) → HasLawfulDeps rows row → nat_le row.block block ≡ true → HasLawfulDeps (up_to rows block) row
deps_up_to rows block row deps t = record {
  few = deps.few;
  once = deps.once;
  newest = subst (λ (rs : List Row). All (λ (dep : Dep). IsSomeAnd (newest rs dep.key) (λ (version : Row). version.block ≡ dep.block)) row.deps)
      (sym (below_of_up_to rows block row.block (leb-true row.block block t))) deps.newest;
}

-- The rows of a lawful history up to a block are a lawful history.
pub lawful_up_to : (rows : List Row) (block : ℕ) → IsLawful rows → IsLawful (up_to rows block)
lawful_up_to rows block lawful =
    let p : Row → Bool = λ (row : Row). nat_le row.block block in
    let short = filter_short p rows in
    let deps = recursion_from_All (HasLawfulDeps rows) (up_to rows block) (All-filter p (HasLawfulDeps rows) rows lawful.lawful_deps) in
    let early = recursion_from_All (λ (row : Row). p row ≡ true) (up_to rows block) (filter_passes p rows) in
    record {
      few = omega (arith, lawful.few, short);
      ordered = AllPairs-filter StandsBefore p rows lawful.ordered;
      lawful_deps = All-from_recursion (HasLawfulDeps (up_to rows block)) (up_to rows block)
          (all_weaker (λ (row : Row). HasLawfulDeps rows row × (p row ≡ true)) (HasLawfulDeps (up_to rows block)) (λ row both. deps_up_to rows block row both.0 both.1) (up_to rows block)
          (all_both (HasLawfulDeps rows) (λ (row : Row). p row ≡ true) (up_to rows block) deps early));
    }

pub rows_up_to : (rows : List Row) (block : ℕ) → All IsTypedRow rows → All IsTypedRow (up_to rows block)
rows_up_to rows block are = All-filter (λ (row : Row). nat_le row.block block) IsTypedRow rows are

pub parts_typed : PartsAreTyped
parts_typed rows block history = record { lawful = lawful_up_to rows block history.lawful; typed = rows_up_to rows block history.typed }

pub blocks_typed : BlocksAreTyped
blocks_typed rows digests block ledger within = (omega (arith, ledger.few, within), ledger.digests_fit block (record { 0 = [] }) within)
