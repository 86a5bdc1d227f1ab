-- What was found, and its ancestors, are the trace.
use Rattle.std.proofs.Common.{◌≡◌, ◌∙◌, ℕ, List, reverse, Option, Some, None, refl, sym, ap}
use Rattle.std.specs.List.{Contains}
use Rattle.std.specs.Option.{option_map}
use Rattle.std.proofs.lemmas.Option.{none-some, same_Some}
use Rattle.lc_base.specs.declared.row.Dep.{Dep}
use Rattle.lc_base.specs.declared.row.Row.{Row}
use Rattle.lc_base.specs.History.{latest, is_version}
use Rattle.root_laws.proofs.Lists.{all_reverse, all_contained, found_has}
use Rattle.root_laws.specs.Ancestors.{ancestors, trace_of, trace_at}
use Rattle.row_walks.specs.declared.finding.Derived.{Derived}
use Rattle.row_walks.specs.Finding.{derived_of}
use Rattle.row_walks.proofs.OneMore.{all_reached}

-- ---- what was found

-- The row of what was found.
pub row_of_found : (rows : List Row) (key : List ℕ) (at : ℕ) (derived : Derived)
    → Some derived ≡ option_map derived_of (latest rows key at)
    → (row : Row) × Contains rows row × (latest rows key at ≡ Some row)
    × (derived ≡ derived_of row)
row_of_found rows key at derived = go (latest rows key at) refl
  where
    go : (o : Option Row) → latest rows key at ≡ o → Some derived ≡ option_map derived_of o
        → (row : Row) × Contains rows row × (latest rows key at ≡ Some row)
        × (derived ≡ derived_of row)
    go None e is = absurd (none-some derived (sym is))
    go (Some row) e is = (
      row,
      found_has (Contains rows) (is_version key at) (reverse rows) row
          (all_reverse (Contains rows) rows (all_contained rows)) e,
      e,
      same_Some derived (derived_of row) is,
    )

pub none_traced : (rows : List Row) (version : Option Row)
    → None ≡ option_map derived_of version → None ≡ trace_of rows version
none_traced rows None is = refl
none_traced rows (Some row) is = absurd (none-some (derived_of row) is)

-- ---- the trace

module _ (rows : List Row) (key : List ℕ) (at : ℕ) (derived : Derived) (row : Row)
    (version : latest rows key at ≡ Some row) (own : derived ≡ derived_of row) where
  pub traced : (found told : List Dep) → found ≡ all_reached rows row.deps → told ≡ reverse found
      → Some (record { block = derived.block; ancestors = told }) ≡ trace_at rows key at
  traced found told all turned =
      let list : told ≡ ancestors rows row = turned ∙ ap reverse all in
      ap (λ (d : Derived). Some (record { block = d.block; ancestors = told })) own
      ∙ ap (λ (ds : List Dep). Some (record { block = row.block; ancestors = ds })) list
      ∙ sym (ap (trace_of rows) version)
