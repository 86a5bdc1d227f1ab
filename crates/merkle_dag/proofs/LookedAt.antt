-- A look-up in a ledger looks at few versions.
use Rattle.std.proofs.Common.{◌≡◌, ◌==◌, ℕ, zero, suc, ◌+◌, ◌-◌, ◌^◌, ◌<◌, ◌≤◌, List, length}
use Rattle.std.proofs.Common.{Option, None, Some, refl, ap, sym, subst, arith, inl, inr}
use Rattle.std.specs.Prelude.{reverse}
use Rattle.std.proofs.lemmas.Bool.{cases_lt, lt-ltb, le-ltb}
use Rattle.std.proofs.lemmas.List.Elements.{recursion_from_All}
use Rattle.std.specs.Cmp.Lexicographic.{pointwise}
use Rattle.lc_base.specs.declared.digest.Digest.{Digest}
use Rattle.lc_base.specs.declared.row.Row.{Row}
use Rattle.lc_base.specs.History.{newest}
use Rattle.skip_links.specs.declared.limits.TheConstants.{MAX_LEVEL}
use Rattle.skip_links.specs.Paths.{path, digits_up_to}
use Rattle.skip_links.proofs.OverRows.{path_short, path_none}
use Rattle.lineage_rewind.specs.entry_store.Steps.{raised_count}
use Rattle.lineage_rewind.proofs.root_laws.Lists.{all_reverse, found_has}
use Rattle.merkle_dag.specs.Ledger.{IsLedger, most_looked_at}

-- ---- a greater number has no fewer digits

digits_few : (d n : ℕ) → digits_up_to d n ≤ suc d
unfolding digits_up_to
digits_few zero n = omega arith
digits_few (suc d) n = elim (cases_lt n (2 ^ suc d)) [
  | inl less ↦ rw (lt-ltb n (2 ^ suc d) less) (omega (arith, digits_few d n))
  | inr more ↦ rw (le-ltb n (2 ^ suc d) more) (omega arith)
]

digits_grow : (d m n : ℕ) → m ≤ n → digits_up_to d m ≤ digits_up_to d n
unfolding digits_up_to
digits_grow zero m n below = omega arith
digits_grow (suc d) m n below = elim (cases_lt n (2 ^ suc d)) [
  | inl less ↦ rw (lt-ltb n (2 ^ suc d) less, lt-ltb m (2 ^ suc d) (omega (arith, below, less)))
      (digits_grow d m n below)
  | inr more ↦ rw (le-ltb n (2 ^ suc d) more) (digits_few (suc d) m)
]

-- ---- so the newest version of a key bounds no more than the last block does

pub looked_at_few : (rows : List Row) (digests : List Digest) (key : List ℕ) (at : ℕ)
    → IsLedger rows digests → length (path rows key at) ≤ most_looked_at digests
looked_at_few rows digests key at ledger = from_newest (newest rows key) refl
  where
    from_newest : (o : Option Row) → newest rows key ≡ o
        → length (path rows key at) ≤ most_looked_at digests
    from_newest None none = omega (arith, ap length (path_none rows key at none))
    from_newest (Some version) is =
        let within : version.block < length digests =
        found_has (λ (row : Row). row.block < length digests)
        (λ (row : Row). pointwise ◌==◌ row.key key) (reverse rows) version
        (all_reverse (λ (row : Row). row.block < length digests) rows
        (recursion_from_All (λ (row : Row). row.block < length digests) rows
        ledger.within)) is in
        let short = path_short rows key at version ledger.lawful is
        (omega (arith, within, ledger.few)) in
        omega (
          arith,
          short,
          digits_grow MAX_LEVEL version.block (length digests - 1)
              (omega (arith, within)),
        )

-- a count that rose by the length of a path rose by no more than that
pub count_few : (rows : List Row) (digests : List Digest) (key : List ℕ) (at before after : ℕ)
    → IsLedger rows digests → after ≡ raised_count before (length (path rows key at))
    → after ≤ before + most_looked_at digests
count_few rows digests key at before after ledger is =
    subst (λ (n : ℕ). n ≤ before + most_looked_at digests) (sym is)
    (raised_few before (length (path rows key at)) (most_looked_at digests)
    (looked_at_few rows digests key at ledger))
  where
    raised_few : (count more most : ℕ) → more ≤ most → raised_count count more ≤ count + most
    raised_few count more most few = omega (arith, few)
