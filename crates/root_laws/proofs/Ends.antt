-- The versions between two blocks rise, and end at the last one up to the last block.
use Rattle.std.proofs.Common.{◌≡◌, ◌∙◌, ℕ, ◌<◌, ◌≤◌, nat_le, ◌==◌, List, [], ◌∷◌, map}
use Rattle.std.proofs.Common.{filter, reverse, slice_get, Some, sym, ap, arith, inl, inr}
use Rattle.std.specs.List.{AllByRecursion, AllPairs, Contains}
use Rattle.std.specs.Cmp.Lexicographic.{pointwise}
use Rattle.std.proofs.lemmas.Bool.{and_parts, leb-true}
use Rattle.std.proofs.lemmas.List.{reverse-append}
use Rattle.std.proofs.lemmas.List.Elements.{All-from_recursion}
use Rattle.std.proofs.lemmas.List.Kept.{AllPairs-cons, AllPairs-filter}
use Rattle.lc_base.specs.declared.row.Row.{Row}
use Rattle.lc_base.specs.declared.row.Version.{Version}
use Rattle.lc_base.specs.History.{IsLawful, StandsBefore, is_version, latest}
use Rattle.root_laws.proofs.Lists.{all_reverse, all_contained, found_has, found_passes}
use Rattle.root_laws.proofs.Lists.{option_cases}
use Rattle.root_laws.proofs.Keys.{same_key}
use Rattle.root_laws.specs.Ranges.{is_between, rows_between, as_version}
use Rattle.root_laws.specs.RangeLaws.{VersionsRise, RangesEndAtTheLatest, RangesMayBeEmpty}
use Rattle.root_laws.proofs.Kept.{InOrder, in_order}
use Rattle.root_laws.proofs.UpTo.{IsBetween, is_before, one_more, none_low, none_between}
use Rattle.root_laws.proofs.UpTo.{all_latest, each_between}

-- ---- they rise

abbrev Rises : Version → Version → Type 0
Rises version next = version.block < next.block

later : (row next : Row) → row.key ≡ next.key → StandsBefore row next → row.block < next.block
later row next same (inl less) = less
later row next same (inr other) = absurd (other.2 same)

all_later : (row : Row) (key : List ℕ) (from to : ℕ) (rows : List Row) → IsBetween key from to row
    → AllByRecursion (StandsBefore row) rows → AllByRecursion (IsBetween key from to) rows
    → AllByRecursion (Rises (as_version row)) (map as_version rows)
all_later row key from to [] is before are = tt
all_later row key from to (next ∷ rows) is before are = (
  later row next
      (same_key row.key key is.key_is ∙ sym (same_key next.key key are.0.key_is)) before.0,
  all_later row key from to rows is before.1 are.1,
)

all_rise : (rows : List Row) (key : List ℕ) (from to : ℕ) → InOrder rows
    → AllByRecursion (IsBetween key from to) rows → AllPairs Rises (map as_version rows)
all_rise [] key from to ordered are = λ i j d less l. absurd (omega (arith, l))
all_rise (row ∷ rows) key from to ordered are =
    AllPairs-cons Rises (as_version row) (map as_version rows)
    (All-from_recursion (Rises (as_version row)) (map as_version rows)
    (all_later row key from to rows are.0 ordered.0 are.1))
    (all_rise rows key from to ordered.1 are.1)

pub rising : VersionsRise
rising rows key from to lawful =
    all_rise (rows_between rows key from to) key from to
    (in_order (rows_between rows key from to)
    (AllPairs-filter StandsBefore (is_between key from to) rows lawful.ordered))
    (each_between rows lawful key from to)

-- ---- where they end

pub latest_there : (rows : List Row) (key : List ℕ) (at : ℕ) (version : Row)
    → latest rows key at ≡ Some version → Contains rows version
latest_there rows key at version e =
    found_has (Contains rows) (is_version key at) (reverse rows) version
    (all_reverse (Contains rows) rows (all_contained rows)) e

pub latest_is : (rows : List Row) (key : List ℕ) (from to : ℕ) (version : Row)
    → latest rows key to ≡ Some version → from ≤ version.block → IsBetween key from to version
latest_is rows key from to version e low =
    let parts = and_parts (pointwise ◌==◌ version.key key) (nat_le version.block to)
    (found_passes (is_version key to) (reverse rows) version e) in
    record { key_is = parts.0; low = low; high = leb-true version.block to parts.1 }

pub last_first : (rows : List Row) (key : List ℕ) (from to : ℕ) (version : Row) → IsLawful rows
    → latest rows key to ≡ Some version → from ≤ version.block
    → reverse (rows_between rows key from to)
    ≡ version ∷ reverse (filter (is_before key from to version.block) rows)
last_first rows key from to version lawful e low =
    ap reverse (all_latest rows lawful key from to version e
    ∙ one_more rows lawful key from to version (latest_there rows key to version e)
    (latest_is rows key from to version e low))
    ∙ reverse-append (filter (is_before key from to version.block) rows) (version ∷ [])

pub ends_at_latest : RangesEndAtTheLatest
ends_at_latest rows key from to version lawful e low =
    ap (λ (rs : List Row). slice_get rs 0) (last_first rows key from to version lawful e low)

pub may_be_empty : RangesMayBeEmpty
may_be_empty rows key from to lawful early = elim (option_cases (latest rows key to)) [
  | inl none ↦ none_between rows lawful key from to none
  | inr s ↦
      all_latest rows lawful key from to s.0 s.1
      ∙ none_low rows lawful key from to s.0.block (early s.0 s.1)
]
