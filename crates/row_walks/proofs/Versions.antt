-- From one version of a key to the one before it, until there is none between the blocks.
use Rattle.std.proofs.Common.{◌≡◌, ◌∙◌, ℕ, suc, ◌-◌, ◌<◌, ◌≤◌, ◌==◌, Bool, true, false, ◌&&◌}
use Rattle.std.proofs.Common.{nat_lt, nat_le, List, [], ◌∷◌, ◌++◌, map, filter, reverse, Option}
use Rattle.std.proofs.Common.{Some, None, refl, sym, ap, arith, inl, inr}
use Rattle.std.specs.Prelude.{SomeIff}
use Rattle.std.specs.List.{AllByRecursion}
use Rattle.std.specs.Option.{option_map}
use Rattle.std.specs.Cmp.Lexicographic.{pointwise}
use Rattle.std.proofs.lemmas.Bool.{cases_Bool, and_right, le-leb, lt-leb, le-ltb, ltb-true, ltb-false}
use Rattle.std.proofs.lemmas.List.{append_assoc, append-nil, reverse-reverse}
use Rattle.std.proofs.lemmas.Option.{none-some, same_Some}
use Rattle.lc_base.specs.declared.row.Row.{Row}
use Rattle.lc_base.specs.declared.row.Version.{Version}
use Rattle.lc_base.specs.History.{IsLawful, latest}
use Rattle.root_laws.specs.Ranges.{as_version, is_between, rows_between, between}
use Rattle.root_laws.proofs.Lists.{map_reverse}
use Rattle.root_laws.proofs.Ends.{last_first, latest_is}
use Rattle.root_laws.proofs.Kept.{filter_same}
use Rattle.root_laws.proofs.UpTo.{is_before, all_latest, none_between, none_low}
use Rattle.row_walks.specs.Finding.{unless_earlier}

-- The rows of the key in blocks from `from` on, up to a block; none if there is no block.
abbrev pub rows_if_any : List Row → List ℕ → ℕ → Option ℕ → List Row
rows_if_any rows key from None = []
rows_if_any rows key from (Some at) = rows_between rows key from at

-- The versions that were found, the last one first, and those up to a block are all of the range.
abbrev pub IsRanging : List Row → List ℕ → ℕ → ℕ → List Version → Option ℕ → Type 0
IsRanging rows key from to found up_to =
    found ++ map as_version (reverse (rows_if_any rows key from up_to))
    ≡ map as_version (reverse (rows_between rows key from to))

-- Turns that may come.
abbrev pub turns_left : Option ℕ → ℕ
turns_left None = 0
turns_left (Some at) = suc at

-- ---- the rows before a block

no_more : (k a : Bool) → ((k && (a && true)) && true) ≡ (k && (a && true))
no_more true true = refl
no_more true false = refl
no_more false a = refl

same_test : (k : Bool) (from at block row : ℕ) → 0 < block → block ≤ at
    → ((k && (nat_le from row && nat_le row at)) && nat_lt row block)
    ≡ (k && (nat_le from row && nat_le row (block - 1)))
same_test k from at block row some low = elim (cases_Bool (nat_lt row block)) [
  | inl t ↦
      let less : row < block = ltb-true row block t in
      let one : nat_le row at ≡ true = le-leb row at (omega (arith, less, low)) in
      let two : nat_le row (block - 1) ≡ true = le-leb row (block - 1) (omega (arith, less)) in
      rw (t, one, two) (no_more k (nat_le from row))
  | inr f ↦
      let past : block ≤ row = ltb-false row block f in
      and_right (k && (nat_le from row && nat_le row at)) (nat_lt row block) f
      ∙ sym (and_right k (nat_le from row && nat_le row (block - 1))
      (and_right (nat_le from row) (nat_le row (block - 1))
      (lt-leb row (block - 1) (omega (arith, past, some)))))
]

each_row : (P : Row → Type 0) → ((row : Row) → P row) → (rows : List Row) → AllByRecursion P rows
each_row P h [] = tt
each_row P h (row ∷ rows) = (h row, each_row P h rows)

none_kept : (p : Row → Bool) → ((row : Row) → p row ≡ false) → (rows : List Row)
    → filter p rows ≡ []
none_kept p h [] = refl
none_kept p h (row ∷ rows) = let f = h row in rw f (none_kept p h rows)

-- The block before this one; none before the first.
abbrev pub IsBefore : ℕ → Option ℕ → Type 0
IsBefore block None = block ≡ 0
IsBefore block (Some at) = suc at ≡ block

pub block_before : (block : ℕ) (up_to : Option ℕ) → SomeIff up_to (1 ≤ block) (block - 1)
    → IsBefore block up_to
block_before block None none = omega (arith, none)
block_before block (Some at) is =
    let some : 1 ≤ block = is.0 in
    let own : at ≡ block - 1 = is.1 in
    omega (arith, some, own)

pub fewer_turns : (at : ℕ) (now : Option ℕ) (block : ℕ) (up_to : Option ℕ) → now ≡ Some at
    → block ≤ at → IsBefore block up_to → turns_left up_to < turns_left now
fewer_turns at now block None is low before =
    let more : turns_left now ≡ suc at = ap turns_left is in omega (arith, more)
fewer_turns at now block (Some last) is low before =
    let more : turns_left now ≡ suc at = ap turns_left is in omega (arith, more, before, low)

module _ (rows : List Row) (key : List ℕ) (from at : ℕ) where
  before_is : (block : ℕ) (up_to : Option ℕ) → block ≤ at → IsBefore block up_to
      → filter (is_before key from at block) rows ≡ rows_if_any rows key from up_to
  before_is block None low first = none_kept (is_before key from at block) none rows
    where
      none : (row : Row) → is_before key from at block row ≡ false
      none row = and_right (is_between key from at row) (nat_lt row.block block)
          (le-ltb row.block block (omega (arith, first)))
  before_is block (Some last) low next =
      filter_same (is_before key from at block) (is_between key from last) rows
      (each_row (λ (row : Row). is_before key from at block row ≡ is_between key from last row)
      same rows)
    where
      same : (row : Row) → is_before key from at block row ≡ is_between key from last row
      same row =
          let is : block - 1 ≡ last = omega (arith, next) in
          same_test (pointwise ◌==◌ row.key key) from at block row.block (omega (arith, next)) low
          ∙ ap (λ (n : ℕ). pointwise ◌==◌ row.key key && (nat_le from row.block && nat_le row.block n))
          is

  -- ---- one version

  -- The row of a version that was found.
  pub row_found : (version : Version)
      → Some version ≡ unless_earlier from (option_map as_version (latest rows key at))
      → (row : Row) × (latest rows key at ≡ Some row) × (version ≡ as_version row)
      × (from ≤ row.block)
  row_found version = go (latest rows key at) refl
    where
      go : (o : Option Row) → latest rows key at ≡ o
          → Some version ≡ unless_earlier from (option_map as_version o)
          → (row : Row) × (latest rows key at ≡ Some row) × (version ≡ as_version row)
          × (from ≤ row.block)
      go None e is = absurd (none-some version (sym is))
      go (Some row) e is = elim (cases_Bool (nat_lt row.block from)) [
        | inl t ↦ absurd (let no : Some version ≡ None = rw t at is in none-some version (sym no))
        | inr f ↦
            let own : Some version ≡ Some (as_version row) = rw f at is in
            (row, e, same_Some version (as_version row) own, ltb-false row.block from f)
      ]

  -- It is of no later block.
  pub found_low : (version : Version)
      → Some version ≡ unless_earlier from (option_map as_version (latest rows key at))
      → version.block ≤ at
  found_low version is =
      let found = row_found version is in
      let between = latest_is rows key from at found.0 found.1 found.3 in
      let high = between.high in
      omega (arith, high, ap (λ (v : Version). v.block) found.2)

  -- Before it come the versions up to the block before its.
  pub one_found : IsLawful rows → (version : Version) (up_to : Option ℕ)
      → Some version ≡ unless_earlier from (option_map as_version (latest rows key at))
      → IsBefore version.block up_to
      → map as_version (reverse (rows_between rows key from at))
      ≡ version ∷ map as_version (reverse (rows_if_any rows key from up_to))
  one_found lawful version up_to is before =
      let found = row_found version is in
      let row = found.0 in
      let block : version.block ≡ row.block = ap (λ (v : Version). v.block) found.2 in
      let low = found_low version is in
      ap (map as_version) (last_first rows key from at row lawful found.1 found.3)
      ∙ ap (λ (v : Version). v ∷ map as_version (reverse (filter (is_before key from at row.block) rows)))
      (sym found.2)
      ∙ ap (λ (n : ℕ). version ∷ map as_version (reverse (filter (is_before key from at n) rows)))
      (sym block)
      ∙ ap (λ (rs : List Row). version ∷ map as_version (reverse rs))
      (before_is version.block up_to low before)

  -- If none was found, none is left.
  pub none_found : IsLawful rows
      → None ≡ unless_earlier from (option_map as_version (latest rows key at))
      → rows_between rows key from at ≡ []
  none_found lawful = go (latest rows key at) refl
    where
      go : (o : Option Row) → latest rows key at ≡ o
          → None ≡ unless_earlier from (option_map as_version o)
          → rows_between rows key from at ≡ []
      go None e is = none_between rows lawful key from at e
      go (Some row) e is = elim (cases_Bool (nat_lt row.block from)) [
        | inl t ↦
            all_latest rows lawful key from at row e
            ∙ none_low rows lawful key from at row.block (ltb-true row.block from t)
        | inr f ↦ absurd (let own : None ≡ Some (as_version row) = rw f at is in
            none-some (as_version row) own)
      ]

-- ---- one after another

module _ (rows : List Row) (key : List ℕ) (from to : ℕ) where
  pub one_ranged : (found more : List Version) (at : ℕ) (version : Version) (up_to : Option ℕ)
      → IsLawful rows
      → Some version ≡ unless_earlier from (option_map as_version (latest rows key at))
      → IsBefore version.block up_to → more ≡ found ++ version ∷ []
      → IsRanging rows key from to found (Some at) → IsRanging rows key from to more up_to
  one_ranged found more at version up_to lawful is before pushed so_far =
      let rest = map as_version (reverse (rows_if_any rows key from up_to)) in
      ap (λ (vs : List Version). vs ++ rest) pushed
      ∙ append_assoc found (version ∷ []) rest
      ∙ ap (λ (vs : List Version). found ++ vs) (sym (one_found rows key from at lawful version
      up_to is before))
      ∙ so_far

  turned : (found : List Version) → found ≡ map as_version (reverse (rows_between rows key from to))
      → reverse found ≡ between rows key from to
  turned found all =
      let rs = rows_between rows key from to in
      ap reverse all ∙ map_reverse as_version (reverse rs) ∙ ap (map as_version) (reverse-reverse rs)

  -- No block is left.
  pub all_ranged : (found told : List Version) (up_to : Option ℕ) → up_to ≡ None
      → told ≡ reverse found → IsRanging rows key from to found up_to
      → told ≡ between rows key from to
  all_ranged found told up_to none is so_far =
      let rest : rows_if_any rows key from up_to ≡ [] = ap (rows_if_any rows key from) none in
      is
      ∙ turned found (sym (append-nil found)
      ∙ sym (ap (λ (rs : List Row). found ++ map as_version (reverse rs)) rest) ∙ so_far)

  -- No version is left.
  pub none_ranged : (found told : List Version) (at : ℕ) → IsLawful rows
      → None ≡ unless_earlier from (option_map as_version (latest rows key at))
      → told ≡ reverse found → IsRanging rows key from to found (Some at)
      → told ≡ between rows key from to
  none_ranged found told at lawful none is so_far =
      let rest : rows_between rows key from at ≡ [] = none_found rows key from at lawful none in
      is
      ∙ turned found (sym (append-nil found)
      ∙ sym (ap (λ (rs : List Row). found ++ map as_version (reverse rs)) rest) ∙ so_far)
