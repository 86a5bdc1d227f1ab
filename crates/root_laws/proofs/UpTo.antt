-- The versions of a key between two blocks, up to one of them.
use Rattle.std.proofs.Common.{◌≡◌, ◌∙◌, ℕ, ◌<◌, ◌≤◌, Bool, true, false, ◌==◌, ◌&&◌, nat_lt, nat_le}
use Rattle.std.proofs.Common.{List, [], ◌∷◌, ◌++◌, filter, Some, None, refl, sym}
use Rattle.std.proofs.Common.{arith, inl, inr}
use Rattle.std.specs.List.{AllByRecursion, Contains}
use Rattle.std.specs.Cmp.Lexicographic.{pointwise}
use Rattle.std.proofs.lemmas.Bool.{and_parts, and_from, ltb-true, leb-true, lt-ltb, le-leb}
use Rattle.std.proofs.lemmas.Bool.{false_from_ne_true}
use Rattle.std.proofs.lemmas.List.Elements.{recursion_from_All, filter_passes}
use Rattle.std.proofs.lemmas.List.Kept.{AllPairs-filter}
use Rattle.lc_base.specs.declared.row.Row.{Row}
use Rattle.lc_base.specs.History.{IsLawful, StandsBefore, below, newest, is_version, latest}
use Rattle.root_laws.proofs.Lists.{all_weaker, not_both, keep_none}
use Rattle.root_laws.proofs.Keys.{same_key}
use Rattle.root_laws.specs.Ranges.{is_between, rows_between}
use Rattle.root_laws.proofs.Kept.{in_order, filter_same, from_kept, filter_last, IsUpTo}
use Rattle.root_laws.proofs.Kept.{last_is_latest, none_pass}

-- Two tests that pass together.
same_test : (b c : Bool) → (b ≡ true → c ≡ true) → (c ≡ true → b ≡ true) → b ≡ c
same_test true c to from = sym (to refl)
same_test false true to from = from refl
same_test false false to from = refl

-- A row passes both of two tests or neither.
abbrev Both : (Row → Bool) → (Row → Bool) → Row → Type 0
Both p q row = (p row ≡ true → q row ≡ true) × (q row ≡ true → p row ≡ true)

abbrev No : (Row → Bool) → Row → Type 0
No p row = p row ≡ true → ⊥

kept_same : (rows : List Row) (p q : Row → Bool) → AllByRecursion (Both p q) rows
    → filter p rows ≡ filter q rows
kept_same rows p q all =
    filter_same p q rows
    (all_weaker (Both p q) (λ (row : Row). p row ≡ q row)
    (λ row both. same_test (p row) (q row) both.0 both.1) rows all)

kept_none : (rows : List Row) (p : Row → Bool) → AllByRecursion (No p) rows → filter p rows ≡ []
kept_none rows p all =
    keep_none p rows
    (all_weaker (No p) (λ (row : Row). p row ≡ false)
    (λ row no. false_from_ne_true (p row) no) rows all)

-- Whether a row is a version between the blocks, and not after this one.
abbrev pub is_up_to : List ℕ → ℕ → ℕ → ℕ → Row → Bool
is_up_to key from to block row = is_between key from to row && nat_le row.block block

-- Whether it is one, and before this block.
abbrev pub is_before : List ℕ → ℕ → ℕ → ℕ → Row → Bool
is_before key from to block row = is_between key from to row && nat_lt row.block block

-- What the test between the blocks says of a row.
pub record IsBetween (key : List ℕ) (from to : ℕ) (row : Row) : Type 0 where
  pub key_is : pointwise ◌==◌ row.key key ≡ true
  pub low : from ≤ row.block
  pub high : row.block ≤ to

between_is : (key : List ℕ) (from to : ℕ) (row : Row) → is_between key from to row ≡ true
    → IsBetween key from to row
between_is key from to row t =
    let parts = and_parts (pointwise ◌==◌ row.key key)
    (nat_le from row.block && nat_le row.block to) t in
    let blocks = and_parts (nat_le from row.block) (nat_le row.block to) parts.1 in
    record {
      key_is = parts.0;
      low = leb-true from row.block blocks.0;
      high = leb-true row.block to blocks.1;
    }

pub is_between_from : (key : List ℕ) (from to : ℕ) (row : Row) → IsBetween key from to row
    → is_between key from to row ≡ true
is_between_from key from to row is =
    and_from (pointwise ◌==◌ row.key key) (nat_le from row.block && nat_le row.block to) is.key_is
    (and_from (nat_le from row.block) (nat_le row.block to) (le-leb from row.block is.low)
    (le-leb row.block to is.high))

pub none_at_all : (rows : List Row) (key : List ℕ) (from to : ℕ) → newest rows key ≡ None
    → rows_between rows key from to ≡ []
none_at_all rows key from to e =
    kept_none rows (is_between key from to)
    (all_weaker (λ (row : Row). pointwise ◌==◌ row.key key ≡ false) (No (is_between key from to))
    (λ row f t. not_both (pointwise ◌==◌ row.key key) (between_is key from to row t).key_is f) rows
    (none_pass (λ (row : Row). pointwise ◌==◌ row.key key) rows e))

module _ (rows : List Row) (lawful : IsLawful rows) (key : List ℕ) (from to : ℕ) where
  -- The versions between the blocks that are not after this one.
  abbrev pub rows_up_to : ℕ → List Row
  rows_up_to block = filter (is_up_to key from to block) rows

  up_to_is : (block : ℕ) (row : Row) → is_up_to key from to block row ≡ true
      → IsBetween key from to row × (row.block ≤ block)
  up_to_is block row t =
      let parts = and_parts (is_between key from to row) (nat_le row.block block) t in
      (between_is key from to row parts.0, leb-true row.block block parts.1)

  up_to_from : (block : ℕ) (row : Row) → IsBetween key from to row → row.block ≤ block
      → is_up_to key from to block row ≡ true
  up_to_from block row is l =
      and_from (is_between key from to row) (nat_le row.block block)
      (is_between_from key from to row is) (le-leb row.block block l)

  before_is : (block : ℕ) (row : Row) → is_before key from to block row ≡ true
      → IsBetween key from to row × (row.block < block)
  before_is block row t =
      let parts = and_parts (is_between key from to row) (nat_lt row.block block) t in
      (between_is key from to row parts.0, ltb-true row.block block parts.1)

  before_from : (block : ℕ) (row : Row) → IsBetween key from to row → row.block < block
      → is_before key from to block row ≡ true
  before_from block row is l =
      and_from (is_between key from to row) (nat_lt row.block block)
      (is_between_from key from to row is) (lt-ltb row.block block l)

  each : (P : Row → Type 0) → ((row : Row) → P row) → (rs : List Row) → AllByRecursion P rs
  each P h [] = tt
  each P h (row ∷ rs) = (h row, each P h rs)

  abbrev of_key : Row → Bool
  of_key row = pointwise ◌==◌ row.key key

  is_version_of : (row : Row) → IsBetween key from to row → is_version key to row ≡ true
  is_version_of row is =
      and_from (of_key row) (nat_le row.block to) is.key_is (le-leb row.block to is.high)

  -- ---- from a version after the blocks

  -- If there is none up to the last block, none is between them.
  pub none_up_to : (block : ℕ) → latest rows key to ≡ None → rows_up_to block ≡ []
  none_up_to block none =
      kept_none rows (is_up_to key from to block)
      (all_weaker (λ (row : Row). is_version key to row ≡ false) (No (is_up_to key from to block))
      (λ row f t. not_both (is_version key to row)
      (is_version_of row (up_to_is block row t).0) f)
      rows (none_pass (is_version key to) rows none))

  -- Those up to it are those up to an earlier one that is after the blocks too.
  pub same_above : (block older : ℕ) → to < older → older < block
      → rows_up_to block ≡ rows_up_to older
  same_above block older above less =
      kept_same rows (is_up_to key from to block) (is_up_to key from to older)
      (each (Both (is_up_to key from to block) (is_up_to key from to older))
      (λ row. (
        (λ t. let is = up_to_is block row t in
            up_to_from older row is.0 (let high = is.0.high in omega (arith, high, above))),
        (λ t. let is = up_to_is older row t in
            up_to_from block row is.0 (let l = is.1 in omega (arith, l, less))),
      )) rows)

  -- Or up to the latest one.
  pub same_latest : (block : ℕ) (last : Row) → latest rows key to ≡ Some last
      → last.block < block → rows_up_to block ≡ rows_up_to last.block
  same_latest block last e less =
      kept_same rows (is_up_to key from to block) (is_up_to key from to last.block)
      (all_weaker (IsUpTo (is_version key to) last)
      (Both (is_up_to key from to block) (is_up_to key from to last.block))
      (λ row h. (
        (λ t. let is = up_to_is block row t in
            up_to_from last.block row is.0 (h (is_version_of row is.0))),
        (λ t. let is = up_to_is last.block row t in
            up_to_from block row is.0 (let l = is.1 in omega (arith, l, less))),
      )) rows
      (last_is_latest (is_version key to) rows last (in_order rows lawful.ordered) e))

  -- ---- from a version between the blocks

  pub one_more : (row : Row) → Contains rows row → IsBetween key from to row
      → rows_up_to row.block ≡ filter (is_before key from to row.block) rows ++ row ∷ []
  one_more row has is =
      filter_last (is_up_to key from to row.block) (is_before key from to row.block) rows row
      (in_order rows lawful.ordered) has
      (up_to_from row.block row is (omega arith))
      (false_from_ne_true (is_before key from to row.block row)
      (λ t. let no = (before_is row.block row t).1 in omega (arith, no)))
      early late
    where
      other_key : (other : Row) → (other.key ≡ row.key → ⊥) → IsBetween key from to other → ⊥
      other_key other apart between =
          apart (same_key other.key key between.key_is ∙ sym (same_key row.key key is.key_is))

      early : (other : Row) → StandsBefore other row
          → is_up_to key from to row.block other ≡ is_before key from to row.block other
      early other (inl less) =
          same_test (is_up_to key from to row.block other) (is_before key from to row.block other)
          (λ t. before_from row.block other (up_to_is row.block other t).0 less)
          (λ t. up_to_from row.block other (before_is row.block other t).0 (omega (arith, less)))
      early other (inr same) =
          same_test (is_up_to key from to row.block other) (is_before key from to row.block other)
          (λ t. absurd (other_key other same.2 (up_to_is row.block other t).0))
          (λ t. absurd (other_key other same.2 (before_is row.block other t).0))

      late : (other : Row) → StandsBefore row other
          → (is_up_to key from to row.block other ≡ false)
          × (is_before key from to row.block other ≡ false)
      late other (inl less) = (
        false_from_ne_true (is_up_to key from to row.block other)
            (λ t. let no = (up_to_is row.block other t).1 in omega (arith, no, less)),
        false_from_ne_true (is_before key from to row.block other)
            (λ t. let no = (before_is row.block other t).1 in omega (arith, no, less)),
      )
      late other (inr same) = (
        false_from_ne_true (is_up_to key from to row.block other)
            (λ t. other_key other (λ e. same.2 (sym e)) (up_to_is row.block other t).0),
        false_from_ne_true (is_before key from to row.block other)
            (λ t. other_key other (λ e. same.2 (sym e)) (before_is row.block other t).0),
      )

  abbrev is_earlier : ℕ → Row → Bool
  is_earlier block row = nat_lt row.block block

  pub none_before : (block : ℕ) → newest (below rows block) key ≡ None
      → filter (is_before key from to block) rows ≡ []
  none_before block e =
      kept_none rows (is_before key from to block)
      (all_weaker (λ (row : Row). nat_lt row.block block ≡ true → of_key row ≡ false)
      (No (is_before key from to block))
      (λ row h t. let is = before_is block row t in
      not_both (of_key row) is.0.key_is (h (lt-ltb row.block block is.1)))
      rows
      (from_kept (λ (row : Row). of_key row ≡ false) (is_earlier block) rows
      (none_pass of_key (below rows block) e)))

  pub before_same : (block : ℕ) (last : Row) → newest (below rows block) key ≡ Some last
      → last.block < block → filter (is_before key from to block) rows ≡ rows_up_to last.block
  before_same block last e less =
      kept_same rows (is_before key from to block) (is_up_to key from to last.block)
      (all_weaker (λ (row : Row). nat_lt row.block block ≡ true → IsUpTo of_key last row)
      (Both (is_before key from to block) (is_up_to key from to last.block))
      (λ row h. (
        (λ t. let is = before_is block row t in
            up_to_from last.block row is.0 (h (lt-ltb row.block block is.1) is.0.key_is)),
        (λ t. let is = up_to_is last.block row t in
            before_from block row is.0 (let l = is.1 in omega (arith, l, less))),
      )) rows
      (from_kept (IsUpTo of_key last) (is_earlier block) rows
      (last_is_latest of_key (below rows block) last
      (in_order (below rows block) (AllPairs-filter StandsBefore (is_earlier block) rows
      lawful.ordered)) e)))

  -- ---- before the blocks

  pub none_low : (block : ℕ) → block < from → rows_up_to block ≡ []
  none_low block low =
      kept_none rows (is_up_to key from to block)
      (each (No (is_up_to key from to block))
      (λ row t. let is = up_to_is block row t in
      let l = is.1 in let m = is.0.low in omega (arith, l, m, low)) rows)

  -- ---- all of them

  pub all_up_to : (last : Row) → newest rows key ≡ Some last
      → rows_between rows key from to ≡ rows_up_to last.block
  all_up_to last e =
      kept_same rows (is_between key from to) (is_up_to key from to last.block)
      (all_weaker (IsUpTo of_key last)
      (Both (is_between key from to) (is_up_to key from to last.block))
      (λ row h. (
        (λ t. let is = between_is key from to row t in
            up_to_from last.block row is (h is.key_is)),
        (λ t. is_between_from key from to row (up_to_is last.block row t).0),
      )) rows
      (last_is_latest of_key rows last (in_order rows lawful.ordered) e))

  -- If there is none up to the last block, there is none between them.
  pub none_between : latest rows key to ≡ None → rows_between rows key from to ≡ []
  none_between e =
      kept_none rows (is_between key from to)
      (all_weaker (λ (row : Row). is_version key to row ≡ false) (No (is_between key from to))
      (λ row f t. not_both (is_version key to row)
      (is_version_of row (between_is key from to row t)) f) rows
      (none_pass (is_version key to) rows e))

  -- The latest one up to the last block is the last of them.
  pub all_latest : (last : Row) → latest rows key to ≡ Some last
      → rows_between rows key from to ≡ rows_up_to last.block
  all_latest last e =
      kept_same rows (is_between key from to) (is_up_to key from to last.block)
      (all_weaker (IsUpTo (is_version key to) last)
      (Both (is_between key from to) (is_up_to key from to last.block))
      (λ row h. (
        (λ t. let is = between_is key from to row t in
            up_to_from last.block row is (h (is_version_of row is))),
        (λ t. is_between_from key from to row (up_to_is last.block row t).0),
      )) rows
      (last_is_latest (is_version key to) rows last (in_order rows lawful.ordered) e))

  pub each_between : AllByRecursion (IsBetween key from to) (rows_between rows key from to)
  each_between =
      all_weaker (λ (row : Row). is_between key from to row ≡ true) (IsBetween key from to)
      (λ row t. between_is key from to row t) (rows_between rows key from to)
      (recursion_from_All (λ (row : Row). is_between key from to row ≡ true)
      (rows_between rows key from to) (filter_passes (is_between key from to) rows))
