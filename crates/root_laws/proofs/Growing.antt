-- Rows of later blocks change nothing of the rows up to a block, of what is named before it, or of
-- uses among these rows.
use Rattle.std.proofs.Common.{◌≡◌, ◌∙◌, ℕ, zero, suc, ◌≤◌, ◌<◌, true, false, ◌==◌, nat_lt, nat_le, List, ◌++◌, refl, ap, arith, map, filter, reverse}
use Rattle.std.specs.List.{fold, All, AllByRecursion}
use Rattle.std.specs.Option.{option_or}
use Rattle.std.specs.Cmp.Lexicographic.{pointwise}
use Rattle.std.proofs.lemmas.List.{append-nil, map-append, reverse-append}
use Rattle.std.proofs.lemmas.List.Elements.{filter-append, recursion_from_All}
use Rattle.std.proofs.lemmas.List.Sums.{fold-append}
use Rattle.std.proofs.lemmas.List.Folds.{find-append}
use Rattle.std.proofs.lemmas.Bool.{lt-ltb, le-ltb, le-leb, lt-leb, eq-eqb, ne_eqb}
use Rattle.lc_base.specs.declared.row.Row.{Row}
use Rattle.lc_base.specs.declared.row.Dep.{Dep}
use Rattle.lc_base.specs.History.{below, up_to, newest, uses, depends_on, version_of}
use Rattle.prov_entry.specs.ForwardLists.{with_use, no_uses, uses_digest}
use Rattle.root_laws.specs.Naming.{named_before, named_by, is_of_block, header_of, header_among, body_of, body_among}
use Rattle.root_laws.specs.GrowthLaws.{AreFrom}
use Rattle.root_laws.proofs.Lists.{all_weaker, all_append, keep_all, keep_none}

abbrev pub IsFrom : ℕ → Row → Type 0
IsFrom block row = block ≤ row.block

abbrev pub IsBefore : ℕ → Row → Type 0
IsBefore block row = row.block < block

abbrev pub IsIn : ℕ → Row → Type 0
IsIn block row = row.block ≡ block

-- ---- when rows of later blocks are appended

pub up_to_low : (rows more : List Row) (m : ℕ) → AllByRecursion (IsFrom (suc m)) more → up_to (rows ++ more) m ≡ up_to rows m
up_to_low rows more m later =
    let none = keep_none (λ (row : Row). nat_le row.block m) more (all_weaker (IsFrom (suc m)) (λ (row : Row). nat_le row.block m ≡ false) (λ row h. lt-leb row.block m (omega (arith, h))) more later) in
    filter-append (λ (row : Row). nat_le row.block m) rows more ∙ rw none (append-nil (up_to rows m))

pub below_low : (rows more : List Row) (m : ℕ) → AllByRecursion (IsFrom m) more → below (rows ++ more) m ≡ below rows m
below_low rows more m later =
    let none = keep_none (λ (row : Row). nat_lt row.block m) more (all_weaker (IsFrom m) (λ (row : Row). nat_lt row.block m ≡ false) (λ row h. le-ltb row.block m h) more later) in
    filter-append (λ (row : Row). nat_lt row.block m) rows more ∙ rw none (append-nil (below rows m))

of_block_low : (rows more : List Row) (m : ℕ) → AllByRecursion (IsFrom (suc m)) more → filter (is_of_block m) (rows ++ more) ≡ filter (is_of_block m) rows
of_block_low rows more m later =
    let none = keep_none (is_of_block m) more (all_weaker (IsFrom (suc m)) (λ (row : Row). is_of_block m row ≡ false) (λ row h. ne_eqb row.block m (λ e. omega (arith, h, e))) more later) in
    filter-append (is_of_block m) rows more ∙ rw none (append-nil (filter (is_of_block m) rows))

from_weaker : (more : List Row) (m n : ℕ) → m ≤ n → AllByRecursion (IsFrom n) more → AllByRecursion (IsFrom m) more
from_weaker more m n l later = all_weaker (IsFrom n) (IsFrom m) (λ row h. omega (arith, l, h)) more later

named_low : (rows more : List Row) (m : ℕ) → AllByRecursion (IsFrom m) more → named_before (rows ++ more) m ≡ named_before rows m
unfolding named_before
named_low rows more zero later = refl
named_low rows more (suc m) later =
    let before = named_low rows more m (from_weaker more m (suc m) (omega arith) later) in
    rw (before, up_to_low rows more m later, of_block_low rows more m later) refl

pub earlier_versions_stay : (rows more : List Row) (block : ℕ) → AreFrom block more → named_before (rows ++ more) block ≡ named_before rows block
earlier_versions_stay rows more block later = named_low rows more block (recursion_from_All (IsFrom block) more later)

pub earlier_headers_stay : (rows more : List Row) (row : Row) → AreFrom (suc row.block) more
    → (header_of (rows ++ more) row ≡ header_of rows row) × (body_of (rows ++ more) row ≡ body_of rows row)
earlier_headers_stay rows more row later =
    let from = recursion_from_All (IsFrom (suc row.block)) more later in
    let named = named_low rows more row.block (from_weaker more row.block (suc row.block) (omega arith) from) in
    let rows_are = up_to_low rows more row.block from in (
      ap (λ rs. header_among rs (named_before (rows ++ more) row.block) row) rows_are ∙ ap (λ ns. header_among (up_to rows row.block) ns row) named,
      ap (λ ns. body_among ns row) named,
    )

-- ---- when the rows of one block are appended to those of earlier ones

pub up_to_now : (rows new : List Row) (n : ℕ) → AllByRecursion (IsBefore n) rows → AllByRecursion (IsIn n) new → up_to (rows ++ new) n ≡ rows ++ new
up_to_now rows new n old now = keep_all (λ (row : Row). nat_le row.block n) (rows ++ new)
    (all_append (λ (row : Row). nat_le row.block n ≡ true) rows new
    (all_weaker (IsBefore n) (λ (row : Row). nat_le row.block n ≡ true) (λ row h. le-leb row.block n (omega (arith, h))) rows old)
    (all_weaker (IsIn n) (λ (row : Row). nat_le row.block n ≡ true) (λ row h. le-leb row.block n (omega (arith, h))) new now))

of_block_now : (rows new : List Row) (n : ℕ) → AllByRecursion (IsBefore n) rows → AllByRecursion (IsIn n) new → filter (is_of_block n) (rows ++ new) ≡ new
of_block_now rows new n old now =
    let none = keep_none (is_of_block n) rows (all_weaker (IsBefore n) (λ (row : Row). is_of_block n row ≡ false) (λ row h. ne_eqb row.block n (λ e. omega (arith, h, e))) rows old) in
    let all = keep_all (is_of_block n) new (all_weaker (IsIn n) (λ (row : Row). is_of_block n row ≡ true) (λ row h. eq-eqb row.block n h) new now) in
    filter-append (is_of_block n) rows new ∙ rw (none, all) refl

pub below_now : (rows new : List Row) (n : ℕ) → AllByRecursion (IsBefore n) rows → AllByRecursion (IsIn n) new → below (rows ++ new) n ≡ rows
below_now rows new n old now =
    below_low rows new n (all_weaker (IsIn n) (IsFrom n) (λ row h. omega (arith, h)) new now)
    ∙ keep_all (λ (row : Row). nat_lt row.block n) rows (all_weaker (IsBefore n) (λ (row : Row). nat_lt row.block n ≡ true) (λ row h. lt-ltb row.block n h) rows old)

named_now : (rows new : List Row) (n : ℕ) → AllByRecursion (IsBefore n) rows → AllByRecursion (IsIn n) new
    → named_before (rows ++ new) (suc n) ≡ named_before rows n ++ map (named_by (rows ++ new) (named_before rows n)) new
unfolding named_before
named_now rows new n old now =
    rw (named_low rows new n (all_weaker (IsIn n) (IsFrom n) (λ row h. omega (arith, h)) new now), up_to_now rows new n old now, of_block_now rows new n old now) refl

pub block_is_named : (rows new : List Row) (block : ℕ) → All (λ (row : Row). row.block < block) rows → All (λ (row : Row). row.block ≡ block) new
    → named_before (rows ++ new) (suc block) ≡ named_before rows block ++ map (named_by (rows ++ new) (named_before rows block)) new
block_is_named rows new block old now = named_now rows new block (recursion_from_All (IsBefore block) rows old) (recursion_from_All (IsIn block) new now)

-- ---- newest versions and uses

pub newest_append : (rows more : List Row) (key : List ℕ) → newest (rows ++ more) key ≡ option_or (newest more key) (newest rows key)
newest_append rows more key = rw (reverse-append rows more) (find-append (λ (row : Row). pointwise ◌==◌ row.key key) (reverse more) (reverse rows))

pub uses_append : (rows more : List Row) (key : List ℕ) (block : ℕ) → uses (rows ++ more) key block ≡ uses rows key block ++ uses more key block
uses_append rows more key block = rw (filter-append (depends_on key block) rows more) (map-append version_of (filter (depends_on key block) rows) (filter (depends_on key block) more))

pub uses_digest_append : (first more : List Dep) → uses_digest (first ++ more) ≡ fold with_use (uses_digest first) more
uses_digest_append first more = fold-append with_use no_uses first more
