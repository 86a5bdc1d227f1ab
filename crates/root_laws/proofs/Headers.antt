-- The texts of a lawful history name its rows by the digests of their headers.
use Rattle.std.proofs.Common.{◌≡◌, ◌∙◌, ℕ, zero, suc, ◌+◌, ◌<◌, Bool, true, false, ◌==◌, nat_lt, nat_le, List, get_or, map, filter, reverse, Option, Some, None, refl, sym, ap, arith, inl, inr}
use Rattle.std.specs.List.{find, list_any, All, AllByRecursion, Contains, range_with_len}
use Rattle.std.specs.Option.{option_map, option_or, IsSomeAnd}
use Rattle.std.specs.Cmp.Lexicographic.{pointwise}
use Rattle.std.proofs.lemmas.List.{reverse-append, get_or_default}
use Rattle.std.proofs.lemmas.List.Elements.{recursion_from_All, All-from_recursion, All-filter, filter_passes}
use Rattle.std.proofs.lemmas.List.Folds.{find-append, list_any_at}
use Rattle.std.proofs.lemmas.Bool.{cases_lt, cases_order, and_parts, and_from, and_right, eqb-true, eq-eqb, ne_eqb, ltb-true}
use Rattle.std.proofs.lemmas.Option.{none-some, same_Some}
use Rattle.lc_base.specs.declared.row.Row.{Row}
use Rattle.lc_base.specs.declared.row.Dep.{Dep}
use Rattle.lc_base.specs.History.{IsLawful, HasLawfulDeps, IsRecordedFrom, StandsBefore, below, up_to, newest}
use Rattle.skip_links.specs.Links.{links, link, is_linked, is_older, is_at_level, height}
use Rattle.prov_entry.specs.declared.entry.BodyDep.{BodyDep}
use Rattle.prov_entry.specs.Spelling.{header_text}
use Rattle.prov_entry.specs.merkle_tree.Levels.{digest_of}
use Rattle.root_laws.specs.Naming.{named_before, named_by, is_of_block, is_named, digest_among, with_digest, link_among, header_among, header_of, body_of}
use Rattle.root_laws.specs.Root.{leaf_of}
use Rattle.root_laws.specs.WalkLaws.{is_version_in}
use Rattle.root_laws.specs.NamingLaws.{NamesHeader, IsToOlder, IsOnOlder, digest_of_row}
use Rattle.root_laws.proofs.Lists.{all_weaker, all_reverse, all_map, all_filter_map, all_contained, contained, any_filter, find_map, find_none, found_has, found_passes, last_only, map_reverse}
use Rattle.root_laws.proofs.Keys.{same_key, key_is_key}

-- a history has one row of a key and a block
pub only_row : (rows : List Row) (row : Row) → IsLawful rows → Contains rows row → All (λ (y : Row). is_version_in row.key row.block y ≡ true → y ≡ row) rows
only_row rows row lawful has j d l t =
    let at : get_or rows has.0 d ≡ row = get_or_default rows has.0 d row has.1 ∙ has.2 in
    let parts = and_parts (pointwise ◌==◌ (get_or rows j d).key row.key) ((get_or rows j d).block == row.block) t in
    let key : (get_or rows j d).key ≡ row.key = same_key (get_or rows j d).key row.key parts.0 in
    let block : (get_or rows j d).block ≡ row.block = eqb-true (get_or rows j d).block row.block parts.1 in
    elim (cases_order j has.0) [
      | inl e ↦ ap (λ (i : ℕ). get_or rows i d) e ∙ at
      | inr (inl less) ↦ absurd (apart (get_or rows j d) row (rw at at (lawful.ordered j has.0 d less has.1)) key block)
      | inr (inr more) ↦ absurd (apart row (get_or rows j d) (rw at at (lawful.ordered has.0 j d more l)) (sym key) (sym block))
    ]
  where
    apart : (a b : Row) → StandsBefore a b → a.key ≡ b.key → a.block ≡ b.block → ⊥
    apart a b (inl less) key block = omega (arith, less, block)
    apart a b (inr same) key block = same.2 key

find_named : (rows : List Row) (named : List BodyDep) (new : List Row) (key : List ℕ) (block : ℕ) → find (is_named key block) (reverse (map (named_by rows named) new)) ≡ option_map (named_by rows named) (find (is_version_in key block) (reverse new))
unfolding named_by
find_named rows named new key block = rw (map_reverse (named_by rows named) new) (find_map (is_named key block) (named_by rows named) (reverse new))

digest_of_name : (rows : List Row) (named : List BodyDep) (row : Row) → (named_by rows named row).digest ≡ digest_of (header_text (header_among rows named row))
unfolding named_by
digest_of_name rows named row = refl

found_by : (rows : List Row) (m : ℕ) (key : List ℕ) (block : ℕ) → find (is_named key block) (reverse (named_before rows (suc m)))
    ≡ option_or (option_map (named_by (up_to rows m) (named_before rows m)) (find (is_version_in key block) (reverse (filter (is_of_block m) rows)))) (find (is_named key block) (reverse (named_before rows m)))
unfolding named_before
found_by rows m key block =
    ap (find (is_named key block)) (reverse-append (named_before rows m) (map (named_by (up_to rows m) (named_before rows m)) (filter (is_of_block m) rows)))
    ∙ (find-append (is_named key block) (reverse (map (named_by (up_to rows m) (named_before rows m)) (filter (is_of_block m) rows))) (reverse (named_before rows m))
    ∙ rw (find_named (up_to rows m) (named_before rows m) (filter (is_of_block m) rows) key block) refl)

found_here : (rows : List Row) (row : Row) → IsLawful rows → Contains rows row → find (is_version_in row.key row.block) (reverse (filter (is_of_block row.block) rows)) ≡ Some row
found_here rows row lawful has =
    let P : Row → Type 0 = λ (y : Row). is_version_in row.key row.block y ≡ true → y ≡ row in
    let own : is_version_in row.key row.block row ≡ true = and_from (pointwise ◌==◌ row.key row.key) (row.block == row.block) (key_is_key row.key) (eq-eqb row.block row.block refl) in
    let any : list_any (is_version_in row.key row.block) rows ≡ true = list_any_at (is_version_in row.key row.block) rows has.0 row has.1 (ap (is_version_in row.key row.block) has.2 ∙ own) in
    last_only (is_version_in row.key row.block) (filter (is_of_block row.block) rows) row
    (recursion_from_All P (filter (is_of_block row.block) rows) (All-filter (is_of_block row.block) P rows (only_row rows row lawful has)))
    (any_filter (is_version_in row.key row.block) (is_of_block row.block) rows (λ x t. (and_parts (pointwise ◌==◌ x.key row.key) (x.block == row.block) t).1) ∙ any)

not_here : (rows : List Row) (m : ℕ) (key : List ℕ) (block : ℕ) → block < m → find (is_version_in key block) (reverse (filter (is_of_block m) rows)) ≡ None
not_here rows m key block l = find_none (is_version_in key block) (reverse (filter (is_of_block m) rows))
    (all_reverse (λ (y : Row). is_version_in key block y ≡ false) (filter (is_of_block m) rows)
    (all_weaker (λ (y : Row). is_of_block m y ≡ true) (λ (y : Row). is_version_in key block y ≡ false)
    (λ y t. let at = eqb-true y.block m t in and_right (pointwise ◌==◌ y.key key) (y.block == block) (ne_eqb y.block block (λ e. omega (arith, e, at, l))))
    (filter (is_of_block m) rows) (recursion_from_All (λ (y : Row). is_of_block m y ≡ true) (filter (is_of_block m) rows) (filter_passes (is_of_block m) rows))))

-- the digest by which later texts name a row, at any block after the row's
pub row_is_named : (rows : List Row) (row : Row) (m : ℕ) → IsLawful rows → Contains rows row → row.block < m → digest_among (named_before rows m) row.key row.block ≡ digest_of_row rows row
row_is_named rows row zero lawful has l = absurd (omega arith)
row_is_named rows row (suc m) lawful has l = elim (cases_lt row.block m) [
  | inl less ↦ rw (found_by rows m row.key row.block, not_here rows m row.key row.block less) (row_is_named rows row m lawful has less)
  | inr past ↦
      let e : m ≡ row.block = omega (arith, l, past) in
      rw e (rw (found_by rows row.block row.key row.block, found_here rows row lawful has) (digest_of_name (up_to rows row.block) (named_before rows row.block) row))
]

-- a row that is known by its key and its block
names : (rows : List Row) (row : Row) (key : List ℕ) (block m : ℕ) → IsLawful rows → Contains rows row → row.key ≡ key → row.block ≡ block → block < m
    → NamesHeader rows key block (digest_among (named_before rows m) key block)
names rows row key block m lawful has k b l = record {
  row = row;
  there = has;
  key_is = k;
  block_is = b;
  digest_is =
      ap (λ (x : List ℕ). digest_among (named_before rows m) x block) (sym k) ∙ ap (digest_among (named_before rows m) row.key) (sym b)
      ∙ row_is_named rows row m lawful has (omega (arith, b, l));
}

-- ---- links

block_found : (o : Option Row) (block : ℕ) → option_map (λ (row : Row). row.block) o ≡ Some block → (row : Row) × (o ≡ Some row) × (row.block ≡ block)
block_found None block e = absurd (none-some block e)
block_found (Some row) block e = (row, refl, same_Some row.block block e)

-- an older version of the key
abbrev pub IsOlder : List Row → List ℕ → ℕ → ℕ → Type 0
IsOlder rows key block c = (row : Row) × Contains rows row × (row.key ≡ key) × (row.block ≡ c) × (c < block)

pub kept_rows : (rows : List Row) (p : Row → Bool) → AllByRecursion (Contains rows) (filter p rows)
kept_rows rows p = recursion_from_All (Contains rows) (filter p rows) (All-filter p (Contains rows) rows (All-from_recursion (Contains rows) rows (all_contained rows)))

links_are_older : (rows : List Row) (key : List ℕ) (block : ℕ) → AllByRecursion (IsOlder rows key block) (links (up_to rows block) key block)
unfolding links link
links_are_older rows key block = all_filter_map (IsOlder rows key block) (link (up_to rows block) key block) (range_with_len 0 (height (up_to rows block) key block + 1)) each
  where
    inside : AllByRecursion (Contains rows) (reverse (up_to rows block))
    inside = all_reverse (Contains rows) (up_to rows block) (kept_rows rows (λ (row : Row). nat_le row.block block))

    each : (level y : ℕ) → link (up_to rows block) key block level ≡ Some y → IsOlder rows key block y
    each level y e =
        let found = block_found (find (is_linked (up_to rows block) key block level) (reverse (up_to rows block))) y e in
        let row = found.0 in
        let passes = found_passes (is_linked (up_to rows block) key block level) (reverse (up_to rows block)) row found.1 in
        let older = (and_parts (is_older key block row) (is_at_level (up_to rows block) key row.block level) passes).0 in
        let parts = and_parts (pointwise ◌==◌ row.key key) (nat_lt row.block block) older in
        let low = ltb-true row.block block parts.1 in
        (row, found_has (Contains rows) (is_linked (up_to rows block) key block level) (reverse (up_to rows block)) row inside found.1, same_key row.key key parts.0, found.2, omega (arith, found.2, low))

pub links_are_named : (rows : List Row) (row : Row) → IsLawful rows → All (IsToOlder rows row) (header_of rows row).links
links_are_named rows row lawful =
    All-from_recursion (IsToOlder rows row) (header_of rows row).links
    (all_map (IsToOlder rows row) (link_among (named_before rows row.block) row.key) (links (up_to rows row.block) row.key row.block)
    (all_weaker (IsOlder rows row.key row.block) (λ (c : ℕ). IsToOlder rows row (link_among (named_before rows row.block) row.key c))
    (λ c o. (o.4, names rows o.0 row.key c row.block lawful o.1 o.2 o.3 o.4))
    (links (up_to rows row.block) row.key row.block) (links_are_older rows row.key row.block)))

-- ---- dependencies

pub newest_is_key : (rows : List Row) (key : List ℕ) (row : Row) → newest rows key ≡ Some row → row.key ≡ key
newest_is_key rows key row e = same_key row.key key (found_passes (λ (r : Row). pointwise ◌==◌ r.key key) (reverse rows) row e)

pub newest_has : (P : Row → Type 0) (rows : List Row) (key : List ℕ) (row : Row) → AllByRecursion P rows → newest rows key ≡ Some row → P row
newest_has P rows key row all e = found_has P (λ (r : Row). pointwise ◌==◌ r.key key) (reverse rows) row (all_reverse P rows all) e

-- rows of blocks before one
pub below_are_before : (rows : List Row) (n : ℕ) → AllByRecursion (λ (row : Row). row.block < n) (below rows n)
below_are_before rows n =
    all_weaker (λ (row : Row). nat_lt row.block n ≡ true) (λ (row : Row). row.block < n) (λ row h. ltb-true row.block n h) (below rows n)
    (recursion_from_All (λ (row : Row). nat_lt row.block n ≡ true) (below rows n) (filter_passes (λ (row : Row). nat_lt row.block n) rows))

-- a dependency is on a version of an earlier block
pub recorded_is_older : (rows : List Row) (row : Row) (dep : Dep) → IsRecordedFrom rows row dep → IsOlder rows dep.key row.block dep.block
recorded_is_older rows row dep h = go (newest (below rows row.block) dep.key) refl h
  where
    go : (o : Option Row) → newest (below rows row.block) dep.key ≡ o → IsSomeAnd o (λ (version : Row). version.block ≡ dep.block) → IsOlder rows dep.key row.block dep.block
    go None e h = absurd h
    go (Some version) e h =
        let low : version.block < row.block = newest_has (λ (v : Row). v.block < row.block) (below rows row.block) dep.key version (below_are_before rows row.block) e in
        let there : Contains rows version = newest_has (Contains rows) (below rows row.block) dep.key version (kept_rows rows (λ (r : Row). nat_lt r.block row.block)) e in
        (version, there, newest_is_key (below rows row.block) dep.key version e, h, omega (arith, h, low))

pub dependencies_are_named : (rows : List Row) (row : Row) → IsLawful rows → Contains rows row → All (IsOnOlder rows row) (body_of rows row).deps
dependencies_are_named rows row lawful has =
    let deps : HasLawfulDeps rows row = contained (HasLawfulDeps rows) rows row (recursion_from_All (HasLawfulDeps rows) rows lawful.lawful_deps) has in
    All-from_recursion (IsOnOlder rows row) (body_of rows row).deps
    (all_map (IsOnOlder rows row) (with_digest (named_before rows row.block)) row.deps
    (all_weaker (IsRecordedFrom rows row) (λ (dep : Dep). IsOnOlder rows row (with_digest (named_before rows row.block) dep))
    (λ dep r. let o = recorded_is_older rows row dep r in (o.4, names rows o.0 dep.key dep.block row.block lawful o.1 o.2 o.3 o.4))
    row.deps (recursion_from_All (IsRecordedFrom rows row) row.deps deps.newest)))

-- ---- leaves

pub leaf_is_named : (rows : List Row) (key : List ℕ) (row : Row) → IsLawful rows → newest rows key ≡ Some row
    → ((leaf_of rows key).newest_block ≡ row.block) × ((leaf_of rows key).newest ≡ digest_of_row rows row)
leaf_is_named rows key row lawful e =
    let there : Contains rows row = newest_has (Contains rows) rows key row (all_contained rows) e in
    let is : digest_among (named_before rows (suc row.block)) key row.block ≡ digest_of_row rows row =
    ap (λ (x : List ℕ). digest_among (named_before rows (suc row.block)) x row.block) (sym (newest_is_key rows key row e)) ∙ row_is_named rows row (suc row.block) lawful there (omega arith) in
    rw e (refl, is)
