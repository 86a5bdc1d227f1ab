-- What is kept, step by step through a block.
use Rattle.std.proofs.Common.{◌≡◌, ◌∙◌, ℕ, ◌+◌, ◌<◌, ◌≤◌, true, false, List, [], ◌∷◌, ◌++◌, length}
use Rattle.std.proofs.Common.{map, refl, sym, ap, arith, inl, inr}
use Rattle.std.specs.List.{list_any, All, AllByRecursion}
use Rattle.std.specs.Option.{is_some}
use Rattle.std.proofs.lemmas.List.{append-nil, length-append}
use Rattle.std.proofs.lemmas.List.Elements.{All-from_recursion}
use Rattle.lc_base.specs.declared.limits.TheConstants.{MAX_ROWS}
use Rattle.lc_base.specs.declared.row.Row.{Row}
use Rattle.lc_base.specs.declared.row.Dep.{Dep}
use Rattle.lc_base.specs.History.{HasLawfulDeps, newest}
use Rattle.entry_views.specs.prov_entry.declared.entry.Leaf.{Leaf}
use Rattle.plain_rows.specs.root_laws.Root.{is_among, keys_of}
use Rattle.plain_rows.proofs.root_laws.Lists.{all_weaker, all_append, option_cases, not_both}
use Rattle.plain_rows.proofs.root_laws.Lists.{some_last, or_true}
use Rattle.plain_rows.proofs.root_laws.Keys.{among_is_some, all_among}
use Rattle.plain_rows.proofs.root_laws.Growing.{newest_append}
use Rattle.forward_links.specs.declared.kept_list.KeptList.{KeptList}
use Rattle.skip_list.specs.entry_store.Entries.{Entry as StoreEntry}
use Rattle.lineage_index.specs.Entries.{entries_of}
use Rattle.lineage_index.proofs.StoreEntries.{as_many}
use Rattle.lineage_index.specs.Growth.{
  Grows,
  IsOnNewest,
  Entry,
  entry_of,
  open_uses,
  used_by,
  HaveDistinctKeys,
  entry_after,
  keys_touched,
  deps_touched,
  keys_of_deps,
  is_of_key,
}
use Rattle.lineage_index.specs.Leaves.{leaf_indexes}
use Rattle.lineage_index.specs.Heads.{leaves_with, AreHeads, AreLists, states_of, newest_at}
use Rattle.lineage_index.specs.Heads.{open_list}
use Rattle.lineage_index.specs.NewEntries.{AreUsing}
use Rattle.lineage_index.specs.Settling.{entry_or_fresh, settled_states, renewed_states}
use Rattle.lineage_index.specs.Settling.{AreRenewing, AreSettling}
use Rattle.lineage_index.specs.Closed.{AreClosed}
use Rattle.lineage_index.specs.NewestRows.{AreNewest}
use Rattle.lineage_index.specs.Blocks.{IsKeptIndex}
use Rattle.lineage_index.proofs.Blocks.{new_deps, rows_before, rows_now, deps_on_newest}
use Rattle.lineage_index.proofs.Using.{distinct_keys, all_uses, used_same, held_first}
use Rattle.lineage_index.proofs.KeyLeaves.{leaves_on}
use Rattle.lineage_index.proofs.Touched.{indexes_stay}
use Rattle.lineage_index.proofs.NewEntries.{known_dep}
use Rattle.lineage_index.proofs.KeyLists.{lists_same}
use Rattle.lineage_index.proofs.KeptStates.{lists_of_heads, heads_with_lists}
use Rattle.lineage_index.proofs.Settled.{heads_same}
use Rattle.lineage_index.proofs.ClosedLists.{settled_all}
use Rattle.lineage_index.proofs.ClosedRows.{closed_begins}
use Rattle.lineage_index.proofs.Entries.{renewed_all, touched_split}

-- ---- the uses

each_on_newest : (rows new : List Row) (n : ℕ) → Grows rows new n → AllByRecursion (λ (row : Row). AllByRecursion (IsOnNewest rows) row.deps) new
each_on_newest rows new n g = go new (rows_now rows new n g) (new_deps rows new n g)
  where
    go : (rs : List Row) → AllByRecursion (λ (row : Row). row.block ≡ n) rs → AllByRecursion (HasLawfulDeps (rows ++ new)) rs → AllByRecursion (λ (row : Row). AllByRecursion (IsOnNewest rows) row.deps) rs
    go [] at deps = tt
    go (row ∷ rs) at deps = (deps_on_newest rows new n row g at.0 deps.0, go rs at.1 deps.1)

pub distinct_deps : (rows new : List Row) (n : ℕ) → Grows rows new n → All (λ (row : Row). HaveDistinctKeys row.deps) new
distinct_deps rows new n g = All-from_recursion (λ (row : Row). HaveDistinctKeys row.deps) new (go new (each_on_newest rows new n g) (new_deps rows new n g))
  where
    go : (rs : List Row) → AllByRecursion (λ (row : Row). AllByRecursion (IsOnNewest rows) row.deps) rs → AllByRecursion (HasLawfulDeps (rows ++ new)) rs → AllByRecursion (λ (row : Row). HaveDistinctKeys row.deps) rs
    go [] on deps = tt
    go (row ∷ rs) on deps = (distinct_keys rows row.deps deps.0.once (All-from_recursion (IsOnNewest rows) row.deps on.0), go rs on.1 deps.1)

pub kept_lists : (rows : List Row) (block : ℕ) (tree : List Leaf) (lists : List KeptList)
    (newest_rows : List ℕ) (entries : List StoreEntry) (closed : List (List ℕ))
    → IsKeptIndex rows block tree lists newest_rows entries closed
    → AreLists tree lists (keys_of rows) (open_list rows)
kept_lists rows block tree lists newest_rows entries closed k = lists_of_heads tree lists
    newest_rows (states_of rows) k.heads

pub uses_added : (rows new : List Row) (n first : ℕ) (tree : List Leaf) (lists more : List KeptList)
    (newest_rows : List ℕ) (entries : List StoreEntry) (closed : List (List ℕ))
    → Grows rows new n → IsKeptIndex rows n tree lists newest_rows entries closed
    → first ≡ length rows
    → AreLists tree more (keys_of rows) (used_by (open_list rows) first new)
    → AreUsing rows new n tree more newest_rows
uses_added rows new n first tree lists more newest_rows entries closed g k at a = record {
  grows = g;
  heads = heads_with_lists tree lists more newest_rows (states_of rows) (open_uses rows new) k.heads
      (lists_same tree more (keys_of rows) (used_by (open_list rows) first new)
      (open_uses rows new) a
      (λ key. used_same (open_list rows) (open_uses rows []) first new key (λ x. sym
      (held_first rows x))
      ∙ all_uses rows [] new first key (at ∙ ap length (sym (append-nil rows)))
      (each_on_newest rows new n g)));
}

-- ---- the newest versions

entries_there : (rows : List Row) → AllByRecursion (λ (key : List ℕ). entry_of rows key ≡ entry_or_fresh rows key) (keys_of rows)
entries_there rows = all_weaker (λ (key : List ℕ). is_among (keys_of rows) key ≡ true) (λ (key : List ℕ). entry_of rows key ≡ entry_or_fresh rows key) (λ key t. there key t) (keys_of rows) (all_among (keys_of rows))
  where
    there : (key : List ℕ) → is_among (keys_of rows) key ≡ true → entry_of rows key ≡ entry_or_fresh rows key
    there key t = rw t refl

heads_begin : (rows new : List Row) (n : ℕ) (tree : List Leaf) (lists : List KeptList)
    (newest_rows : List ℕ) → AreUsing rows new n tree lists newest_rows
    → AreHeads tree lists newest_rows (settled_states rows (open_uses rows new) [])
heads_begin rows new n tree lists newest_rows a =
    let none : rows ≡ rows ++ [] = sym (append-nil rows) in
    let fresh : AreHeads tree lists newest_rows (record { keys = keys_of rows; entry = entry_or_fresh rows; list = open_uses rows new; index = newest_at rows }) = record {
      apart = a.heads.apart;
      leaves_are = a.heads.leaves_are ∙ leaves_on (keys_of rows) (entry_of rows) (entry_or_fresh rows) (entries_there rows);
      lists_are = a.heads.lists_are;
      newest_are = a.heads.newest_are;
    } in
    heads_same tree lists newest_rows (record { keys = keys_of rows; entry = entry_or_fresh rows; list = open_uses rows new; index = newest_at rows }) (settled_states rows (open_uses rows new) []) fresh
    (ap keys_of none) (λ key. refl) (λ key. refl) (λ key. ap (λ (rs : List Row). newest_at rs key) none)

pub settling_begins : (rows new : List Row) (n : ℕ) (tree : List Leaf) (lists : List KeptList)
    (newest_rows : List ℕ) (closed : List (List ℕ)) → AreUsing rows new n tree lists newest_rows
    → AreClosed rows rows closed → AreSettling rows new [] n tree lists newest_rows closed
settling_begins rows new n tree lists newest_rows closed a are = record {
  grows = a.grows;
  heads = heads_begin rows new n tree lists newest_rows a;
  closed_are = closed_begins rows new closed a.grows.lawful_before.ordered (each_on_newest rows new
      n a.grows) are;
}

-- ---- the leaves

pub renewing_begins : (rows new : List Row) (n : ℕ) (tree : List Leaf) (lists : List KeptList)
    (newest_rows : List ℕ) (entries : List StoreEntry) (closed : List (List ℕ)) → Grows rows new n
    → AreSettling rows new new n tree lists newest_rows closed → entries ≡ entries_of (rows ++ new)
    (rows ++ new)
    → AreRenewing (rows ++ new) (entry_or_fresh rows) [] tree lists newest_rows entries
renewing_begins rows new n tree lists newest_rows entries closed g s are = record {
  store = record { lawful = g.lawful; entries_are = are };
  heads = heads_same tree lists newest_rows (settled_states rows (open_uses rows new) new)
      (renewed_states (rows ++ new) (entry_or_fresh rows) []) s.heads refl (λ key. refl)
      (λ key. settled_all rows new n key g) (λ key. refl);
}

touched_if_new : (new : List Row) (key : List ℕ) → list_any (is_of_key key) new ≡ true → is_among (keys_touched new) key ≡ true
touched_if_new new key t = touched_split new key ∙ rw t (or_true (is_among (deps_touched new) key))

touched_if_unknown : (rows new : List Row) (key : List ℕ) → is_among (keys_of (rows ++ new)) key ≡ true → is_among (keys_of rows) key ≡ false → is_among (keys_touched new) key ≡ true
touched_if_unknown rows new key there none = elim (option_cases (newest new key)) [
  | inr s ↦ touched_if_new new key (sym (some_last (is_of_key key) new) ∙ rw s.1 refl)
  | inl no_new ↦ elim (option_cases (newest rows key)) [
    | inr s ↦ let on : is_among (keys_of rows) key ≡ true = among_is_some rows key ∙ rw s.1 refl in absurd (not_both (is_among (keys_of rows) key) on none)
    | inl no_old ↦ let off : is_among (keys_of (rows ++ new)) key ≡ false = among_is_some (rows ++ new) key ∙ ap is_some (newest_append rows new key) ∙ rw (no_new, no_old) refl in absurd (not_both (is_among (keys_of (rows ++ new)) key) there off)
  ]
]

known_entry : (rows : List Row) (key : List ℕ) → is_among (keys_of rows) key ≡ true → entry_or_fresh rows key ≡ entry_of rows key
known_entry rows key t = rw t refl

within_next : (rows new : List Row) (n : ℕ) → Grows rows new n → All (λ (row : Row). row.block < n + 1) (rows ++ new)
within_next rows new n g = All-from_recursion (λ (row : Row). row.block < n + 1) (rows ++ new) (all_append (λ (row : Row). row.block < n + 1) rows new
    (all_weaker (λ (row : Row). row.block < n) (λ (row : Row). row.block < n + 1) (λ row h. omega (arith, h)) rows (rows_before rows new n g))
    (all_weaker (λ (row : Row). row.block ≡ n) (λ (row : Row). row.block < n + 1) (λ row h. omega (arith, h)) new (rows_now rows new n g)))

pub block_kept : (rows new : List Row) (n : ℕ) (tree : List Leaf) (lists : List KeptList)
    (newest_rows : List ℕ) (entries : List StoreEntry) (closed : List (List ℕ)) → Grows rows new n
    → AreRenewing (rows ++ new) (entry_or_fresh rows) (keys_touched new) tree lists newest_rows
    entries → AreClosed (rows ++ new) (rows ++ new) closed → IsKeptIndex (rows ++ new)
    (n + 1) tree lists
    newest_rows entries closed
block_kept rows new n tree lists newest_rows entries closed g r are =
    let a = r.heads in
    record {
      store = r.store;
      within = within_next rows new n g;
      heads = record {
        apart = a.apart;
        leaves_are = a.leaves_are ∙ leaves_on (keys_of (rows ++ new)) (entry_after (entry_or_fresh rows) (entry_of (rows ++ new)) (keys_touched new)) (entry_of (rows ++ new))
            (all_weaker (λ (key : List ℕ). is_among (keys_of (rows ++ new)) key ≡ true) (λ (key : List ℕ). entry_after (entry_or_fresh rows) (entry_of (rows ++ new)) (keys_touched new) key ≡ entry_of (rows ++ new) key)
            (λ key t. renewed_all rows new n key (entry_or_fresh rows) g (known_entry rows key) (touched_if_unknown rows new key t)) (keys_of (rows ++ new)) (all_among (keys_of (rows ++ new))));
        lists_are = a.lists_are;
        newest_are = a.newest_are;
      };
      closed_are = are;
    }

-- There are as many entries as rows, and there is room for the block's rows.
pub as_many_entries : (rows : List Row) (entries : List StoreEntry) → entries ≡ entries_of rows rows → length entries ≡ length rows
as_many_entries rows entries are = ap length are ∙ as_many rows [] rows

pub room_for : (rows new : List Row) (n : ℕ) (entries : List StoreEntry) → Grows rows new n → entries ≡ entries_of rows rows → length entries + length new ≤ MAX_ROWS
room_for rows new n entries g are = omega (arith, as_many_entries rows entries are, length-append rows new, g.lawful.few)

-- ---- the leaves of dependencies

deps_among : (rows new : List Row) → AllByRecursion (λ (row : Row). AllByRecursion (IsOnNewest rows) row.deps) new
    → AllByRecursion (λ (key : List ℕ). is_among (keys_of rows) key ≡ true) (deps_touched new)
deps_among rows [] on = tt
deps_among rows (row ∷ new) on = all_append (λ (key : List ℕ). is_among (keys_of rows) key ≡ true)
    (keys_of_deps row) (deps_touched new) (among row.deps on.0) (deps_among rows new on.1)
  where
    among : (deps : List Dep) → AllByRecursion (IsOnNewest rows) deps
        → AllByRecursion (λ (key : List ℕ). is_among (keys_of rows) key ≡ true)
        (map (λ (dep : Dep). dep.key) deps)
    among [] on = tt
    among (dep ∷ deps) on = (known_dep rows dep on.0, among deps on.1)

pub deps_stay : (rows new : List Row) (n : ℕ) (before after : List Leaf) (f g : List ℕ → Entry) → Grows rows new n
    → before ≡ leaves_with (keys_of rows) f → after ≡ leaves_with (keys_of (rows ++ new)) g
    → leaf_indexes before (deps_touched new) ≡ leaf_indexes after (deps_touched new)
deps_stay rows new n before after f g grows before_are after_are =
    ap (λ (leaves : List Leaf). leaf_indexes leaves (deps_touched new)) before_are
    ∙ indexes_stay rows new f g (deps_touched new)
    (deps_among rows new (each_on_newest rows new n grows))
    ∙ ap (λ (leaves : List Leaf). leaf_indexes leaves (deps_touched new)) (sym after_are)

-- ---- the newest rows

pub newest_kept : (rows : List Row) (block : ℕ) (tree : List Leaf) (lists : List KeptList)
    (newest_rows same : List ℕ) (entries : List StoreEntry) (closed : List (List ℕ))
    → IsKeptIndex rows block tree lists newest_rows entries closed
    → same ≡ newest_rows → AreNewest rows tree same
newest_kept rows block tree lists newest_rows same entries closed k is = record {
  entry = entry_of rows;
  leaves_are = k.heads.leaves_are;
  newest_are = is ∙ k.heads.newest_are;
}

-- ---- the same of equal lists

pub using_at : (rows new : List Row) (n : ℕ) (tree : List Leaf) (lists : List KeptList)
    (a b : List ℕ) → AreUsing rows new n tree lists b → a ≡ b → AreUsing rows new n tree lists a
using_at rows new n tree lists a b u p = rw p u

pub renewing_at : (rows : List Row) (entry : List ℕ → Entry) (done : List (List ℕ))
    (tree : List Leaf) (lists : List KeptList) (a b : List ℕ) (entries : List StoreEntry)
    → AreRenewing rows entry done tree lists b entries → a ≡ b
    → AreRenewing rows entry done tree lists a entries
renewing_at rows entry done tree lists a b entries u p = rw p u
