-- The entry that is made of a new row, by what is kept, is that of the longer history.
use Rattle.std.proofs.Common.{
  ◌≡◌,
  ◌≢◌,
  ◌∙◌,
  ℕ,
  ◌<◌,
  ◌≤◌,
  true,
  false,
  List,
  [],
  ◌∷◌,
  ◌++◌,
  length,
  get_or,
  take,
  drop,
  ◌+◌,
  map,
  Option,
  Some,
  None,
  refl,
  sym,
  ap,
  subst,
  arith,
  inl,
  inr,
}
use Rattle.std.specs.Prelude.{slice_get}
use Rattle.std.specs.List.{All, AllByRecursion, AllPairs, Contains, concat}
use Rattle.std.specs.Option.{IsSomeAnd, option_map}
use Rattle.std.proofs.lemmas.List.Elements.{recursion_from_All, All-from_recursion}
use Rattle.std.proofs.lemmas.Bool.{cases_Bool}
use Rattle.std.proofs.lemmas.List.{
  map-append,
  length-map,
  take_more,
  append-nil,
  append_assoc,
  length-append,
  get_or_at,
  get_or-map,
  take-append-drop,
}
use Rattle.std.proofs.lemmas.Option.{get_or_from_slice_get, same_Some, slice_get_within}
use Rattle.lc_base.specs.declared.digest.Digest.{Digest}
use Rattle.lc_base.specs.declared.limits.TheConstants.{MAX_DEPS}
use Rattle.lc_base.specs.declared.row.Row.{Row}
use Rattle.lc_base.specs.declared.row.Dep.{Dep}
use Rattle.lc_base.specs.History.{HasLawfulDeps, StandsBefore, newest, up_to}
use Rattle.entry_views.specs.prov_entry.declared.entry.Leaf.{Leaf}
use Rattle.entry_views.specs.prov_entry.declared.entry.Body.{Body}
use Rattle.entry_views.specs.prov_entry.declared.entry.BodyDep.{BodyDep}
use Rattle.entry_views.specs.prov_entry.Spelling.{body_fields}
use Rattle.plain_rows.specs.root_laws.Naming.{closed_uses, uses_of, digest_of_uses, named_before}
use Rattle.plain_rows.specs.root_laws.Naming.{body_among, body_of, with_digest}
use Rattle.plain_rows.specs.root_laws.Root.{is_among, keys_of, sentinel}
use Rattle.plain_rows.specs.root_laws.GrowthLaws.{AreFrom}
use Rattle.plain_rows.proofs.root_laws.Lists.{all_contained, all_weaker, all_front, all_back}
use Rattle.plain_rows.proofs.root_laws.Lists.{all_both, contained, map_on, option_cases, not_both}
use Rattle.plain_rows.proofs.root_laws.Keys.{among_is_some}
use Rattle.plain_rows.proofs.root_laws.Growing.{up_to_now, earlier_versions_stay}
use Rattle.state_tree.specs.Leaves.{index_of}
use Rattle.forward_links.specs.declared.kept_list.KeptList.{KeptList}
use Rattle.forward_links.specs.Lists.{Use, versions_of}
use Rattle.skip_list.specs.entry_store.declared.entry.EntryId.{EntryId}
use Rattle.skip_list.specs.entry_store.declared.entry.Hop.{Hop}
use Rattle.skip_list.specs.entry_store.Entries.{Entry as StoreEntry}
use Rattle.lineage_index.specs.declared.growing.NewVersion.{NewVersion}
use Rattle.lineage_index.specs.Versions.{newest_entry}
use Rattle.lineage_index.specs.Entries.{entries_of}
use Rattle.lineage_index.proofs.StoreEntries.{entries_stay}
use Rattle.lineage_index.specs.Growing.{IsNextVersion}
use Rattle.lineage_index.proofs.Versions.{split_pairs}
use Rattle.lineage_index.proofs.OtherKeys.{versions_stay}
use Rattle.lineage_index.specs.Growth.{Grows, IsOnNewest, Entry, entry_of, leaf_with, open_uses}
use Rattle.lineage_index.specs.Heads.{AreLists, leaves_with}
use Rattle.lineage_index.specs.NewEntries.{
  AreUsing,
  IsNextRow,
  IsVersionOf,
  dep_with,
  list_if_among,
  body_with,
  newest_of_leaf,
  newest_in,
  dep_in,
  body_in,
  bytes_in,
}
use Rattle.lineage_index.specs.Blocks.{bytes_of_body}
use Rattle.lineage_index.proofs.Blocks.{
  closed_is_held,
  new_deps,
  rows_before,
  rows_now,
  deps_on_newest,
}
use Rattle.lineage_index.proofs.KeyLeaves.{IsPlace, leaf_place, leaf_at}
use Rattle.lineage_index.proofs.OldVersions.{dep_is_named}
use Rattle.lineage_index.proofs.KeyLists.{value_at}
use Rattle.lineage_index.proofs.MarkedUses.{versions_at}
use Rattle.lineage_index.proofs.KeptStates.{index_among, no_leaf}

-- ---- what is known of a new row

pub row_now : (rows new : List Row) (n : ℕ) (row : Row) → Grows rows new n → Contains new row → row.block ≡ n
row_now rows new n row g has = contained (λ (r : Row). r.block ≡ n) new row (rows_now rows new n g) has

pub deps_of_new : (rows new : List Row) (n : ℕ) (row : Row) → Grows rows new n → Contains new row → HasLawfulDeps (rows ++ new) row
deps_of_new rows new n row g has = contained (HasLawfulDeps (rows ++ new)) new row (new_deps rows new n g) has

pub new_on_newest : (rows new : List Row) (n : ℕ) (row : Row) → Grows rows new n
    → Contains new row → AllByRecursion (IsOnNewest rows) row.deps
new_on_newest rows new n row g has = deps_on_newest rows new n row g (row_now rows new n row g has) (deps_of_new rows new n row g has)

pub known_dep : (rows : List Row) (dep : Dep) → IsOnNewest rows dep → is_among (keys_of rows) dep.key ≡ true
known_dep rows dep on = go (newest rows dep.key) refl on
  where
    go : (o : Option Row) → newest rows dep.key ≡ o → IsSomeAnd o (λ (version : Row). version.block ≡ dep.block) → is_among (keys_of rows) dep.key ≡ true
    go None e h = absurd h
    go (Some version) e h = among_is_some rows dep.key ∙ rw e refl

pub deps_known : (rows new : List Row) (n : ℕ) (row : Row) → Grows rows new n → Contains new row → All (λ (dep : Dep). is_among (keys_of rows) dep.key ≡ true) row.deps
deps_known rows new n row g has = All-from_recursion (λ (dep : Dep). is_among (keys_of rows) dep.key ≡ true) row.deps
    (all_weaker (IsOnNewest rows) (λ (dep : Dep). is_among (keys_of rows) dep.key ≡ true) (λ dep on. known_dep rows dep on) row.deps (new_on_newest rows new n row g has))

-- ---- the parts of its entry

body_is : (rows new : List Row) (n : ℕ) (row : Row) (named : List BodyDep) → Grows rows new n → Contains new row → named_before rows n ≡ named → body_with (entry_of rows) row ≡ body_among named row
body_is rows new n row named g has is = ap (λ (deps : List BodyDep). let b : Body = record { value = row.value; deps = deps } in b)
    (map_on (dep_with (entry_of rows)) (with_digest named) row.deps
    (all_weaker (IsOnNewest rows) (λ (dep : Dep). dep_with (entry_of rows) dep ≡ with_digest named dep) (λ dep on. dep_is_named rows new n dep named g on is) row.deps (new_on_newest rows new n row g has)))

closed_is : (rows new : List Row) (n : ℕ) (key : List ℕ) → Grows rows new n
    → versions_of (list_if_among (keys_of rows) (open_uses rows new) key) ≡ closed_uses
    (rows ++ new) key n
closed_is rows new n key g = elim (cases_Bool (is_among (keys_of rows) key)) [
  | inl t ↦ rw t (versions_at (rows ++ new) key (newest rows key)
      ∙ sym (closed_is_held rows new n key g))
  | inr f ↦ elim (option_cases (newest rows key)) [
    | inl none ↦ rw f (sym (closed_is_held rows new n key g ∙ ap (uses_of (rows ++ new) key) none))
    | inr s ↦ let on : is_among (keys_of rows) key ≡ true = among_is_some rows key ∙ rw s.1 refl in absurd (not_both (is_among (keys_of rows) key) on f)
  ]
]

-- ---- what is read of a key

pub list_known : (tree : List Leaf) (lists : List KeptList) (keys : List (List ℕ)) (list : List ℕ
    → List Use) (key : List ℕ) (i : ℕ) → AreLists tree lists keys list → slice_get keys i ≡ Some key
    → get_or (map list keys) i [] ≡ list_if_among keys list key
list_known tree lists keys list key i a place =
    let there : is_among keys key ≡ true = index_among keys key i place in
    (value_at list keys key i [] place).1 ∙ sym (if_among keys list key there)
  where
    if_among : (keys : List (List ℕ)) (list : List ℕ → List Use) (key : List ℕ)
        → is_among keys key ≡ true → list_if_among keys list key ≡ list key
    if_among keys list key t = rw t refl

newest_known_in : (keys : List (List ℕ)) (entry : List ℕ → Entry) (key : List ℕ) → is_among keys key ≡ true → newest_in (leaves_with keys entry) key ≡ (entry key).newest
newest_known_in keys entry key t = go (index_of (leaves_with keys entry) key) (leaf_place keys entry key)
  where
    go : (o : Option ℕ) → IsPlace keys key 1 o → newest_of_leaf (leaves_with keys entry) o ≡ (entry key).newest
    go None h = absurd (not_both (is_among keys key) t h)
    go (Some index) h =
        let at : slice_get (leaves_with keys entry) index ≡ Some (leaf_with keys (get_or keys h.0 key) (entry (get_or keys h.0 key))) = ap (slice_get (leaves_with keys entry)) h.1 ∙ leaf_at keys entry h.0 key h.2 in
        ap (λ (leaf : Leaf). leaf.newest) (get_or_from_slice_get (leaves_with keys entry) index (leaf_with keys (get_or keys h.0 key) (entry (get_or keys h.0 key))) (sentinel []) at)
        ∙ ap (λ (k : List ℕ). (entry k).newest) (h.3 key)

-- the leaf of a key at an index
pub leaf_within : (tree : List Leaf) (keys : List (List ℕ)) (entry : List ℕ
    → Entry) (key : List ℕ) (i : ℕ) → tree ≡ leaves_with keys entry
    → slice_get keys i ≡ Some key → i + 1 < length tree
leaf_within tree keys entry key i is place = omega (
  arith,
  ap length is,
  length-map keys (λ (k :
      List ℕ). leaf_with keys k (entry k)),
  slice_get_within keys i key place,
)

pub newest_found : (tree : List Leaf) (keys : List (List ℕ)) (entry : List ℕ
    → Entry) (key : List ℕ) (i : ℕ) (leaf : Leaf) → tree ≡ leaves_with keys entry
    → slice_get keys i ≡ Some key
    → slice_get tree (i + 1) ≡ Some leaf → leaf.newest ≡ newest_in tree key
newest_found tree keys entry key i leaf is place read =
    let own : List ℕ = get_or keys i key in
    let here : own ≡ key = get_or_from_slice_get keys i key key place in
    let at : slice_get (leaves_with keys entry) (1 + i) ≡ Some (leaf_with keys own (entry own)) =
    leaf_at keys entry i key (slice_get_within keys i key place) in
    let one : i + 1 ≡ 1 + i = omega arith in
    let same : leaf ≡ leaf_with keys own (entry own) =
    same_Some leaf (leaf_with keys own (entry own)) (sym read
    ∙ ap (λ (leaves : List Leaf). slice_get leaves (i + 1)) is
    ∙ ap (slice_get (leaves_with keys entry)) one ∙ at) in
    ap (λ (l : Leaf). l.newest) same ∙ ap (λ (k : List ℕ). (entry k).newest) here
    ∙ sym (ap (λ (leaves : List Leaf). newest_in leaves key) is
    ∙ newest_known_in keys entry key (index_among keys key i place))

pub newest_nowhere : (tree : List Leaf) (keys : List (List ℕ)) (entry : List ℕ
    → Entry) (key : List ℕ) → tree ≡ leaves_with keys entry → is_among keys key ≡ false
    → newest_of_leaf tree None ≡ newest_in tree key
newest_nowhere tree keys entry key is none = sym (ap (newest_of_leaf tree) (no_leaf tree keys entry
    key is none))

pub body_read : (rows new : List Row) (n : ℕ) (tree : List Leaf) (lists : List KeptList)
    (newest_rows : List ℕ) (row : Row) → AreUsing rows new n tree lists newest_rows
    → Contains new row
    → body_in tree row ≡ body_with (entry_of rows) row
body_read rows new n tree lists newest_rows row a has =
    ap (λ (leaves : List Leaf). body_in leaves row) a.heads.leaves_are
    ∙ ap (λ (deps : List BodyDep). let b : Body = record { value = row.value; deps = deps } in b)
    (map_on (dep_in (leaves_with (keys_of rows) (entry_of rows))) (dep_with (entry_of rows)) row.deps
    (all_weaker (λ (dep : Dep). is_among (keys_of rows) dep.key ≡ true) (λ (dep : Dep). dep_in (leaves_with (keys_of rows) (entry_of rows)) dep ≡ dep_with (entry_of rows) dep)
    (λ dep t. ap (λ (d : Digest). let b : BodyDep = record { key = dep.key; block = dep.block; digest = d } in b) (newest_known_in (keys_of rows) (entry_of rows) dep.key t)) row.deps
    (recursion_from_All (λ (dep : Dep). is_among (keys_of rows) dep.key ≡ true) row.deps (deps_known rows new n row a.grows has))))

-- ---- the next row

comes_next : (done : List Row) (row : Row) (after : List Row) → Contains (done ++ row ∷ after) row
comes_next done row after = (length done, omega (arith, length-append done (row ∷ after)), get_or_at done row after row (length done) refl)

pub row_has : (rows new done : List Row) (row : Row) (entries : List StoreEntry) → IsNextRow rows new done row entries → Contains new row
row_has rows new done row entries next = subst (λ (all : List Row). Contains all row) (sym next.first) (comes_next done row next.after)

-- The rows of the block before it are of other keys.
others_before : (rows new done : List Row) (n : ℕ) (row : Row) (entries : List StoreEntry) → Grows rows new n → IsNextRow rows new done row entries → All (λ (other : Row). other.key ≢ row.key) done
others_before rows new done n row entries g next =
    let first : rows ++ new ≡ (rows ++ done) ++ row ∷ next.after = ap (λ (more : List Row). rows ++ more) next.first ∙ sym (append_assoc rows done (row ∷ next.after)) in
    let before = split_pairs (rows ++ done) row next.after (subst (AllPairs StandsBefore) first g.lawful.ordered) in
    let now = all_front (λ (other : Row). other.block ≡ n) done (row ∷ next.after) (subst (AllByRecursion (λ (other : Row). other.block ≡ n)) next.first (rows_now rows new n g)) in
    All-from_recursion (λ (other : Row). other.key ≢ row.key) done
    (all_weaker (λ (other : Row). StandsBefore other row × (other.block ≡ n)) (λ (other : Row). other.key ≢ row.key) (λ other both. apart other both.0 both.1) done
    (all_both (λ (other : Row). StandsBefore other row) (λ (other : Row). other.block ≡ n) done (all_back (λ (other : Row). StandsBefore other row) rows done before.0) now))
  where
    apart : (other : Row) → StandsBefore other row → other.block ≡ n → other.key ≢ row.key
    apart other (inl less) at = absurd (omega (arith, less, at, row_now rows new n row g (row_has rows new done row entries next)))
    apart other (inr same) at = same.2

from_now : (rows new : List Row) (n : ℕ) → Grows rows new n → AreFrom n new
from_now rows new n g = All-from_recursion (λ (row : Row). n ≤ row.block) new
    (all_weaker (λ (row : Row). row.block ≡ n) (λ (row : Row). n ≤ row.block) (λ row at. omega (arith, at)) new (rows_now rows new n g))

-- ---- the bytes of its body

pub bytes_read : (rows new : List Row) (n : ℕ) (tree : List Leaf) (lists : List KeptList)
    (newest_rows : List ℕ) (row : Row) → AreUsing rows new n tree lists newest_rows
    → Contains new row
    → bytes_in tree row ≡ bytes_of_body (rows ++ new) row
bytes_read rows new n tree lists newest_rows row a has =
    let at : row.block ≡ n = row_now rows new n row a.grows has in
    let named : named_before rows n ≡ named_before (rows ++ new) row.block = sym
    (earlier_versions_stay rows new n (from_now rows new n a.grows))
    ∙ ap (named_before (rows ++ new)) (sym at) in
    let body : body_in tree row ≡ body_of (rows ++ new) row =
    body_read rows new n tree lists newest_rows row a has
    ∙ body_is rows new n row (named_before (rows ++ new) row.block) a.grows has named in
    ap (λ (b : Body). concat (body_fields b)) body

pub all_bytes_read : (rows new : List Row) (n : ℕ) (tree : List Leaf) (lists : List KeptList)
    (newest_rows : List ℕ) → AreUsing rows new n tree lists newest_rows
    → map (bytes_in tree) new ≡ map (bytes_of_body (rows ++ new)) new
all_bytes_read rows new n tree lists newest_rows a = map_on (bytes_in tree) (bytes_of_body (rows ++
    new)) new
    (all_weaker (Contains new) (λ (row : Row). bytes_in tree row ≡ bytes_of_body (rows ++ new) row)
    (λ row has. bytes_read rows new n tree lists newest_rows row a has) new (all_contained new))

-- ---- its version

pub next_version : (rows new done : List Row) (n : ℕ) (tree : List Leaf) (lists : List KeptList)
    (newest_rows : List ℕ) (row : Row) (entries : List StoreEntry) (previous : Option EntryId)
    (version : NewVersion) (bytes : List ℕ)
    → AreUsing rows new n tree lists newest_rows → IsNextRow rows new done row entries
    → IsVersionOf (versions_of (list_if_among (keys_of rows) (open_uses rows new) row.key)) row
    version
    → bytes ≡ bytes_in tree row
    → previous ≡ newest_entry rows row.key → IsNextVersion (rows ++ new) (rows ++ done) row
    previous entries version bytes
next_version rows new done n tree lists newest_rows row entries previous version bytes a next is
    bytes_are previous_is =
    let has = row_has rows new done row entries next in
    let at : row.block ≡ n = row_now rows new n row a.grows has in
    let whole : up_to (rows ++ new) row.block ≡ rows ++ new = ap (up_to (rows ++ new)) at ∙ up_to_now rows new n (rows_before rows new n a.grows) (rows_now rows new n a.grows) in
    let list : versions_of (list_if_among (keys_of rows) (open_uses rows new) row.key) ≡ closed_uses
    (up_to (rows ++ new) row.block) row.key row.block =
    closed_is rows new n row.key a.grows ∙ ap (closed_uses (rows ++ new) row.key) (sym at) ∙ ap (λ (all : List Row). closed_uses all row.key row.block) (sym whole) in
    record {
      lawful = a.grows.lawful;
      after = next.after;
      first = ap (λ (more : List Row). rows ++ more) next.first ∙ sym (append_assoc rows done (row ∷ next.after));
      entries_are = next.entries_are;
      newest_is = previous_is ∙ ap (λ (versions : List Hop). option_map (λ (v : Hop). v.id) (slice_get versions 0)) (sym (versions_stay rows done row.key (others_before rows new done n row entries a.grows next)));
      key_is = is.key_is;
      block_is = is.block_is;
      tx_is = is.tx_is;
      closed_is = is.closed_is ∙ ap length list;
      closed_digest_is = is.closed_digest_is ∙ ap digest_of_uses list;
      body_is = bytes_are ∙ bytes_read rows new n tree lists newest_rows row a has;
    }

-- ---- row by row

pub few_deps : (rows new : List Row) (n : ℕ) → Grows rows new n
    → All (λ (row : Row). length row.deps ≤ MAX_DEPS) new
few_deps rows new n g = All-from_recursion (λ (row : Row). length row.deps ≤ MAX_DEPS) new
    (all_weaker (HasLawfulDeps (rows ++ new)) (λ (row : Row). length row.deps ≤ MAX_DEPS) (λ row
    deps. deps.few) new (new_deps rows new n g))

pub entries_first : (rows new : List Row) (n : ℕ) → Grows rows new n → entries_of rows rows ≡ entries_of (rows ++ new) (rows ++ [])
entries_first rows new n g = sym (entries_stay rows new rows n g.before (from_now rows new n g)) ∙ ap (entries_of (rows ++ new)) (sym (append-nil rows))

pub next_at : (rows new : List Row) (i : ℕ) (row : Row) (entries : List StoreEntry) → i < length new → row ≡ get_or new i row → entries ≡ entries_of (rows ++ new) (rows ++ take i new)
    → IsNextRow rows new (take i new) row entries
next_at rows new i row entries within is are = record {
  after = drop (i + 1) new;
  first =
      sym (take-append-drop (i + 1) new) ∙ ap (λ (first : List Row). first ++ drop (i + 1) new) (take_more new i row within ∙ ap (λ (r : Row). take i new ++ r ∷ []) (sym is))
      ∙ append_assoc (take i new) (row ∷ []) (drop (i + 1) new);
  entries_are = are;
}

-- one item more of a list that is made item by item
pub mapped_more : {X Y : Type 0} (f : X → Y) (xs : List X) (i : ℕ) (x : X) (y : Y) (list : List Y) → i < length xs → x ≡ get_or xs i x → list ≡ map f (take i xs) → y ≡ f x → list ++ y ∷ [] ≡ map f (take (i + 1) xs)
mapped_more {Y = Y} f xs i x y list l is before made =
    ap (λ (ys : List Y). ys ++ y ∷ []) before ∙ ap (λ (z : Y). map f (take i xs) ++ z ∷ []) (made ∙ ap f is)
    ∙ sym (map-append f (take i xs) (get_or xs i x ∷ [])) ∙ ap (map f) (sym (take_more xs i x l))

-- the body of the row at an index
pub body_at : (tree : List Leaf) (new : List Row) (bodies : List (List ℕ)) (i : ℕ) (row : Row)
    (body : List ℕ) → bodies ≡ map (bytes_in tree) new → i < length new → row ≡ get_or new i row
    → body ≡ get_or bodies i body → body ≡ bytes_in tree row
body_at tree new bodies i row body are l row_is body_is =
    body_is ∙ ap (λ (all : List (List ℕ)). get_or all i body) are
    ∙ get_or-map (bytes_in tree) new i row body l ∙ ap (bytes_in tree) (sym row_is)
