-- One row more becomes the newest version of its key.
use Rattle.std.proofs.Common.{◌≡◌, ◌∙◌, ℕ, ◌<◌, ◌≤◌, true, false, ◌==◌, if◌then◌else◌, List, [], ◌∷◌, ◌++◌, length, map, Option, Some, None, refl, sym, ap, subst, arith, inl, inr}
use Rattle.std.specs.Prelude.{slice_get, zero, suc}
use Rattle.std.specs.Option.{is_some, option_or}
use Rattle.std.specs.Cmp.Lexicographic.{pointwise}
use Rattle.std.proofs.lemmas.List.{append_assoc}
use Rattle.std.proofs.lemmas.Bool.{cases_Bool}
use Rattle.lc_base.specs.declared.row.Row.{Row}
use Rattle.lc_base.specs.History.{newest}
use Rattle.skip_links.specs.Versions.{newest_index}
use Rattle.skip_links.proofs.Threads.{newest_more, newest_found, newest_below}
use Rattle.entry_views.specs.prov_entry.declared.entry.Leaf.{Leaf}
use Rattle.plain_rows.specs.root_laws.Root.{is_among, with_key, keys_of}
use Rattle.plain_rows.proofs.root_laws.Lists.{not_both}
use Rattle.plain_rows.proofs.root_laws.Keys.{same_key, among_is_some, keys_append, keys_short}
use Rattle.plain_rows.proofs.root_laws.Growing.{newest_append}
use Rattle.forward_links.specs.declared.kept_list.KeptList.{KeptList}
use Rattle.forward_links.specs.Lists.{Use, kept_of}
use Rattle.lineage_index.specs.Growth.{changed_at}
use Rattle.lineage_index.specs.Heads.{KeyStates, AreHeads, leaves_with, with_version, with_key_more, with_version_more, fresh_entry, newest_at, index_or_zero}
use Rattle.lineage_index.specs.Settling.{entry_or_fresh, settled_states}
use Rattle.lineage_index.proofs.ByKey.{same_everywhere}
use Rattle.lineage_index.proofs.KeyLeaves.{leaves_same}
use Rattle.lineage_index.proofs.KeptStates.{version_new, version_old, as_many}
use Rattle.lineage_index.proofs.ClosedLists.{one_key_more}

-- states that say the same of each key
pub heads_same : (tree : List Leaf) (lists : List KeptList) (newest : List ℕ) (s t : KeyStates)
    → AreHeads tree lists newest s → s.keys ≡ t.keys → ((key : List ℕ)
    → s.entry key ≡ t.entry key) → ((key : List ℕ) → s.list key ≡ t.list key)
    → ((key : List ℕ) → s.index key ≡ t.index key) → AreHeads tree lists newest t
heads_same tree lists newest s t a keys entry list index = record {
  apart = rw (← keys) a.apart;
  leaves_are = a.leaves_are ∙ leaves_same s.keys s.entry t.entry entry ∙ ap (λ (ks : List (List ℕ)). leaves_with ks t.entry) keys;
  lists_are = a.lists_are ∙ ap (map kept_of) (same_everywhere s.list t.list s.keys list
      ∙ ap (map t.list) keys);
  newest_are = a.newest_are ∙ same_everywhere s.index t.index s.keys index ∙ ap (map t.index) keys;
}

-- ---- what is known of the newest row

found_there : (rows : List Row) (index : ℕ) (o : Option Row) → index < length rows → slice_get rows index ≡ o → (row : Row) × (o ≡ Some row)
found_there [] index o l e = absurd (omega (arith, l))
found_there (row ∷ rows) zero o l e = (row, sym e)
found_there (row ∷ rows) (suc index) o l e = found_there rows index o (omega (arith, l)) e

-- the row at the index of the newest one
pub row_there : (rows : List Row) (key : List ℕ) (index : ℕ) → newest_index rows key ≡ Some index → (row : Row) × (newest rows key ≡ Some row) × (slice_get rows index ≡ Some row)
row_there rows key index e =
    let found : slice_get rows index ≡ newest rows key = (let all = newest_found rows key in rw e at all) in
    let within : index < length rows = (let low = newest_below rows key in rw e at low) in
    let there = found_there rows index (newest rows key) within found in
    (there.0, there.1, found ∙ there.1)

-- a key of a history has a newest row
pub index_there : (rows : List Row) (key : List ℕ) → is_among (keys_of rows) key ≡ true → newest_index rows key ≡ Some (newest_at rows key)
index_there rows key t = go (newest_index rows key) refl
  where
    go : (o : Option ℕ) → newest_index rows key ≡ o → newest_index rows key ≡ Some (newest_at rows key)
    go None e =
        let none : newest rows key ≡ None = (let all = newest_found rows key in rw e at all) in
        let off : is_among (keys_of rows) key ≡ false = among_is_some rows key ∙ rw none refl in
        absurd (not_both (is_among (keys_of rows) key) t off)
    go (Some index) e = e ∙ ap (λ (o : Option ℕ). Some (index_or_zero o)) (sym e)

pub index_nowhere : (rows : List Row) (key : List ℕ) → is_among (keys_of rows) key ≡ false → newest_index rows key ≡ None
index_nowhere rows key f = go (newest_index rows key) refl
  where
    go : (o : Option ℕ) → newest_index rows key ≡ o → newest_index rows key ≡ None
    go None e = e
    go (Some index) e =
        let there = row_there rows key index e in
        let on : is_among (keys_of rows) key ≡ true = among_is_some rows key ∙ rw there.1 refl in
        absurd (not_both (is_among (keys_of rows) key) on f)

-- ---- one row more

keys_more : (rows done : List Row) (row : Row) → keys_of (rows ++ (done ++ row ∷ [])) ≡ with_key (keys_of (rows ++ done)) row
keys_more rows done row = ap keys_of (sym (append_assoc rows done (row ∷ []))) ∙ keys_append (rows ++ done) (row ∷ [])

not_before : (rows done : List Row) (key : List ℕ) → is_among (keys_of (rows ++ done)) key ≡ false → is_among (keys_of rows) key ≡ false
not_before rows done key none = among_is_some rows key ∙ go (newest done key) (newest rows key) (sym (ap is_some (newest_append rows done key)) ∙ sym (among_is_some (rows ++ done) key) ∙ none)
  where
    go : (a b : Option Row) → is_some (option_or a b) ≡ false → is_some b ≡ false
    go None b e = e
    go (Some row) b e = cc

fresh_stays : (rows done : List Row) (new key : List ℕ) → is_among (keys_of (rows ++ done)) new ≡ false → changed_at (entry_or_fresh rows) new fresh_entry key ≡ entry_or_fresh rows key
fresh_stays rows done new key none = elim (cases_Bool (pointwise ◌==◌ new key)) [
  | inl t ↦
      let same : new ≡ key = same_key new key t in
      let off : is_among (keys_of rows) key ≡ false = ap (is_among (keys_of rows)) (sym same) ∙ not_before rows done new none in
      rw (t, off) refl
  | inr f ↦ rw f refl
]

index_more : (rows done : List Row) (row : Row) (key : List ℕ) → changed_at (newest_at (rows ++ done)) row.key (length (rows ++ done)) key ≡ newest_at (rows ++ (done ++ row ∷ [])) key
index_more rows done row key =
    let more : newest_index (rows ++ (done ++ row ∷ [])) key ≡ (if pointwise ◌==◌ row.key key then Some (length (rows ++ done)) else newest_index (rows ++ done) key) =
    ap (λ (rs : List Row). newest_index rs key) (sym (append_assoc rows done (row ∷ []))) ∙ newest_more (rows ++ done) row key in
    elim (cases_Bool (pointwise ◌==◌ row.key key)) [
      | inl t ↦ let is : newest_index (rows ++ (done ++ row ∷ [])) key ≡ Some (length (rows ++ done)) = more ∙ rw t refl in rw t (sym (ap index_or_zero is))
      | inr f ↦ let is : newest_index (rows ++ (done ++ row ∷ [])) key ≡ newest_index (rows ++ done) key = more ∙ rw f refl in rw f (sym (ap index_or_zero is))
    ]

states_more : (rows done : List Row) (list : List ℕ → List Use) (row : Row) (tree : List Leaf)
    (lists : List KeptList) (newest : List ℕ) → AreHeads tree lists newest (with_version
    (settled_states rows list done) row.key (length (rows ++ done)))
    → AreHeads tree lists newest (settled_states rows list (done ++ row ∷ []))
states_more rows done list row tree lists newest a = elim (cases_Bool (is_among (keys_of (rows ++ done)) row.key)) [
  | inl t ↦ heads_same tree lists newest (with_version_more (settled_states rows list done) row.key (length (rows ++ done))) (settled_states rows list (done ++ row ∷ []))
      (subst (λ (s : KeyStates). AreHeads tree lists newest s) (version_old (settled_states rows list done) row.key (length (rows ++ done)) t) a)
      (sym (keys_more rows done row ∙ rw t refl)) (λ key. refl) (λ key. one_key_more list done row key) (λ key. index_more rows done row key)
  | inr f ↦ heads_same tree lists newest (with_key_more (settled_states rows list done) row.key (length (rows ++ done))) (settled_states rows list (done ++ row ∷ []))
      (subst (λ (s : KeyStates). AreHeads tree lists newest s) (version_new (settled_states rows list done) row.key (length (rows ++ done)) f) a)
      (sym (keys_more rows done row ∙ rw f refl)) (λ key. fresh_stays rows done row.key key f) (λ key. one_key_more list done row key) (λ key. index_more rows done row key)
]

-- there are at most as many keys as rows
pub settled_short : (rows done : List Row) (list : List ℕ → List Use) (tree : List Leaf)
    (lists : List KeptList) (newest : List ℕ) → AreHeads tree lists newest (settled_states rows list
    done) → length newest ≤ length (rows ++ done)
settled_short rows done list tree lists newest a =
    let many = as_many tree lists newest (settled_states rows list done) a in
    let short = keys_short [] (rows ++ done) in
    omega (arith, many.1, short)

pub heads_more : (rows done : List Row) (list : List ℕ → List Use) (row : Row) (tree : List Leaf)
    (lists : List KeptList) (newest : List ℕ) (index : ℕ) → index ≡ length (rows ++ done)
    → AreHeads tree lists newest (with_version (settled_states rows list done) row.key index) → AreHeads tree lists newest (settled_states rows list (done ++ row ∷ []))
heads_more rows done list row tree lists newest index at heads =
    states_more rows done list row tree lists newest (subst (λ (i : ℕ). AreHeads tree lists newest (with_version (settled_states rows list done) row.key i)) at heads)
