-- What is kept after each of the steps that make an index of entries.
use Rattle.std.proofs.Common.{◌≡◌, ◌∙◌, ℕ, ◌≤◌, true, false, ◌==◌, List, [], ◌∷◌, ◌++◌}
use Rattle.std.proofs.Common.{length, map, Some}
use Rattle.std.proofs.Common.{refl, sym, ap, subst, rules, arith, inl, inr}
use Rattle.std.specs.Prelude.{slice_get, slice_set}
use Rattle.std.specs.Option.{option_map}
use Rattle.std.specs.Cmp.Lexicographic.{pointwise}
use Rattle.std.proofs.lemmas.Bool.{cases_Bool}
use Rattle.std.proofs.lemmas.Option.{none-some, slice_get-map}
use Rattle.lc_base.specs.declared.row.Row.{Row}
use Rattle.lc_base.specs.History.{newest}
use Rattle.lineage_index.specs.prov_entry.declared.entry.Leaf.{Leaf}
use Rattle.lineage_index.specs.root_laws.Root.{is_among, sentinel, keys_of, with_key}
use Rattle.lineage_index.proofs.root_laws.Growing.{newest_append}
use Rattle.lineage_index.proofs.root_laws.Keys.{key_is_key, keys_append, keys_short, same_key}
use Rattle.lineage_index.specs.entry_store.Entries.{Entry}
use Rattle.lineage_index.specs.forward_links.declared.kept_list.KeptList.{KeptList}
use Rattle.lineage_index.specs.forward_links.Lists.{Use, kept_of}
use Rattle.lineage_index.specs.Growth.{changed_at, uses_at}
use Rattle.lineage_index.specs.Heads.{AreHeads, fresh_entry, newest_at, with_version}
use Rattle.lineage_index.specs.Closed.{AreClosed, CanClose, closed_with}
use Rattle.lineage_index.specs.Settling.{IsStoreOf, AreRenewing, entry_or_fresh}
use Rattle.lineage_index.proofs.ClosedRows.{can_close, closed_more, newest_at_more}
use Rattle.lineage_index.proofs.KeptStates.{as_many}
use Rattle.lineage_index.proofs.KeyLists.{value_set}
use Rattle.lineage_index.proofs.Settled.{heads_same}
use Rattle.lineage_rewind.specs.Front.{AreFilling, IsEmpty, filled_states}

pub filling_begun : (rows : List Row) (tree : List Leaf) (lists : List KeptList) (newest : List ℕ)
    (closed : List (List ℕ)) → tree ≡ sentinel [] ∷ [] → lists ≡ [] → newest ≡ [] → closed ≡ []
    → AreFilling rows [] tree lists newest closed
filling_begun rows tree lists newest closed tree_is lists_are newest_are closed_are = record {
  heads = record {
    apart = search rules;
    leaves_are = tree_is;
    lists_are = lists_are;
    newest_are =
        newest_are;
  };
  closed_are = record {
    long = ap length closed_are;
    each = λ index row at. absurd
        (none-some row at);
  };
}

-- There are at most as many keys as rows.
pub filled_short : (rows done : List Row) (tree : List Leaf) (lists : List KeptList)
    (newest : List ℕ) (closed : List (List ℕ)) → AreFilling rows done tree lists newest closed
    → length newest ≤ length done
filled_short rows done tree lists newest closed a =
    let many = as_many tree lists newest (filled_states rows done) a.heads in
    omega (arith, many.1, keys_short [] done)

-- ---- one row more

module _ (rows done : List Row) (row : Row) (key : List ℕ) (key_is : key ≡ row.key) (index : ℕ)
    (index_is : index ≡ length done) where
  -- What a version more changes, whether the key is a new one or not.
  keys_after : (with_version (filled_states rows done) row.key index).keys ≡ keys_of
      (done ++ row ∷ [])
  keys_after = keys_here ∙ sym (keys_append done (row ∷ []))
    where
      keys_here : (with_version (filled_states rows done) row.key index).keys ≡ with_key
          (keys_of done) row
      keys_here = elim (cases_Bool (is_among (keys_of done) row.key)) [
        | inl t ↦ rw t refl
        | inr f ↦ rw f refl
      ]

  entry_after : (k : List ℕ) → (with_version (filled_states rows done) row.key index).entry k ≡
      entry_or_fresh [] k
  entry_after k = elim (cases_Bool (is_among (keys_of done) row.key)) [
    | inl t ↦ rw t refl
    | inr f ↦ rw f (fresh k)
  ]
    where
      fresh : (k : List ℕ) → changed_at (entry_or_fresh []) row.key fresh_entry k ≡ entry_or_fresh
          [] k
      fresh k = elim (cases_Bool (pointwise ◌==◌ row.key k)) [
        | inl t ↦ rw t refl
        | inr f ↦ rw f refl
      ]

  list_emptied : (k : List ℕ) → (with_version (filled_states rows done) row.key index).list k
      ≡ changed_at (λ (other : List ℕ). uses_at rows other (newest done other)) row.key [] k
  list_emptied k = elim (cases_Bool (is_among (keys_of done) row.key)) [
    | inl t ↦ rw t refl
    | inr f ↦ rw f refl
  ]

  index_after : (k : List ℕ) → (with_version (filled_states rows done) row.key index).index k
      ≡ newest_at (done ++ row ∷ []) k
  index_after k = here ∙ changed
    where
      here : (with_version (filled_states rows done) row.key index).index k ≡ changed_at
          (newest_at done) row.key index k
      here = elim (cases_Bool (is_among (keys_of done) row.key)) [
        | inl t ↦ rw t refl
        | inr f ↦ rw f refl
      ]

      changed : changed_at (newest_at done) row.key index k ≡ newest_at (done ++ row ∷ []) k
      changed = elim (cases_Bool (pointwise ◌==◌ row.key k)) [
        | inl t ↦ rw t (index_is ∙ sym (newest_at_more done row k true t))
        | inr f ↦ rw f (sym (newest_at_more done row k false f))
      ]

  list_filled : (k : List ℕ)
      → changed_at (with_version (filled_states rows done) row.key index).list row.key
      (uses_at rows row.key (Some row)) k
      ≡ uses_at rows k (newest (done ++ row ∷ []) k)
  list_filled k = elim (cases_Bool (pointwise ◌==◌ row.key k)) [
    | inl t ↦
        let last : newest (done ++ row ∷ []) k ≡ Some row = newest_append done (row ∷ []) k
        ∙ rw t refl in
        rw (t, last) (ap (λ (other : List ℕ). uses_at rows other (Some row)) (same_key row.key k t))
    | inr f ↦
        let last : newest (done ++ row ∷ []) k ≡ newest done k = newest_append done (row ∷ []) k
        ∙ rw f refl in
        rw (f, last) (list_emptied k ∙ rw f refl)
  ]

  pub may_close : (tree : List Leaf) (lists : List KeptList) (newest : List ℕ) (closed : List
      (List ℕ))
      → AreFilling rows done tree lists newest closed → CanClose (filled_states rows done) key
      closed
  may_close tree lists newest closed a =
      subst (λ (k : List ℕ). CanClose (filled_states rows done) k closed) (sym key_is)
      (can_close rows done row (filled_states rows done) closed a.closed_are refl refl refl)

  -- The list of the row's key is empty before it is filled.
  pub opened : (tree : List Leaf) (lists : List KeptList) (newest : List ℕ) (list : ℕ)
      → AreHeads tree lists newest (with_version (filled_states rows done) key index)
      → slice_get (with_version (filled_states rows done) key index).keys list ≡ Some key
      → IsEmpty (map (with_version (filled_states rows done) row.key index).list
      (with_version (filled_states rows done) row.key index).keys) list lists
  opened tree lists newest list heads place =
      let heads' = subst (λ (k : List ℕ). AreHeads tree lists newest (with_version
      (filled_states rows done) k index)) key_is heads in
      let place' : slice_get (with_version (filled_states rows done) row.key index).keys list ≡ Some
      row.key =
      subst (λ (k : List ℕ). slice_get (with_version (filled_states rows done) k index).keys list ≡
      Some k) key_is place in
      record {
        lists_are = heads'.lists_are;
        empty =
            slice_get-map (with_version (filled_states rows done) row.key index).list
            (with_version (filled_states rows done) row.key index).keys list
            ∙ ap (option_map (with_version (filled_states rows done) row.key index).list) place'
            ∙ ap (λ (l : List Use). Some l) (list_emptied row.key ∙ rw (key_is_key row.key) refl);
      }

  pub row_filled : (tree tree' : List Leaf) (lists lists' filled : List KeptList)
      (newest newest' : List ℕ)
      (closed closed' : List (List ℕ)) (list : ℕ) → AreFilling rows done tree lists newest closed
      → AreHeads tree' lists' newest' (with_version (filled_states rows done) key index)
      → closed' ≡ closed_with (filled_states rows done) key closed
      → slice_get (with_version (filled_states rows done) key index).keys list ≡ Some key
      → filled ≡ map kept_of (slice_set (map (with_version (filled_states rows done) row.key
      index).list
      (with_version (filled_states rows done) row.key index).keys) list (uses_at rows row.key
      (Some row)))
      → AreFilling rows (done ++ row ∷ []) tree' filled newest' closed'
  row_filled tree tree' lists lists' filled newest newest' closed closed' list a heads closed_is
      place is =
      let after = with_version (filled_states rows done) row.key index in
      let heads' = subst (λ (k : List ℕ). AreHeads tree' lists' newest' (with_version
      (filled_states rows done) k index)) key_is heads in
      let place' : slice_get after.keys list ≡ Some row.key =
      subst (λ (k : List ℕ). slice_get (with_version (filled_states rows done) k index).keys list ≡
      Some k) key_is place in
      let listed : AreHeads tree' filled newest' (record {
        keys = after.keys;
        entry = after.entry;
        list = changed_at after.list row.key (uses_at rows row.key (Some row));
        index = after.index;
      }) = record {
        apart = heads'.apart;
        leaves_are = heads'.leaves_are;
        lists_are = is ∙ ap (map kept_of) (value_set after.list after.keys row.key list
            (uses_at rows row.key (Some row)) heads'.apart place');
        newest_are = heads'.newest_are;
      } in
      record {
        heads = heads_same tree' filled newest' (record {
          keys = after.keys;
          entry = after.entry;
          list = changed_at after.list row.key (uses_at rows row.key (Some row));
          index = after.index;
        }) (filled_states rows (done ++ row ∷ [])) listed keys_after entry_after list_filled
            index_after;
        closed_are = subst (λ (lists : List (List ℕ)). AreClosed rows (done ++ row ∷ []) lists)
            (ap (λ (k : List ℕ). closed_with (filled_states rows done) k closed) (sym key_is)
            ∙ sym closed_is)
            (closed_more rows done row (filled_states rows done) closed a.closed_are refl refl
            refl);
      }

-- ---- the leaves

pub renewing_begun : (rows : List Row) (tree : List Leaf) (lists : List KeptList)
    (newest kept : List ℕ) (closed : List (List ℕ)) (entries : List Entry) → IsStoreOf rows entries
    → AreFilling rows rows tree lists newest closed → kept ≡ newest
    → AreRenewing rows (entry_or_fresh []) [] tree lists kept entries
renewing_begun rows tree lists newest kept closed entries store a same = record {
  store = store;
  heads = record {
    apart = a.heads.apart;
    leaves_are = a.heads.leaves_are;
    lists_are = a.heads.lists_are;
    newest_are = same ∙ a.heads.newest_are;
  };
}
