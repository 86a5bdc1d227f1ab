-- The lists of keys, and what changes one of them.
use Rattle.std.proofs.Common.{◌≡◌, ◌≢◌, ◌∙◌, ℕ, ◌<◌, List, [], ◌∷◌, ◌++◌, length, map, Some, false, sym, ap, arith}
use Rattle.std.specs.Prelude.{slice_get, slice_set, slice_index_or}
use Rattle.std.specs.List.{AllPairs}
use Rattle.std.proofs.lemmas.List.{get_or-map, length-map}
use Rattle.std.proofs.lemmas.Option.{slice_get_within, get_or_from_slice_get}
use Rattle.entry_views.specs.prov_entry.declared.entry.Leaf.{Leaf}
use Rattle.plain_rows.specs.root_laws.Root.{is_among}
use Rattle.forward_links.specs.declared.kept_list.KeptList.{KeptList}
use Rattle.forward_links.specs.Lists.{Use, kept_of, kept_at, with_use_at}
use Rattle.lineage_index.specs.Growth.{changed_at}
use Rattle.lineage_index.specs.Heads.{AreLists}
use Rattle.lineage_index.proofs.ByKey.{set_at_key, changed_nowhere, same_everywhere}

-- the value at the index of a key
pub value_at : {A : Type 0} (f : List ℕ → A) (keys : List (List ℕ)) (key : List ℕ) (i : ℕ) (d : A) → slice_get keys i ≡ Some key → (i < length (map f keys)) × (slice_index_or (map f keys) i d ≡ f key)
value_at f keys key i d at =
    let within = slice_get_within keys i key at in
    (omega (arith, within, length-map keys f), get_or-map f keys i key d within ∙ ap f (get_or_from_slice_get keys i key key at))

-- the value of a key is set
pub value_set : {A : Type 0} (f : List ℕ → A) (keys : List (List ℕ)) (key : List ℕ) (i : ℕ) (x : A) → AllPairs ◌≢◌ keys → slice_get keys i ≡ Some key → slice_set (map f keys) i x ≡ map (changed_at f key x) keys
value_set f keys key i x apart at = set_at_key f keys key i x key apart (slice_get_within keys i key at) (get_or_from_slice_get keys i key key at)

pub lists_within : (tree : List Leaf) (lists : List KeptList) (keys : List (List ℕ))
    (list : List ℕ → List Use) (key : List ℕ) (i : ℕ) → AreLists tree lists keys list
    → slice_get keys i ≡ Some key → i < length lists
lists_within tree lists keys list key i a at = omega (
  arith,
  slice_get_within keys i key at,
  ap
      length a.lists_are,
  length-map (map list keys) kept_of,
  length-map keys list,
)

-- what is kept of the list of a key
pub kept_of_key : (tree : List Leaf) (lists : List KeptList) (keys : List (List ℕ)) (list : List ℕ
    → List Use) (key : List ℕ) (i : ℕ) → AreLists tree lists keys list
    → slice_get keys i ≡ Some key → kept_at lists i ≡ kept_of (list key)
kept_of_key tree lists keys list key i a at =
    let there = value_at list keys key i [] at in
    ap (λ (kept : List KeptList). kept_at kept i) a.lists_are ∙ get_or-map kept_of
    (map list keys) i [] (kept_of []) there.0 ∙ ap kept_of there.1

pub use_added : (tree : List Leaf) (lists more : List KeptList) (keys : List (List ℕ))
    (list : List ℕ → List Use) (key : List ℕ) (i : ℕ) (user : Use) → AreLists tree lists keys list
    → slice_get keys i ≡ Some key
    → more ≡ map kept_of (with_use_at (map list keys) i user) → AreLists tree more keys
    (changed_at list key (list key ++ user ∷ []))
use_added tree lists more keys list key i user a at is = record {
  apart = a.apart;
  entry = a.entry;
  leaves_are = a.leaves_are;
  lists_are =
      is ∙ ap (map kept_of)
      (ap (λ (l : List Use). slice_set (map list keys) i (l ++ user ∷ [])) (value_at list keys key i
      [] at).1
      ∙ value_set list keys key i (list key ++ user ∷ []) a.apart at);
}

pub use_nowhere : (tree : List Leaf) (lists : List KeptList) (keys : List (List ℕ)) (list : List ℕ
    → List Use) (key : List ℕ) (x : List Use) → AreLists tree lists keys list
    → is_among keys key ≡ false
    → AreLists tree lists keys (changed_at list key x)
use_nowhere tree lists keys list key x a none = record {
  apart = a.apart;
  entry = a.entry;
  leaves_are = a.leaves_are;
  lists_are = a.lists_are ∙ ap (map kept_of) (sym (changed_nowhere list key x keys none));
}

pub lists_same : (tree : List Leaf) (lists : List KeptList) (keys : List (List ℕ)) (f g : List ℕ
    → List Use) → AreLists tree lists keys f → ((key : List ℕ) → f key ≡ g key)
    → AreLists tree lists keys g
lists_same tree lists keys f g a same = record {
  apart = a.apart;
  entry = a.entry;
  leaves_are = a.leaves_are;
  lists_are = a.lists_are ∙ ap (map kept_of) (same_everywhere f g keys same);
}
