-- A search goes over texts, some at a time: its invariant is about the texts that are still to
-- come.
use Rattle.std.proofs.Common.{◌≡◌, ◌∙◌, ℕ, ◌+◌, ◌<◌, ◌≤◌, List, [], ◌∷◌, ◌++◌, length, map, drop}
use Rattle.std.proofs.Common.{get_or, slice_get, Some, refl, sym, subst, append-nil, append_assoc}
use Rattle.std.specs.List.{flat_map}
use Rattle.sha2.specs.Sha256.{sha256}
use Rattle.merkle_tree.specs.Chains.{chain_texts}
use Rattle.text_clashes.specs.Search.{Search}
use Rattle.text_clashes.specs.Searching.{Searches}
use Rattle.text_clashes.proofs.Searched.{searches_none, searches_both}
use Rattle.answer_exposing.proofs.OneMore.{after, after_item, none_after}

abbrev Texts : Type 0
Texts = List (List ℕ)

-- Of all texts, those that came are followed by the rest.
abbrev pub SearchesUpTo : Texts → Texts → Search → Search → Type 0
SearchesUpTo rest all old new = (done : Texts) × Searches done old new × (done ++ rest ≡ all)

pub begins : (all : Texts) (search : Search) → SearchesUpTo all all search search
begins all search = ([], searches_none search, refl)

pub goes_on : (texts rest all : Texts) (old mid new : Search)
    → SearchesUpTo (texts ++ rest) all old mid → Searches texts mid new
    → SearchesUpTo rest all old new
goes_on texts rest all old mid new so_far more = (
  so_far.0 ++ texts,
  searches_both so_far.0 texts old mid new so_far.1 more,
  append_assoc so_far.0 texts rest ∙ so_far.2,
)

pub ends : (all : Texts) (old new : Search) → SearchesUpTo [] all old new → Searches all old new
ends all old new so_far = subst (λ (texts : Texts). Searches texts old new)
    (sym (append-nil so_far.0) ∙ so_far.2) so_far.1

-- ---- if an item has several texts

pub texts_go_on : {A : Type 0} (f : A → Texts) (xs : List A) (i : ℕ) (x : A) (all : Texts)
    (old mid new : Search) → slice_get xs i ≡ Some x
    → SearchesUpTo (flat_map f (drop i xs)) all old mid → Searches (f x) mid new
    → SearchesUpTo (flat_map f (drop (i + 1) xs)) all old new
texts_go_on {A = A} f xs i x all old mid new at so_far more =
    goes_on (f x) (flat_map f (drop (i + 1) xs)) all old mid new
    (subst (λ (ys : List A). SearchesUpTo (flat_map f ys) all old mid) (after xs i x at) so_far)
    more

pub texts_end : {A : Type 0} (f : A → Texts) (xs : List A) (i : ℕ) (all : Texts) (old new : Search)
    → length xs ≤ i → SearchesUpTo (flat_map f (drop i xs)) all old new → Searches all old new
texts_end {A = A} f xs i all old new le so_far =
    ends all old new (subst (λ (ys : List A). SearchesUpTo (flat_map f ys) all old new)
    (none_after xs i le) so_far)

-- ---- if it has one

pub one_goes_on : {A : Type 0} (f : A → List ℕ) (xs : List A) (i : ℕ) (x : A) (all : Texts)
    (old mid new : Search) → i < length xs → x ≡ get_or xs i x
    → SearchesUpTo (map f (drop i xs)) all old mid → Searches (f x ∷ []) mid new
    → SearchesUpTo (map f (drop (i + 1) xs)) all old new
one_goes_on {A = A} f xs i x all old mid new low is so_far more =
    goes_on (f x ∷ []) (map f (drop (i + 1) xs)) all old mid new
    (subst (λ (ys : List A). SearchesUpTo (map f ys) all old mid) (after_item xs i x low is) so_far)
    more

pub ones_end : {A : Type 0} (f : A → List ℕ) (xs : List A) (i : ℕ) (all : Texts) (old new : Search)
    → length xs ≤ i → SearchesUpTo (map f (drop i xs)) all old new → Searches all old new
ones_end {A = A} f xs i all old new le so_far =
    ends all old new (subst (λ (ys : List A). SearchesUpTo (map f ys) all old new)
    (none_after xs i le) so_far)

-- ---- if each text has the digest of the one before

pub chain_goes_on : {A : Type 0} (text : List ℕ → A → List ℕ) (digest next : List ℕ) (xs : List A)
    (i : ℕ) (x : A) (all : Texts) (old mid new : Search) → i < length xs → x ≡ get_or xs i x
    → next ≡ sha256 (text digest x)
    → SearchesUpTo (chain_texts text digest (drop i xs)) all old mid
    → Searches (text digest x ∷ []) mid new
    → SearchesUpTo (chain_texts text next (drop (i + 1) xs)) all old new
chain_goes_on {A = A} text digest next xs i x all old mid new low is next_is so_far more =
    let rest : List A = drop (i + 1) xs in
    let still : SearchesUpTo (text digest x ∷ chain_texts text (sha256 (text digest x)) rest) all
    old mid = subst (λ (ys : List A). SearchesUpTo (chain_texts text digest ys) all old mid)
    (after_item xs i x low is) so_far in
    goes_on (text digest x ∷ []) (chain_texts text next rest) all old mid new
    (subst (λ (d : List ℕ). SearchesUpTo (text digest x ∷ chain_texts text d rest) all old mid)
    (sym next_is) still) more

pub chain_ends : {A : Type 0} (text : List ℕ → A → List ℕ) (digest : List ℕ) (xs : List A) (i : ℕ)
    (all : Texts) (old new : Search) → length xs ≤ i
    → SearchesUpTo (chain_texts text digest (drop i xs)) all old new → Searches all old new
chain_ends {A = A} text digest xs i all old new le so_far =
    ends all old new (subst (λ (ys : List A). SearchesUpTo (chain_texts text digest ys) all old new)
    (none_after xs i le) so_far)
