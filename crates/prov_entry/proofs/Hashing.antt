-- The items of a list are added to a hasher one after the other, and each is lawful.
use Rattle.std.proofs.Common.{◌≡◌, ℕ, ◌+◌, ◌<◌, ◌≤◌, List, [], ◌∷◌, ◌++◌, length, get_or, take, sym, ap, subst, ◌∙◌, append_assoc}
use Rattle.std.specs.List.{concat, flat_map, AllByRecursion}
use Rattle.merkle_tree.specs.digest_kit.Hasher.{HasAdded}
use Rattle.merkle_tree.specs.digest_kit.declared.hasher.TagHasher.{TagHasher}
use Rattle.std.proofs.lemmas.List.{append-nil, take_more, take_all}
use Rattle.byte_fields.proofs.WrittenItems.{all_more, one_item_more}
use Rattle.prov_entry.specs.Digests.{Adds}

-- These items were added, and each is lawful.
pub record Added {A : Type 0} (fields : A → List (List ℕ)) (Is : A → Type 0) (old new : TagHasher) (items : List A) : Type 0 where
  pub added : Adds old new (concat (flat_map fields items))
  pub lawful : AllByRecursion Is items

pub added_none : {A : Type 0} (fields : A → List (List ℕ)) (Is : A → Type 0) (old : TagHasher) → Added fields Is old old []
added_none fields Is old = record { added = λ message has. subst (HasAdded old) (sym (append-nil message)) has; lawful = tt }

adds_more : {A : Type 0} (fields : A → List (List ℕ)) (old before new : TagHasher) (xs : List A) (i : ℕ) (x : A) → i < length xs → x ≡ get_or xs i x → Adds before new (concat (fields x))
    → Adds old before (concat (flat_map fields (take i xs))) → Adds old new (concat (flat_map fields (take (i + 1) xs)))
adds_more fields old before new xs i x lt e one so_far message has =
    let all : (message ++ concat (flat_map fields (take i xs))) ++ concat (fields x) ≡ message ++ concat (flat_map fields (take (i + 1) xs)) =
    append_assoc message (concat (flat_map fields (take i xs))) (concat (fields x)) ∙ ap (λ (t : List ℕ). message ++ t) (sym (one_item_more fields xs i x lt e)) in
    subst (HasAdded new) all (one (message ++ concat (flat_map fields (take i xs))) (so_far message has))

pub added_more : {A : Type 0} (fields : A → List (List ℕ)) (Is : A → Type 0) (old before new : TagHasher) (xs : List A) (i : ℕ) (x : A) → i < length xs → x ≡ get_or xs i x → Adds before new (concat (fields x)) → Is x → Added fields Is old before (take i xs)
    → Added fields Is old new (take (i + 1) xs)
added_more {A} fields Is old before new xs i x lt e one is so_far =
    let taken : take (i + 1) xs ≡ take i xs ++ x ∷ [] = take_more xs i x lt ∙ ap (λ (y : A). take i xs ++ y ∷ []) (sym e) in
    record { added = adds_more fields old before new xs i x lt e one so_far.added; lawful = subst (AllByRecursion Is) (sym taken) (all_more Is (take i xs) x so_far.lawful is) }

pub added_all : {A : Type 0} (fields : A → List (List ℕ)) (Is : A → Type 0) (old new : TagHasher) (xs : List A) (i : ℕ) → length xs ≤ i → Added fields Is old new (take i xs) → Added fields Is old new xs
added_all fields Is old new xs i le so_far = subst (Added fields Is old new) (take_all i xs le) so_far
