-- Parts of the leaves, as the tree hash is made of them.
use Rattle.std.proofs.Common.{◌≡◌, ℕ, zero, suc, ◌+◌, ◌-◌, ◌^◌, ◌<◌, ◌≤◌, List, [], ◌∷◌, length, take, drop, get_or, Some, refl, sym, ap, ◌∙◌, arith}
use Rattle.std.specs.Prelude.{slice_get}
use Rattle.std.proofs.lemmas.List.{length-take-le, length-drop, get_or-drop, drop-take}
use Rattle.std.proofs.lemmas.Option.{get_or_from_slice_get}
use Rattle.sha2.specs.Sha256.{sha256}
use Rattle.root_laws.specs.merkle_tree.Tree.{leaf_text, node_hash, hash_to}
use Rattle.root_laws.proofs.merkle_tree.Steps.{no_leaf, one_leaf, two_parts, low_part}
use Rattle.root_laws.specs.prov_entry.declared.entry.Leaf.{Leaf}
use Rattle.root_laws.specs.prov_entry.Spelling.{leaf_bytes}
use Rattle.state_tree.specs.Leaves.{leaf_texts}

abbrev text : Leaf → List ℕ
text leaf = leaf_text (leaf_bytes leaf)

take_take : {X : Type 0} (n m : ℕ) (xs : List X) → n ≤ m → take n (take m xs) ≡ take n xs
take_take zero m xs h = refl
take_take (suc n) zero xs h = absurd (omega (arith, h))
take_take (suc n) (suc m) [] h = refl
take_take (suc n) (suc m) (x ∷ xs) h = ap (λ (ys : List _). x ∷ ys)
    (take_take n m xs (omega (arith, h)))

drop_none : {X : Type 0} (n : ℕ) → drop {A = X} n [] ≡ []
drop_none zero = refl
drop_none (suc n) = refl

drop_drop : {X : Type 0} (n m : ℕ) (xs : List X) → drop n (drop m xs) ≡ drop (m + n) xs
drop_drop n zero xs = let e : n ≡ 0 + n = omega arith in ap (λ (k : ℕ). drop k xs) e
drop_drop n (suc m) [] = drop_none n ∙ sym (drop_none (suc m + n))
drop_drop n (suc m) (x ∷ xs) = let e : suc (m + n) ≡ suc m + n = omega arith in drop_drop n m xs
    ∙ ap (λ (k : ℕ). drop k (x ∷ xs)) e

part_length : {X : Type 0} (xs : List X) (start count : ℕ) → start + count ≤ length xs
    → length (take count (drop start xs)) ≡ count
part_length xs start count within = length-take-le count (drop start xs)
    (omega (arith, within, length-drop start xs))

left_part : {X : Type 0} (xs : List X) (start count half : ℕ) → half ≤ count
    → take half (take count (drop start xs)) ≡ take half (drop start xs)
left_part xs start count half low = take_take half count (drop start xs) low

right_part : {X : Type 0} (xs : List X) (start count half : ℕ) → half ≤ count
    → drop half (take count (drop start xs)) ≡ take (count - half) (drop (start + half) xs)
right_part xs start count half low =
    let e : count ≡ half + (count - half) = omega (arith, low) in
    ap (λ (k : ℕ). drop half (take k (drop start xs))) e
    ∙ drop-take half (count - half) (drop start xs)
    ∙ ap (take (count - half)) (drop_drop half start xs)

pub none_hashed : (leaves : List Leaf) (start count : ℕ) → count ≡ 0
    → hash_to 0 (leaf_texts (take count (drop start leaves))) ≡ sha256 []
none_hashed leaves start count none = ap
    (λ (n : ℕ). hash_to 0 (leaf_texts (take n (drop start leaves)))) none
    ∙ no_leaf text [] refl

pub one_hashed : (leaves : List Leaf) (start count : ℕ) (leaf : Leaf) → 0 < count
    → start + count ≤ length leaves → slice_get leaves start ≡ Some leaf
    → hash_to 0 (leaf_texts (take count (drop start leaves))) ≡ sha256 (text leaf)
one_hashed leaves start count leaf some within held =
    one_leaf text 0 leaf (take count (drop start leaves)) refl
    (omega (arith, some, part_length leaves start count within))
    (sym (first count (drop start leaves) some ∙ get_or-drop start leaves 0 leaf
    ∙ ap (λ (k : ℕ). get_or leaves k leaf) same
    ∙ get_or_from_slice_get leaves start leaf leaf held))
  where
    same : start + 0 ≡ start
    same = omega arith

    first : (n : ℕ) (ls : List Leaf) → 0 < n → get_or (take n ls) 0 leaf ≡ get_or ls 0 leaf
    first zero ls pos = absurd (omega (arith, pos))
    first (suc n) [] pos = refl
    first (suc n) (one ∷ ls) pos = refl

pub two_hashed : (leaves : List Leaf) (height start count half : ℕ) → 0 < height
    → half ≡ 2 ^ (height - 1) → half < count → start + count ≤ length leaves
    → hash_to height (leaf_texts (take count (drop start leaves))) ≡ node_hash
    (hash_to (height - 1) (leaf_texts (take half (drop start leaves))))
    (hash_to (height - 1) (leaf_texts (take (count - half) (drop (start + half) leaves))))
two_hashed leaves height start count half pos is more within =
    let low : half ≤ count = omega (arith, more) in
    two_parts text height half (take count (drop start leaves)) pos is
    (omega (arith, more, part_length leaves start count within))
    ∙ (λ i. node_hash (hash_to (height - 1) (leaf_texts (left_part leaves start count half low i)))
    (hash_to (height - 1) (leaf_texts (right_part leaves start count half low i))))

pub low_hashed : (leaves : List Leaf) (height start count half : ℕ) → 0 < height
    → half ≡ 2 ^ (height - 1) → count ≤ half → start + count ≤ length leaves
    → hash_to height (leaf_texts (take count (drop start leaves))) ≡ hash_to (height - 1)
    (leaf_texts (take count (drop start leaves)))
low_hashed leaves height start count half pos is few within =
    low_part text height half (take count (drop start leaves)) pos is
    (omega (arith, few, part_length leaves start count within))
