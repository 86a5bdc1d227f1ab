-- The top of the levels is the tree hash.
use Rattle.std.proofs.Common.{◌≡◌, ℕ, zero, suc, ◌+◌, ◌-◌, ◌*◌, ◌^◌, ◌<◌, ◌≤◌, List, [], ◌∷◌, ◌++◌, length, take, drop, get_or, map, refl, sym, ap, ◌∙◌, arith, inl, inr, replicate, Vec, Global}
use Rattle.std.proofs.Math.Nat.{two-pow-succ}
use Rattle.std.proofs.lemmas.Bool.{cases_lt}
use Rattle.std.proofs.lemmas.List.{length-take, length-drop, length-map, take-append-drop, map-append}
use Rattle.sha2.specs.Sha256.{sha256}
use Rattle.merkle_tree.specs.Tree.{hash_to, tree_hash, node_hash}
use Rattle.merkle_tree.specs.Levels.{digest_of, join, pair_up, levels_over, leaf_level, hashes_in, AreLevels}
use Rattle.merkle_tree.specs.declared.limits.TheConstants.{MAX_HEIGHT, MAX_LEAVES}
use Rattle.lc_base.specs.declared.digest.Digest.{Digest}
use Rattle.merkle_tree.proofs.Sound.{tree-split, tree-low}
use Rattle.merkle_tree.proofs.Raising.{length-pair_up, are_over}
use Rattle.merkle_tree.proofs.TheLaws.{tree_of_none}

-- The level that is j levels above some hashes.
unfoldable pub ups : ℕ → List Digest → List Digest
ups zero hs = hs
ups (suc j) hs = ups j (pair_up hs)

pub pair_up-append : (k : ℕ) (a b : List Digest) → length a ≡ 2 * k → pair_up (a ++ b) ≡ pair_up a ++ pair_up b
pair_up-append k [] b e = refl
pair_up-append k (x ∷ []) b e = absurd (omega arith)
pair_up-append k (x ∷ y ∷ a) b e = ap (λ (t : List Digest). join x y ∷ t) (pair_up-append (k - 1) a b (omega arith))

pub ups-append : (j : ℕ) (a b : List Digest) → length a ≡ 2 ^ j → ups j (a ++ b) ≡ ups j a ++ ups j b
unfolding ups
ups-append zero a b e = refl
ups-append (suc j) a b e =
    let two = two-pow-succ j in
    let half : length (pair_up a) ≡ 2 ^ j = omega (arith, length-pair_up a) in
    ap (ups j) (pair_up-append (2 ^ j) a b (omega arith)) ∙ ups-append j (pair_up a) (pair_up b) half

pub ups-after : (j : ℕ) (hs : List Digest) → ups (suc j) hs ≡ pair_up (ups j hs)
unfolding ups
ups-after zero hs = refl
ups-after (suc j) hs = ups-after j (pair_up hs)

pub length-ups : (j : ℕ) (hs : List Digest) → 0 < length hs → length hs ≤ 2 ^ j → length (ups j hs) ≡ 1
unfolding ups
length-ups zero hs pos few = omega arith
length-ups (suc j) hs pos few = length-ups j (pair_up hs) (omega (arith, length-pair_up hs)) (omega (arith, length-pair_up hs, two-pow-succ j))

one_up : (l : List Digest) (d : Digest) → length l ≡ 1 → pair_up l ≡ l
one_up [] d e = refl
one_up (x ∷ []) d e = refl
one_up (x ∷ y ∷ l) d e = absurd (omega arith)

two_up : (l r : List Digest) (d : Digest) → length l ≡ 1 → length r ≡ 1 → get_or (pair_up (l ++ r)) 0 d ≡ join (get_or l 0 d) (get_or r 0 d)
two_up [] r d e f = absurd (omega arith)
two_up (x ∷ []) [] d e f = absurd (omega arith)
two_up (x ∷ []) (y ∷ []) d e f = refl
two_up (x ∷ []) (y ∷ z ∷ r) d e f = absurd (omega arith)
two_up (x ∷ y ∷ l) r d e f = absurd (omega arith)

drop-map : {A : Type 0} (f : A → Digest) (n : ℕ) (xs : List A) → drop n (map f xs) ≡ map f (drop n xs)
drop-map f zero xs = refl
drop-map f (suc n) [] = refl
drop-map f (suc n) (x ∷ xs) = drop-map f n xs

-- The top of the levels and the split at the largest power of two have one hash.
pub top_is_tree : (j : ℕ) (xs : List (List ℕ)) (d : Digest) → 0 < length xs → length xs ≤ 2 ^ j → (get_or (ups j (map digest_of xs)) 0 d).0 ≡ hash_to j xs
unfolding ups hash_to
top_is_tree zero [] d pos few = absurd (omega arith)
top_is_tree zero (x ∷ xs) d pos few = refl
top_is_tree (suc j) xs d pos few = elim (cases_lt (2 ^ j) (length xs)) [
  | inr low ↦
      let one : length (ups j (map digest_of xs)) ≡ 1 = length-ups j (map digest_of xs) (omega (arith, length-map xs digest_of)) (omega (arith, length-map xs digest_of)) in
      ap (λ (l : List Digest). (get_or l 0 d).0) (ups-after j (map digest_of xs) ∙ one_up (ups j (map digest_of xs)) d one)
      ∙ top_is_tree j xs d pos low ∙ sym (tree-low j xs low)
  | inl big ↦
      let front = take (2 ^ j) xs in
      let back = drop (2 ^ j) xs in
      let front_len : length front ≡ 2 ^ j = omega (arith, length-take (2 ^ j) xs) in
      let back_pos : 0 < length back = omega (arith, length-drop (2 ^ j) xs) in
      let back_few : length back ≤ 2 ^ j = omega (arith, length-drop (2 ^ j) xs, two-pow-succ j) in
      let whole : map digest_of xs ≡ map digest_of front ++ map digest_of back = ap (map digest_of) (sym (take-append-drop (2 ^ j) xs)) ∙ map-append digest_of front back in
      let parts = ups-append j (map digest_of front) (map digest_of back) (length-map front digest_of ∙ front_len) in
      let one : length (ups j (map digest_of front)) ≡ 1 = length-ups j (map digest_of front) (omega (arith, length-map front digest_of)) (omega (arith, length-map front digest_of)) in
      let two : length (ups j (map digest_of back)) ≡ 1 = length-ups j (map digest_of back) (omega (arith, length-map back digest_of)) (omega (arith, length-map back digest_of)) in
      let join_is = two_up (ups j (map digest_of front)) (ups j (map digest_of back)) d one two in
      ap (λ (l : List Digest). (get_or l 0 d).0) (ups-after j (map digest_of xs) ∙ ap pair_up (ap (ups j) whole ∙ parts))
      ∙ ap (λ (t : Digest). t.0) join_is
      ∙ ap (λ (l : List ℕ). node_hash l (get_or (ups j (map digest_of back)) 0 d).0) (top_is_tree j front d (omega arith) (omega arith))
      ∙ ap (node_hash (hash_to j front)) (top_is_tree j back d back_pos back_few)
      ∙ sym (tree-split j xs big)
]

-- ---- as the code finds them

levels-length : (j : ℕ) (hs : List Digest) → length (levels_over j hs) ≡ j + 1
unfolding levels_over
levels-length zero hs = refl
levels-length (suc j) hs = omega (arith, levels-length j (pair_up hs))

levels-top : (j : ℕ) (hs : List Digest) → get_or (levels_over j hs) j [] ≡ ups j hs
unfolding levels_over ups
levels-top zero hs = refl
levels-top (suc j) hs = levels-top j (pair_up hs)

ups-none : (j : ℕ) → ups j [] ≡ []
unfolding ups
ups-none zero = refl
ups-none (suc j) = ups-none j

pub level_count : (vs : List (Vec Digest Global)) → AreLevels (hashes_in vs) → length vs ≡ MAX_HEIGHT + 1
level_count vs is = sym (length-map vs (λ (level : Vec Digest Global). level.items)) ∙ ap length is.pairs ∙ levels-length MAX_HEIGHT (leaf_level (hashes_in vs))

pub lowest_is : (vs : List (Vec Digest Global)) (v : Vec Digest Global) → 0 < length vs → v ≡ get_or vs 0 v → v.items ≡ leaf_level (hashes_in vs)
lowest_is [] v some is = absurd (omega arith)
lowest_is (w ∷ vs) v some is = ap (λ (level : Vec Digest Global). level.items) is

items_at : (vs : List (Vec Digest Global)) (i : ℕ) (v : Vec Digest Global) → i < length vs → v ≡ get_or vs i v → v.items ≡ get_or (hashes_in vs) i []
items_at [] i v below is = absurd (omega arith)
items_at (w ∷ vs) zero v below is = ap (λ (level : Vec Digest Global). level.items) is
items_at (w ∷ vs) (suc i) v below is = items_at vs i v (omega arith) is

pub top_is : (vs : List (Vec Digest Global)) (v : Vec Digest Global) → AreLevels (hashes_in vs) → v ≡ get_or vs MAX_HEIGHT v → v.items ≡ ups MAX_HEIGHT (leaf_level (hashes_in vs))
top_is vs v are is =
    items_at vs MAX_HEIGHT v (omega (arith, level_count vs are)) is
    ∙ ap (λ (ls : List (List Digest)). get_or ls MAX_HEIGHT []) are.pairs ∙ levels-top MAX_HEIGHT (leaf_level (hashes_in vs))

-- The hash of a tree that has a top.
pub root_is : (top hashes : List Digest) (texts : List (List ℕ)) (hash : Digest) → top ≡ ups MAX_HEIGHT hashes → map digest_of texts ≡ hashes → length hashes ≤ MAX_LEAVES
    → hash ≡ get_or top 0 hash → 0 < length top → hash.0 ≡ tree_hash texts
root_is top hashes [] hash is of few first some = absurd (let none : top ≡ [] = is ∙ ap (ups MAX_HEIGHT) (sym of) ∙ ups-none MAX_HEIGHT in omega (arith, ap length none))
root_is top hashes (text ∷ texts) hash is of few first some =
    let small : length (text ∷ texts) ≤ 2 ^ MAX_HEIGHT = omega (arith, length-map (text ∷ texts) digest_of, ap length of) in
    ap (λ (d : Digest). d.0) (first ∙ ap (λ (l : List Digest). get_or l 0 hash) (is ∙ ap (ups MAX_HEIGHT) (sym of)))
    ∙ top_is_tree MAX_HEIGHT (text ∷ texts) hash (omega arith) small

-- The hash of a tree whose top is empty, because it has no leaf.
pub none_is : (top hashes : List Digest) (texts : List (List ℕ)) → top ≡ ups MAX_HEIGHT hashes → map digest_of texts ≡ hashes → length hashes ≤ MAX_LEAVES → length top ≡ 0
    → sha256 [] ≡ tree_hash texts
none_is top hashes [] is of few none = sym tree_of_none
none_is top hashes (text ∷ texts) is of few none =
    let l = length-map (text ∷ texts) digest_of in
    absurd (let one = length-ups MAX_HEIGHT hashes (omega (arith, l, ap length of)) (omega arith) in omega (arith, one, ap length is))

hashes-none : (j : ℕ) → levels_over j [] ≡ replicate (j + 1) []
unfolding levels_over
hashes-none zero = refl
hashes-none (suc j) = let s : suc j + 1 ≡ suc (j + 1) = omega arith in ap (λ (ls : List (List Digest)). [] ∷ ls) (hashes-none j) ∙ rw s refl

-- The levels of a tree with no leaf.
pub are_new : (levels : List (List Digest)) (n : ℕ) → levels ≡ replicate n [] → n ≡ MAX_HEIGHT + 1 → AreLevels levels
are_new levels n is all =
    let over : levels ≡ levels_over MAX_HEIGHT [] = is ∙ ap (λ (k : ℕ). replicate k []) all ∙ sym (hashes-none MAX_HEIGHT) in
    (are_over levels [] over (omega arith)).0
