-- The definitions as the code meets them: it counts j down.
use Rattle.std.proofs.Common.{◌≡◌, ℕ, zero, suc, ◌+◌, ◌-◌, ◌^◌, ◌<◌, ◌≤◌, List, [], ◌∷◌, length, take, drop, get_or, map, refl, ap, ◌∙◌, arith}
use Rattle.std.proofs.Math.Nat.{two-pow-succ}
use Rattle.std.proofs.lemmas.List.{take-map, length-map}
use Rattle.sha2.specs.Sha256.{sha256}
use Rattle.std.proofs.lemmas.Bool.{lt-ltb, le-ltb}
use Rattle.merkle_tree.specs.Tree.{node_hash, hash_to, climb_to, audit_length_to, Climb, one_higher, text_on_left, text_on_right}
use Rattle.merkle_tree.proofs.Sound.{tree-split, tree-low, climb-left, climb-right, climb-low}

drop-map : {A : Type 0} (f : A → List ℕ) (n : ℕ) (xs : List A) → drop n (map f xs) ≡ map f (drop n xs)
drop-map f zero xs = refl
drop-map f (suc n) [] = refl
drop-map f (suc n) (x ∷ xs) = drop-map f n xs

pub no_leaf : {A : Type 0} (f : A → List ℕ) (xs : List A) → length xs ≡ 0 → hash_to 0 (map f xs) ≡ sha256 []
unfolding hash_to
no_leaf f [] none = refl
no_leaf f (x ∷ xs) none = absurd (omega arith)

pub one_leaf : {A : Type 0} (f : A → List ℕ) (j : ℕ) (x : A) (xs : List A) → j ≡ 0 → 0 < length xs → x ≡ get_or xs 0 x → hash_to j (map f xs) ≡ sha256 (f x)
unfolding hash_to
one_leaf f j x [] z some is = absurd (omega arith)
one_leaf f j x (y ∷ xs) z some is = rw (z, is) refl

pub lowest_part : {A : Type 0} (f : A → List ℕ) (j : ℕ) (xs : List A) → j ≡ 0 → hash_to j (map f xs) ≡ hash_to 0 (map f xs)
lowest_part f j xs z = ap (λ (k : ℕ). hash_to k (map f xs)) z

pub two_parts : {A : Type 0} (f : A → List ℕ) (j half : ℕ) (xs : List A) → 0 < j → half ≡ 2 ^ (j - 1) → half < length xs
    → hash_to j (map f xs) ≡ node_hash (hash_to (j - 1) (map f (take half xs))) (hash_to (j - 1) (map f (drop half xs)))
two_parts f zero half xs pos is big = absurd (omega arith)
two_parts f (suc j) half xs pos is big =
    let down : suc j - 1 ≡ j = omega arith in
    let is' : half ≡ 2 ^ j = is ∙ ap (λ (k : ℕ). 2 ^ k) down in
    let more : 2 ^ j < length (map f xs) = omega (arith, length-map xs f) in
    rw (down, is') (tree-split j (map f xs) more ∙ rw (take-map f (2 ^ j) xs, drop-map f (2 ^ j) xs) refl)

pub low_part : {A : Type 0} (f : A → List ℕ) (j half : ℕ) (xs : List A) → 0 < j → half ≡ 2 ^ (j - 1) → length xs ≤ half → hash_to j (map f xs) ≡ hash_to (j - 1) (map f xs)
low_part f zero half xs pos is small = absurd (omega arith)
low_part f (suc j) half xs pos is small =
    let down : suc j - 1 ≡ j = omega arith in
    let is' : half ≡ 2 ^ j = is ∙ ap (λ (k : ℕ). 2 ^ k) down in
    rw down (tree-low j (map f xs) (omega (arith, length-map xs f)))

pub fits_back : (j half n : ℕ) → 0 < j → half ≡ 2 ^ (j - 1) → n ≤ 2 ^ j → n - half ≤ 2 ^ (j - 1)
fits_back zero half n pos is few = absurd (omega arith)
fits_back (suc j) half n pos is few = let down : suc j - 1 ≡ j = omega arith in let is' = rw down at is in rw down (omega (arith, two-pow-succ j))

-- ---- upward

pub climb_none : (j m n : ℕ) (s : Climb) → j ≡ 0 → climb_to j m n s ≡ s
unfolding climb_to
climb_none j m n s z = rw z refl

pub len_none : (j m n : ℕ) → j ≡ 0 → audit_length_to j m n ≡ 0
unfolding audit_length_to
len_none j m n z = rw z refl

pub climb_to_left : (j half m n : ℕ) (s : Climb) → 0 < j → half ≡ 2 ^ (j - 1) → half < n → m < half → climb_to j m n s ≡ (let t = climb_to (j - 1) m half s in one_higher t (text_on_left t))
climb_to_left zero half m n s pos e big l = absurd (omega arith)
climb_to_left (suc j) half m n s pos e big l =
    let down : suc j - 1 ≡ j = omega arith in
    let is : half ≡ 2 ^ j = e ∙ ap (λ (k : ℕ). 2 ^ k) down in
    rw (down, is) (climb-left j m n s (omega arith) (omega arith))

pub climb_to_right : (j half m n : ℕ) (s : Climb) → 0 < j → half ≡ 2 ^ (j - 1) → half < n → half ≤ m → climb_to j m n s ≡ (let t = climb_to (j - 1) (m - half) (n - half) s in one_higher t (text_on_right t))
climb_to_right zero half m n s pos e big l = absurd (omega arith)
climb_to_right (suc j) half m n s pos e big l =
    let down : suc j - 1 ≡ j = omega arith in
    let is : half ≡ 2 ^ j = e ∙ ap (λ (k : ℕ). 2 ^ k) down in
    rw (down, is) (climb-right j m n s (omega arith) (omega arith))

pub climb_same : (j half m n : ℕ) (s : Climb) → 0 < j → half ≡ 2 ^ (j - 1) → n ≤ half → climb_to j m n s ≡ climb_to (j - 1) m n s
climb_same zero half m n s pos e small = absurd (omega arith)
climb_same (suc j) half m n s pos e small =
    let down : suc j - 1 ≡ j = omega arith in
    let is : half ≡ 2 ^ j = e ∙ ap (λ (k : ℕ). 2 ^ k) down in
    rw down (climb-low j m n s (omega arith))

pub len_to_left : (j half m n : ℕ) → 0 < j → half ≡ 2 ^ (j - 1) → half < n → m < half → audit_length_to j m n ≡ audit_length_to (j - 1) m half + 1
unfolding audit_length_to
len_to_left zero half m n pos e big l = absurd (omega arith)
len_to_left (suc j) half m n pos e big l =
    let down : suc j - 1 ≡ j = omega arith in
    let is : half ≡ 2 ^ j = e ∙ ap (λ (k : ℕ). 2 ^ k) down in
    rw (down, is, lt-ltb (2 ^ j) n (omega arith), lt-ltb m (2 ^ j) (omega arith)) refl

pub len_to_right : (j half m n : ℕ) → 0 < j → half ≡ 2 ^ (j - 1) → half < n → half ≤ m → audit_length_to j m n ≡ audit_length_to (j - 1) (m - half) (n - half) + 1
unfolding audit_length_to
len_to_right zero half m n pos e big l = absurd (omega arith)
len_to_right (suc j) half m n pos e big l =
    let down : suc j - 1 ≡ j = omega arith in
    let is : half ≡ 2 ^ j = e ∙ ap (λ (k : ℕ). 2 ^ k) down in
    rw (down, is, lt-ltb (2 ^ j) n (omega arith), le-ltb m (2 ^ j) (omega arith)) refl

pub len_same : (j half m n : ℕ) → 0 < j → half ≡ 2 ^ (j - 1) → n ≤ half → audit_length_to j m n ≡ audit_length_to (j - 1) m n
unfolding audit_length_to
len_same zero half m n pos e small = absurd (omega arith)
len_same (suc j) half m n pos e small =
    let down : suc j - 1 ≡ j = omega arith in
    let is : half ≡ 2 ^ j = e ∙ ap (λ (k : ℕ). 2 ^ k) down in
    rw (down, le-ltb (2 ^ j) n (omega arith)) refl

pub ruleset upward = (climb_none, len_none, climb_to_left, climb_to_right, climb_same, len_to_left, len_to_right, len_same, fits_back)

pub ruleset plain = (lowest_part, two_parts, low_part, fits_back)
