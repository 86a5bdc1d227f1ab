-- The rules of RFC 6962, section 2.1, over the definitions by recursion on the height.
use Rattle.std.proofs.Common.{◌≡◌, ℕ, zero, suc, ◌+◌, ◌-◌, ◌*◌, ◌^◌, ◌<◌, ◌≤◌, List, [], ◌∷◌, ◌++◌, length, take, drop, refl, sym, ap, ap₂, ◌∙◌, arith, inl, inr, lit<}
use Rattle.std.proofs.Math.Nat.{two-pow-succ, pow-le-pow_right}
use Rattle.std.proofs.lemmas.Bool.{cases_lt, lt-ltb, le-ltb}
use Rattle.std.proofs.lemmas.List.{length-take, length-drop, length-append}
use Rattle.merkle_tree.specs.Tree.{node_hash, hash_to, audit_to, audit_length_to}
use Rattle.merkle_tree.specs.Laws.{TreesAreSplit, PathsInTheFirstPart, PathsInTheRest, LengthsInTheFirstPart, LengthsInTheRest, PathsHaveTheirLength}
use Rattle.merkle_tree.specs.declared.limits.TheConstants.{MAX_HEIGHT}
use Rattle.merkle_tree.proofs.Sound.{tree-split, tree-low, audit-left, audit-right, audit-low}

-- ---- one step of the audit length

pub len-left : (j m n : ℕ) → 2 ^ j < n → m < 2 ^ j → audit_length_to (suc j) m n ≡ audit_length_to j m (2 ^ j) + 1
unfolding audit_length_to
len-left j m n h k = rw (lt-ltb (2 ^ j) n h, lt-ltb m (2 ^ j) k) refl

pub len-right : (j m n : ℕ) → 2 ^ j < n → 2 ^ j ≤ m → audit_length_to (suc j) m n ≡ audit_length_to j (m - 2 ^ j) (n - 2 ^ j) + 1
unfolding audit_length_to
len-right j m n h k = rw (lt-ltb (2 ^ j) n h, le-ltb m (2 ^ j) k) refl

pub len-low : (j m n : ℕ) → n ≤ 2 ^ j → audit_length_to (suc j) m n ≡ audit_length_to j m n
unfolding audit_length_to
len-low j m n h = rw (le-ltb (2 ^ j) n h) refl

-- ---- higher than need be

up : (d i : ℕ) → 2 ^ i ≤ 2 ^ (d + i)
up d i = pow-le-pow_right (lit< tt) (omega arith)

tree-higher : (i d : ℕ) (xs : List (List ℕ)) → length xs ≤ 2 ^ i → hash_to (d + i) xs ≡ hash_to i xs
tree-higher i zero xs h = let z : 0 + i ≡ i = omega arith in rw z refl
tree-higher i (suc d) xs h =
    let s : suc d + i ≡ suc (d + i) = omega arith in
    ap (λ (k : ℕ). hash_to k xs) s ∙ tree-low (d + i) xs (omega (arith, up d i)) ∙ tree-higher i d xs h

audit-higher : (i d m : ℕ) (xs : List (List ℕ)) → length xs ≤ 2 ^ i → audit_to (d + i) m xs ≡ audit_to i m xs
audit-higher i zero m xs h = let z : 0 + i ≡ i = omega arith in rw z refl
audit-higher i (suc d) m xs h =
    let s : suc d + i ≡ suc (d + i) = omega arith in
    ap (λ (k : ℕ). audit_to k m xs) s ∙ audit-low (d + i) m xs (omega (arith, up d i)) ∙ audit-higher i d m xs h

len-higher : (i d m n : ℕ) → n ≤ 2 ^ i → audit_length_to (d + i) m n ≡ audit_length_to i m n
len-higher i zero m n h = let z : 0 + i ≡ i = omega arith in rw z refl
len-higher i (suc d) m n h =
    let s : suc d + i ≡ suc (d + i) = omega arith in
    ap (λ (k : ℕ). audit_length_to k m n) s ∙ len-low (d + i) m n (omega (arith, up d i)) ∙ len-higher i d m n h

-- The hash of a tree is the same at any height that is high enough.
pub tree_at : (j i : ℕ) (xs : List (List ℕ)) → i ≤ j → length xs ≤ 2 ^ i → hash_to j xs ≡ hash_to i xs
tree_at j i xs le h = let e : (j - i) + i ≡ j = omega arith in rw e at (tree-higher i (j - i) xs h)

pub audit_at : (j i m : ℕ) (xs : List (List ℕ)) → i ≤ j → length xs ≤ 2 ^ i → audit_to j m xs ≡ audit_to i m xs
audit_at j i m xs le h = let e : (j - i) + i ≡ j = omega arith in rw e at (audit-higher i (j - i) m xs h)

pub len_at : (j i m n : ℕ) → i ≤ j → n ≤ 2 ^ i → audit_length_to j m n ≡ audit_length_to i m n
len_at j i m n le h = let e : (j - i) + i ≡ j = omega arith in rw e at (len-higher i (j - i) m n h)

-- ---- the rules

-- A smaller power has a smaller exponent.
smaller : (i j n : ℕ) → 2 ^ i < n → n ≤ 2 ^ j → i < j
smaller i j n below few = elim (cases_lt i j) [
  | inl l ↦ l
  | inr r ↦ absurd (let more : 2 ^ j ≤ 2 ^ i = pow-le-pow_right (lit< tt) r in omega arith)
]

tree_split : (j i : ℕ) (xs : List (List ℕ)) → 2 ^ i < length xs → length xs ≤ 2 * 2 ^ i → length xs ≤ 2 ^ j
    → hash_to j xs ≡ node_hash (hash_to j (take (2 ^ i) xs)) (hash_to j (drop (2 ^ i) xs))
tree_split j i xs big small few =
    let lower = smaller i j (length xs) big few in
    let two = two-pow-succ i in
    let first = tree_at j i (take (2 ^ i) xs) (omega arith) (omega (arith, length-take (2 ^ i) xs)) in
    let rest = tree_at j i (drop (2 ^ i) xs) (omega arith) (omega (arith, length-drop (2 ^ i) xs)) in
    tree_at j (suc i) xs (omega arith) (omega arith) ∙ tree-split i xs big ∙ ap₂ node_hash (sym first) (sym rest)

audit_first : (j i m : ℕ) (xs : List (List ℕ)) → 2 ^ i < length xs → length xs ≤ 2 * 2 ^ i → length xs ≤ 2 ^ j → m < 2 ^ i
    → audit_to j m xs ≡ audit_to j m (take (2 ^ i) xs) ++ hash_to j (drop (2 ^ i) xs) ∷ []
audit_first j i m xs big small few l =
    let lower = smaller i j (length xs) big few in
    let two = two-pow-succ i in
    let first = audit_at j i m (take (2 ^ i) xs) (omega arith) (omega (arith, length-take (2 ^ i) xs)) in
    let rest = tree_at j i (drop (2 ^ i) xs) (omega arith) (omega (arith, length-drop (2 ^ i) xs)) in
    audit_at j (suc i) m xs (omega arith) (omega arith) ∙ audit-left i m xs big l
    ∙ ap₂ (λ (path : List (List ℕ)) (hash : List ℕ). path ++ hash ∷ []) (sym first) (sym rest)

audit_rest : (j i m : ℕ) (xs : List (List ℕ)) → 2 ^ i < length xs → length xs ≤ 2 * 2 ^ i → length xs ≤ 2 ^ j → 2 ^ i ≤ m
    → audit_to j m xs ≡ audit_to j (m - 2 ^ i) (drop (2 ^ i) xs) ++ hash_to j (take (2 ^ i) xs) ∷ []
audit_rest j i m xs big small few r =
    let lower = smaller i j (length xs) big few in
    let two = two-pow-succ i in
    let first = tree_at j i (take (2 ^ i) xs) (omega arith) (omega (arith, length-take (2 ^ i) xs)) in
    let rest = audit_at j i (m - 2 ^ i) (drop (2 ^ i) xs) (omega arith) (omega (arith, length-drop (2 ^ i) xs)) in
    audit_at j (suc i) m xs (omega arith) (omega arith) ∙ audit-right i m xs big r
    ∙ ap₂ (λ (path : List (List ℕ)) (hash : List ℕ). path ++ hash ∷ []) (sym rest) (sym first)

len_first : (j i m n : ℕ) → 2 ^ i < n → n ≤ 2 * 2 ^ i → n ≤ 2 ^ j → m < 2 ^ i → audit_length_to j m n ≡ audit_length_to j m (2 ^ i) + 1
len_first j i m n big small few l =
    let lower = smaller i j n big few in
    let two = two-pow-succ i in
    len_at j (suc i) m n (omega arith) (omega arith) ∙ len-left i m n big l ∙ ap (λ (k : ℕ). k + 1) (sym (len_at j i m (2 ^ i) (omega arith) (omega arith)))

len_rest : (j i m n : ℕ) → 2 ^ i < n → n ≤ 2 * 2 ^ i → n ≤ 2 ^ j → 2 ^ i ≤ m → audit_length_to j m n ≡ audit_length_to j (m - 2 ^ i) (n - 2 ^ i) + 1
len_rest j i m n big small few r =
    let lower = smaller i j n big few in
    let two = two-pow-succ i in
    len_at j (suc i) m n (omega arith) (omega arith) ∙ len-right i m n big r ∙ ap (λ (k : ℕ). k + 1) (sym (len_at j i (m - 2 ^ i) (n - 2 ^ i) (omega arith) (omega arith)))

pub trees_are_split : TreesAreSplit
trees_are_split k texts few s = rw s.power (tree_split MAX_HEIGHT s.exponent texts (rw s.power at s.below) (rw s.power at s.largest) few)

pub paths_in_the_first_part : PathsInTheFirstPart
paths_in_the_first_part k m texts few s l =
    rw s.power (audit_first MAX_HEIGHT s.exponent m texts (rw s.power at s.below) (rw s.power at s.largest) few (rw s.power at l))

pub paths_in_the_rest : PathsInTheRest
paths_in_the_rest k m texts few s r =
    rw s.power (audit_rest MAX_HEIGHT s.exponent m texts (rw s.power at s.below) (rw s.power at s.largest) few (rw s.power at r))

pub lengths_in_the_first_part : LengthsInTheFirstPart
lengths_in_the_first_part k m n few s l =
    rw s.power (len_first MAX_HEIGHT s.exponent m n (rw s.power at s.below) (rw s.power at s.largest) few (rw s.power at l))

pub lengths_in_the_rest : LengthsInTheRest
lengths_in_the_rest k m n few s r =
    rw s.power (len_rest MAX_HEIGHT s.exponent m n (rw s.power at s.below) (rw s.power at s.largest) few (rw s.power at r))

-- ---- the length of a path

length_audit : (j m n : ℕ) (xs : List (List ℕ)) → n ≡ length xs → m < n → n ≤ 2 ^ j → length (audit_to j m xs) ≡ audit_length_to j m n
unfolding audit_to audit_length_to
length_audit zero m n xs len below few = refl
length_audit (suc j) m n xs len below few = elim (cases_lt (2 ^ j) n) [
  | inr low ↦ rw (audit-low j m xs (omega arith), len-low j m n low) (length_audit j m n xs len below low)
  | inl big ↦
      let bigx : 2 ^ j < length xs = omega arith in
      elim (cases_lt m (2 ^ j)) [
        | inl l ↦
            let part = length_audit j m (2 ^ j) (take (2 ^ j) xs) (omega (arith, length-take (2 ^ j) xs)) l (omega arith) in
            rw (audit-left j m xs bigx l, len-left j m n big l)
            (length-append (audit_to j m (take (2 ^ j) xs)) (hash_to j (drop (2 ^ j) xs) ∷ []) ∙ ap (λ (k : ℕ). k + 1) part)
        | inr r ↦
            let part = length_audit j (m - 2 ^ j) (n - 2 ^ j) (drop (2 ^ j) xs) (omega (arith, length-drop (2 ^ j) xs)) (omega arith) (omega (arith, two-pow-succ j)) in
            rw (audit-right j m xs bigx r, len-right j m n big r)
            (length-append (audit_to j (m - 2 ^ j) (drop (2 ^ j) xs)) (hash_to j (take (2 ^ j) xs) ∷ []) ∙ ap (λ (k : ℕ). k + 1) part)
      ]
]

pub paths_have_their_length : PathsHaveTheirLength
paths_have_their_length m texts few below = length_audit MAX_HEIGHT m (length texts) texts refl below few
