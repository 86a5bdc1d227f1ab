-- A way up from a leaf ends at the tree hash if it takes the audit path; and if the texts agree,
-- only one that began at the hash of that leaf ends there.
use Rattle.std.proofs.Common.{◌≡◌, ℕ, zero, suc, ◌+◌, ◌-◌, ◌^◌, ◌<◌, ◌≤◌, List, [], ◌∷◌, ◌++◌, length, take, drop, get_or, refl, sym, ap, ◌∙◌, arith, inl, inr}
use Rattle.std.proofs.Math.Nat.{two-pow-succ}
use Rattle.std.proofs.lemmas.Bool.{cases_lt, lt-ltb, le-ltb}
use Rattle.std.proofs.lemmas.List.{length-take, length-drop, length-append, get_or-take, get_or-drop, append_cancel_left, append_assoc}
use Rattle.sha2.specs.Sha256.{sha256}
use Rattle.sha2.proofs.Facts256.{length-sha256}
use Rattle.merkle_tree.specs.Tree.{node_text, node_hash, first_text, hash_to, node_texts_to, climb_to, climb_texts_to, Climb, text_on_left, text_on_right, one_higher, audit_to}
use Rattle.merkle_tree.specs.Clash.{Agree}
use Rattle.merkle_tree.proofs.Agreeing.{agree_fronts, agree_of_left, agree_of_right, agree_last}

-- Prefixes of one length of equal lists are equal.
pub same_front : (a b c d : List ℕ) → length a ≡ length c → a ++ b ≡ c ++ d → a ≡ c
same_front [] b [] d len e = refl
same_front [] b (y ∷ c) d len e = absurd (omega arith)
same_front (x ∷ a) b [] d len e = absurd (omega arith)
same_front (x ∷ a) b (y ∷ c) d len e =
    let tails : a ++ b ≡ c ++ d = cc in
    let heads : x ≡ y = cc in
    let rest = same_front a b c d (omega arith) tails in cc

-- Suffixes of one length of equal lists are equal.
pub same_end : (a b c d : List ℕ) → length b ≡ length d → a ++ b ≡ c ++ d → b ≡ d
same_end a b c d len e =
    let fronts : length a ≡ length c = omega (arith, length-append a b, length-append c d, ap length e) in
    let same = same_front a b c d fronts e in
    append_cancel_left a b d (e ∙ ap (λ (t : List ℕ). t ++ d) (sym same))

-- ---- one step of the definitions

pub tree-split : (j : ℕ) (xs : List (List ℕ)) → 2 ^ j < length xs → hash_to (suc j) xs ≡ node_hash (hash_to j (take (2 ^ j) xs)) (hash_to j (drop (2 ^ j) xs))
unfolding hash_to
tree-split j xs h = rw (lt-ltb (2 ^ j) (length xs) h) refl

pub tree-low : (j : ℕ) (xs : List (List ℕ)) → length xs ≤ 2 ^ j → hash_to (suc j) xs ≡ hash_to j xs
unfolding hash_to
tree-low j xs h = rw (le-ltb (2 ^ j) (length xs) h) refl

pub texts-split : (j : ℕ) (xs : List (List ℕ)) → 2 ^ j < length xs → node_texts_to (suc j) xs ≡ node_texts_to j (take (2 ^ j) xs) ++ node_texts_to j (drop (2 ^ j) xs) ++ node_text (hash_to j (take (2 ^ j) xs)) (hash_to j (drop (2 ^ j) xs)) ∷ []
unfolding node_texts_to
texts-split j xs h = rw (lt-ltb (2 ^ j) (length xs) h) refl

pub texts-low : (j : ℕ) (xs : List (List ℕ)) → length xs ≤ 2 ^ j → node_texts_to (suc j) xs ≡ node_texts_to j xs
unfolding node_texts_to
texts-low j xs h = rw (le-ltb (2 ^ j) (length xs) h) refl

pub climb-left : (j m n : ℕ) (s : Climb) → 2 ^ j < n → m < 2 ^ j → climb_to (suc j) m n s ≡ (let t = climb_to j m (2 ^ j) s in one_higher t (text_on_left t))
unfolding climb_to
climb-left j m n s h k = rw (lt-ltb (2 ^ j) n h, lt-ltb m (2 ^ j) k) refl

pub climb-right : (j m n : ℕ) (s : Climb) → 2 ^ j < n → 2 ^ j ≤ m → climb_to (suc j) m n s ≡ (let t = climb_to j (m - 2 ^ j) (n - 2 ^ j) s in one_higher t (text_on_right t))
unfolding climb_to
climb-right j m n s h k = rw (lt-ltb (2 ^ j) n h, le-ltb m (2 ^ j) k) refl

pub climb-low : (j m n : ℕ) (s : Climb) → n ≤ 2 ^ j → climb_to (suc j) m n s ≡ climb_to j m n s
unfolding climb_to
climb-low j m n s h = rw (le-ltb (2 ^ j) n h) refl

pub climb_texts-left : (j m n : ℕ) (s : Climb) → 2 ^ j < n → m < 2 ^ j → climb_texts_to (suc j) m n s ≡ climb_texts_to j m (2 ^ j) s ++ text_on_left (climb_to j m (2 ^ j) s) ∷ []
unfolding climb_texts_to
climb_texts-left j m n s h k = rw (lt-ltb (2 ^ j) n h, lt-ltb m (2 ^ j) k) refl

pub climb_texts-right : (j m n : ℕ) (s : Climb) → 2 ^ j < n → 2 ^ j ≤ m → climb_texts_to (suc j) m n s ≡ climb_texts_to j (m - 2 ^ j) (n - 2 ^ j) s ++ text_on_right (climb_to j (m - 2 ^ j) (n - 2 ^ j) s) ∷ []
unfolding climb_texts_to
climb_texts-right j m n s h k = rw (lt-ltb (2 ^ j) n h, le-ltb m (2 ^ j) k) refl

pub climb_texts-low : (j m n : ℕ) (s : Climb) → n ≤ 2 ^ j → climb_texts_to (suc j) m n s ≡ climb_texts_to j m n s
unfolding climb_texts_to
climb_texts-low j m n s h = rw (le-ltb (2 ^ j) n h) refl

-- ---- lengths

pub length-tree : (j : ℕ) (xs : List (List ℕ)) → length (hash_to j xs) ≡ 32
unfolding hash_to
length-tree zero xs = length-sha256 (first_text xs)
length-tree (suc j) xs = elim (cases_lt (2 ^ j) (length xs)) [
  | inl h ↦ rw (tree-split j xs h) (length-sha256 (node_text (hash_to j (take (2 ^ j) xs)) (hash_to j (drop (2 ^ j) xs))))
  | inr h ↦ rw (tree-low j xs h) (length-tree j xs)
]

pub length-climb : (j m n : ℕ) (s : Climb) → length s.hash ≡ 32 → length (climb_to j m n s).hash ≡ 32
unfolding climb_to
length-climb zero m n s h = h
length-climb (suc j) m n s h = elim (cases_lt (2 ^ j) n) [
  | inr low ↦ rw (climb-low j m n s low) (length-climb j m n s h)
  | inl big ↦ elim (cases_lt m (2 ^ j)) [
    | inl l ↦ rw (climb-left j m n s big l) (length-sha256 (text_on_left (climb_to j m (2 ^ j) s)))
    | inr r ↦ rw (climb-right j m n s big r) (length-sha256 (text_on_right (climb_to j (m - 2 ^ j) (n - 2 ^ j) s)))
  ]
]

-- ---- soundness

-- If the texts agree, a way that ends at the tree hash began at the hash of the leaf.
pub climb_sound : (j m n : ℕ) (s : Climb) (xs : List (List ℕ)) → n ≡ length xs → m < n → n ≤ 2 ^ j → length s.hash ≡ 32
    → Agree (climb_texts_to j m n s) (node_texts_to j xs) → (climb_to j m n s).hash ≡ hash_to j xs → s.hash ≡ sha256 (get_or xs m [])
unfolding climb_to hash_to
climb_sound zero m n s xs len below high hash a e = let z : m ≡ 0 = omega arith in rw z e
climb_sound (suc j) m n s xs len below high hash a e = elim (cases_lt (2 ^ j) n) [
  | inr low ↦
      let lowx : length xs ≤ 2 ^ j = omega arith in
      climb_sound j m n s xs len below low hash
      (rw (climb_texts-low j m n s low, texts-low j xs lowx) at a)
      (sym (ap (λ (t : Climb). t.hash) (climb-low j m n s low)) ∙ e ∙ tree-low j xs lowx)
  | inl big ↦
      let bigx : 2 ^ j < length xs = omega arith in
      elim (cases_lt m (2 ^ j)) [
        | inl l ↦
            let t = climb_to j m (2 ^ j) s in
            let a' = rw (climb_texts-left j m n s big l, texts-split j xs bigx) at a in
            let e' = sym (ap (λ (t : Climb). t.hash) (climb-left j m n s big l)) ∙ e ∙ tree-split j xs bigx in
            let same = agree_last (climb_texts_to j m (2 ^ j) s) (node_texts_to j (take (2 ^ j) xs) ++ node_texts_to j (drop (2 ^ j) xs)) (text_on_left t) (node_text (hash_to j (take (2 ^ j) xs)) (hash_to j (drop (2 ^ j) xs))) a' e' in
            let h : t.hash ≡ hash_to j (take (2 ^ j) xs) = same_front t.hash (first_text t.left) (hash_to j (take (2 ^ j) xs)) (hash_to j (drop (2 ^ j) xs)) (length-climb j m (2 ^ j) s hash ∙ sym (length-tree j (take (2 ^ j) xs))) (ap (drop 1) same) in
            climb_sound j m (2 ^ j) s (take (2 ^ j) xs) (omega (arith, length-take (2 ^ j) xs)) l (omega arith) hash
            (agree_of_left _ _ _ (agree_fronts _ _ _ _ a')) h
            ∙ ap sha256 (get_or-take (2 ^ j) xs m [] l)
        | inr r ↦
            let t = climb_to j (m - 2 ^ j) (n - 2 ^ j) s in
            let a' = rw (climb_texts-right j m n s big r, texts-split j xs bigx) at a in
            let e' = sym (ap (λ (t : Climb). t.hash) (climb-right j m n s big r)) ∙ e ∙ tree-split j xs bigx in
            let same = agree_last (climb_texts_to j (m - 2 ^ j) (n - 2 ^ j) s) (node_texts_to j (take (2 ^ j) xs) ++ node_texts_to j (drop (2 ^ j) xs)) (text_on_right t) (node_text (hash_to j (take (2 ^ j) xs)) (hash_to j (drop (2 ^ j) xs))) a' e' in
            let h : t.hash ≡ hash_to j (drop (2 ^ j) xs) = same_end (first_text t.left) t.hash (hash_to j (take (2 ^ j) xs)) (hash_to j (drop (2 ^ j) xs)) (length-climb j (m - 2 ^ j) (n - 2 ^ j) s hash ∙ sym (length-tree j (drop (2 ^ j) xs))) (ap (drop 1) same) in
            let at : 2 ^ j + (m - 2 ^ j) ≡ m = omega arith in
            climb_sound j (m - 2 ^ j) (n - 2 ^ j) s (drop (2 ^ j) xs) (omega (arith, length-drop (2 ^ j) xs)) (omega arith) (omega (arith, two-pow-succ j)) hash
            (agree_of_right _ _ _ (agree_fronts _ _ _ _ a')) h
            ∙ ap sha256 (get_or-drop (2 ^ j) xs (m - 2 ^ j) [] ∙ ap (λ (i : ℕ). get_or xs i []) at)
      ]
]

-- ---- completeness

pub audit-left : (j m : ℕ) (xs : List (List ℕ)) → 2 ^ j < length xs → m < 2 ^ j → audit_to (suc j) m xs ≡ audit_to j m (take (2 ^ j) xs) ++ hash_to j (drop (2 ^ j) xs) ∷ []
unfolding audit_to
audit-left j m xs h k = rw (lt-ltb (2 ^ j) (length xs) h, lt-ltb m (2 ^ j) k) refl

pub audit-right : (j m : ℕ) (xs : List (List ℕ)) → 2 ^ j < length xs → 2 ^ j ≤ m → audit_to (suc j) m xs ≡ audit_to j (m - 2 ^ j) (drop (2 ^ j) xs) ++ hash_to j (take (2 ^ j) xs) ∷ []
unfolding audit_to
audit-right j m xs h k = rw (lt-ltb (2 ^ j) (length xs) h, le-ltb m (2 ^ j) k) refl

pub audit-low : (j m : ℕ) (xs : List (List ℕ)) → length xs ≤ 2 ^ j → audit_to (suc j) m xs ≡ audit_to j m xs
unfolding audit_to
audit-low j m xs h = rw (le-ltb (2 ^ j) (length xs) h) refl

-- The audit path leads to the tree hash, and the hashes after it are left over.
pub climb_audit : (j m n : ℕ) (xs more : List (List ℕ)) → n ≡ length xs → m < n → n ≤ 2 ^ j
    → climb_to j m n (record { hash = sha256 (get_or xs m []); left = audit_to j m xs ++ more }) ≡ record { hash = hash_to j xs; left = more }
unfolding climb_to hash_to audit_to
climb_audit zero m n xs more len below high = let z : m ≡ 0 = omega arith in rw z refl
climb_audit (suc j) m n xs more len below high = elim (cases_lt (2 ^ j) n) [
  | inr low ↦
      let lowx : length xs ≤ 2 ^ j = omega arith in
      rw (climb-low, audit-low j m xs lowx, tree-low j xs lowx) (climb_audit j m n xs more len below low)
  | inl big ↦
      let bigx : 2 ^ j < length xs = omega arith in
      elim (cases_lt m (2 ^ j)) [
        | inl l ↦
            let is = climb_audit j m (2 ^ j) (take (2 ^ j) xs) (hash_to j (drop (2 ^ j) xs) ∷ more) (omega (arith, length-take (2 ^ j) xs)) l (omega arith) in
            let leaf : get_or xs m [] ≡ get_or (take (2 ^ j) xs) m [] = sym (get_or-take (2 ^ j) xs m [] l) in
            let left : audit_to (suc j) m xs ++ more ≡ audit_to j m (take (2 ^ j) xs) ++ (hash_to j (drop (2 ^ j) xs) ∷ more) = ap (λ (a : List (List ℕ)). a ++ more) (audit-left j m xs bigx l) ∙ append_assoc (audit_to j m (take (2 ^ j) xs)) (hash_to j (drop (2 ^ j) xs) ∷ []) more in
            climb-left j m n _ big l ∙ rw (leaf, left, is, tree-split j xs bigx) refl
        | inr r ↦
            let is = climb_audit j (m - 2 ^ j) (n - 2 ^ j) (drop (2 ^ j) xs) (hash_to j (take (2 ^ j) xs) ∷ more) (omega (arith, length-drop (2 ^ j) xs)) (omega arith) (omega (arith, two-pow-succ j)) in
            let at : 2 ^ j + (m - 2 ^ j) ≡ m = omega arith in
            let leaf : get_or xs m [] ≡ get_or (drop (2 ^ j) xs) (m - 2 ^ j) [] = sym (get_or-drop (2 ^ j) xs (m - 2 ^ j) [] ∙ ap (λ (i : ℕ). get_or xs i []) at) in
            let left : audit_to (suc j) m xs ++ more ≡ audit_to j (m - 2 ^ j) (drop (2 ^ j) xs) ++ (hash_to j (take (2 ^ j) xs) ∷ more) = ap (λ (a : List (List ℕ)). a ++ more) (audit-right j m xs bigx r) ∙ append_assoc (audit_to j (m - 2 ^ j) (drop (2 ^ j) xs)) (hash_to j (take (2 ^ j) xs) ∷ []) more in
            climb-right j m n _ big r ∙ rw (leaf, left, is, tree-split j xs bigx) refl
      ]
]
