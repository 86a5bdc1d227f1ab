-- The hashes beside the way up are the audit path.
use Rattle.std.proofs.Common.{◌≡◌, ℕ, zero, suc, ◌+◌, ◌-◌, ◌*◌, ◌/◌, ◌^◌, ◌<◌, ◌≤◌, List, [], ◌∷◌, ◌++◌, length, take, drop, get_or, map, refl, sym, ap, ◌∙◌, arith, inl, inr}
use Rattle.std.proofs.Math.Nat.{two-pow-succ}
use Rattle.std.proofs.lemmas.Bool.{cases_lt}
use Rattle.std.proofs.lemmas.List.{length-take, length-drop, length-map, take-append-drop, map-append, append_assoc}
use Rattle.merkle_tree.specs.Tree.{audit_to, audit_path}
use Rattle.merkle_tree.specs.declared.limits.TheConstants.{MAX_HEIGHT}
use Rattle.merkle_tree.specs.Climbing.{bytes_of}
use Rattle.merkle_tree.specs.Levels.{digest_of, pair_up, levels_over, leaf_level, AreLevels, sibling, siblings_up}
use Rattle.lc_base.specs.declared.digest.Digest.{Digest}
use Rattle.merkle_tree.proofs.Sound.{audit-left, audit-right, audit-low}
use Rattle.merkle_tree.proofs.Raising.{length-pair_up}
use Rattle.merkle_tree.proofs.Top.{ups, pair_up-append, top_is_tree}

sibling-front : (k m : ℕ) (a b : List Digest) → length a ≡ 2 * k → m < length a → sibling (a ++ b) m ≡ sibling a m
sibling-front k m [] b e h = absurd (omega arith)
sibling-front k m (x ∷ []) b e h = absurd (omega arith)
sibling-front k zero (x ∷ y ∷ a) b e h = refl
sibling-front k (suc zero) (x ∷ y ∷ a) b e h = refl
sibling-front k (suc (suc m)) (x ∷ y ∷ a) b e h = sibling-front (k - 1) m a b (omega arith) (omega arith)

sibling-back : (k m : ℕ) (a b : List Digest) → length a ≡ 2 * k → sibling (a ++ b) (length a + m) ≡ sibling b m
sibling-back k m [] b e = let z : 0 + m ≡ m = omega arith in rw z refl
sibling-back k m (x ∷ []) b e = absurd (omega arith)
sibling-back k m (x ∷ y ∷ a) b e =
    let s : suc (suc (length a)) + m ≡ suc (suc (length a + m)) = omega arith in
    ap (sibling (x ∷ y ∷ (a ++ b))) s ∙ sibling-back (k - 1) m a b (omega arith)

one_zero : (l : List Digest) (m : ℕ) → length l ≡ 1 → sibling l m ≡ []
one_zero [] m e = refl
one_zero (x ∷ []) m e = refl
one_zero (x ∷ y ∷ l) m e = absurd (omega arith)

pub up_front : (j m : ℕ) (a b : List Digest) (d : Digest) → length a ≡ 2 ^ j → m < 2 ^ j → 0 < length b → length b ≤ 2 ^ j
    → siblings_up m (levels_over (suc j) (a ++ b)) ≡ siblings_up m (levels_over j a) ++ get_or (ups j b) 0 d ∷ []
unfolding siblings_up levels_over ups
up_front zero m (x ∷ []) (y ∷ []) d e h pos few = let z : m ≡ 0 = omega arith in rw z refl
up_front zero m [] b d e h pos few = absurd (omega arith)
up_front zero m (x ∷ []) [] d e h pos few = absurd (omega arith)
up_front zero m (x ∷ []) (y ∷ z ∷ b) d e h pos few = absurd (omega arith)
up_front zero m (x ∷ y ∷ a) b d e h pos few = absurd (omega arith)
up_front (suc j) m a b d e h pos few =
    let two = two-pow-succ j in
    let pairs = pair_up-append (2 ^ j) a b (omega arith) in
    let rest = up_front j (m / 2) (pair_up a) (pair_up b) d (omega (arith, length-pair_up a)) (omega arith) (omega (arith, length-pair_up b)) (omega (arith, length-pair_up b)) in
    let same = sibling-front (2 ^ j) m a b (omega arith) (omega arith) in
    ap (λ (s : List Digest). s ++ siblings_up (m / 2) (levels_over (suc j) (pair_up (a ++ b)))) same
    ∙ ap (λ (p : List Digest). sibling a m ++ siblings_up (m / 2) (levels_over (suc j) p)) pairs
    ∙ ap (λ (u : List Digest). sibling a m ++ u) rest
    ∙ sym (append_assoc (sibling a m) (siblings_up (m / 2) (levels_over j (pair_up a))) (get_or (ups j (pair_up b)) 0 d ∷ []))

pub up_back : (j m : ℕ) (a b : List Digest) (d : Digest) → length a ≡ 2 ^ j → m < length b → length b ≤ 2 ^ j
    → siblings_up (2 ^ j + m) (levels_over (suc j) (a ++ b)) ≡ siblings_up m (levels_over j b) ++ get_or (ups j a) 0 d ∷ []
unfolding siblings_up levels_over ups
up_back zero m (x ∷ []) (y ∷ []) d e h few = let z : m ≡ 0 = omega arith in rw z refl
up_back zero m [] b d e h few = absurd (omega arith)
up_back zero m (x ∷ []) [] d e h few = absurd (omega arith)
up_back zero m (x ∷ []) (y ∷ z ∷ b) d e h few = absurd (omega arith)
up_back zero m (x ∷ y ∷ a) b d e h few = absurd (omega arith)
up_back (suc j) m a b d e h few =
    let two = two-pow-succ j in
    let pairs = pair_up-append (2 ^ j) a b (omega arith) in
    let rest = up_back j (m / 2) (pair_up a) (pair_up b) d (omega (arith, length-pair_up a)) (omega (arith, length-pair_up b)) (omega (arith, length-pair_up b)) in
    let half : (2 ^ suc j + m) / 2 ≡ 2 ^ j + m / 2 = omega arith in
    let place : 2 ^ suc j + m ≡ length a + m = omega arith in
    let same : sibling (a ++ b) (2 ^ suc j + m) ≡ sibling b m = ap (sibling (a ++ b)) place ∙ sibling-back (2 ^ j) m a b (omega arith) in
    ap (λ (s : List Digest). s ++ siblings_up ((2 ^ suc j + m) / 2) (levels_over (suc j) (pair_up (a ++ b)))) same
    ∙ ap (λ (i : ℕ). sibling b m ++ siblings_up i (levels_over (suc j) (pair_up (a ++ b)))) half
    ∙ ap (λ (p : List Digest). sibling b m ++ siblings_up (2 ^ j + m / 2) (levels_over (suc j) p)) pairs
    ∙ ap (λ (u : List Digest). sibling b m ++ u) rest
    ∙ sym (append_assoc (sibling b m) (siblings_up (m / 2) (levels_over j (pair_up b))) (get_or (ups j (pair_up a)) 0 d ∷ []))

pub up_low : (j m : ℕ) (a : List Digest) → m < length a → length a ≤ 2 ^ j → siblings_up m (levels_over (suc j) a) ≡ siblings_up m (levels_over j a)
unfolding siblings_up levels_over
up_low zero m [] h few = absurd (omega arith)
up_low zero m (x ∷ []) h few = refl
up_low zero m (x ∷ y ∷ a) h few = absurd (omega arith)
up_low (suc j) m a h few = ap (λ (u : List Digest). sibling a m ++ u) (up_low j (m / 2) (pair_up a) (omega (arith, length-pair_up a)) (omega (arith, length-pair_up a, two-pow-succ j)))

-- They are, at any height, by recursion on it.
pub up_is_audit : (j m : ℕ) (xs : List (List ℕ)) (d : Digest) → m < length xs → length xs ≤ 2 ^ j → bytes_of (siblings_up m (levels_over j (map digest_of xs))) ≡ audit_to j m xs
unfolding siblings_up levels_over audit_to
up_is_audit zero m [] d h few = absurd (omega arith)
up_is_audit zero m (x ∷ []) d h few = refl
up_is_audit zero m (x ∷ y ∷ xs) d h few = absurd (omega arith)
up_is_audit (suc j) m xs d h few = elim (cases_lt (2 ^ j) (length xs)) [
  | inr low ↦ ap bytes_of (up_low j m (map digest_of xs) (omega (arith, length-map xs digest_of)) (omega (arith, length-map xs digest_of))) ∙ up_is_audit j m xs d h low ∙ sym (audit-low j m xs low)
  | inl big ↦
      let f = take (2 ^ j) xs in
      let b = drop (2 ^ j) xs in
      let f_len : length f ≡ 2 ^ j = omega (arith, length-take (2 ^ j) xs) in
      let b_pos : 0 < length b = omega (arith, length-drop (2 ^ j) xs) in
      let b_few : length b ≤ 2 ^ j = omega (arith, length-drop (2 ^ j) xs, two-pow-succ j) in
      let whole : map digest_of xs ≡ map digest_of f ++ map digest_of b = ap (map digest_of) (sym (take-append-drop (2 ^ j) xs)) ∙ map-append digest_of f b in
      elim (cases_lt m (2 ^ j)) [
        | inl l ↦
            let parts = up_front j m (map digest_of f) (map digest_of b) d (length-map f digest_of ∙ f_len) l (omega (arith, length-map b digest_of)) (omega (arith, length-map b digest_of)) in
            ap (λ (hs : List Digest). bytes_of (siblings_up m (levels_over (suc j) hs))) whole ∙ ap bytes_of parts
            ∙ map-append (λ (t : Digest). t.0) (siblings_up m (levels_over j (map digest_of f))) (get_or (ups j (map digest_of b)) 0 d ∷ [])
            ∙ ap (λ (u : List (List ℕ)). u ++ (get_or (ups j (map digest_of b)) 0 d).0 ∷ []) (up_is_audit j m f d (omega arith) (omega arith))
            ∙ ap (λ (t : List ℕ). audit_to j m f ++ t ∷ []) (top_is_tree j b d b_pos b_few)
            ∙ sym (audit-left j m xs big l)
        | inr r ↦
            let at : 2 ^ j + (m - 2 ^ j) ≡ m = omega arith in
            let below : m - 2 ^ j < length b = omega (arith, length-drop (2 ^ j) xs) in
            let parts = up_back j (m - 2 ^ j) (map digest_of f) (map digest_of b) d (length-map f digest_of ∙ f_len) (omega (arith, length-map b digest_of)) (omega (arith, length-map b digest_of)) in
            ap (λ (i : ℕ). bytes_of (siblings_up i (levels_over (suc j) (map digest_of xs)))) (sym at)
            ∙ ap (λ (hs : List Digest). bytes_of (siblings_up (2 ^ j + (m - 2 ^ j)) (levels_over (suc j) hs))) whole ∙ ap bytes_of parts
            ∙ map-append (λ (t : Digest). t.0) (siblings_up (m - 2 ^ j) (levels_over j (map digest_of b))) (get_or (ups j (map digest_of f)) 0 d ∷ [])
            ∙ ap (λ (u : List (List ℕ)). u ++ (get_or (ups j (map digest_of f)) 0 d).0 ∷ []) (up_is_audit j (m - 2 ^ j) b d below b_few)
            ∙ ap (λ (t : List ℕ). audit_to j (m - 2 ^ j) b ++ t ∷ []) (top_is_tree j f d (omega arith) (omega arith))
            ∙ sym (audit-right j m xs big r)
      ]
]

-- The audit path of a tree, from its levels.
pub audit_is : (levels : List (List Digest)) (texts : List (List ℕ)) (m : ℕ) → AreLevels levels → map digest_of texts ≡ leaf_level levels → m < length (leaf_level levels)
    → bytes_of (siblings_up m levels) ≡ audit_path m texts
audit_is levels [] m are of below = absurd (omega (arith, ap length of))
audit_is levels (text ∷ texts) m are of below =
    let l = length-map (text ∷ texts) digest_of in
    let long = ap length of in
    ap (λ (ls : List (List Digest)). bytes_of (siblings_up m ls)) (are.pairs ∙ ap (levels_over MAX_HEIGHT) (sym of))
    ∙ up_is_audit MAX_HEIGHT m (text ∷ texts) (digest_of text) (omega (arith, l, long)) (omega (arith, l, long, are.few))
