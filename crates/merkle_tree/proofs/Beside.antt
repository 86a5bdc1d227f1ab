-- The hash beside a place, as the code finds it, and the levels that it is read from.
use Rattle.std.proofs.Common.{◌≡◌, ℕ, zero, suc, ◌+◌, ◌-◌, ◌*◌, ◌/◌, ◌<◌, ◌≤◌, List, [], ◌∷◌, ◌++◌, length, drop, get_or, refl, sym, ap, ◌∙◌, arith, Vec, Global}
use Rattle.std.proofs.lemmas.List.{drop_more, drop_all, append_assoc, append-nil}
use Rattle.lc_base.specs.declared.digest.Digest.{Digest}
use Rattle.merkle_tree.specs.Levels.{sibling, siblings_up, hashes_in}

pub sibling_after : (xs : List Digest) (m left : ℕ) (d : Digest) → left ≡ m / 2 * 2 → left + 1 < length xs → m ≡ left → sibling xs m ≡ get_or xs (left + 1) d ∷ []
sibling_after [] m left d is h e = absurd (omega arith)
sibling_after (x ∷ []) m left d is h e = absurd (omega arith)
sibling_after (x ∷ y ∷ xs) zero left d is h e = let z : left + 1 ≡ 1 = omega arith in rw z refl
sibling_after (x ∷ y ∷ xs) (suc zero) left d is h e = absurd (omega arith)
sibling_after (x ∷ y ∷ xs) (suc (suc m)) left d is h e =
    let s : left + 1 ≡ suc (suc (m + 1)) = omega arith in
    sibling_after xs m m d (omega arith) (omega arith) refl ∙ sym (ap (λ (i : ℕ). get_or (x ∷ y ∷ xs) i d ∷ []) s)

pub sibling_before : (xs : List Digest) (m left : ℕ) (d : Digest) → left ≡ m / 2 * 2 → left + 1 < length xs → m ≡ left + 1 → sibling xs m ≡ get_or xs left d ∷ []
sibling_before [] m left d is h e = absurd (omega arith)
sibling_before (x ∷ []) m left d is h e = absurd (omega arith)
sibling_before (x ∷ y ∷ xs) zero left d is h e = absurd (omega arith)
sibling_before (x ∷ y ∷ xs) (suc zero) left d is h e = let z : left ≡ 0 = omega arith in rw z refl
sibling_before (x ∷ y ∷ xs) (suc (suc m)) left d is h e =
    let s : left ≡ suc (suc (m - 1)) = omega arith in
    sibling_before xs m (m - 1) d (omega arith) (omega arith) (omega arith) ∙ sym (ap (λ (i : ℕ). get_or (x ∷ y ∷ xs) i d ∷ []) s)

pub no_sibling : (xs : List Digest) (m left : ℕ) → left ≡ m / 2 * 2 → length xs ≤ left + 1 → sibling xs m ≡ []
no_sibling [] m left is h = refl
no_sibling (x ∷ []) m left is h = refl
no_sibling (x ∷ y ∷ xs) zero left is h = absurd (omega arith)
no_sibling (x ∷ y ∷ xs) (suc zero) left is h = absurd (omega arith)
no_sibling (x ∷ y ∷ xs) (suc (suc m)) left is h = no_sibling xs m (left - 2) (omega arith) (omega arith)

siblings-none : (m : ℕ) → siblings_up m [] ≡ []
unfolding siblings_up
siblings-none m = refl

siblings-more : (m : ℕ) (l : List Digest) (ls : List (List Digest)) → siblings_up m (l ∷ ls) ≡ sibling l m ++ siblings_up (m / 2) ls
unfolding siblings_up
siblings-more m l ls = refl

-- One turn of the loop over the levels.
pub one_beside : (vs : List (Vec Digest Global)) (i m : ℕ) (path new : List Digest) (d : Vec Digest Global) → i < length vs → new ≡ path ++ sibling (get_or vs i d).items m
    → new ++ siblings_up (m / 2) (hashes_in (drop (i + 1) vs)) ≡ path ++ siblings_up m (hashes_in (drop i vs))
one_beside vs i m path new d below is =
    let whole : drop i vs ≡ get_or vs i d ∷ drop (i + 1) vs = drop_more vs i d below in
    rw (whole, is) (append_assoc path (sibling (get_or vs i d).items m) (siblings_up (m / 2) (hashes_in (drop (i + 1) vs))) ∙ rw siblings-more refl)

pub all_beside : (vs : List (Vec Digest Global)) (i m : ℕ) (path : List Digest) → length vs ≤ i → path ++ siblings_up m (hashes_in (drop i vs)) ≡ path
all_beside vs i m path h = rw (drop_all i vs h, siblings-none) (append-nil path)
