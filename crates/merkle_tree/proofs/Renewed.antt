-- After leaves are added and hashes are set, the levels are those over the new leaves.
use Rattle.std.proofs.Common.{◌≡◌, ℕ, zero, suc, ◌+◌, ◌*◌, ◌-◌, ◌/◌, ◌<◌, ◌≤◌, ◌==◌, ◌||◌, Bool, true, false, List, [], ◌∷◌, ◌++◌, length, take, drop, get_or, replicate, refl, sym, ap, ap₂, ◌∙◌, arith, inl, inr, Vec, Global}
use Rattle.std.proofs.Math.ListN.{set}
use Rattle.std.specs.List.{All}
use Rattle.std.specs.Prelude.{vec_capacity}
use Rattle.std.proofs.lemmas.Bool.{cases_eq, cases_lt, cases_Bool, eq-eqb, eqb-true}
use Rattle.std.proofs.lemmas.List.{length-set, length-append, length-replicate, get_or_append_left, get_or-set_same, get_or-set_other, take_more_set, map-append, drop-set-lt, drop_more, append_assoc, take_all, drop_all, append-nil}
use Rattle.std.proofs.lemmas.List.Elements.{All-head, All-tail, All-weaker, All-map}
use Rattle.lc_base.specs.declared.digest.Digest.{Digest}
use Rattle.merkle_tree.specs.declared.setting_all.HashAt.{HashAt}
use Rattle.merkle_tree.specs.declared.setting_all.TheConstants.{NO_HASH}
use Rattle.merkle_tree.specs.declared.limits.TheConstants.{MAX_HEIGHT, MAX_LEAVES}
use Rattle.merkle_tree.specs.Levels.{join, pair_up, levels_over, hashes_in, leaf_level, AreLevels, set_each, over_one, over_each, is_set, IsOwn, Renews, count_above, level_of_length, renew_through, HaveRoom}
use Rattle.merkle_tree.proofs.Raising.{length-pair_up, pair_at, last_at, are_over}

-- ---- one level

length-set_each : (hashes : List HashAt) (xs : List Digest) → length (set_each xs hashes) ≡ length xs
length-set_each [] xs = refl
length-set_each (one ∷ hashes) xs = length-set_each hashes (set xs one.index one.hash) ∙ length-set xs one.index one.hash

-- Lists of one length with equal items are equal.
same_items : (xs ys : List Digest) → length xs ≡ length ys → ((i : ℕ) → i < length ys → get_or xs i NO_HASH ≡ get_or ys i NO_HASH) → xs ≡ ys
same_items [] [] long each = refl
same_items [] (y ∷ ys) long each = absurd (omega arith)
same_items (x ∷ xs) [] long each = absurd (omega arith)
same_items (x ∷ xs) (y ∷ ys) long each =
    ap₂ (λ (z : Digest) (zs : List Digest). z ∷ zs) (each 0 (omega arith)) (same_items xs ys (omega arith) (λ i below. each (suc i) (omega arith)))

set_all_is : (hashes : List HashAt) (base level : List Digest) → length base ≡ length level → All (IsOwn level) hashes
    → ((i : ℕ) → i < length level → is_set hashes i ≡ false → get_or base i NO_HASH ≡ get_or level i NO_HASH) → set_each base hashes ≡ level
set_all_is [] base level long own rest = same_items base level long (λ i below. rest i below refl)
set_all_is (one ∷ hashes) base level long own rest =
    set_all_is hashes (set base one.index one.hash) level (length-set base one.index one.hash ∙ long) (All-tail (IsOwn level) one hashes own) each
  where
    here : IsOwn level one
    here = All-head (IsOwn level) one hashes own

    each : (i : ℕ) → i < length level → is_set hashes i ≡ false → get_or (set base one.index one.hash) i NO_HASH ≡ get_or level i NO_HASH
    each i below off = elim (cases_eq one.index i) [
      | inl same ↦
          ap (λ (k : ℕ). get_or (set base one.index one.hash) k NO_HASH) (sym same)
          ∙ get_or-set_same base one.index one.hash NO_HASH (omega (arith, here.0, long)) ∙ sym here.1 ∙ ap (λ (k : ℕ). get_or level k NO_HASH) same
      | inr apart ↦
          get_or-set_other base one.index i one.hash NO_HASH (λ e. apart (sym e)) ∙ rest i below (not_first apart off)
    ]
      where
        not_first : (one.index ≡ i → ⊥) → is_set hashes i ≡ false → is_set (one ∷ hashes) i ≡ false
        not_first apart off = elim (cases_Bool (one.index == i)) [
          | inl t ↦ absurd (apart (eqb-true one.index i t))
          | inr f ↦ rw f off
        ]

-- Setting the hashes that are given makes the list before into the one after.
set_renewed : (before after : List Digest) (hashes : List HashAt) (count : ℕ) → length after ≡ count → Renews before after hashes → set_each (level_of_length before count) hashes ≡ after
set_renewed before after hashes count long is =
    set_all_is hashes (level_of_length before count) after
    (length-append before (replicate (count - length before) NO_HASH) ∙ omega (arith, length-replicate {A = Digest} (count - length before) NO_HASH, is.fewer, long))
    is.own
    (λ i below off. let other = is.others i below off in get_or_append_left before (replicate (count - length before) NO_HASH) NO_HASH i other.0 ∙ other.1)

-- ---- the level above

or_true : (b : Bool) → (b || true) ≡ true
or_true true = refl
or_true false = refl

-- If a place is set, so is the one over it.
half_set : (hashes : List HashAt) (level : List Digest) (i : ℕ) → is_set hashes i ≡ true → is_set (over_each level hashes) (i / 2) ≡ true
half_set [] level i t = t
half_set (one ∷ hashes) level i t = elim (cases_Bool (one.index == i)) [
  | inl here ↦ let same : one.index / 2 ≡ i / 2 = ap (λ (k : ℕ). k / 2) (eqb-true one.index i here) in rw (eq-eqb (one.index / 2) (i / 2) same) refl
  | inr f ↦ rw (half_set hashes level i (rw f at t)) (or_true (one.index / 2 == i / 2))
]

not_set : (hashes : List HashAt) (level : List Digest) (i p : ℕ) → i / 2 ≡ p → is_set (over_each level hashes) p ≡ false → is_set hashes i ≡ false
not_set hashes level i p half off = elim (cases_Bool (is_set hashes i)) [
  | inl t ↦ absurd (clash (is_set (over_each level hashes) p) (ap (is_set (over_each level hashes)) (sym half) ∙ half_set hashes level i t) off)
  | inr f ↦ f
]
  where
    clash : (b : Bool) → b ≡ true → b ≡ false → ⊥
    clash b t f = cc

pairs_renewed : (before after : List Digest) (hashes : List HashAt) → Renews before after hashes → Renews (pair_up before) (pair_up after) (over_each after hashes)
pairs_renewed before after hashes is = record {
  fewer = omega (arith, is.fewer, length-pair_up before, length-pair_up after);
  own = All-map (IsOwn (pair_up after)) (over_one after) hashes
      (All-weaker (IsOwn after) (λ (one : HashAt). IsOwn (pair_up after) (over_one after one)) (λ one own. (omega (arith, own.0, length-pair_up after), refl)) hashes is.own);
  others = others;
}
  where
    others : (p : ℕ) → p < length (pair_up after) → is_set (over_each after hashes) p ≡ false → (p < length (pair_up before)) × (get_or (pair_up before) p NO_HASH ≡ get_or (pair_up after) p NO_HASH)
    others p below off =
        let left = is.others (2 * p) (omega (arith, below, length-pair_up after)) (not_set hashes after (2 * p) p (omega arith) off) in
        elim (cases_lt (2 * p + 1) (length after)) [
          | inl two ↦
              let right = is.others (2 * p + 1) two (not_set hashes after (2 * p + 1) p (omega arith) off) in (
                omega (arith, right.0, length-pair_up before),
                pair_at before p NO_HASH right.0 ∙ ap₂ join left.1 right.1 ∙ sym (pair_at after p NO_HASH two),
              )
          | inr one ↦ (
            omega (arith, left.0, length-pair_up before),
            last_at before p NO_HASH (omega (arith, left.0, one, is.fewer, below, length-pair_up after)) ∙ left.1 ∙ sym (last_at after p NO_HASH (omega (arith, one, below, length-pair_up after))),
          )
        ]

-- ---- all levels

levels_renewed : (j count : ℕ) (before after : List Digest) (hashes : List HashAt) → length after ≡ count → Renews before after hashes → renew_through count hashes (levels_over j before) ≡ levels_over j after
unfolding renew_through levels_over
levels_renewed zero count before after hashes long is = ap (λ (level : List Digest). level ∷ []) (set_renewed before after hashes count long is)
levels_renewed (suc j) count before after hashes long is =
    let now = set_renewed before after hashes count long is in
    ap (λ (level : List Digest). level ∷ renew_through (count_above count) (over_each level hashes) (levels_over j (pair_up before))) now
    ∙ ap (λ (levels : List (List Digest)). after ∷ levels)
    (levels_renewed j (count_above count) (pair_up before) (pair_up after) (over_each after hashes) (omega (arith, length-pair_up after, long)) (pairs_renewed before after hashes is))

pub are_renewed : (old new : List (List Digest)) (count : ℕ) (after : List Digest) (hashes : List HashAt) → AreLevels old → length after ≡ count → count ≤ MAX_LEAVES → Renews (leaf_level old) after hashes
    → new ≡ renew_through count hashes old → AreLevels new × (leaf_level new ≡ after)
are_renewed old new count after hashes is long few renews e =
    are_over new after (e ∙ ap (renew_through count hashes) is.pairs ∙ levels_renewed MAX_HEIGHT count (leaf_level old) after hashes long renews) (omega (arith, long, few))

-- ---- the loop over the levels

renew-more : (count : ℕ) (hashes : List HashAt) (l : List Digest) (ls : List (List Digest))
    → renew_through count hashes (l ∷ ls) ≡ set_each (level_of_length l count) hashes ∷ renew_through (count_above count) (over_each (set_each (level_of_length l count) hashes) hashes) ls
unfolding renew_through
renew-more count hashes l ls = refl

renew-none : (count : ℕ) (hashes : List HashAt) → renew_through count hashes [] ≡ []
unfolding renew_through
renew-none count hashes = refl

pub one_renewed : (vs : List (Vec Digest Global)) (i count : ℕ) (hashes over : List HashAt) (w d : Vec Digest Global) → i < length vs → w.items ≡ set_each (level_of_length (get_or vs i d).items count) hashes
    → over ≡ over_each (set_each (level_of_length (get_or vs i d).items count) hashes) hashes
    → hashes_in (take (i + 1) (set vs i w)) ++ renew_through (count_above count) over (hashes_in (drop (i + 1) (set vs i w))) ≡ hashes_in (take i vs) ++ renew_through count hashes (hashes_in (drop i vs))
one_renewed vs i count hashes over w d below is over_is =
    let now = set_each (level_of_length (get_or vs i d).items count) hashes in
    let front : hashes_in (take (i + 1) (set vs i w)) ≡ hashes_in (take i vs) ++ w.items ∷ [] = ap hashes_in (take_more_set vs i w below) ∙ map-append (λ (level : Vec Digest Global). level.items) (take i vs) (w ∷ []) in
    let back : drop (i + 1) (set vs i w) ≡ drop (i + 1) vs = drop-set-lt (i + 1) vs i w (omega arith) in
    let whole : drop i vs ≡ get_or vs i d ∷ drop (i + 1) vs = drop_more vs i d below in
    rw (front, back, whole, is, over_is) (append_assoc (hashes_in (take i vs)) (now ∷ []) (renew_through (count_above count) (over_each now hashes) (hashes_in (drop (i + 1) vs))) ∙ rw renew-more refl)

pub none_renewed : (vs : List (Vec Digest Global)) (i count : ℕ) (hashes : List HashAt) → length vs ≤ i → hashes_in (take i vs) ++ renew_through count hashes (hashes_in (drop i vs)) ≡ hashes_in vs
none_renewed vs i count hashes h = rw (take_all i vs h, drop_all i vs h, renew-none) (append-nil (hashes_in vs))

-- ---- room

pub room_after : (vs : List (Vec Digest Global)) (i count : ℕ) (w : Vec Digest Global) → i < length vs → HaveRoom count (drop i vs) → HaveRoom (count_above count) (drop (i + 1) (set vs i w))
room_after vs i count w below room = rw (drop-set-lt (i + 1) vs i w (omega arith)) ((rw (drop_more vs i w below) at room).1)

pub room_there : (vs : List (Vec Digest Global)) (i count : ℕ) (d : Vec Digest Global) → i < length vs → HaveRoom count (drop i vs) → count ≤ vec_capacity (get_or vs i d)
room_there vs i count d below room = (rw (drop_more vs i d below) at room).0

pub room_taken : (vs : List (Vec Digest Global)) (i count wanted : ℕ) (w : Vec Digest Global) → i < length vs → wanted ≤ vec_capacity w
    → ((rest : List (Vec Digest Global)) → HaveRoom wanted rest → HaveRoom count (take i vs ++ rest)) → (rest : List (Vec Digest Global)) → HaveRoom (count_above wanted) rest → HaveRoom count (take (i + 1) (set vs i w) ++ rest)
room_taken vs i count wanted w below wide so rest more =
    rw (take_more_set vs i w below, append_assoc (take i vs) (w ∷ []) rest) (so (w ∷ rest) (wide, more))

-- ---- one level made longer

pub one_longer : (level : List Digest) (count : ℕ) → length level < count → level_of_length (level ++ NO_HASH ∷ []) count ≡ level_of_length level count
one_longer level count below =
    let more : List Digest = NO_HASH ∷ [] in
    let left : count - length level ≡ suc (count - length (level ++ more)) = omega (arith, below, length-append level more) in
    append_assoc level more (replicate (count - length (level ++ more)) NO_HASH) ∙ ap (λ (n : ℕ). level ++ replicate n NO_HASH) (sym left)

pub long_enough : (level : List Digest) (count : ℕ) → count ≤ length level → level_of_length level count ≡ level
long_enough level count h =
    let none : count - length level ≡ 0 = omega (arith, h) in
    ap (λ (n : ℕ). level ++ replicate n NO_HASH) none ∙ append-nil level
