-- After a hash is put at the end of the lowest level, the levels are those over one leaf more.
use Rattle.std.proofs.Common.{◌≡◌, ℕ, zero, suc, ◌+◌, ◌*◌, ◌/◌, ◌<◌, ◌≤◌, List, [], ◌∷◌, ◌++◌, length, take, drop, get_or, map, refl, sym, ap, ◌∙◌, arith, Vec, Global}
use Rattle.std.proofs.Math.ListN.{set}
use Rattle.std.proofs.lemmas.List.{get_or_past, take_more_set, map-append, drop-set-lt, drop_more, append_assoc, take_all, drop_all, append-nil}
use Rattle.std.specs.List.{All}
use Rattle.std.proofs.lemmas.List.{drop-drop, length-drop, get_or-drop, length-append}
use Rattle.std.proofs.lemmas.List.Elements.{All-push, All-drop}
use Rattle.merkle_tree.specs.Levels.{join, pair_up, levels_over, hash_over, put, put_through, HasRoom, leaf_level, AreLevels}
use Rattle.merkle_tree.specs.declared.limits.TheConstants.{MAX_HEIGHT, MAX_LEAVES}
use Rattle.lc_base.specs.declared.digest.Digest.{Digest}

-- Half of a number grows by one with each pair.
half_suc : (m : ℕ) → suc (suc m) / 2 ≡ suc (m / 2)
half_suc m = omega arith

pub length-pair_up : (xs : List Digest) → length (pair_up xs) ≡ (length xs + 1) / 2
length-pair_up [] = refl
length-pair_up (x ∷ []) = refl
length-pair_up (x ∷ y ∷ xs) = omega (arith, length-pair_up xs)

-- ---- what is over a place

pub pair_at : (xs : List Digest) (p : ℕ) (d : Digest) → 2 * p + 1 < length xs → get_or (pair_up xs) p d ≡ join (get_or xs (2 * p) d) (get_or xs (2 * p + 1) d)
pair_at [] p d h = absurd (omega arith)
pair_at (x ∷ []) p d h = absurd (omega arith)
pair_at (x ∷ y ∷ xs) zero d h = refl
pair_at (x ∷ y ∷ xs) (suc p) d h =
    let e : 2 * suc p ≡ suc (suc (2 * p)) = omega arith in
    let f : 2 * suc p + 1 ≡ suc (suc (2 * p + 1)) = omega arith in
    pair_at xs p d (omega arith)
    ∙ ap (λ (l : Digest). join l (get_or xs (2 * p + 1) d)) (sym (ap (λ (i : ℕ). get_or (x ∷ y ∷ xs) i d) e))
    ∙ ap (λ (r : Digest). join (get_or (x ∷ y ∷ xs) (2 * suc p) d) r) (sym (ap (λ (i : ℕ). get_or (x ∷ y ∷ xs) i d) f))

pub last_at : (xs : List Digest) (p : ℕ) (d : Digest) → 2 * p + 1 ≡ length xs → get_or (pair_up xs) p d ≡ get_or xs (2 * p) d
last_at [] p d h = absurd (omega arith)
last_at (x ∷ []) zero d h = refl
last_at (x ∷ []) (suc p) d h = absurd (omega arith)
last_at (x ∷ y ∷ xs) zero d h = absurd (omega arith)
last_at (x ∷ y ∷ xs) (suc p) d h =
    let e : 2 * suc p ≡ suc (suc (2 * p)) = omega arith in
    last_at xs p d (omega arith) ∙ sym (ap (λ (i : ℕ). get_or (x ∷ y ∷ xs) i d) e)

-- The hash over a place, as the code finds it.
pub above_pair : (xs : List Digest) (m left : ℕ) (d l r : Digest) → left ≡ m / 2 * 2 → left + 1 < length xs → l ≡ get_or xs left d → r ≡ get_or xs (left + 1) d → hash_over xs m d ≡ join l r
above_pair xs m left d l r is h le re =
    let e : 2 * (m / 2) ≡ left = omega arith in
    pair_at xs (m / 2) d (omega arith)
    ∙ ap (λ (i : ℕ). join (get_or xs i d) (get_or xs (i + 1) d)) e
    ∙ ap (λ (t : Digest). join t (get_or xs (left + 1) d)) (sym le) ∙ ap (join l) (sym re)

pub above_last : (xs : List Digest) (m left : ℕ) (d : Digest) → left ≡ m / 2 * 2 → left + 1 ≡ length xs → hash_over xs m d ≡ get_or xs left d
above_last xs m left d is h =
    let e : 2 * (m / 2) ≡ left = omega arith in
    last_at xs (m / 2) d (omega arith) ∙ rw e refl

pub above_none : (xs : List Digest) (m left : ℕ) (d : Digest) → left ≡ m / 2 * 2 → length xs ≤ left → hash_over xs m d ≡ d
above_none xs m left d is h = get_or_past (pair_up xs) (m / 2) d (omega (arith, length-pair_up xs))

pub same_digest : (a b : Digest) → a.0 ≡ b.0 → a ≡ b
same_digest a b e = ap (λ (bytes : List ℕ). record { 0 = bytes }) e

-- What is put through the levels, one level at a time.
pub put-more : (m : ℕ) (v : Digest) (l : List Digest) (ls : List (List Digest)) → put_through m v (l ∷ ls) ≡ put l m v ∷ put_through (m / 2) (hash_over (put l m v) m v) ls
unfolding put_through
put-more m v l ls = refl

pub put-none : (m : ℕ) (v : Digest) → put_through m v [] ≡ []
unfolding put_through
put-none m v = refl

-- One turn of the loop that puts a hash into each level.
pub one_put : (vs : List (Vec Digest Global)) (i m : ℕ) (v up : Digest) (w d : Vec Digest Global) → i < length vs → w.items ≡ put (get_or vs i d).items m v → up ≡ hash_over (put (get_or vs i d).items m v) m v
    → map (λ (level : Vec Digest Global). level.items) (take (i + 1) (set vs i w)) ++ put_through (m / 2) up (map (λ (level : Vec Digest Global). level.items) (drop (i + 1) (set vs i w)))
    ≡ map (λ (level : Vec Digest Global). level.items) (take i vs) ++ put_through m v (map (λ (level : Vec Digest Global). level.items) (drop i vs))
one_put vs i m v up w d below is up_is =
    let f = λ (level : Vec Digest Global). level.items in
    let front : map f (take (i + 1) (set vs i w)) ≡ map f (take i vs) ++ w.items ∷ [] = ap (map f) (take_more_set vs i w below) ∙ map-append f (take i vs) (w ∷ []) in
    let back : drop (i + 1) (set vs i w) ≡ drop (i + 1) vs = drop-set-lt (i + 1) vs i w (omega arith) in
    let whole : drop i vs ≡ get_or vs i d ∷ drop (i + 1) vs = drop_more vs i d below in
    rw (front, back, whole, is, up_is) (append_assoc (map f (take i vs)) (put (get_or vs i d).items m v ∷ []) (put_through (m / 2) (hash_over (put (get_or vs i d).items m v) m v) (map f (drop (i + 1) vs))) ∙ rw put-more refl)

pub all_put : (vs : List (Vec Digest Global)) (i m : ℕ) (v : Digest) → length vs ≤ i
    → map (λ (level : Vec Digest Global). level.items) (take i vs) ++ put_through m v (map (λ (level : Vec Digest Global). level.items) (drop i vs)) ≡ map (λ (level : Vec Digest Global). level.items) vs
all_put vs i m v h = rw (take_all i vs h, drop_all i vs h, put-none) (append-nil (map (λ (level : Vec Digest Global). level.items) vs))

-- ---- one leaf more

put_up-same : (xs : List Digest) (m : ℕ) (v : Digest) → m ≤ length xs → pair_up (put xs m v) ≡ put (pair_up xs) (m / 2) (hash_over (put xs m v) m v)
put_up-same [] zero v h = refl
put_up-same [] (suc m) v h = absurd (omega arith)
put_up-same (x ∷ []) zero v h = refl
put_up-same (x ∷ []) (suc zero) v h = refl
put_up-same (x ∷ []) (suc (suc m)) v h = absurd (omega arith)
put_up-same (x ∷ y ∷ xs) zero v h = refl
put_up-same (x ∷ y ∷ xs) (suc zero) v h = refl
put_up-same (x ∷ y ∷ xs) (suc (suc m)) v h = rw half_suc (ap (λ (t : List Digest). join x y ∷ t) (put_up-same xs m v (omega arith)))

pub put_keeps-levels : (j m : ℕ) (v : Digest) (hs : List Digest) → m ≤ length hs → put_through m v (levels_over j hs) ≡ levels_over j (put hs m v)
unfolding put_through levels_over
put_keeps-levels zero m v hs h = refl
put_keeps-levels (suc j) m v hs h =
    let up : m / 2 ≤ length (pair_up hs) = omega (arith, length-pair_up hs) in
    ap (λ (t : List (List Digest)). put hs m v ∷ t) (put_keeps-levels j (m / 2) (hash_over (put hs m v) m v) (pair_up hs) up ∙ ap (levels_over j) (sym (put_up-same hs m v h)))

pub put_within : (xs : List Digest) (m : ℕ) (v : Digest) → m < length xs → put xs m v ≡ set xs m v
put_within [] m v h = absurd (omega arith)
put_within (x ∷ xs) zero v h = refl
put_within (x ∷ xs) (suc m) v h = ap (λ (t : List Digest). x ∷ t) (put_within xs m v (omega arith))

pub put_past : (xs : List Digest) (m : ℕ) (v : Digest) → length xs ≤ m → put xs m v ≡ xs ++ v ∷ []
put_past [] m v h = refl
put_past (x ∷ xs) zero v h = absurd (omega arith)
put_past (x ∷ xs) (suc m) v h = ap (λ (t : List Digest). x ∷ t) (put_past xs m v (omega arith))

-- ---- room

pub items_same : (vs : List (Vec Digest Global)) (i : ℕ) (w d : Vec Digest Global) → i < length vs → w.items ≡ (get_or vs i d).items
    → map (λ (level : Vec Digest Global). level.items) (set vs i w) ≡ map (λ (level : Vec Digest Global). level.items) vs
items_same [] i w d h e = absurd (omega arith)
items_same (v ∷ vs) zero w d h e = ap (λ (l : List Digest). l ∷ map (λ (level : Vec Digest Global). level.items) vs) e
items_same (v ∷ vs) (suc i) w d h e = ap (λ (t : List (List Digest)). v.items ∷ t) (items_same vs i w d (omega arith) e)

pub room_more : (vs : List (Vec Digest Global)) (i : ℕ) (w : Vec Digest Global) → i < length vs → HasRoom w → All HasRoom (take i vs) → All HasRoom (take (i + 1) (set vs i w))
room_more vs i w h one before = rw (take_more_set vs i w h) (All-push HasRoom (take i vs) w before one)

pub room_rest : (vs : List (Vec Digest Global)) (i : ℕ) (w : Vec Digest Global) → All HasRoom (drop i vs) → All HasRoom (drop (i + 1) (set vs i w))
room_rest vs i w all = rw (drop-set-lt (i + 1) vs i w (omega arith), ← drop-drop 1 i vs) (All-drop HasRoom 1 (drop i vs) all)

pub room_here : (vs : List (Vec Digest Global)) (i : ℕ) (d : Vec Digest Global) → i < length vs → All HasRoom (drop i vs) → HasRoom (get_or vs i d)
room_here vs i d h all =
    let e : i + 0 ≡ i = omega arith in
    let at = all 0 d (omega (arith, length-drop i vs)) in
    rw (get_or-drop i vs 0 d, e) at at

pub leaf_level-over : (j : ℕ) (hs : List Digest) → leaf_level (levels_over j hs) ≡ hs
unfolding levels_over
leaf_level-over zero hs = refl
leaf_level-over (suc j) hs = refl

-- Levels over some hashes.
pub are_over : (new : List (List Digest)) (hs : List Digest) → new ≡ levels_over MAX_HEIGHT hs → length hs ≤ MAX_LEAVES → AreLevels new × (leaf_level new ≡ hs)
are_over new hs e few =
    let lowest : leaf_level new ≡ hs = ap leaf_level e ∙ leaf_level-over MAX_HEIGHT hs in
    (record { pairs = e ∙ ap (levels_over MAX_HEIGHT) (sym lowest); few = rw lowest few }, lowest)

-- All levels, after a hash was put behind those of the other leaves.
pub are_put : (old new : List (List Digest)) (v : Digest) → AreLevels old → length (leaf_level old) < MAX_LEAVES → new ≡ put_through (length (leaf_level old)) v old → AreLevels new × (leaf_level new ≡ leaf_level old ++ v ∷ [])
are_put old new v is room e =
    let more : length (leaf_level old ++ v ∷ []) ≡ length (leaf_level old) + 1 = length-append (leaf_level old) (v ∷ []) in
    let pairs : new ≡ levels_over MAX_HEIGHT (leaf_level old ++ v ∷ []) =
    e ∙ ap (put_through (length (leaf_level old)) v) is.pairs ∙ put_keeps-levels MAX_HEIGHT (length (leaf_level old)) v (leaf_level old) (omega arith)
    ∙ ap (levels_over MAX_HEIGHT) (put_past (leaf_level old) (length (leaf_level old)) v (omega arith)) in
    are_over new (leaf_level old ++ v ∷ []) pairs (omega (arith, more, room))
