-- The marks of the items that pass a test, with one item more; those of a key's versions are in
-- order of their blocks.
use Rattle.std.proofs.Common.{◌≡◌, ◌&&◌, ℕ, zero, suc, ◌+◌, ◌<◌, ◌≤◌, List, [], ◌∷◌, ◌++◌, length}
use Rattle.std.proofs.Common.{get_or, reverse, slice_get, nat_le, Bool, true, false, cond, Option}
use Rattle.std.proofs.Common.{None, Some, refl, sym, ap, ◌∙◌, arith}
use Rattle.std.specs.List.{find}
use Rattle.std.specs.List.Sorted.{IsNonDecreasingBy}
use Rattle.std.specs.Option.{option_or, option_map}
use Rattle.std.specs.BTreeMap.{BTreeMap}
use Rattle.std.proofs.lemmas.List.{reverse-append, append_assoc, length-append}
use Rattle.std.proofs.lemmas.List.Folds.{find-append}
use Rattle.std.proofs.lemmas.Option.{none-some, same_Some}
use Rattle.lc_base.specs.declared.row.Row.{Row}
use Rattle.lc_base.specs.History.{is_version, latest}
use Rattle.plain_rows.specs.declared.places.Place.{Place}
use Rattle.plain_rows.specs.Places.{marks_of, is_of, place_of, block_of, row_index, places}
use Rattle.plain_rows.specs.Places.{places_in}
use Rattle.plain_rows.specs.Places.{ArePlaces, last_up_to, index_up_to, IsRowAt}

-- ---- one item more

one_more : {A : Type 0} (b c : Bool) (y z : A) (ms : List A) →
    cond b (y ∷ cond c (ms ++ z ∷ []) ms) (cond c (ms ++ z ∷ []) ms) ≡ cond c
    (cond b (y ∷ ms) ms ++ z ∷ []) (cond b (y ∷ ms) ms)
one_more true true y z ms = refl
one_more true false y z ms = refl
one_more false true y z ms = refl
one_more false false y z ms = refl

pub marked_more : {X A : Type 0} (keep : ℕ → X → A) (passes : X → Bool) (n : ℕ) (xs : List X)
    (x : X) →
    marks_of keep passes n (xs ++ x ∷ []) ≡ cond (passes x)
    (marks_of keep passes n xs ++ keep (n + length xs) x ∷ []) (marks_of keep passes n xs)
marked_more keep passes n [] x =
    let e : n ≡ n + 0 = omega arith in
    ap (λ k. cond (passes x) (keep k x ∷ []) []) e
marked_more {X} {A} keep passes n (y ∷ ys) x =
    let e : suc n + length ys ≡ n + suc (length ys) = omega arith in
    let ms = marks_of keep passes (suc n) ys in
    ap (λ (l : List A). cond (passes y) (keep n y ∷ l) l) (marked_more keep passes (suc n) ys x)
    ∙ one_more (passes y) (passes x) (keep n y) (keep (suc n + length ys) x) ms
    ∙ ap (λ k. cond (passes x) (cond (passes y) (keep n y ∷ ms) ms ++ keep k x ∷ [])
    (cond (passes y) (keep n y ∷ ms) ms)) e

-- ---- the blocks of places rise

of_both : {A : Type 0} (P : List A → Type 0) (b : Bool) (xs ys : List A) → P xs → P ys
    → P (cond b xs ys)
of_both P true xs ys p q = p
of_both P false xs ys p q = q

abbrev AtLeast : {X : Type 0} → (X → ℕ) → ℕ → List X → Type 0
AtLeast {X} number low xs = (j : ℕ) (d : X) → j < length xs → low ≤ number (get_or xs j d)

at_least_cons : {X : Type 0} (number : X → ℕ) (low : ℕ) (x : X) (xs : List X) → low ≤ number x
    → AtLeast number low xs → AtLeast number low (x ∷ xs)
at_least_cons number low x xs first rest zero d m = first
at_least_cons number low x xs first rest (suc j) d m = rest j d (omega (arith, m))

rises_cons : {X : Type 0} (number : X → ℕ) (x : X) (xs : List X) → AtLeast number (number x) xs
    → IsNonDecreasingBy number xs → IsNonDecreasingBy number (x ∷ xs)
rises_cons number x xs low rise zero zero d l m = omega arith
rises_cons number x xs low rise zero (suc j) d l m = low j d (omega (arith, m))
rises_cons number x xs low rise (suc i) zero d l m = absurd (omega (arith, l))
rises_cons number x xs low rise (suc i) (suc j) d l m = rise i j d (omega (arith, l))
    (omega (arith, m))

abbrev row_block : Row → ℕ
row_block row = row.block

places_low : (passes : Row → Bool) (low n : ℕ) (rows : List Row) → AtLeast row_block low rows
    → AtLeast block_of low (marks_of place_of passes n rows)
places_low passes low n [] all = λ j d m. absurd (omega (arith, m))
places_low passes low n (row ∷ rows) all =
    let rest = places_low passes low (suc n) rows (λ j d m. all (suc j) d (omega (arith, m))) in
    of_both (AtLeast block_of low) (passes row) _ _
    (at_least_cons block_of low (place_of n row) _ (all 0 row (omega arith)) rest) rest

pub places_rise : (passes : Row → Bool) (n : ℕ) (rows : List Row) → IsNonDecreasingBy row_block rows
    → IsNonDecreasingBy block_of (marks_of place_of passes n rows)
places_rise passes n [] rise = λ i j d l m. absurd (omega (arith, m))
places_rise passes n (row ∷ rows) rise =
    let rest = places_rise passes (suc n) rows
    (λ i j d l m. rise (suc i) (suc j) d (omega (arith, l)) (omega (arith, m))) in
    let low = places_low passes row.block (suc n) rows
    (λ j d m. rise 0 (suc j) d (omega arith) (omega (arith, m))) in
    of_both (IsNonDecreasingBy block_of) (passes row) _ _
    (rises_cons block_of (place_of n row) _ low rest) rest

-- ---- the last version by places

map_or : {A B : Type 0} (f : A → B) (a b : Option A)
    → option_map f (option_or a b) ≡ option_or (option_map f a) (option_map f b)
map_or f None b = refl
map_or f (Some x) b = refl

pub or_none : {A : Type 0} (o : Option A) → option_or o None ≡ o
or_none None = refl
or_none (Some x) = refl

pub find_first : {X : Type 0} (test : X → Bool) (x : X) (xs : List X) →
    find test (reverse (x ∷ xs)) ≡ option_or (find test (reverse xs)) (cond (test x) (Some x) None)
find_first test x xs = ap (find test) (reverse-append (x ∷ []) xs)
    ∙ find-append test (reverse xs) (x ∷ [])

some : {A : Type 0} → A → Option A
some x = Some x

abbrev pub up : ℕ → Place → Bool
up at place = nat_le place.block at

map_cond : {A B : Type 0} (f : A → B) (c : Bool) (x : A)
    → option_map f (cond c (Some x) None) ≡ cond c (Some (f x)) None
map_cond f true x = refl
map_cond f false x = refl

both_cond : {A B : Type 0} (f : A → Option B) (c : Bool) (x : A) (y : B) → f x ≡ Some y →
    option_map (λ (z : B). Some z) (cond c (Some y) None) ≡ option_map f (cond c (Some x) None)
both_cond f true x y e = ap (λ o. Some o) (sym e)
both_cond f false x y e = refl

version_step : (at : ℕ) (b : Bool) (row : Row) (place : Place) (ms : List Place) (o : Option Row)
    (g : Place → Option Row) →
    g place ≡ Some row → option_map (λ (r : Row). Some r) o ≡ option_map g
    (find (up at) (reverse ms)) →
    option_map (λ (r : Row). Some r) (option_or o (cond (b && up at place) (Some row) None)) ≡
    option_map g (find (up at) (reverse (cond b (place ∷ ms) ms)))
version_step at true row place ms o g is before =
    map_or (λ (r : Row). Some r) o (cond (up at place) (Some row) None)
    ∙ (λ i. option_or (before i) (both_cond g (up at place) place row is i))
    ∙ sym (map_or g (find (up at) (reverse ms)) (cond (up at place) (Some place) None))
    ∙ ap (option_map g) (sym (find_first (up at) place ms))
version_step at false row place ms o g is before = ap (option_map (λ (r : Row). Some r)) (or_none o)
    ∙ before

pub get_here : {X : Type 0} (before : List X) (x : X) (xs : List X)
    → slice_get (before ++ x ∷ xs) (length before) ≡ Some x
get_here [] x xs = refl
get_here (y ∷ ys) x xs = get_here ys x xs

found_by_place : (key : List ℕ) (at n : ℕ) (before rows : List Row) → length before ≡ n →
    option_map (λ (r : Row). Some r) (latest rows key at) ≡ option_map
    (λ (p : Place). slice_get (before ++ rows) p.row)
    (last_up_to at (marks_of place_of (is_of key) n rows))
found_by_place key at n before [] len = refl
found_by_place key at n before (row ∷ rows) len =
    let all = before ++ row ∷ rows in
    let g = λ (p : Place). slice_get all p.row in
    let here : slice_get all n ≡ Some row = ap (slice_get all) (sym len)
    ∙ get_here before row rows in
    let longer : length (before ++ row ∷ []) ≡ suc n = length-append before (row ∷ [])
    ∙ omega (arith, len) in
    let rest = found_by_place key at (suc n) (before ++ row ∷ []) rows longer
    ∙ ap (λ (l : List Row). option_map (λ (p : Place). slice_get l p.row)
    (last_up_to at (marks_of place_of (is_of key) (suc n) rows)))
    (append_assoc before (row ∷ []) rows) in
    ap (option_map (λ (r : Row). Some r)) (find_first (is_version key at) row rows)
    ∙ version_step at (is_of key row) row (place_of n row)
    (marks_of place_of (is_of key) (suc n) rows) (latest rows key at) g here rest

found_row : (rows : List Row) (place : Option Place) (found : Option Row)
    → option_map (λ (r : Row). Some r) found ≡ option_map (λ (p : Place). slice_get rows p.row)
    place → IsRowAt rows (option_map row_index place) found
found_row rows None None e = refl
found_row rows None (Some row) e = absurd (none-some (Some row) (sym e))
found_row rows (Some place) None e = absurd (none-some (slice_get rows place.row) e)
found_row rows (Some place) (Some row) e =
    (row, refl, sym (same_Some (Some row) (slice_get rows place.row) e))

-- the last version of the key is at the last of the key's places with a block up to this one
pub latest_up_to : (rows : List Row) (key : List ℕ) (at : ℕ)
    → IsRowAt rows (index_up_to rows key at) (latest rows key at)
latest_up_to rows key at = found_row rows (last_up_to at (places rows key)) (latest rows key at)
    (found_by_place key at 0 [] rows refl)

-- ---- one row more is kept

pub places_more : (rows : List Row) (before after : BTreeMap (List ℕ) (List Place)) (row : Row)
    (n : ℕ) → length rows ≡ n → ArePlaces rows before →
    ((key : List ℕ) → places_in after key ≡ cond (is_of key row)
    (places_in before key ++ place_of n row ∷ []) (places_in before key)) →
    ArePlaces (rows ++ row ∷ []) after
places_more rows before after row n len kept more key =
    let e : n ≡ 0 + length rows = omega (arith, len) in
    more key
    ∙ ap (λ k. cond (is_of key row) (places_in before key ++ place_of k row ∷ [])
    (places_in before key)) e
    ∙ ap (λ (l : List Place). cond (is_of key row) (l ++ place_of (0 + length rows) row ∷ []) l)
    (kept key)
    ∙ sym (marked_more place_of (is_of key) 0 rows row)
