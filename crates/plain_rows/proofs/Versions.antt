-- In a lawful history a version is the last one of its key up to its block, so its key and block
-- lead to its row.
use Rattle.std.proofs.Common.{◌≡◌, ◌==◌, ℕ, zero, suc, ◌+◌, ◌<◌, List, [], ◌∷◌, length, get_or}
use Rattle.std.proofs.Common.{reverse, slice_get, nat_le, Bool, true, false, cond, None, Some, refl}
use Rattle.std.proofs.Common.{sym, ap, subst, ◌∙◌, inl, inr, arith}
use Rattle.std.specs.List.{find, AllPairs}
use Rattle.std.specs.Option.{option_or, option_map}
use Rattle.std.specs.Cmp.Lexicographic.{pointwise}
use Rattle.std.proofs.lemmas.Bool.{cases_Bool, le-leb, lt-leb}
use Rattle.std.proofs.lemmas.Option.{same_Some, none-some}
use Rattle.std.proofs.lemmas.Slice.Eq.{bytes_eq-Decides}
use Rattle.lc_base.specs.declared.row.Row.{Row}
use Rattle.lc_base.specs.declared.row.Dep.{Dep}
use Rattle.lc_base.specs.History.{StandsBefore}
use Rattle.plain_rows.specs.declared.places.Place.{Place}
use Rattle.plain_rows.specs.Places.{marks_of, is_of, place_of, row_index, places, last_up_to}
use Rattle.plain_rows.specs.Places.{index_up_to}
use Rattle.plain_rows.proofs.Marked.{find_first, up}

later_block : (x y : Row) → StandsBefore x y → y.key ≡ x.key → x.block < y.block
later_block x y (inl less) e = less
later_block x y (inr same) e = absurd (same.2 (sym e))

-- the versions of a key after one of its versions are in later blocks
none_later : (x : Row) (xs : List Row) (n : ℕ)
    → ((j : ℕ) (d : Row) → j < length xs → StandsBefore x (get_or xs j d)) →
    find (up x.block) (reverse (marks_of place_of (is_of x.key) n xs)) ≡ None
none_later x [] n before = refl
none_later x (y ∷ ys) n before =
    let rest = none_later x ys (suc n) (λ j d m. before (suc j) d (omega (arith, m))) in
    elim (cases_Bool (pointwise ◌==◌ y.key x.key)) [
      | inl t ↦
          let late : nat_le y.block x.block ≡ false = lt-leb y.block x.block
          (later_block x y (before 0 y (omega arith)) ((bytes_eq-Decides y.key x.key).0 t)) in
          rw t (find_first (up x.block) (place_of n y) (marks_of place_of (is_of x.key) (suc n) ys)
          ∙ (λ i. option_or (rest i) (cond (late i) (Some (place_of n y)) None)))
      | inr f ↦ rw f rest
    ]

found_still : (test : Place → Bool) (b : Bool) (p q : Place) (ms : List Place)
    → find test (reverse ms) ≡ Some q → find test (reverse (cond b (p ∷ ms) ms)) ≡ Some q
found_still test true p q ms e = find_first test p ms
    ∙ ap (λ o. option_or o (cond (test p) (Some p) None)) e
found_still test false p q ms e = e

last_here : (x : Row) (xs : List Row) (n : ℕ)
    → ((j : ℕ) (d : Row) → j < length xs → StandsBefore x (get_or xs j d)) →
    last_up_to x.block (marks_of place_of (is_of x.key) n (x ∷ xs)) ≡ Some (place_of n x)
last_here x xs n before =
    let own : pointwise ◌==◌ x.key x.key ≡ true = (bytes_eq-Decides x.key x.key).1 refl in
    let now : nat_le x.block x.block ≡ true = le-leb x.block x.block (omega arith) in
    rw own (find_first (up x.block) (place_of n x) (marks_of place_of (is_of x.key) (suc n) xs)
    ∙ (λ i. option_or (none_later x xs (suc n) before i) (cond (now i) (Some (place_of n x)) None)))

-- a version is the last of its key up to its block
pub last_is_version : (rows : List Row) (n j : ℕ) (row : Row) → AllPairs StandsBefore rows
    → slice_get rows j ≡ Some row →
    last_up_to row.block (marks_of place_of (is_of row.key) n rows) ≡ Some (place_of (n + j) row)
last_is_version [] n j row ordered e = absurd (none-some row e)
last_is_version (x ∷ xs) n zero row ordered e =
    let same : x ≡ row = same_Some x row e in
    let k : n ≡ n + 0 = omega arith in
    subst (λ (r : Row). last_up_to r.block (marks_of place_of (is_of r.key) n (x ∷ xs)) ≡ Some
    (place_of (n + 0) r)) same
    (last_here x xs n (λ j d m. ordered 0 (suc j) d (omega arith) (omega (arith, m)))
    ∙ ap (λ i. Some (place_of i x)) k)
last_is_version (x ∷ xs) n (suc j) row ordered e =
    let k : suc n + j ≡ n + suc j = omega arith in
    found_still (up row.block) (is_of row.key x) (place_of n x) (place_of (suc n + j) row)
    (marks_of place_of (is_of row.key) (suc n) xs)
    (last_is_version xs (suc n) j row
    (λ a b d l m. ordered (suc a) (suc b) d (omega (arith, l)) (omega (arith, m))) e)
    ∙ ap (λ i. Some (place_of i row)) k

-- the index of a version is found by its key and its block
pub version_index : (rows : List Row) (j : ℕ) (row : Row) (dep : Dep) → AllPairs StandsBefore rows
    → slice_get rows j ≡ Some row → row.key ≡ dep.key → row.block ≡ dep.block →
    index_up_to rows dep.key dep.block ≡ Some j
version_index rows j row dep lawful e keys blocks =
    let k : 0 + j ≡ j = omega arith in
    ap (λ key. option_map row_index (last_up_to dep.block (places rows key))) (sym keys)
    ∙ ap (λ block. option_map row_index (last_up_to block (places rows row.key))) (sym blocks)
    ∙ ap (option_map row_index) (last_is_version rows 0 j row lawful e)
    ∙ ap (λ i. Some i) k
