-- A row on which no row depends is added at the end, with an empty list.
use Rattle.std.proofs.Common.{◌≡◌, ℕ, zero, suc, ◌+◌, List, [], ◌∷◌, ◌++◌, length, slice_get, Bool}
use Rattle.std.proofs.Common.{false, cond, Some, refl, sym, ap, subst, ◌∙◌, arith}
use Rattle.std.proofs.lemmas.List.{length-append}
use Rattle.std.proofs.lemmas.Option.{same_Some, none-some}
use Rattle.lc_base.specs.declared.row.Row.{Row}
use Rattle.lc_base.specs.History.{depends_on}
use Rattle.plain_rows.specs.Places.{marks_of}
use Rattle.plain_rows.specs.Users.{number_of, users, is_among, AreUsersWith, AreUsers}
use Rattle.plain_rows.proofs.Marked.{marked_more, get_here}

none_marked : (passes : Row → Bool) (n : ℕ) (rows : List Row)
    → ((i : ℕ) (r : Row) → slice_get rows i ≡ Some r → passes r ≡ false)
    → marks_of number_of passes n rows ≡ []
none_marked passes n [] none = refl
none_marked passes n (r ∷ rows) none =
    rw (none 0 r refl) (none_marked passes (suc n) rows (λ i s at. none (suc i) s at))

-- an item of a list with one more at its end
pub at_front : {A : Type 0} (P : ℕ → A → Type 0) (xs : List A) (y : A)
    → ((i : ℕ) (x : A) → slice_get xs i ≡ Some x → P i x) → P (length xs) y →
    (i : ℕ) (x : A) → slice_get (xs ++ y ∷ []) i ≡ Some x → P i x
at_front P [] y all last zero x at = subst (P 0) (same_Some y x at) last
at_front P [] y all last (suc i) x at = absurd (none-some x at)
at_front P (z ∷ zs) y all last zero x at = all 0 x at
at_front P (z ∷ zs) y all last (suc i) x at = at_front (λ k. P (suc k)) zs y
    (λ k w e. all (suc k) w e) last i x at

pub get_front : {A : Type 0} (xs : List A) (y x : A) (i : ℕ) → slice_get xs i ≡ Some x
    → slice_get (xs ++ y ∷ []) i ≡ Some x
get_front [] y x i at = absurd (none-some x at)
get_front (z ∷ zs) y x zero at = at
get_front (z ∷ zs) y x (suc i) at = get_front zs y x i at

pub used_end : (rows : List Row) (row : Row) (n : ℕ) (lists : List (List ℕ)) → n ≡ length rows
    → AreUsersWith rows row.deps n lists →
    ((i : ℕ) (r : Row) → slice_get (rows ++ row ∷ []) i ≡ Some r
    → depends_on row.key row.block r ≡ false) →
    AreUsers (rows ++ row ∷ []) (lists ++ [] ∷ [])
used_end rows row n lists len kept none = record {
  long = omega (arith, length-append lists ([] ∷ []), length-append rows (row ∷ []), kept.long);
  each = at_front (λ i r. slice_get (lists ++ [] ∷ []) i ≡ Some (users (rows ++ row ∷ []) r)) rows
      row
      (λ i r at.
      let e : n ≡ 0 + length rows = omega (arith, len) in
      get_front lists [] _ i (kept.each i r at)
      ∙ ap (λ k. Some (cond (is_among row.deps r) (users rows r ++ k ∷ []) (users rows r))) e
      ∙ ap (λ (l : List ℕ). Some l)
      (sym (marked_more number_of (depends_on r.key r.block) 0 rows row)))
      (ap (slice_get (lists ++ [] ∷ [])) (sym kept.long) ∙ get_here lists [] []
      ∙ ap (λ (l : List ℕ). Some l)
      (sym (none_marked (depends_on row.key row.block) 0 (rows ++ row ∷ []) none)));
}
