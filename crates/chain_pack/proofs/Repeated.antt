-- Drawing items one after another in a loop gives what `draw_list` says.
use Rattle.std.proofs.Common.{◌≡◌, ℕ, ◌+◌, List, [], ◌∷◌, ◌++◌, refl, append_assoc}
use Rattle.std.proofs.lemmas.List.{append-nil}
use native.Mathlib.Numerals.{unary_clauses}
use Rattle.chain_pack.specs.Draws.{draw_list}

-- These items were drawn after others, and this is the state of drawing.
pub record HasDrawn {A : Type 0} (item : ℕ → A × ℕ) (before : List A) (first count : ℕ) (items : List A) (state : ℕ) : Type 0 where
  pub items_are : items ≡ before ++ (draw_list item count first).0
  pub state_is : state ≡ (draw_list item count first).1

-- one more item
repeated_more : {A : Type 0} (item : ℕ → A × ℕ) (count state : ℕ) → draw_list item (count + 1) state ≡ ((draw_list item count state).0 ++ (item (draw_list item count state).1).0 ∷ [], (item (draw_list item count state).1).1)
unfolding draw_list
repeated_more item count state = simp unary_clauses refl

pub has_drawn_none : {A : Type 0} (item : ℕ → A × ℕ) (before : List A) (state : ℕ) → HasDrawn item before state 0 before state
unfolding draw_list
has_drawn_none item before state = record { items_are = simp append-nil; state_is = refl }

-- one more item was pushed
pub has_drawn_more : {A : Type 0} (item : ℕ → A × ℕ) (before : List A) (first count : ℕ) (items more : List A) (state after : ℕ) (next : A) → HasDrawn item before first count items state → next ≡ (item state).0 → after ≡ (item state).1 → more ≡ items ++ next ∷ [] → HasDrawn item before first (count + 1) more after
has_drawn_more item before first count items more state after next so_far is stands pushed =
    let step = repeated_more item count first in
    record {
      items_are = rw (step, pushed, is, so_far.items_are, so_far.state_is) (append_assoc before (draw_list item count first).0 ((item (draw_list item count first).1).0 ∷ []));
      state_is = rw (step, stands, so_far.state_is) refl;
    }
