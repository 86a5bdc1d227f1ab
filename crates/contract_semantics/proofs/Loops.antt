-- The turns of a loop keep the laws, and a loop never ends by its clock before its budget.
use Rattle.std.proofs.Common.{◌≡◌, ◌+◌, ◌-◌, ◌≤◌, ◌<◌, ℕ, zero, suc, Bool, true, false, List, refl, sym, ap, arith, true≢false, le_refl, not-suc-le-zero, le_of_suc-le-suc}
use Rattle.std.specs.Prelude.{nat_le}
use Rattle.std.proofs.lemmas.Bool.Decides.{nat_tests}
use Rattle.lc_base.specs.declared.tx_status.TxStatus.TheVariants.{OutOfSteps}
use Rattle.contract_semantics.specs.declared.variable.Variable.{Variable}
use Rattle.contract_semantics.specs.Scenes.{Scene}
use Rattle.contract_semantics.specs.Steps.{Machine, Step, Done, Failed, after, and_then, after_charge}
use Rattle.contract_semantics.specs.Statements.{Ending, Turn, Again, Ended, after_turn, turns}
use Rattle.contract_semantics.specs.Lookups.{Lookups}
use Rattle.contract_semantics.specs.CallLookups.{after_turn_lookups, turns_lookups}
use Rattle.contract_semantics.proofs.Tame.{no_questions, Tame, ran_out, richer, raised, moves_same}
use Rattle.contract_semantics.proofs.Tame.{tame_done, tame_then, then_scales, then_lowers, paid}
use Rattle.contract_semantics.proofs.Tame.{charge_by}

tame_after_turn : (next : Scene → List Variable → Machine → Step Ending) (look : Scene → List Variable → Machine → Lookups) → ((variables : List Variable) → Tame (λ s m. next s variables m) (λ s m. look s variables m)) → (turn : Turn)
    → Tame (λ s m. after_turn (next s) turn m) (λ s m. after_turn_lookups (look s) turn m)
tame_after_turn next look h (Again variables) = h variables
tame_after_turn next look h (Ended ending) = tame_done ending

-- With a clock that doesn't change with the budget.
tame_turns : (turn : Scene → List Variable → Machine → Step Turn) (look : Scene → List Variable → Machine → Lookups) → ((variables : List Variable) → Tame (λ s m. turn s variables m) (λ s m. look s variables m)) → (n : ℕ) (variables : List Variable)
    → Tame (λ s m. turns n (turn s) variables m) (λ s m. turns_lookups n (turn s) (look s) variables m)
unfolding turns turns_lookups
tame_turns turn look h zero variables = record { told = λ s m. (moves_same s m.capture, λ t a. (refl, refl)); lowers = λ s m. le_refl m.left; scales = λ k s m o. absurd (true≢false o); clear = λ s m. tt; fails = λ s m. refl; asks = λ s m. no_questions s }
tame_turns turn look h (suc n) variables = tame_then (h variables) (tame_after_turn (λ s. turns n (turn s)) (λ s. turns_lookups n (turn s) (look s)) (tame_turns turn look h n))

after_turn_scales : (k : ℕ) (next next' : List Variable → Machine → Step Ending) → ((variables : List Variable) (m : Machine) → ran_out (next variables m) ≡ false → next' variables (richer k m) ≡ raised k (next variables m))
    → (turn : Turn) (m : Machine) → ran_out (after_turn next turn m) ≡ false → after_turn next' turn (richer k m) ≡ raised k (after_turn next turn m)
after_turn_scales k next next' h (Again variables) m o = h variables m o
after_turn_scales k next next' h (Ended ending) m o = refl

-- With a larger budget and more turns.
turns_scale : (turn : List Variable → Machine → Step Turn) (k : ℕ) → ((variables : List Variable) (m : Machine) → ran_out (turn variables m) ≡ false → turn variables (richer k m) ≡ raised k (turn variables m))
    → (n n' : ℕ) → n ≤ n' → (variables : List Variable) (m : Machine) → ran_out (turns n turn variables m) ≡ false → turns n' turn variables (richer k m) ≡ raised k (turns n turn variables m)
unfolding turns
turns_scale turn k h zero n' le variables m o = absurd (true≢false o)
turns_scale turn k h (suc n) zero le variables m o = absurd (not-suc-le-zero le)
turns_scale turn k h (suc n) (suc n') le variables m o = then_scales k (turn variables m) (turn variables (richer k m)) (after_turn (turns n turn)) (after_turn (turns n' turn)) (h variables m)
    (after_turn_scales k (turns n turn) (turns n' turn) (turns_scale turn k h n n' (le_of_suc-le-suc le))) o

-- A loop, whose clock is what is left of the budget.
pub tame_loop : (turn : Scene → List Variable → Machine → Step Turn) (look : Scene → List Variable → Machine → Lookups) → ((variables : List Variable) → Tame (λ s m. turn s variables m) (λ s m. look s variables m)) → (variables : List Variable)
    → Tame (λ s m. turns m.left (turn s) variables m) (λ s m. turns_lookups m.left (turn s) (look s) variables m)
tame_loop turn look h variables = record {
  told = λ s m. (tame_turns turn look h m.left variables).told s m;
  lowers = λ s m. (tame_turns turn look h m.left variables).lowers s m;
  clear = λ s m. (tame_turns turn look h m.left variables).clear s m;
  fails = λ s m. (tame_turns turn look h m.left variables).fails s m;
  asks = λ s m. (tame_turns turn look h m.left variables).asks s m;
  scales = λ k s m o. turns_scale (turn s) k (λ variables m. (h variables).scales k s m) m.left (m.left + k) (omega arith) variables m o;
}

-- ---- clocks

abbrev pub Lowered : {A : Type 0} → ℕ → Step A → Type 0
Lowered left (Done x n) = n.left < left
Lowered left (Failed status n) = Unit {0}

next_same : (m : Machine) (next next' : List Variable → Machine → Step Ending) → ((variables : List Variable) (n : Machine) → n.left < m.left → next variables n ≡ next' variables n) → (step : Step Turn) → Lowered m.left step
    → and_then step (after_turn next) ≡ and_then step (after_turn next')
next_same m next next' h (Done (Again variables) n) lt = h variables n lt
next_same m next next' h (Done (Ended ending) n) lt = refl
next_same m next next' h (Failed status n) lt = refl

-- If each turn takes something from the budget, and none begins with an empty one, two clocks that
-- are at least what is left have the same result.
pub clocks_same : (turn : List Variable → Machine → Step Turn) → ((variables : List Variable) (m : Machine) → Lowered m.left (turn variables m)) → ((variables : List Variable) (m : Machine) → m.left ≡ 0 → turn variables m ≡ Failed OutOfSteps m)
    → (n n' : ℕ) (variables : List Variable) (m : Machine) → m.left ≤ n → m.left ≤ n' → turns n turn variables m ≡ turns n' turn variables m
unfolding turns
clocks_same turn h j zero zero variables m l k = refl
clocks_same turn h j zero (suc n') variables m l k = sym (ap (λ step. and_then step (after_turn (turns n' turn))) (j variables m (omega arith)))
clocks_same turn h j (suc n) zero variables m l k = ap (λ step. and_then step (after_turn (turns n turn))) (j variables m (omega arith))
clocks_same turn h j (suc n) (suc n') variables m l k = next_same m (turns n turn) (turns n' turn) (λ variables o lt. clocks_same turn h j n n' variables o (omega arith) (omega arith)) (turn variables m) (h variables m)

lowered_by : {A : Type 0} (left : ℕ) (step : Step A) → 1 ≤ left → (after step).left ≤ left - 1 → Lowered left step
lowered_by left (Done x n) p h = omega arith
lowered_by left (Failed status n) p h = tt

-- A step that begins with a charge lowers what is left.
pub charge_lowers : {A B : Type 0} (f : Machine → Step A) (g : A → Machine → Step B) → ((m : Machine) → (after (f m)).left ≤ m.left) → ((x : A) (m : Machine) → (after (g x m)).left ≤ m.left)
    → (m : Machine) (b : Bool) → nat_le 1 m.left ≡ b → Lowered m.left (and_then (charge_by b 1 m f) g)
charge_lowers f g h k m true e = lowered_by m.left (and_then (f (paid 1 m)) g) (grind (arith, nat_tests)) (then_lowers (f (paid 1 m)) g (m.left - 1) k (h (paid 1 m)))
charge_lowers f g h k m false e = tt

pub charge_ends : {A B : Type 0} (f : Machine → Step A) (g : A → Machine → Step B) (m : Machine) → m.left ≡ 0 → and_then (after_charge 1 m f) g ≡ Failed OutOfSteps m
charge_ends f g m e = rw e
