-- A loop that counts its turns does what the turns with a clock do: the clock and the count add up.
use Rattle.std.proofs.Common.{◌≡◌, ℕ, suc, ◌+◌, ◌-◌, ◌<◌, ◌≤◌, List, Option, Some, Result, Ok, Err, refl, sym, ap, ◌∙◌, subst, arith}
use Rattle.lc_base.specs.declared.tx_status.TxStatus.TheVariants.{OutOfSteps}
use Rattle.eval_expressions.specs.contract_semantics.declared.variable.Variable.{Variable}
use Rattle.eval_expressions.specs.contract_semantics.declared.stop.EvalStop.{EvalStop}
use Rattle.eval_expressions.specs.contract_semantics.declared.stop.EvalStop.TheVariants as kinds
use Rattle.eval_expressions.specs.contract_semantics.Scenes.{Scene}
use Rattle.eval_expressions.specs.contract_semantics.Steps.{Machine, Step, Done, Failed, and_then}
use Rattle.eval_expressions.specs.contract_semantics.Statements.{Ending, Turn, Again, turns}
use Rattle.eval_expressions.specs.contract_semantics.Statements.{after_turn}
use Rattle.contract_eval.specs.declared.flow.Flow.{Flow}
use Rattle.contract_eval.specs.declared.flow.Flow.TheVariants as flows
use Rattle.contract_eval.specs.Flows.{Flows}
use Rattle.contract_eval.specs.Turns.{Turns}
use Rattle.eval_expressions.proofs.ToldRows.{unblamed}

-- One turn, then the others.
next_turn : (n i : ℕ) (turn : List Variable → Machine → Step Turn) (variables : List Variable) (m : Machine) → i < n → turns (n - i) turn variables m ≡ and_then (turn variables m) (after_turn (turns (n - (i + 1)) turn))
unfolding turns
next_turn n i turn variables m lt = let k : n - i ≡ suc (n - (i + 1)) = omega arith in rw k refl

pub no_turn : (n i : ℕ) (turn : List Variable → Machine → Step Turn) (variables : List Variable) (m : Machine) → n ≤ i → turns (n - i) turn variables m ≡ Failed OutOfSteps m
unfolding turns
no_turn n i turn variables m le = let k : n - i ≡ 0 = omega arith in rw k refl

-- A turn in an equal scene.
pub turn_moved : (turn : Scene → List Variable → Machine → Step Turn) (s t : Scene) (variables others : List Variable) (m k : Machine) (result : Result (Option Flow) EvalStop) → s ≡ t → Turns (turn s variables m) result others k → Turns (turn t variables m) result others k
turn_moved turn s t variables others m k result same at = subst (λ (s : Scene). Turns (turn s variables m) result others k) same at

-- What one turn means for the whole loop.
pub one_more : (n i : ℕ) (turn : List Variable → Machine → Step Turn) (variables others : List Variable) (m k : Machine) (total : Step Ending) → i < n → turns (n - i) turn variables m ≡ total → turn variables m ≡ Done (Again others) k
    → turns (n - (i + 1)) turn others k ≡ total
one_more n i turn variables others m k total lt so_far at = sym (next_turn n i turn variables m lt ∙ ap (λ step. and_then step (after_turn (turns (n - (i + 1)) turn))) at) ∙ so_far

pub stops : (n i : ℕ) (turn : List Variable → Machine → Step Turn) (variables others : List Variable) (m k : Machine) (total : Step Ending) (stop : EvalStop) → i < n → turns (n - i) turn variables m ≡ total → Turns (turn variables m) (Err stop) others k
    → Flows total (Err stop) others k
stops n i turn variables others m k total (kinds.Status s) lt so_far at = sym so_far ∙ next_turn n i turn variables m lt ∙ ap (λ step. and_then step (after_turn (turns (n - (i + 1)) turn))) at
stops n i turn variables others m k total kinds.Fault lt so_far at = tt
stops n i turn variables others m k total kinds.Memory lt so_far at = tt

pub ends : (n i : ℕ) (turn : List Variable → Machine → Step Turn) (variables others : List Variable) (m k : Machine) (total : Step Ending) (flow : Flow) → i < n → turns (n - i) turn variables m ≡ total → Turns (turn variables m) (Ok (Some flow)) others k
    → Flows total (Ok flow) others k
ends n i turn variables others m k total flows.Goes lt so_far at = sym so_far ∙ next_turn n i turn variables m lt ∙ ap (λ step. and_then step (after_turn (turns (n - (i + 1)) turn))) at
ends n i turn variables others m k total flows.Returns lt so_far at = sym so_far ∙ next_turn n i turn variables m lt ∙ ap (λ step. and_then step (after_turn (turns (n - (i + 1)) turn))) at

-- A call that returns `Ok` leaves the host's count of faults as it was.
pub unblamed_at_ok : {T E : Type 0} {x : T} {e : E} (before now : ℕ) → ((now ≡ before → ⊥) → Ok x ≡ Err e) → now ≡ before
unblamed_at_ok {T} {E} {x} {e} before now told = unblamed before now (λ differ. let both : Ok x ≡ Err e = told differ in absurd cc)
