-- What a part of an evaluation keeps of its run, it keeps with the parts before it.
use Rattle.std.proofs.Common.{◌≡◌, ◌≤◌, Result, Ok, Err, ap, ◌∙◌, subst, arith}
use Rattle.std.specs.Prelude.{IsErrOf}
use Rattle.lc_base.specs.Faults.{HasCause}
use Rattle.lc_base.specs.declared.host.Host.{Ghosts as Host}
use Rattle.eval_expressions.specs.contract_semantics.declared.stop.EvalStop.{EvalStop}
use Rattle.eval_expressions.specs.contract_semantics.declared.stop.EvalStop.TheVariants as stops
use Rattle.eval_expressions.specs.contract_semantics.Answers.{place_in, IsFaithful}
use Rattle.eval_expressions.specs.declared.run.Run.{Run}
use Rattle.eval_expressions.specs.Runs.{IsLent, KeepsRun}
use Rattle.contract_eval.proofs.Loops.{unblamed_at_ok}

fault_of : {A : Type 0} (stop : EvalStop) → IsErrOf {T = A} (Err stop) stops.Fault → stop ≡ stops.Fault
fault_of stop e = cc

module _ {C H : Type 0} (host : Host H) where
  -- Another result that isn't an error.
  pub kept_ok : {A B : Type 0} (old new : Run C H) (x : A) (y : B) → KeepsRun host old new (Ok x) → KeepsRun host old new (Ok y)
  kept_ok {A} {B} old new x y kept = record {
    lent = kept.lent;
    same = kept.same;
    left = kept.left;
    faithful = kept.faithful;
    cause = record {
      later = kept.cause.later;
      failed = λ e. absurd cc;
      told = λ differ. let both : Ok x ≡ Err stops.Fault = kept.cause.told differ in absurd cc;
    };
  }

  -- The same error, of another type of result.
  pub kept_err : {A B : Type 0} (old new : Run C H) (stop : EvalStop) → KeepsRun {A = A} host old new (Err stop) → KeepsRun {A = B} host old new (Err stop)
  kept_err {A} {B} old new stop kept = record {
    lent = kept.lent;
    same = kept.same;
    left = kept.left;
    faithful = kept.faithful;
    cause = record {
      later = kept.cause.later;
      failed = λ e. kept.cause.failed (ap (λ (stop : EvalStop). Err stop) (fault_of {A = B} stop e));
      told = λ differ. ap (λ (stop : EvalStop). Err stop) (fault_of {A = A} stop (kept.cause.told differ));
    };
  }

  module _ (trans : (a b c : H) → host.same a b → host.same b c → host.same a c) where
    -- A part of a run that went on without a fault.
    pub kept_after : {A : Type 0} (old mid new : Run C H) (result : Result A EvalStop)
        → IsLent old mid → host.same old.host.now mid.host.now → mid.left ≤ old.left
        → (IsFaithful (place_in old.world.now) old.capture.now → IsFaithful (place_in old.world.now) mid.capture.now)
        → host.host_faults mid.host.now ≡ host.host_faults old.host.now
        → KeepsRun host mid new result → KeepsRun host old new result
    kept_after old mid new result lent same left faithful no_fault next = record {
      lent = record { world = next.lent.world ∙ lent.world; site = next.lent.site ∙ lent.site; host = next.lent.host ∙ lent.host; capture = next.lent.capture ∙ lent.capture };
      same = trans old.host.now mid.host.now new.host.now same next.same;
      left = let further = next.left in omega (arith, further, left);
      faithful = λ is. (rw lent.world at next.faithful) (faithful is);
      cause = subst (λ n. HasCause n (host.host_faults new.host.now) (IsErrOf result stops.Fault)) no_fault next.cause;
    }

    -- A part after another that returned no error.
    pub kept_on : {A B : Type 0} (old mid new : Run C H) (x : A) (result : Result B EvalStop)
        → KeepsRun host old mid (Ok x) → KeepsRun host mid new result → KeepsRun host old new result
    kept_on old mid new x result first next =
        kept_after old mid new result first.lent first.same first.left first.faithful
        (unblamed_at_ok (host.host_faults old.host.now) (host.host_faults mid.host.now) first.cause.told) next
