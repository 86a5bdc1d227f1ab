-- Every part of an evaluation gets the same run lent, and leaves it a run of the same world, site,
-- host, and capture.
use Rattle.std.specs.Prelude.{◌≡◌, ◌≤◌, Result, IfSome, IsErrOf}
use Rattle.lc_base.specs.Faults.{HasCause}
use Rattle.lc_base.specs.declared.host.Host.{Ghosts as Host}
use Rattle.contract_semantics.specs.declared.stop.EvalStop.{EvalStop}
use Rattle.contract_semantics.specs.declared.stop.EvalStop.TheVariants as stops
use Rattle.contract_semantics.specs.Scenes.{Scene}
use Rattle.contract_semantics.specs.Steps.{Machine, machine}
use Rattle.contract_semantics.specs.Answers.{scene_in, place_in, IsFaithful}
use Rattle.eval_expressions.specs.declared.run.Run.{Run}

-- It is still a run of the same world and site, over the same host and capture.
pub record IsLent {C H : Type 0} (old new : Run C H) : Type 0 where
  pub world : new.world ≡ old.world
  pub site : new.site ≡ old.site
  pub host : new.host.ghost_name ≡ old.host.ghost_name
  pub capture : new.capture.ghost_name ≡ old.capture.ghost_name

-- If the rows of the host are known, a part of an evaluation means this: in their scene, from the
-- machine before it to the machine after it.
abbrev pub Tells : {C H : Type 0} → Host H → Run C H → Run C H → (Scene → Machine → Machine → Type 0) → Type 0
Tells host old new Means = IfSome (host.rows old.host.now) (λ rows. Means (scene_in rows old.world.now old.site.now) (machine old.left old.capture.now) (machine new.left new.capture.now))

-- What holds whether the rows are known or not. The host is the same as before, nothing of the
-- budget is paid back, what was read and put keeps to the world, and a fault is returned exactly if
-- the host failed.
pub record KeepsRun {C H A : Type 0} (host : Host H) (old new : Run C H) (result : Result A EvalStop) : Type 0 where
  pub lent : IsLent old new
  pub same : host.same old.host.now new.host.now
  pub left : new.left ≤ old.left
  pub faithful : IsFaithful (place_in old.world.now) old.capture.now → IsFaithful (place_in old.world.now) new.capture.now
  pub cause : HasCause (host.host_faults old.host.now) (host.host_faults new.host.now) (IsErrOf result stops.Fault)
