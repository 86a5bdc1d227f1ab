-- A version has two lists: what it was derived from, and what was derived from it.
use Rattle.std.specs.Prelude.{ℕ, ◌^◌, Result, Ok, Err}
use Rattle.lc_base.specs.declared.answer.Kind.{Kind}
use Rattle.lc_base.specs.declared.answer.Kind.TheVariants as kinds
use Rattle.lc_base.specs.declared.host_error.HostError.{HostError}
use Rattle.lc_base.specs.declared.host_error.HostError.TheVariants as errors
use Rattle.contract_semantics.specs.declared.stop.EvalStop.{EvalStop}
use Rattle.contract_semantics.specs.declared.stop.EvalStop.TheVariants as stops
use Rattle.eval_expressions.specs.declared.side.Side.{Side}
use Rattle.eval_expressions.specs.declared.side.Side.TheVariants.{Back, Fwd}

-- The kind of the question about a list.
unfoldable pub kind_of : Side → Kind
kind_of Back = kinds.Back
kind_of Fwd = kinds.Fwd

-- The number of items of a list is below this.
abbrev pub room_of : Side → ℕ
room_of Back = 2 ^ 32
room_of Fwd = 2 ^ 63

-- The host's answer, or why it returned none.
abbrev pub host_answer : {A : Type 0} → Result A HostError → Result A EvalStop
host_answer (Ok told) = Ok told
host_answer (Err errors.Fault) = Err stops.Fault
host_answer (Err errors.Memory) = Err stops.Memory
