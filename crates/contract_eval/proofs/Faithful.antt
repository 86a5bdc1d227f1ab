-- A put never adds a key that the block has written.
use Rattle.std.proofs.Common.{◌≡◌, ℕ, Bool, true, false, cond, List, Option, Some, None, Ok, Err, subst}
use Rattle.std.specs.List.{All}
use Rattle.std.proofs.lemmas.List.Elements.{All-push, All-set}
use Rattle.lc_base.specs.declared.value.Value.{Value}
use Rattle.dep_capture.specs.Captured.{Captured}
use Rattle.dep_capture.specs.Capture.{deps_of, index_of, with_put_at, with_put, captured_after_put}
use Rattle.dep_capture.specs.declared.access.Put.{Put}
use Rattle.dep_capture.specs.declared.error.CaptureError.TheVariants as errors
use Rattle.eval_expressions.specs.contract_semantics.Scenes.{Place}
use Rattle.eval_expressions.specs.contract_semantics.Answers.{IsFaithful}

all_with : (P : Put → Type 0) (puts : List Put) (place : Option ℕ) (put : Put) → P put → All P puts → All P (with_put_at puts place put)
all_with P puts None put is all = All-push P puts put all is
all_with P puts (Some i) put is all = All-set P puts i put is all

-- The capture after a put that isn't refused is the one with the put.
of_put : (P : Captured → Type 0) (full unread long : Bool) (put new : Captured)
    → cond full (Err errors.TooMany) (cond unread (Err errors.NotRead) (cond long (Err errors.TooMany) (Ok put))) ≡ Ok new → P put → P new
of_put P true unread long put new e is = absurd cc
of_put P false true long put new e is = absurd cc
of_put P false false true put new e is = absurd cc
of_put P false false false put new e is = let same : put ≡ new = cc in subst P same is

pub put_faithful : (place : Place) (old new : Captured) (key : List ℕ) (value : Value) (named : Option (List (List ℕ)))
    → captured_after_put old key value named ≡ Ok new → place.written key ≡ false → IsFaithful place old → IsFaithful place new
put_faithful place old new key value named e unwritten is =
    let put : Put = record { key = key; value = value; deps = deps_of old.reads named } in
    of_put (IsFaithful place) _ _ _ (record old { puts = with_put old.puts put }) new e
    (record { reads = is.reads; puts = all_with (λ (put : Put). place.written put.key ≡ false) old.puts (index_of old.puts key) put unwritten is.puts })
