-- A recorded read has the version that its key had.
use Rattle.std.proofs.Common.{◌≡◌, ℕ, Bool, true, false, cond, List, [], ◌∷◌, ◌++◌, Ok, Err, refl, subst}
use Rattle.std.specs.Prelude.{nat_le, length}
use Rattle.std.proofs.lemmas.List.Elements.{All-push}
use Rattle.dep_capture.specs.Captured.{Captured}
use Rattle.dep_capture.specs.Capture.{was_read}
use Rattle.dep_capture.specs.declared.limits.TheConstants.{MAX_KEYS_READ}
use Rattle.dep_capture.specs.declared.access.Read.{Read}
use Rattle.dep_capture.specs.declared.error.CaptureError.TheVariants as errors
use Rattle.lc_base.specs.declared.tx_status.TxStatus.TheVariants.{Conflict}
use Rattle.contract_semantics.specs.Scenes.{Place}
use Rattle.contract_semantics.specs.Reading.{block_of, read_result, captured_by_read}
use Rattle.contract_semantics.specs.Answers.{IsFaithful}

-- The capture after a read is the old one, or the old one with the read.
of_two : (P : Captured → Type 0) (written known full : Bool) (old pushed new : Captured)
    → cond written (Err Conflict) (read_result (cond known (Ok old) (cond full (Err errors.TooMany) (Ok pushed)))) ≡ Ok new → P old → P pushed → P new
of_two P true known full old pushed new e is also = absurd cc
of_two P false true full old pushed new e is also = let same : old ≡ new = cc in subst P same is
of_two P false false true old pushed new e is also = absurd cc
of_two P false false false old pushed new e is also = let same : pushed ≡ new = cc in subst P same also

pub read_faithful : (place : Place) (key : List ℕ) (old new : Captured) → captured_by_read place key old ≡ Ok new → IsFaithful place old → IsFaithful place new
read_faithful place key old new e is =
    let read : Read = record { key = key; version = block_of (place.newest key) } in
    let pushed : Captured = record old { reads = old.reads ++ read ∷ [] } in
    of_two (IsFaithful place) (place.written key) (was_read old.reads key) (nat_le MAX_KEYS_READ (length old.reads)) old pushed new e is
    (record { reads = All-push (λ (read : Read). read.version ≡ block_of (place.newest read.key)) old.reads read is.reads refl; puts = is.puts })
