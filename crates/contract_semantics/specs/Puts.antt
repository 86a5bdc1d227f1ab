-- A put is allowed for keys of the contract itself that the block hasn't written, up to a limit for
-- each transaction.
use Rattle.std.specs.Prelude.{ℕ, Bool, ◌==◌, ◌&&◌, not, nat_le, if◌then◌else◌, List, [], ◌∷◌, ◌++◌, length, drop, Option, Some, None, is_none, codes, Result, Ok, Err}
use Rattle.std.specs.List.{starts_with}
use Rattle.lc_base.specs.declared.value.Value.{Value}
use Rattle.lc_base.specs.declared.value.Value.TheVariants as values
use Rattle.lc_base.specs.declared.tx_status.TxStatus.{TxStatus}
use Rattle.lc_base.specs.declared.tx_status.TxStatus.TheVariants as statuses
use Rattle.dep_capture.specs.Captured.{Captured}
use Rattle.dep_capture.specs.Capture.{pending, captured_after_put}
use Rattle.dep_capture.specs.declared.limits.TheConstants.{MAX_KEYS_PUT}
use Rattle.dep_capture.specs.declared.error.CaptureError.{CaptureError}
use Rattle.dep_capture.specs.declared.error.CaptureError.TheVariants as errors
use Rattle.dep_capture.specs.declared.access.Put.{Put}
use Rattle.contract_semantics.specs.Steps.{and_so}
use Rattle.contract_semantics.specs.Reading.{key_of_text}
use Rattle.contract_semantics.specs.Scenes.{Place}

-- A contract may write the keys that begin with its name and a slash, and no others.
abbrev pub is_own : List ℕ → List ℕ → Bool
is_own contract key =
    starts_with ◌==◌ key contract && starts_with ◌==◌ (drop (length contract) key) (codes "/")

-- The key that a value spells.
abbrev pub key_in : Value → Result (List ℕ) TxStatus
key_in (values.Text text) = key_of_text text
key_in value = Err statuses.WrongKind

-- The keys that values spell, one after another, after those that are done.
abbrev pub keys_in : List (List ℕ) → List Value → Result (List (List ℕ)) TxStatus
keys_in done [] = Ok done
keys_in done (value ∷ values) = and_so (key_in value) (λ key. keys_in (done ++ key ∷ []) values)

-- The keys in a `from`, if there is one.
abbrev pub named_keys : Option (List Value) → Result (Option (List (List ℕ))) TxStatus
named_keys None = Ok None
named_keys (Some values) = and_so (keys_in [] values) (λ keys. Ok (Some keys))

-- Whether a put of the key would exceed the number of keys that a transaction may put. A key that
-- was put before doesn't count again.
abbrev pub is_one_too_many : List Put → List ℕ → Bool
is_one_too_many puts key = is_none (pending puts key) && nat_le MAX_KEYS_PUT (length puts)

-- The key, if a call of the contract may put it: the key is the contract's own, the block hasn't
-- written it, and the limit leaves room for it.
abbrev pub key_to_put : List ℕ → Place → List Put → List ℕ → Result (List ℕ) TxStatus
key_to_put contract place puts key =
    if not (is_own contract key) then Err statuses.Foreign
    else (if place.written key then Err statuses.Conflict
    else (if is_one_too_many puts key then Err statuses.TooMany else Ok key))

-- The status for a put that is refused.
abbrev pub put_status : CaptureError → TxStatus
put_status errors.NotRead = statuses.NotRead
put_status errors.TooMany = statuses.TooMany
put_status errors.Memory = statuses.TooMany

-- The capture after the put, or the status with which it is refused.
abbrev pub put_recorded : Result Captured CaptureError → Result Captured TxStatus
put_recorded (Ok c) = Ok c
put_recorded (Err error) = Err (put_status error)

-- The capture after a put. The key is checked first, then the keys in `from`, then whether those
-- were read.
abbrev pub captured_by_put : List ℕ → Place → Value → Value → Option (List Value) → Captured → Result Captured TxStatus
captured_by_put contract place key value parts c =
    and_so (key_in key)
    (λ key. and_so (key_to_put contract place c.puts key)
    (λ key. and_so (named_keys parts)
    (λ named. put_recorded (captured_after_put c key value named))))
