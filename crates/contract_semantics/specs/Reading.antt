-- A contract reads what the transaction has put, or else the version that the key had before the
-- block, which is recorded.
use Rattle.std.specs.Prelude.{ℕ, Bool, true, false, not, if◌then◌else◌, List, Option, Some, None, Result, Ok, Err}
use Rattle.std.specs.Option.{option_map}
use Rattle.lc_base.specs.Key.{key_of}
use Rattle.lc_base.specs.declared.key.KeyError.{KeyError}
use Rattle.lc_base.specs.declared.value.Value.{Value}
use Rattle.lc_base.specs.declared.value.Value.TheVariants as values
use Rattle.lc_base.specs.declared.tx_status.TxStatus.{TxStatus}
use Rattle.lc_base.specs.declared.tx_status.TxStatus.TheVariants.{BadKey, NoKey, WrongKind, Conflict, TooMany}
use Rattle.dep_capture.specs.Captured.{Captured}
use Rattle.dep_capture.specs.Capture.{pending, captured_after_read}
use Rattle.dep_capture.specs.declared.error.CaptureError.{CaptureError}
use Rattle.world_state.specs.declared.held.Held.{Held}
use Rattle.contract_semantics.specs.Steps.{and_so}
use Rattle.contract_semantics.specs.Numbers.{truth}
use Rattle.contract_semantics.specs.Scenes.{Place}

-- What a builtin returns, and the capture after it.
abbrev pub BuiltinResult : Type 0
BuiltinResult = Result Value TxStatus × Captured

-- Goes on with a result; a failure leaves the capture as it was.
abbrev pub and_read : {A : Type 0} → Result A TxStatus → Captured → (A → BuiltinResult) → BuiltinResult
and_read (Ok x) c next = next x
and_read (Err status) c next = (Err status, c)

-- The key, or BadKey if the bytes aren't one.
abbrev pub good_key : Result (List ℕ) KeyError → Result (List ℕ) TxStatus
good_key (Ok key) = Ok key
good_key (Err error) = Err BadKey

-- The key that a text spells.
abbrev pub key_of_text : List ℕ → Result (List ℕ) TxStatus
key_of_text text = good_key (key_of text)

-- The block of a version, if there is one.
abbrev pub block_of : Option Held → Option ℕ
block_of version = option_map (λ (held : Held). held.block) version

-- Whether a value is gone.
abbrev pub is_gone : Value → Bool
is_gone values.Gone = true
is_gone value = false

-- The value; NoKey if it is gone.
abbrev pub unless_gone : Value → Result Value TxStatus
unless_gone values.Gone = Err NoKey
unless_gone value = Ok value

-- The value of a version; NoKey if there is no version or its value is gone.
abbrev pub value_of_version : Option Held → Result Value TxStatus
value_of_version None = Err NoKey
value_of_version (Some held) = unless_gone held.value

-- Whether there is a version whose value isn't gone.
abbrev pub has_value : Option Held → Bool
has_value None = false
has_value (Some held) = not (is_gone held.value)

-- The capture after a read; TooMany if the read is refused.
abbrev pub read_result : Result Captured CaptureError → Result Captured TxStatus
read_result (Ok c) = Ok c
read_result (Err error) = Err TooMany

-- The capture after a read of a key that the block hasn't written: it records the version that the
-- key had.
abbrev pub captured_by_read : Place → List ℕ → Captured → Result Captured TxStatus
captured_by_read place key c =
    if place.written key then Err Conflict
    else read_result (captured_after_read c key (block_of (place.newest key)))

-- What the key holds: the value that the transaction has put, which isn't a read, or else the value
-- that is read. A value that is gone is NoKey.
abbrev pub value_got : Place → List ℕ → Option Value → Captured → BuiltinResult
value_got place key (Some value) c = (unless_gone value, c)
value_got place key None c =
    and_read (captured_by_read place key c) c (λ c. (value_of_version (place.newest key), c))

-- Whether the key holds a value that isn't gone.
abbrev pub is_held : Place → List ℕ → Option Value → Captured → BuiltinResult
is_held place key (Some value) c = (Ok (values.Int (truth (not (is_gone value)))), c)
is_held place key None c =
    and_read (captured_by_read place key c) c
    (λ c. (Ok (values.Int (truth (has_value (place.newest key)))), c))

-- The value if it is a number, else WrongKind.
abbrev pub int_in : Value → Result Value TxStatus
int_in (values.Int z) = Ok (values.Int z)
int_in value = Err WrongKind

-- The value if it is a text, else WrongKind.
abbrev pub text_in : Value → Result Value TxStatus
text_in (values.Text text) = Ok (values.Text text)
text_in value = Err WrongKind

-- The builtin's result, with its value checked for its kind.
abbrev pub of_kind : (Value → Result Value TxStatus) → BuiltinResult → BuiltinResult
of_kind kind (result, c) = (and_so result kind, c)

-- The value at the key that a text spells.
abbrev pub get_result : Place → List ℕ → Captured → BuiltinResult
get_result place text c =
    and_read (key_of_text text) c (λ key. value_got place key (pending c.puts key) c)

-- Whether there is a value at the key that a text spells, and it isn't gone.
abbrev pub has_result : Place → List ℕ → Captured → BuiltinResult
has_result place text c =
    and_read (key_of_text text) c (λ key. is_held place key (pending c.puts key) c)
