-- A builtin returns a value or fails with a status; each is charged before it does anything.
use Rattle.std.specs.Prelude.{ℕ, ℤ, pos, List, [], ◌∷◌, length, Option, Some, None, Result, Ok, Err}
use Rattle.std.specs.Fmt.{signed_decimal}
use Rattle.lc_base.specs.declared.answer.Kind.{Kind}
use Rattle.lc_base.specs.declared.answer.Kind.TheVariants.{Back, Fwd}
use Rattle.lc_base.specs.declared.row.Version.{Version}
use Rattle.lc_base.specs.declared.row.Dep.{Dep}
use Rattle.lc_base.specs.declared.value.Value.{Value}
use Rattle.lc_base.specs.declared.value.Value.TheVariants as values
use Rattle.lc_base.specs.declared.tx_status.TxStatus.{TxStatus}
use Rattle.lc_base.specs.declared.tx_status.TxStatus.TheVariants as statuses
use Rattle.contract_tree.specs.declared.builtin.Builtin.{Builtin}
use Rattle.contract_tree.specs.declared.builtin.Builtin.TheVariants as b
use Rattle.contract_tree.specs.Builtins.{builtin_of}
use Rattle.dep_capture.specs.Captured.{Captured}
use Rattle.lc_base.specs.declared.row.Row.{Row}
use Rattle.contract_semantics.specs.declared.site.CallSite.{CallSite}
use Rattle.contract_semantics.specs.Charges.{charge_of}
use Rattle.contract_semantics.specs.Steps.{Machine, Step, Done, Failed, after_charge, and_so}
use Rattle.contract_semantics.specs.Scenes.{Scene}
use Rattle.contract_semantics.specs.Reading.{BuiltinResult, int_in, text_in, of_kind, get_result, has_result}
use Rattle.contract_semantics.specs.Asking.{version_asked, list_asked, value_told, block_told, tx_told, seen_told, count_told, item_asked, key_value, block_value}

-- ---- arguments

-- The text, if it is the only argument.
abbrev pub one_text : List Value → Option (List ℕ)
one_text (values.Text text ∷ []) = Some text
one_text _ = None

-- The number, if it is the only argument.
abbrev pub one_int : List Value → Option ℤ
one_int (values.Int z ∷ []) = Some z
one_int _ = None

-- The arguments, if they are a text and a number.
abbrev pub text_and_int : List Value → Option (List ℕ × ℤ)
text_and_int (values.Text text ∷ values.Int z ∷ []) = Some (text, z)
text_and_int _ = None

-- The arguments, if they are a text and two numbers.
abbrev pub text_and_ints : List Value → Option (List ℕ × (ℤ × ℤ))
text_and_ints (values.Text text ∷ values.Int y ∷ values.Int z ∷ []) = Some (text, (y, z))
text_and_ints _ = None

-- What a builtin returns for its arguments, or WrongKind if they aren't those that it takes, which
-- no checked contract reaches.
abbrev pub with_args : {A : Type 0} → Option A → (A → Result Value TxStatus) → Result Value TxStatus
with_args None next = Err statuses.WrongKind
with_args (Some x) next = next x

-- The same for a builtin that may read.
abbrev pub reading_args : {A : Type 0} → Option A → Captured → (A → BuiltinResult) → BuiltinResult
reading_args None c next = (Err statuses.WrongKind, c)
reading_args (Some x) c next = next x

-- ---- what builtins return

-- What a builtin returns of a version; the builtins that aren't about a version are WrongKind.
abbrev pub version_value : Builtin → Option Version → Result Value TxStatus
version_value b.HistInt version = and_so (value_told version) int_in
version_value b.HistText version = and_so (value_told version) text_in
version_value b.HistBlock version = block_told version
version_value b.HistTx version = tx_told version
version_value b.Seen version = seen_told version
version_value _ version = Err statuses.WrongKind

-- What a builtin returns of a dependency or a use; the builtins that aren't about one are
-- WrongKind.
abbrev pub item_value : Builtin → Dep → Result Value TxStatus
item_value b.BackKey dep = key_value dep
item_value b.FwdKey dep = key_value dep
item_value b.BackBlock dep = block_value dep
item_value b.FwdBlock dep = block_value dep
item_value _ dep = Err statuses.WrongKind

-- What a builtin returns of the version of a key up to a block.
abbrev pub version_part : List Row → ℕ → Builtin → List Value → Result Value TxStatus
version_part rows number builtin args =
    with_args (text_and_int args)
    (λ arg. and_so (version_asked rows number arg.0 arg.1) (version_value builtin))

-- The number of dependencies or uses of the version of a key up to a block.
abbrev pub count_part : List Row → ℕ → Kind → List Value → Result Value TxStatus
count_part rows number kind args =
    with_args (text_and_int args)
    (λ arg. and_so (list_asked rows number kind arg.0 arg.1) count_told)

-- What a builtin returns of one of these dependencies or uses.
abbrev pub item_part : List Row → ℕ → Kind → Builtin → List Value → Result Value TxStatus
item_part rows number kind builtin args =
    with_args (text_and_ints args)
    (λ arg. and_so (item_asked rows number kind arg.0 arg.1.0 arg.1.1) (item_value builtin))

-- What a builtin returns that reads nothing of the present.
abbrev pub plain_value : List Row → CallSite → Builtin → List Value → Result Value TxStatus
plain_value rows site b.Caller args = Ok (values.Text site.sender)
plain_value rows site b.Block args = Ok (values.Int (pos site.number))
plain_value rows site b.Len args =
    with_args (one_text args) (λ text. Ok (values.Int (pos (length text))))
plain_value rows site b.Text args =
    with_args (one_int args) (λ z. Ok (values.Text (signed_decimal z)))
plain_value rows site b.HistInt args = version_part rows site.number b.HistInt args
plain_value rows site b.HistText args = version_part rows site.number b.HistText args
plain_value rows site b.HistBlock args = version_part rows site.number b.HistBlock args
plain_value rows site b.HistTx args = version_part rows site.number b.HistTx args
plain_value rows site b.Seen args = version_part rows site.number b.Seen args
plain_value rows site b.BackCount args = count_part rows site.number Back args
plain_value rows site b.FwdCount args = count_part rows site.number Fwd args
plain_value rows site b.BackKey args = item_part rows site.number Back b.BackKey args
plain_value rows site b.FwdKey args = item_part rows site.number Fwd b.FwdKey args
plain_value rows site b.BackBlock args = item_part rows site.number Back b.BackBlock args
plain_value rows site b.FwdBlock args = item_part rows site.number Fwd b.FwdBlock args
plain_value rows site b.GetInt args = Err statuses.WrongKind
plain_value rows site b.GetText args = Err statuses.WrongKind
plain_value rows site b.Has args = Err statuses.WrongKind

-- What a builtin returns, and the capture after it.
abbrev pub builtin_result : Scene → Builtin → List Value → Captured → BuiltinResult
builtin_result s b.GetInt args c = reading_args (one_text args) c (λ text. of_kind int_in (get_result s.place text c))
builtin_result s b.GetText args c =
    reading_args (one_text args) c (λ text. of_kind text_in (get_result s.place text c))
builtin_result s b.Has args c = reading_args (one_text args) c (λ text. has_result s.place text c)
builtin_result s builtin args c = (plain_value s.rows s.site builtin args, c)

-- The step of a builtin's result.
abbrev pub taken_step : BuiltinResult → Machine → Step Value
taken_step (Ok value, c) m = Done value (record m { capture = c })
taken_step (Err status, c) m = Failed status (record m { capture = c })

-- A call of a builtin, which is charged before it does anything. No checked contract calls a name
-- that isn't a builtin's.
abbrev pub builtin_call : Scene → Option Builtin → List Value → Machine → Step Value
builtin_call s None args m = Failed statuses.WrongKind m
builtin_call s (Some builtin) args m =
    after_charge (charge_of builtin) m (λ m. taken_step (builtin_result s builtin args m.capture) m)

-- A call of a builtin by its name.
unfoldable pub call_by_name : Scene → List ℕ → List Value → Machine → Step Value
call_by_name s name args m = builtin_call s (builtin_of name) args m
