-- If a part of a contract fails, its status isn't Ok.
use Rattle.std.proofs.Common.{ℕ, ℤ, negsuc, pos, Bool, true, false, List, [], ◌∷◌, ◌++◌, Option, Some, None, Result, Ok, Err, refl, slice_get, int_div, int_rem, ◌+ℤ◌, ◌-ℤ◌, ◌*ℤ◌, neg_ℤ, if◌then◌else◌}
use Rattle.std.specs.Prelude.{nat_lt}
use Rattle.lc_base.specs.History.{scan}
use Rattle.lc_base.specs.Key.{key_of}
use Rattle.lc_base.specs.Parts.{question, version_in, list_in}
use Rattle.lc_base.specs.Text.{joined_text}
use Rattle.lc_base.specs.declared.answer.Kind.{Kind}
use Rattle.lc_base.specs.declared.answer.Kind.TheVariants.{Hist}
use Rattle.lc_base.specs.declared.key.KeyError.{KeyError}
use Rattle.lc_base.specs.declared.row.Dep.{Dep}
use Rattle.lc_base.specs.declared.row.Row.{Row}
use Rattle.lc_base.specs.declared.row.Version.{Version}
use Rattle.lc_base.specs.declared.value.Value.{Value}
use Rattle.lc_base.specs.declared.value.Value.TheVariants as values
use Rattle.lc_base.specs.declared.tx_status.TxStatus.{TxStatus}
use Rattle.lc_base.specs.declared.tx_status.TxStatus.TheVariants as statuses
use Rattle.contract_tree.specs.declared.tree.Sign.{Sign}
use Rattle.contract_tree.specs.declared.tree.Sign.TheVariants as signs
use Rattle.contract_tree.specs.declared.builtin.Builtin.{Builtin}
use Rattle.dep_capture.specs.Captured.{Captured}
use Rattle.dep_capture.specs.declared.error.CaptureError.{CaptureError}
use Rattle.dep_capture.specs.declared.error.CaptureError.TheVariants as errors
use Rattle.contract_semantics.specs.declared.variable.Variable.{Variable}
use Rattle.contract_semantics.specs.Numbers.{fits, is_zero, in_range, quotient, remainder}
use Rattle.contract_semantics.specs.Operators.{as_int, as_text, on_ints, on_texts, binary_result, prefix_result}
use Rattle.contract_semantics.specs.Steps.{and_so}
use Rattle.contract_semantics.specs.Reading.{good_key, key_of_text, int_in, text_in}
use Rattle.contract_semantics.specs.Asking.{block_before, answer_up_to, version_asked, list_asked, item_asked, item_part_of, list_told, value_told, block_told, tx_told, count_told, item_told, item_of}
use Rattle.contract_semantics.specs.Builtins.{text_and_int, text_and_ints, with_args, version_value, item_value, version_part, count_part, item_part}
use Rattle.contract_semantics.specs.Expressions.{value_found}
use Rattle.contract_semantics.specs.Puts.{key_in, keys_in, named_keys, put_recorded}
use Rattle.contract_semantics.proofs.Tame.{IsBad}

pub so_fails : {A B : Type 0} (r : Result A TxStatus) (next : A → Result B TxStatus) → IsBad r
    → ((x : A) → IsBad (next x)) → IsBad (and_so r next)
so_fails (Ok x) next h k = k x
so_fails (Err status) next h k = h

-- ---- operators

either_fails : {A : Type 0} (b : Bool) (r q : Result A TxStatus) → IsBad r → IsBad q
    → IsBad (if b then r else q)
either_fails true r q h k = h
either_fails false r q h k = k

range_fails : (z : ℤ) → IsBad (in_range z)
range_fails z = either_fails (fits z) (Ok z) (Err statuses.Overflow) tt refl

quotient_fails : (a b : ℤ) → IsBad (quotient a b)
quotient_fails a b = either_fails (is_zero b) (Err statuses.DivZero) (in_range (int_div a b)) refl (range_fails (int_div a b))

remainder_fails : (a b : ℤ) → IsBad (remainder a b)
remainder_fails a b = either_fails (is_zero b) (Err statuses.DivZero) (if fits (int_div a b) then Ok (int_rem a b) else Err statuses.Overflow) refl (either_fails (fits (int_div a b)) (Ok (int_rem a b)) (Err statuses.Overflow) tt refl)

as_int_fails : (r : Result ℤ TxStatus) → IsBad r → IsBad (as_int r)
as_int_fails (Ok z) h = tt
as_int_fails (Err status) h = h

as_text_fails : (o : Option (List ℕ)) → IsBad (as_text o)
as_text_fails None = refl
as_text_fails (Some text) = tt

ints_fails : (sign : Sign) (a b : ℤ) → IsBad (on_ints sign a b)
ints_fails signs.Or a b = tt
ints_fails signs.And a b = tt
ints_fails signs.Equal a b = tt
ints_fails signs.NotEqual a b = tt
ints_fails signs.Less a b = tt
ints_fails signs.LessEqual a b = tt
ints_fails signs.Greater a b = tt
ints_fails signs.GreaterEqual a b = tt
ints_fails signs.Concat a b = refl
ints_fails signs.Plus a b = as_int_fails (in_range (a +ℤ b)) (range_fails (a +ℤ b))
ints_fails signs.Minus a b = as_int_fails (in_range (a -ℤ b)) (range_fails (a -ℤ b))
ints_fails signs.Star a b = as_int_fails (in_range (a *ℤ b)) (range_fails (a *ℤ b))
ints_fails signs.Slash a b = as_int_fails (quotient a b) (quotient_fails a b)
ints_fails signs.Percent a b = as_int_fails (remainder a b) (remainder_fails a b)
ints_fails signs.Not a b = refl

texts_fails : (sign : Sign) (a b : List ℕ) → IsBad (on_texts sign a b)
texts_fails signs.Or a b = refl
texts_fails signs.And a b = refl
texts_fails signs.Equal a b = tt
texts_fails signs.NotEqual a b = tt
texts_fails signs.Less a b = refl
texts_fails signs.LessEqual a b = refl
texts_fails signs.Greater a b = refl
texts_fails signs.GreaterEqual a b = refl
texts_fails signs.Concat a b = as_text_fails (joined_text a b)
texts_fails signs.Plus a b = refl
texts_fails signs.Minus a b = refl
texts_fails signs.Star a b = refl
texts_fails signs.Slash a b = refl
texts_fails signs.Percent a b = refl
texts_fails signs.Not a b = refl

pub combined_fails : (sign : Sign) (a b : Value) → IsBad (binary_result sign a b)
combined_fails sign (values.Int a) (values.Int b) = ints_fails sign a b
combined_fails sign (values.Text a) (values.Text b) = texts_fails sign a b
combined_fails sign (values.Int a) (values.Text b) = refl
combined_fails sign (values.Text a) (values.Int b) = refl
combined_fails sign (values.Int a) values.Gone = refl
combined_fails sign (values.Text a) values.Gone = refl
combined_fails sign values.Gone b = refl

pub prefixed_fails : (sign : Sign) (value : Value) → IsBad (prefix_result sign value)
prefixed_fails signs.Or value = refl
prefixed_fails signs.And value = refl
prefixed_fails signs.Equal value = refl
prefixed_fails signs.NotEqual value = refl
prefixed_fails signs.Less value = refl
prefixed_fails signs.LessEqual value = refl
prefixed_fails signs.Greater value = refl
prefixed_fails signs.GreaterEqual value = refl
prefixed_fails signs.Concat value = refl
prefixed_fails signs.Plus value = refl
prefixed_fails signs.Minus (values.Int a) =
    as_int_fails (in_range (neg_ℤ a)) (range_fails (neg_ℤ a))
prefixed_fails signs.Minus (values.Text a) = refl
prefixed_fails signs.Minus values.Gone = refl
prefixed_fails signs.Star value = refl
prefixed_fails signs.Slash value = refl
prefixed_fails signs.Percent value = refl
prefixed_fails signs.Not (values.Int a) = tt
prefixed_fails signs.Not (values.Text a) = refl
prefixed_fails signs.Not values.Gone = refl

pub found_fails : (o : Option Variable) → IsBad (value_found o)
found_fails None = refl
found_fails (Some variable) = tt

-- ---- builtins

good_fails : (r : Result (List ℕ) KeyError) → IsBad (good_key r)
good_fails (Ok key) = tt
good_fails (Err error) = refl

pub key_fails : (text : List ℕ) → IsBad (key_of_text text)
key_fails text = good_fails (key_of text)

pub int_fails : (value : Value) → IsBad (int_in value)
int_fails (values.Int z) = tt
int_fails (values.Text text) = refl
int_fails values.Gone = refl

pub text_fails : (value : Value) → IsBad (text_in value)
text_fails (values.Int z) = refl
text_fails (values.Text text) = tt
text_fails values.Gone = refl

block_before_fails : (number : ℕ) (at : ℤ) → IsBad (block_before number at)
block_before_fails number (pos n) =
    either_fails (nat_lt n number) (Ok n) (Err statuses.BadBlock) tt refl
block_before_fails number (negsuc n) = refl

asked_fails : (rows : List Row) (number : ℕ) (kind : Kind) (text : List ℕ) (at : ℤ)
    → IsBad (answer_up_to rows number kind text at)
asked_fails rows number kind text at = so_fails (key_of_text text) (λ key. and_so (block_before number at) (λ block. Ok (scan rows (question kind key block)))) (key_fails text)
    (λ key. so_fails (block_before number at) (λ block. Ok (scan rows (question kind key block))) (block_before_fails number at) (λ block. tt))

list_told_fails : (o : Option (List Dep)) → IsBad (list_told o)
list_told_fails None = refl
list_told_fails (Some deps) = tt

list_asked_fails : (rows : List Row) (number : ℕ) (kind : Kind) (text : List ℕ) (at : ℤ)
    → IsBad (list_asked rows number kind text at)
list_asked_fails rows number kind text at = so_fails (answer_up_to rows number kind text at) (λ answer. list_told (list_in answer)) (asked_fails rows number kind text at) (λ answer. list_told_fails (list_in answer))

pub value_fails : (o : Option Version) → IsBad (value_told o)
value_fails None = refl
value_fails (Some version) = tt

pub block_fails : (o : Option Version) → IsBad (block_told o)
block_fails None = refl
block_fails (Some version) = tt

pub tx_fails : (o : Option Version) → IsBad (tx_told o)
tx_fails None = refl
tx_fails (Some version) = tt

item_told_fails : (o : Option Dep) → IsBad (item_told o)
item_told_fails None = refl
item_told_fails (Some dep) = tt

item_of_fails : (deps : List Dep) (index : ℤ) → IsBad (item_of deps index)
item_of_fails deps (pos n) = item_told_fails (slice_get deps n)
item_of_fails deps (negsuc n) = refl

pub args_fails : {A : Type 0} (o : Option A) (next : A → Result Value TxStatus)
    → ((x : A) → IsBad (next x)) → IsBad (with_args o next)
args_fails None next h = refl
args_fails (Some x) next h = h x

pub version_part_fails : (rows : List Row) (number : ℕ) (builtin : Builtin)
    → ((version : Option Version) → IsBad (version_value builtin version)) → (args : List Value)
    → IsBad (version_part rows number builtin args)
version_part_fails rows number builtin bad args = args_fails (text_and_int args) _ (λ arg. so_fails (version_asked rows number arg.0 arg.1) (version_value builtin)
    (so_fails (answer_up_to rows number Hist arg.0 arg.1) (λ answer. Ok (version_in answer)) (asked_fails rows number Hist arg.0 arg.1) (λ answer. tt)) bad)

pub count_part_fails : (rows : List Row) (number : ℕ) (kind : Kind) (args : List Value)
    → IsBad (count_part rows number kind args)
count_part_fails rows number kind args = args_fails (text_and_int args) _ (λ arg. so_fails (list_asked rows number kind arg.0 arg.1) count_told (list_asked_fails rows number kind arg.0 arg.1) (λ deps. tt))

item_asked_fails : (rows : List Row) (number : ℕ) (kind : Kind) (text : List ℕ) (at index : ℤ)
    → IsBad (item_asked rows number kind text at index)
item_asked_fails rows number kind text at index = so_fails (answer_up_to rows number kind text at) (λ answer. item_part_of answer index) (asked_fails rows number kind text at)
    (λ answer. so_fails (list_told (list_in answer)) (λ deps. item_of deps index) (list_told_fails (list_in answer)) (λ deps. item_of_fails deps index))

pub item_part_fails : (rows : List Row) (number : ℕ) (kind : Kind) (builtin : Builtin)
    → ((dep : Dep) → IsBad (item_value builtin dep)) → (args : List Value)
    → IsBad (item_part rows number kind builtin args)
item_part_fails rows number kind builtin bad args = args_fails (text_and_ints args) _ (λ arg. so_fails (item_asked rows number kind arg.0 arg.1.0 arg.1.1) (item_value builtin) (item_asked_fails rows number kind arg.0 arg.1.0 arg.1.1) bad)

-- ---- puts

pub key_in_fails : (value : Value) → IsBad (key_in value)
key_in_fails (values.Int z) = refl
key_in_fails (values.Text text) = key_fails text
key_in_fails values.Gone = refl

keys_in_fails : (done : List (List ℕ)) (list : List Value) → IsBad (keys_in done list)
keys_in_fails done [] = tt
keys_in_fails done (value ∷ list) = so_fails (key_in value) (λ key. keys_in (done ++ key ∷ []) list) (key_in_fails value) (λ key. keys_in_fails (done ++ key ∷ []) list)

pub named_fails : (o : Option (List Value)) → IsBad (named_keys o)
named_fails None = tt
named_fails (Some list) =
    so_fails (keys_in [] list) (λ keys. Ok (Some keys)) (keys_in_fails [] list) (λ keys. tt)

pub recorded_fails : (r : Result Captured CaptureError) → IsBad (put_recorded r)
recorded_fails (Ok c) = tt
recorded_fails (Err errors.NotRead) = refl
recorded_fails (Err errors.TooMany) = refl
recorded_fails (Err errors.Memory) = refl
