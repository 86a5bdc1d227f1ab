-- Puts are typed: a good key, a value, and dependencies that were read.
use Rattle.std.proofs.Common.{◌≡◌, ◌==◌, ℕ, ◌≤◌, ◌<◌, Bool, true, false, not, ◌&&◌, List, length, Option, Some, None, Result, Ok, Err, refl, if◌then◌else◌, arith}
use Rattle.std.specs.Prelude.{IfOk, nat_le, nat_lt, filter_map}
use Rattle.std.specs.List.{All}
use Rattle.std.proofs.lemmas.Bool.Decides.{nat_tests}
use Rattle.std.proofs.lemmas.List.Elements.{All-push, All-set}
use Rattle.lc_base.specs.Key.{all_good}
use Rattle.lc_base.specs.KeyBytes.{IsKey, bad_key_byte}
use Rattle.lc_base.specs.declared.key.KeyError.TheVariants as key_errors
use Rattle.lc_base.specs.declared.name_limits.TheConstants.{MAX_KEY_BYTES}
use Rattle.lc_base.specs.declared.limits.TheConstants.{MAX_DEPS}
use Rattle.lc_base.specs.declared.value.Value.{Value}
use Rattle.lc_base.specs.declared.value.Value.TheVariants as values
use Rattle.lc_base.specs.declared.tx_status.TxStatus.{TxStatus}
use Rattle.lc_base.specs.declared.tx_status.TxStatus.TheVariants as statuses
use Rattle.lc_base.proofs.Repeats.{apart_once}
use Rattle.byte_fields.specs.Spelling.{IsValue}
use Rattle.dep_capture.specs.Captured.{Captured, AreBackedDeps}
use Rattle.dep_capture.specs.Capture.{was_put, are_read, deps_of, dep_of_read, dep_named, with_put, with_put_at, index_of, captured_after_put}
use Rattle.dep_capture.specs.declared.limits.TheConstants.{MAX_KEYS_PUT}
use Rattle.dep_capture.specs.declared.access.Read.{Read}
use Rattle.dep_capture.specs.declared.access.Put.{Put}
use Rattle.dep_capture.specs.declared.error.CaptureError.TheVariants as errors
use Rattle.dep_capture.proofs.Backed.{deps_are_backed}
use Rattle.dep_capture.proofs.Keeping.{put_keeps}
use Rattle.contract_semantics.specs.declared.variable.Variable.{Variable}
use Rattle.contract_semantics.specs.Scenes.{Scene, Place}
use Rattle.contract_semantics.specs.Steps.{Machine, and_so}
use Rattle.contract_semantics.specs.Reading.{good_key, key_of_text}
use Rattle.contract_semantics.specs.Puts.{is_own, is_one_too_many, key_in, key_to_put, named_keys, put_recorded, captured_by_put}
use Rattle.contract_semantics.specs.Statements.{Ending, Goes, Returns, put_done}
use Rattle.replay_soundness.proofs.Keeping.{IsTypedPut, IsTyped, Ends, Keeps}
use Rattle.replay_soundness.proofs.Reading.{so_typed}
use Rattle.replay_soundness.proofs.Expressions.{HoldsValue}

-- ---- keys

good_by : (text : List ℕ) (o : Option ℕ) → bad_key_byte text ≡ o → 0 < length text → length text ≤ MAX_KEY_BYTES → IfOk (good_key (all_good key_errors.Byte text o)) IsKey
good_by text None e some short = record { some = some; short = short; good = e }
good_by text (Some at) e some short = tt

key_by : (text : List ℕ) (empty long : Bool) → (length text == 0) ≡ empty → nat_lt MAX_KEY_BYTES (length text) ≡ long → IfOk (good_key (if empty then Err key_errors.Empty else (if long then Err key_errors.Long else all_good key_errors.Byte text (bad_key_byte text)))) IsKey
key_by text true long e f = tt
key_by text false true e f = tt
key_by text false false e f = good_by text (bad_key_byte text) refl (grind (arith, nat_tests)) (grind (arith, nat_tests))

pub key_typed : (text : List ℕ) → IfOk (key_of_text text) IsKey
key_typed text = key_by text (length text == 0) (nat_lt MAX_KEY_BYTES (length text)) refl refl

key_in_typed : (value : Value) → IfOk (key_in value) IsKey
key_in_typed (values.Int z) = tt
key_in_typed (values.Text text) = key_typed text
key_in_typed values.Gone = tt

-- ---- a put

deps_once : (reads : List Read) (named : Option (List (List ℕ))) → length (deps_of reads named) ≤ MAX_DEPS → AreBackedDeps reads (deps_of reads named)
deps_once reads None few = record { few = few; once = apart_once (filter_map dep_of_read reads); backed = deps_are_backed reads None }
deps_once reads (Some keys) few = record { few = few; once = apart_once (filter_map (dep_named reads) keys); backed = deps_are_backed reads (Some keys) }

at_typed : (puts : List Put) (o : Option ℕ) (put : Put) → IsTypedPut put → All IsTypedPut puts → All IsTypedPut (with_put_at puts o put)
at_typed puts None put h k = All-push IsTypedPut puts put k h
at_typed puts (Some i) put h k = All-set IsTypedPut puts i put h k

abbrev after_put : Captured → List ℕ → Value → Option (List (List ℕ)) → Captured
after_put c key value named = record c { puts = with_put c.puts (record { key = key; value = value; deps = deps_of c.reads named }) }

refused_typed : (c : Captured) (key : List ℕ) (value : Value) (named : Option (List (List ℕ))) (full unread many : Bool) → (not (was_put c.puts key) && nat_le MAX_KEYS_PUT (length c.puts)) ≡ full → nat_lt MAX_DEPS (length (deps_of c.reads named)) ≡ many
    → IsTyped c → IsKey key → IsValue value → IfOk (put_recorded (if full then Err errors.TooMany else (if unread then Err errors.NotRead else (if many then Err errors.TooMany else Ok (after_put c key value named))))) IsTyped
refused_typed c key value named true unread many e f h k v = tt
refused_typed c key value named false true many e f h k v = tt
refused_typed c key value named false false true e f h k v = tt
refused_typed c key value named false false false e f h k v =
    let put : Put = record { key = key; value = value; deps = deps_of c.reads named } in
    record {
      lawful = put_keeps c.reads c.puts put h.lawful (deps_once c.reads named (grind (arith, nat_tests))) e;
      puts = at_typed c.puts (index_of c.puts key) put (record { key_is_key = k; value_is_value = v }) h.puts;
    }

allowed_by : (own written full : Bool) (key : List ℕ) → IsKey key → IfOk (if not own then Err statuses.Foreign else (if written then Err statuses.Conflict else (if full then Err statuses.TooMany else Ok key))) IsKey
allowed_by false written full key h = tt
allowed_by true true full key h = tt
allowed_by true false true key h = tt
allowed_by true false false key h = h

any_so : {A B : Type 0} (Q : B → Type 0) (r : Result A TxStatus) (next : A → Result B TxStatus) → ((x : A) → IfOk (next x) Q) → IfOk (and_so r next) Q
any_so Q (Ok x) next k = k x
any_so Q (Err status) next k = tt

put_typed : (contract : List ℕ) (place : Place) (key value : Value) (parts : Option (List Value)) (c : Captured) → IsTyped c → IsValue value → IfOk (captured_by_put contract place key value parts c) IsTyped
put_typed contract place key value parts c h v =
    so_typed IsKey IsTyped (key_in key) (λ key. and_so (key_to_put contract place c.puts key) (λ key. and_so (named_keys parts) (λ named. put_recorded (captured_after_put c key value named)))) (key_in_typed key)
    (λ key k. so_typed IsKey IsTyped (key_to_put contract place c.puts key) (λ key. and_so (named_keys parts) (λ named. put_recorded (captured_after_put c key value named)))
    (allowed_by (is_own contract key) (place.written key) (is_one_too_many c.puts key) key k)
    (λ key k. any_so IsTyped (named_keys parts) (λ named. put_recorded (captured_after_put c key value named))
    (λ named. refused_typed c key value named (not (was_put c.puts key) && nat_le MAX_KEYS_PUT (length c.puts)) (not (are_read c.reads named)) (nat_lt MAX_DEPS (length (deps_of c.reads named))) refl refl h k v)))

-- the variables of a statement that goes on hold values
abbrev pub EndingHolds : Ending → Type 0
EndingHolds (Goes variables) = All HoldsValue variables
EndingHolds Returns = Unit {0}

done_typed : (variables : List Variable) (r : Result Captured TxStatus) (m : Machine) → All HoldsValue variables → IfOk r IsTyped → Ends EndingHolds (put_done variables r m)
done_typed variables (Ok c) m h k = (h, k)
done_typed variables (Err status) m h k = tt

pub putting_keeps : (s : Scene) (key value : Value) (parts : Option (List Value)) (variables : List Variable) → All HoldsValue variables → IsValue value
    → Keeps EndingHolds (λ m. put_done variables (captured_by_put s.site.contract s.place key value parts m.capture) m)
putting_keeps s key value parts variables h v = record { ends = λ m t. done_typed variables (captured_by_put s.site.contract s.place key value parts m.capture) m h (put_typed s.site.contract s.place key value parts m.capture t v) }
