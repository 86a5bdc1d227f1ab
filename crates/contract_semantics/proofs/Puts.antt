-- A put keeps the laws, by the tests that may refuse it.
use Rattle.std.proofs.Common.{◌≡◌, ◌≤◌, ℕ, Bool, true, false, not, ◌&&◌, List, length, Option, Result, Ok, Err, refl, ap, ap₂, ◌∙◌, le_refl, if◌then◌else◌}
use Rattle.std.specs.Prelude.{IfOk, nat_le, nat_lt}
use Rattle.std.specs.List.{All}
use Rattle.std.proofs.lemmas.Bool.{or_right}
use Rattle.lc_base.specs.declared.value.Value.{Value}
use Rattle.lc_base.specs.declared.tx_status.TxStatus.{TxStatus}
use Rattle.lc_base.specs.declared.tx_status.TxStatus.TheVariants as statuses
use Rattle.dep_capture.specs.Captured.{Captured, WasBacked}
use Rattle.dep_capture.specs.Capture.{was_read, was_put, are_read, deps_of, with_put, captured_after_put}
use Rattle.lc_base.specs.declared.limits.TheConstants.{MAX_DEPS}
use Rattle.dep_capture.specs.declared.limits.TheConstants.{MAX_KEYS_PUT}
use Rattle.dep_capture.specs.declared.access.Read.{Read}
use Rattle.dep_capture.specs.declared.access.Put.{Put}
use Rattle.dep_capture.specs.declared.error.CaptureError.TheVariants as errors
use Rattle.contract_semantics.specs.declared.variable.Variable.{Variable}
use Rattle.contract_semantics.specs.Scenes.{Scene}
use Rattle.contract_semantics.specs.Steps.{Machine, after, and_so}
use Rattle.contract_semantics.specs.Puts.{is_own, is_one_too_many, key_to_put, named_keys, put_recorded}
use Rattle.contract_semantics.specs.Statements.{Ending, put_done}
use Rattle.contract_semantics.specs.Lookups.{Lookups, no_lookups, one_met}
use Rattle.contract_semantics.specs.CallLookups.{put_lookup}
use Rattle.contract_semantics.specs.Laws.{IsOwnAndUnwritten}
use Rattle.contract_semantics.proofs.Failures.{so_fails, named_fails, recorded_fails}
use Rattle.contract_semantics.proofs.Tame.{AsksBefore, no_questions, IsBad, FailsBadly, Moves}
use Rattle.contract_semantics.proofs.Tame.{Agree, Told, AreClear, EndsClear, Tame, richer, raised}
use Rattle.contract_semantics.proofs.Tame.{grows_same, moves_same, tame_failed}
use Rattle.contract_semantics.proofs.Dependencies.{deps_backed, with_put_all, put_keeps_key}
use Rattle.contract_semantics.proofs.Dependencies.{put_has_key}
use Rattle.contract_semantics.proofs.Reading.{contains_one, clear_one}

-- ---- what is left of a capture

abbrev Keeps : Scene → Captured → Result Captured TxStatus → Type 0
Keeps s c (Ok new) = Moves s c new
Keeps s c (Err status) = Unit {0}

keeps_so : {A : Type 0} (s : Scene) (c : Captured) (r : Result A TxStatus) (next : A → Result Captured TxStatus) → ((x : A) → Keeps s c (next x)) → Keeps s c (and_so r next)
keeps_so s c (Ok x) next h = h x
keeps_so s c (Err status) next h = tt

abbrev the_put : Captured → List ℕ → Value → Option (List (List ℕ)) → Put
the_put c key value named = record { key = key; value = value; deps = deps_of c.reads named }

abbrev after_put : Captured → List ℕ → Value → Option (List (List ℕ)) → Captured
after_put c key value named = record c { puts = with_put c.puts (the_put c key value named) }

moves_put : (s : Scene) (c : Captured) (key : List ℕ) (value : Value) (named : Option (List (List ℕ))) → is_own s.site.contract key ≡ true → s.place.written key ≡ false → Moves s c (after_put c key value named)
moves_put s c key value named own unwritten = record {
  reads = grows_same c.reads;
  puts = put_keeps_key c.puts (the_put c key value named);
  backed = λ h. with_put_all (λ (put : Put). All (WasBacked c.reads) put.deps) c.puts (the_put c key value named) (deps_backed c.reads named) h;
  truth = λ h. h;
  fresh = λ h. with_put_all (IsOwnAndUnwritten s) c.puts (the_put c key value named) (record { own = own; unwritten = unwritten }) h;
}

-- The result of a put, by the tests that may refuse it.
abbrev refused_by : Bool → Bool → Bool → Captured → Result Captured TxStatus
refused_by full unread many new = put_recorded (if full then Err errors.TooMany else (if unread then Err errors.NotRead else (if many then Err errors.TooMany else Ok new)))

refused_keeps : (s : Scene) (c new : Captured) (full unread many : Bool) → Moves s c new → Keeps s c (refused_by full unread many new)
refused_keeps s c new true unread many h = tt
refused_keeps s c new false true many h = tt
refused_keeps s c new false false true h = tt
refused_keeps s c new false false false h = h

abbrev put_named : List ℕ → Value → Option (List Value) → Captured → Result Captured TxStatus
put_named key value parts c = and_so (named_keys parts) (λ named. put_recorded (captured_after_put c key value named))

named_keeps : (s : Scene) (key : List ℕ) (value : Value) (parts : Option (List Value)) (c : Captured) → is_own s.site.contract key ≡ true → s.place.written key ≡ false → Keeps s c (put_named key value parts c)
named_keeps s key value parts c own unwritten = keeps_so s c (named_keys parts) (λ named. put_recorded (captured_after_put c key value named))
    (λ named. refused_keeps s c (after_put c key value named) (not (was_put c.puts key) && nat_le MAX_KEYS_PUT (length c.puts)) (not (are_read c.reads named)) (nat_lt MAX_DEPS (length (deps_of c.reads named))) (moves_put s c key value named own unwritten))

-- ---- a put of a key, by what the scene says of it

abbrev key_by : Bool → Bool → Bool → List ℕ → Result (List ℕ) TxStatus
key_by own written full key = if not own then Err statuses.Foreign else (if written then Err statuses.Conflict else (if full then Err statuses.TooMany else Ok key))

abbrev put_by : Bool → Bool → List ℕ → Value → Option (List Value) → Captured → Result Captured TxStatus
put_by own written key value parts c =
    and_so (key_by own written (is_one_too_many c.puts key) key) (λ key. put_named key value parts c)

abbrev look_by : Bool → List ℕ → Lookups
look_by own key = if own then one_met key else no_lookups

put_keeps : (s : Scene) (key : List ℕ) (value : Value) (parts : Option (List Value)) (c : Captured) (own written full : Bool) → is_own s.site.contract key ≡ own → s.place.written key ≡ written
    → Keeps s c (and_so (key_by own written full key) (λ key. put_named key value parts c))
put_keeps s key value parts c false written full o w = tt
put_keeps s key value parts c true true full o w = tt
put_keeps s key value parts c true false true o w = tt
put_keeps s key value parts c true false false o w = named_keeps s key value parts c o w

key_by_fails : (own written full : Bool) (key : List ℕ) → IsBad (key_by own written full key)
key_by_fails false written full key = refl
key_by_fails true true full key = refl
key_by_fails true false true key = refl
key_by_fails true false false key = tt

put_by_fails : (own written : Bool) (key : List ℕ) (value : Value) (parts : Option (List Value)) (c : Captured) → IsBad (put_by own written key value parts c)
put_by_fails own written key value parts c = so_fails (key_by own written (is_one_too_many c.puts key) key) (λ key. put_named key value parts c) (key_by_fails own written (is_one_too_many c.puts key) key)
    (λ key. so_fails (named_keys parts) (λ named. put_recorded (captured_after_put c key value named)) (named_fails parts) (λ named. recorded_fails (captured_after_put c key value named)))

put_same : (s t : Scene) (reads : List Read) (key : List ℕ) (value : Value) (parts : Option (List Value)) (c : Captured) (own : Bool) → is_own s.site.contract key ≡ own → Agree s t (look_by own key) reads
    → put_by (is_own t.site.contract key) (t.place.written key) key value parts c ≡ put_by own (s.place.written key) key value parts c
put_same s t reads key value parts c false e a = ap (λ own. put_by own (t.place.written key) key value parts c) (ap (λ contract. is_own contract key) a.contract ∙ e)
put_same s t reads key value parts c true e a = ap₂ (λ own written. put_by own written key value parts c) (ap (λ contract. is_own contract key) a.contract ∙ e) (a.written key (contains_one key))

done_told : (s : Scene) (m : Machine) (variables : List Variable) (f : Scene → Result Captured TxStatus) (look : Scene → Lookups) (r : Result Captured TxStatus) → Keeps s m.capture r
    → ((t : Scene) (reads : List Read) → Agree s t (look s) reads → (f t ≡ r) × (look t ≡ look s)) → Told s m (λ t. put_done variables (f t) m) look (put_done variables r m) (look s)
done_told s m variables f look (Ok new) k h = (k, λ t a. let e = h t new.reads a in (ap (λ r. put_done variables r m) e.0, e.1))
done_told s m variables f look (Err status) k h = (moves_same s m.capture, λ t a. let e = h t m.capture.reads a in (ap (λ r. put_done variables r m) e.0, e.1))

done_lowers : (variables : List Variable) (r : Result Captured TxStatus) (m : Machine) → (after (put_done variables r m)).left ≤ m.left
done_lowers variables (Ok new) m = le_refl m.left
done_lowers variables (Err status) m = le_refl m.left

done_scales : (k : ℕ) (variables : List Variable) (r : Result Captured TxStatus) (m : Machine) → put_done variables r (richer k m) ≡ raised k (put_done variables r m)
done_scales k variables (Ok new) m = refl
done_scales k variables (Err status) m = refl

done_clear : (s : Scene) (lookups : Lookups) (variables : List Variable) (r : Result Captured TxStatus) (m : Machine) → IfOk r (AreClear s lookups) → EndsClear s lookups (put_done variables r m)
done_clear s lookups variables (Ok new) m h = h
done_clear s lookups variables (Err status) m h = tt

done_fails : (variables : List Variable) (r : Result Captured TxStatus) (m : Machine) → IsBad r → FailsBadly (put_done variables r m)
done_fails variables (Ok new) m h = tt
done_fails variables (Err status) m h = h

-- ---- the key of a put that succeeds is unwritten, and is put

refused_clear : (s : Scene) (lookups : Lookups) (new : Captured) (full unread many : Bool) → AreClear s lookups new → IfOk (refused_by full unread many new) (AreClear s lookups)
refused_clear s lookups new true unread many h = tt
refused_clear s lookups new false true many h = tt
refused_clear s lookups new false false true h = tt
refused_clear s lookups new false false false h = h

named_clear : (s : Scene) (key : List ℕ) (value : Value) (c : Captured) (named : Result (Option (List (List ℕ))) TxStatus) → s.place.written key ≡ false
    → IfOk (and_so named (λ named. put_recorded (captured_after_put c key value named))) (AreClear s (one_met key))
named_clear s key value c (Err status) w = tt
named_clear s key value c (Ok named) w =
    refused_clear s (one_met key) (after_put c key value named) (not (was_put c.puts key) && nat_le MAX_KEYS_PUT (length c.puts)) (not (are_read c.reads named)) (nat_lt MAX_DEPS (length (deps_of c.reads named)))
    (clear_one s key (after_put c key value named) w (or_right (was_read c.reads key) _ (put_has_key c.puts (the_put c key value named))))

put_clear : (s : Scene) (key : List ℕ) (value : Value) (parts : Option (List Value)) (c : Captured) (own written full : Bool) → s.place.written key ≡ written
    → IfOk (and_so (key_by own written full key) (λ key. put_named key value parts c)) (AreClear s (look_by own key))
put_clear s key value parts c false written full w = tt
put_clear s key value parts c true true full w = tt
put_clear s key value parts c true false true w = tt
put_clear s key value parts c true false false w = named_clear s key value c (named_keys parts) w

put_asks : (s : Scene) (key : List ℕ) (own : Bool) → AsksBefore s (look_by own key)
put_asks s key true = no_questions s
put_asks s key false = no_questions s

-- ---- a put

pub tame_putting : (variables : List Variable) (r : Result (List ℕ) TxStatus) → IsBad r → (value : Value) (parts : Option (List Value))
    → Tame (λ s m. put_done variables (and_so r (λ key. and_so (key_to_put s.site.contract s.place m.capture.puts key) (λ key. put_named key value parts m.capture))) m) (λ s m. put_lookup s.site.contract r)
tame_putting variables (Err status) bad value parts = tame_failed Ending status bad
tame_putting variables (Ok key) bad value parts = record {
  told = λ s m. done_told s m variables (λ t. put_by (is_own t.site.contract key) (t.place.written key) key value parts m.capture) (λ t. look_by (is_own t.site.contract key) key) (put_by (is_own s.site.contract key) (s.place.written key) key value parts m.capture)
      (put_keeps s key value parts m.capture (is_own s.site.contract key) (s.place.written key) (is_one_too_many m.capture.puts key) refl refl)
      (λ t reads a. (put_same s t reads key value parts m.capture (is_own s.site.contract key) refl a, ap (λ contract. look_by (is_own contract key) key) a.contract));
  lowers = λ s m. done_lowers variables (put_by (is_own s.site.contract key) (s.place.written key) key value parts m.capture) m;
  scales = λ k s m o. done_scales k variables (put_by (is_own s.site.contract key) (s.place.written key) key value parts m.capture) m;
  clear = λ s m. done_clear s (look_by (is_own s.site.contract key) key) variables (put_by (is_own s.site.contract key) (s.place.written key) key value parts m.capture) m
      (put_clear s key value parts m.capture (is_own s.site.contract key) (s.place.written key) (is_one_too_many m.capture.puts key) refl);
  fails = λ s m. done_fails variables (put_by (is_own s.site.contract key) (s.place.written key) key value parts m.capture) m (put_by_fails (is_own s.site.contract key) (s.place.written key) key value parts m.capture);
  asks = λ s m. put_asks s key (is_own s.site.contract key);
}
