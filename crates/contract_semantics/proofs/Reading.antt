-- A read keeps the laws: it records the version that its key had, so scenes that agree on it read
-- alike.
use Rattle.std.proofs.Common.{◌≡◌, ℕ, Bool, true, false, List, [], ◌∷◌, ◌++◌, length, Contains, Option, Some, None, Result, Ok, Err, refl, ap, ap₂, subst, ◌∙◌, le_refl, ◌≤◌, if◌then◌else◌, ◌||◌, ⊎_elim, not-suc-le-zero}
use Rattle.std.specs.Prelude.{nat_le}
use Rattle.std.specs.List.{All}
use Rattle.std.specs.Cmp.Lexicographic.{nat_list_eq_equiv}
use Rattle.std.proofs.lemmas.Bool.{or_left, or_right}
use Rattle.std.proofs.lemmas.List.Elements.{All-weaker, All-push, Contains-push, Contains-push_cases, Contains-append_left}
use Rattle.std.proofs.lemmas.List.Folds.{list_any-append}
use Rattle.lc_base.specs.declared.value.Value.{Value}
use Rattle.lc_base.specs.declared.value.Value.TheVariants as values
use Rattle.lc_base.specs.declared.tx_status.TxStatus.{TxStatus}
use Rattle.lc_base.specs.declared.tx_status.TxStatus.TheVariants.{Conflict, WrongKind}
use Rattle.dep_capture.specs.Captured.{Captured, WasBacked}
use Rattle.dep_capture.specs.Capture.{was_read, was_put, pending}
use Rattle.dep_capture.specs.declared.limits.TheConstants.{MAX_KEYS_READ}
use Rattle.dep_capture.specs.declared.access.Read.{Read}
use Rattle.dep_capture.specs.declared.access.Put.{Put}
use Rattle.dep_capture.specs.declared.error.CaptureError.TheVariants as errors
use Rattle.world_state.specs.declared.held.Held.{Held}
use Rattle.contract_semantics.specs.Numbers.{truth}
use Rattle.contract_semantics.specs.Scenes.{Scene}
use Rattle.contract_semantics.specs.Steps.{Machine, after}
use Rattle.contract_semantics.specs.Reading.{BuiltinResult, and_read, key_of_text, block_of, unless_gone, value_of_version, has_value, read_result, value_got, is_held, of_kind, get_result, has_result}
use Rattle.contract_semantics.specs.Builtins.{reading_args, taken_step}
use Rattle.contract_semantics.specs.Lookups.{Lookups, no_lookups, one_met, unput_lookup, key_lookup}
use Rattle.contract_semantics.specs.Lookups.{read_lookup}
use Rattle.contract_semantics.proofs.Failures.{key_fails}
use Rattle.contract_semantics.proofs.Tame.{AsksBefore, no_questions, IsBad, FailsBadly, IsOf, Moves}
use Rattle.contract_semantics.proofs.Tame.{Agree, Told, AreClear, EndsClear, Tame, raised, richer}
use Rattle.contract_semantics.proofs.Tame.{moves_same, no_keys}

-- ---- what is taken, as a step

abbrev pub ToldTaken : Scene → Captured → (Scene → BuiltinResult) → (Scene → Lookups) → BuiltinResult → Lookups → Type 0
ToldTaken s c again look taken lookups = Moves s c taken.1 × ((t : Scene) → Agree s t lookups taken.1.reads → (again t ≡ taken) × (look t ≡ lookups))

abbrev pub TakenClear : Scene → Lookups → BuiltinResult → Type 0
TakenClear s lookups (Ok value, c) = AreClear s lookups c
TakenClear s lookups (Err status, c) = Unit {0}

pub record TameTaken (f : Scene → Captured → BuiltinResult) (look : Scene → Captured → Lookups) : Type 0 where
  pub told : (s : Scene) (c : Captured)
      → ToldTaken s c (λ t. f t c) (λ t. look t c) (f s c) (look s c)
  pub clear : (s : Scene) (c : Captured) → TakenClear s (look s c) (f s c)
  pub fails : (s : Scene) (c : Captured) → IsBad (f s c).0
  pub asks : (s : Scene) (c : Captured) → AsksBefore s (look s c)

pub clear_by : (s : Scene) (lookups : Lookups) (c : Captured) (r : Result Value TxStatus)
    → AreClear s lookups c → TakenClear s lookups (r, c)
clear_by s lookups c (Ok value) h = h
clear_by s lookups c (Err status) h = tt

step_told : (s : Scene) (m : Machine) (again : Scene → BuiltinResult) (look : Scene → Lookups) (taken : BuiltinResult) (lookups : Lookups) → ToldTaken s m.capture again look taken lookups → Told s m (λ t. taken_step (again t) m) look (taken_step taken m) lookups
step_told s m again look (Ok value, c) lookups h =
    (h.0, λ t a. let k = h.1 t a in (ap (λ r. taken_step r m) k.0, k.1))
step_told s m again look (Err status, c) lookups h =
    (h.0, λ t a. let k = h.1 t a in (ap (λ r. taken_step r m) k.0, k.1))

step_lowers : (taken : BuiltinResult) (m : Machine) → (after (taken_step taken m)).left ≤ m.left
step_lowers (Ok value, c) m = le_refl m.left
step_lowers (Err status, c) m = le_refl m.left

step_scales : (k : ℕ) (taken : BuiltinResult) (m : Machine)
    → taken_step taken (richer k m) ≡ raised k (taken_step taken m)
step_scales k (Ok value, c) m = refl
step_scales k (Err status, c) m = refl

step_clear : (s : Scene) (lookups : Lookups) (taken : BuiltinResult) (m : Machine)
    → TakenClear s lookups taken → EndsClear s lookups (taken_step taken m)
step_clear s lookups (Ok value, c) m h = h
step_clear s lookups (Err status, c) m h = tt

step_fails : (taken : BuiltinResult) (m : Machine) → IsBad taken.0 → FailsBadly (taken_step taken m)
step_fails (Ok value, c) m h = tt
step_fails (Err status, c) m h = h

pub tame_taken : {f : Scene → Captured → BuiltinResult} {look : Scene → Captured → Lookups}
    → TameTaken f look → Tame (λ s m. taken_step (f s m.capture) m) (λ s m. look s m.capture)
tame_taken {f} {look} h = record {
  told = λ s m. step_told s m (λ t. f t m.capture) (λ t. look t m.capture) (f s m.capture) (look s m.capture) (h.told s m.capture);
  lowers = λ s m. step_lowers (f s m.capture) m;
  scales = λ k s m o. step_scales k (f s m.capture) m;
  clear = λ s m. step_clear s (look s m.capture) (f s m.capture) m (h.clear s m.capture);
  fails = λ s m. step_fails (f s m.capture) m (h.fails s m.capture);
  asks = λ s m. h.asks s m.capture;
}

-- A result that looks nothing up and is the same in every scene.
pub taken_fixed : (r : Result Value TxStatus) → IsBad r
    → TameTaken (λ s c. (r, c)) (λ s c. no_lookups)
taken_fixed r bad = record { told = λ s c. (moves_same s c, λ t a. (refl, refl)); clear = λ s c. clear_by s no_lookups c r (no_keys s c); fails = λ s c. bad; asks = λ s c. no_questions s }

-- ---- one key met

pub contains_one : {A : Type 0} (x : A) → Contains (x ∷ []) x
contains_one x = Contains-push [] x

pub clear_one : (s : Scene) (key : List ℕ) (c : Captured) → s.place.written key ≡ false
    → (was_read c.reads key || was_put c.puts key) ≡ true → AreClear s (one_met key) c
clear_one s key c w r k there = ⊎_elim
    (λ (n, lt, e). absurd (not-suc-le-zero lt))
    (λ e. subst (λ k. (s.place.written k ≡ false) × ((was_read c.reads k || was_put c.puts k) ≡ true)) e (w, r))
    (Contains-push_cases [] key k there)

-- ---- one more read, with the version that its key had

abbrev pub with_read : Captured → List ℕ → Option Held → Captured
with_read c key held =
    record c { reads = c.reads ++ record { key = key; version = block_of held } ∷ [] }

last_read : (reads : List Read) (key : List ℕ) (version : Option ℕ)
    → was_read (reads ++ record { key = key; version = version } ∷ []) key ≡ true
last_read reads key version =
    list_any-append _ reads _ ∙ or_right _ _ (or_left _ _ (nat_list_eq_equiv.refl key))

moves_read : (s : Scene) (c : Captured) (key : List ℕ)
    → Moves s c (with_read c key (s.place.newest key))
moves_read s c key =
    let read : Read = record { key = key; version = block_of (s.place.newest key) } in
    record {
      reads = (read ∷ [], refl);
      puts = λ key h. h;
      fresh = λ h. h;
      truth = λ h. All-push (IsOf s) c.reads read h refl;
      backed = λ h. All-weaker (λ (put : Put). All (WasBacked c.reads) put.deps) (λ (put : Put). All (WasBacked (c.reads ++ read ∷ [])) put.deps)
          (λ put k. All-weaker (WasBacked c.reads) (WasBacked (c.reads ++ read ∷ [])) (λ dep there. Contains-append_left c.reads (read ∷ []) _ there) put.deps k) c.puts h;
    }

-- ---- a read, by what the scene and the capture say of its key

abbrev read_by : Bool → Bool → Bool → Option Held → List ℕ → (Option Held → Result Value TxStatus) → Captured → BuiltinResult
read_by written known full held key gives c =
    and_read (if written then Err Conflict else read_result (if known then Ok c else (if full then Err errors.TooMany else Ok (with_read c key held)))) c (λ c. (gives held, c))

read_told : (s : Scene) (c : Captured) (key : List ℕ) (gives : Option Held → Result Value TxStatus) (written known full : Bool) → s.place.written key ≡ written → was_read c.reads key ≡ known
    → ToldTaken s c (λ t. read_by (t.place.written key) known full (t.place.newest key) key gives c) (λ t. one_met key) (read_by written known full (s.place.newest key) key gives c) (one_met key)
read_told s c key gives true known full w k = (moves_same s c, λ t a. (ap (λ w. read_by w known full (t.place.newest key) key gives c) (a.written key (contains_one key) ∙ w), refl))
read_told s c key gives false true full w k = (moves_same s c, λ t a. (ap₂ (λ w h. read_by w true full h key gives c) (a.written key (contains_one key) ∙ w) (a.newest key k), refl))
read_told s c key gives false false true w k = (moves_same s c, λ t a. (ap (λ w. read_by w false true (t.place.newest key) key gives c) (a.written key (contains_one key) ∙ w), refl))
read_told s c key gives false false false w k = (
  moves_read s c key,
  λ t a. (ap₂ (λ w h. read_by w false false h key gives c) (a.written key (contains_one key) ∙ w) (a.newest key (last_read c.reads key (block_of (s.place.newest key)))), refl),
)

read_clear : (s : Scene) (c : Captured) (key : List ℕ) (gives : Option Held → Result Value TxStatus) (written known full : Bool) (held : Option Held) → s.place.written key ≡ written → was_read c.reads key ≡ known
    → TakenClear s (one_met key) (read_by written known full held key gives c)
read_clear s c key gives true known full held w k = tt
read_clear s c key gives false true full held w k =
    clear_by s (one_met key) c (gives held) (clear_one s key c w (or_left _ _ k))
read_clear s c key gives false false true held w k = tt
read_clear s c key gives false false false held w k = clear_by s (one_met key) (with_read c key held) (gives held) (clear_one s key (with_read c key held) w (or_left _ _ (last_read c.reads key (block_of held))))

read_fails : (written known full : Bool) (held : Option Held) (key : List ℕ) (gives : Option Held → Result Value TxStatus) (c : Captured) → IsBad (gives held) → IsBad (read_by written known full held key gives c).0
read_fails true known full held key gives c h = refl
read_fails false true full held key gives c h = h
read_fails false false true held key gives c h = refl
read_fails false false false held key gives c h = h

taken_read : (key : List ℕ) (gives : Option Held → Result Value TxStatus) → ((held : Option Held) → IsBad (gives held)) → TameTaken (λ s c. read_by (s.place.written key) (was_read c.reads key) (nat_le MAX_KEYS_READ (length c.reads)) (s.place.newest key) key gives c) (λ s c. one_met key)
taken_read key gives bad = record {
  told = λ s c. read_told s c key gives (s.place.written key) (was_read c.reads key) (nat_le MAX_KEYS_READ (length c.reads)) refl refl;
  clear = λ s c. read_clear s c key gives (s.place.written key) (was_read c.reads key) (nat_le MAX_KEYS_READ (length c.reads)) (s.place.newest key) refl refl;
  fails = λ s c. read_fails (s.place.written key) (was_read c.reads key) (nat_le MAX_KEYS_READ (length c.reads)) (s.place.newest key) key gives c (bad (s.place.newest key));
  asks = λ s c. no_questions s;
}

-- ---- the builtins that read

gone_fails : (value : Value) → IsBad (unless_gone value)
gone_fails (values.Int z) = tt
gone_fails (values.Text text) = tt
gone_fails values.Gone = refl

version_fails : (held : Option Held) → IsBad (value_of_version held)
version_fails None = refl
version_fails (Some held) = gone_fails held.value

got_told : (key : List ℕ) (s : Scene) (c : Captured) (o : Option Value) → ToldTaken s c (λ t. value_got t.place key o c) (λ t. unput_lookup key o) (value_got s.place key o c) (unput_lookup key o)
got_told key s c None = (taken_read key value_of_version version_fails).told s c
got_told key s c (Some value) = (moves_same s c, λ t a. (refl, refl))

got_clear : (key : List ℕ) (s : Scene) (c : Captured) (o : Option Value)
    → TakenClear s (unput_lookup key o) (value_got s.place key o c)
got_clear key s c None = (taken_read key value_of_version version_fails).clear s c
got_clear key s c (Some value) = clear_by s no_lookups c (unless_gone value) (no_keys s c)

got_fails : (key : List ℕ) (s : Scene) (c : Captured) (o : Option Value)
    → IsBad (value_got s.place key o c).0
got_fails key s c None = (taken_read key value_of_version version_fails).fails s c
got_fails key s c (Some value) = gone_fails value

abbrev told_there : Option Held → Result Value TxStatus
told_there held = Ok (values.Int (truth (has_value held)))

held_told : (key : List ℕ) (s : Scene) (c : Captured) (o : Option Value) → ToldTaken s c (λ t. is_held t.place key o c) (λ t. unput_lookup key o) (is_held s.place key o c) (unput_lookup key o)
held_told key s c None = (taken_read key told_there (λ held. tt)).told s c
held_told key s c (Some value) = (moves_same s c, λ t a. (refl, refl))

held_clear : (key : List ℕ) (s : Scene) (c : Captured) (o : Option Value)
    → TakenClear s (unput_lookup key o) (is_held s.place key o c)
held_clear key s c None = (taken_read key told_there (λ held. tt)).clear s c
held_clear key s c (Some value) = no_keys s c

held_fails : (key : List ℕ) (s : Scene) (c : Captured) (o : Option Value)
    → IsBad (is_held s.place key o c).0
held_fails key s c None = (taken_read key told_there (λ held. tt)).fails s c
held_fails key s c (Some value) = tt

unput_asks : (s : Scene) (key : List ℕ) (o : Option Value) → AsksBefore s (unput_lookup key o)
unput_asks s key None = no_questions s
unput_asks s key (Some value) = no_questions s

taken_key : (r : Result (List ℕ) TxStatus) → IsBad r
    → (f : List ℕ → Scene → Captured → BuiltinResult)
    → ((key : List ℕ) → TameTaken (f key) (λ s c. unput_lookup key (pending c.puts key)))
    → TameTaken (λ s c. and_read r c (λ key. f key s c)) (λ s c. key_lookup r c)
taken_key (Ok key) bad f h = h key
taken_key (Err status) bad f h = taken_fixed (Err status) bad

taken_getting : (text : List ℕ)
    → TameTaken (λ s c. get_result s.place text c) (λ s c. key_lookup (key_of_text text) c)
taken_getting text = taken_key (key_of_text text) (key_fails text) (λ key s c. value_got s.place key (pending c.puts key) c)
    (λ key. record { told = λ s c. got_told key s c (pending c.puts key); clear = λ s c. got_clear key s c (pending c.puts key); fails = λ s c. got_fails key s c (pending c.puts key); asks = λ s c. unput_asks s key (pending c.puts key) })

pub taken_having : (text : List ℕ)
    → TameTaken (λ s c. has_result s.place text c) (λ s c. key_lookup (key_of_text text) c)
taken_having text = taken_key (key_of_text text) (key_fails text) (λ key s c. is_held s.place key (pending c.puts key) c)
    (λ key. record { told = λ s c. held_told key s c (pending c.puts key); clear = λ s c. held_clear key s c (pending c.puts key); fails = λ s c. held_fails key s c (pending c.puts key); asks = λ s c. unput_asks s key (pending c.puts key) })

kind_clear : (s : Scene) (lookups : Lookups) (kind : Value → Result Value TxStatus) (taken : BuiltinResult) → TakenClear s lookups taken → TakenClear s lookups (of_kind kind taken)
kind_clear s lookups kind (Ok value, c) h = clear_by s lookups c (kind value) h
kind_clear s lookups kind (Err status, c) h = tt

kind_fails : (kind : Value → Result Value TxStatus) → ((value : Value) → IsBad (kind value))
    → (taken : BuiltinResult) → IsBad taken.0 → IsBad (of_kind kind taken).0
kind_fails kind bad (Ok value, c) h = bad value
kind_fails kind bad (Err status, c) h = h

pub taken_of_kind : (kind : Value → Result Value TxStatus) → ((value : Value) → IsBad (kind value)) → (text : List ℕ) → TameTaken (λ s c. of_kind kind (get_result s.place text c)) (λ s c. key_lookup (key_of_text text) c)
taken_of_kind kind bad text =
    let h = taken_getting text in
    record {
      told = λ s c. let k = h.told s c in (k.0, λ t a. let l = k.1 t a in (ap (λ r. of_kind kind r) l.0, l.1));
      clear = λ s c. kind_clear s (key_lookup (key_of_text text) c) kind (get_result s.place text c) (h.clear s c);
      fails = λ s c. kind_fails kind bad (get_result s.place text c) (h.fails s c);
      asks = h.asks;
    }

pub taken_args : (o : Option (List ℕ)) (f : List ℕ → Scene → Captured → BuiltinResult)
    → ((text : List ℕ) → TameTaken (f text) (λ s c. key_lookup (key_of_text text) c))
    → TameTaken (λ s c. reading_args o c (λ text. f text s c)) (λ s c. read_lookup o c)
taken_args None f h = taken_fixed (Err WrongKind) refl
taken_args (Some text) f h = h text
