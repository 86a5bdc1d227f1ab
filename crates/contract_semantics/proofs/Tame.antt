-- Each step is tame: what it records determines it, it only adds reads, and a larger budget changes
-- nothing.
use Rattle.std.proofs.Common.{◌≡◌, ◌+◌, ◌-◌, ◌≤◌, ◌<◌, ℕ, ℤ, Bool, true, false, List, [], ◌++◌, Contains, Option, Some, None, Result, Ok, Err, refl, sym, ap, ap₂, subst, ◌∙◌, arith, true≢false, append-nil, append_assoc, le_refl, le_trans, not-suc-le-zero, if◌then◌else◌, ◌||◌, ⊎_elim}
use Rattle.std.specs.Prelude.{nat_le}
use Rattle.std.specs.List.{All}
use Rattle.std.proofs.lemmas.Bool.{or_left, or_right}
use Rattle.std.proofs.lemmas.Bool.Decides.{nat_tests}
use Rattle.std.proofs.lemmas.List.Elements.{All-nil, All-append, Contains-append_left, Contains-append_right, Contains-append_cases}
use Rattle.std.proofs.lemmas.List.Folds.{list_any-append}
use Rattle.lc_base.specs.History.{scan}
use Rattle.lc_base.specs.declared.answer.Query.{Query}
use Rattle.lc_base.specs.declared.value.Value.{Value}
use Rattle.lc_base.specs.declared.value.Value.TheVariants as values
use Rattle.lc_base.specs.declared.tx_status.TxStatus.{TxStatus}
use Rattle.lc_base.specs.declared.tx_status.TxStatus.TheVariants as statuses
use Rattle.dep_capture.specs.Captured.{Captured, WasBacked}
use Rattle.dep_capture.specs.Capture.{was_read, was_put}
use Rattle.dep_capture.specs.declared.access.Read.{Read}
use Rattle.dep_capture.specs.declared.access.Put.{Put}
use Rattle.contract_semantics.specs.Scenes.{Scene}
use Rattle.contract_semantics.specs.Reading.{block_of}
use Rattle.contract_semantics.specs.Steps.{Machine, Step, Done, Failed, after, and_then, after_charge, step_of_result}
use Rattle.contract_semantics.specs.Expressions.{unless_decided}
use Rattle.contract_semantics.specs.Laws.{IsOwnAndUnwritten}
use Rattle.contract_semantics.specs.Lookups.{Lookups, no_lookups, lookups_of_both, then_lookups}
use Rattle.contract_semantics.specs.Lookups.{charged_lookups, undecided_lookups}

-- ---- what a step does to a capture

-- What was read before is a prefix of what is read after.
abbrev pub Grows : List Read → List Read → Type 0
Grows old new = (added : List Read) × (new ≡ old ++ added)

-- Each dependency of each put is a read.
abbrev pub IsBacked : Captured → Type 0
IsBacked c = All (λ (put : Put). All (WasBacked c.reads) put.deps) c.puts

-- A read has the version that its key had before the block.
abbrev pub IsOf : Scene → Read → Type 0
IsOf s read = read.version ≡ block_of (s.place.newest read.key)

-- Reads are only added; a key that was put stays put, maybe with another value; what held of reads,
-- puts, and dependencies still holds.
pub record Moves (s : Scene) (old new : Captured) : Type 0 where
  pub reads : Grows old.reads new.reads
  pub puts : (key : List ℕ) → was_put old.puts key ≡ true → was_put new.puts key ≡ true
  pub backed : IsBacked old → IsBacked new
  pub truth : All (IsOf s) old.reads → All (IsOf s) new.reads
  pub fresh : All (IsOwnAndUnwritten s) old.puts → All (IsOwnAndUnwritten s) new.puts

pub grows_same : (xs : List Read) → Grows xs xs
grows_same xs = ([], sym (append-nil xs))

pub grows_then : (xs ys zs : List Read) → Grows xs ys → Grows ys zs → Grows xs zs
grows_then xs ys zs (a, p) (b, q) = (a ++ b, q ∙ ap (λ r. r ++ b) p ∙ append_assoc xs a b)

-- A key that was read is still read after more reads.
pub still_read : (xs ys : List Read) (key : List ℕ) → Grows xs ys → was_read xs key ≡ true → was_read ys key ≡ true
still_read xs ys key (a, p) h = ap (λ r. was_read r key) p ∙ list_any-append _ xs a ∙ or_left _ _ h

pub moves_same : (s : Scene) (c : Captured) → Moves s c c
moves_same s c = record { reads = grows_same c.reads; puts = λ key h. h; backed = λ h. h; truth = λ h. h; fresh = λ h. h }

pub moves_then : (s : Scene) (a b c : Captured) → Moves s a b → Moves s b c → Moves s a c
moves_then s a b c h k = record {
  reads = grows_then a.reads b.reads c.reads h.reads k.reads;
  puts = λ key l. k.puts key (h.puts key l);
  backed = λ l. k.backed (h.backed l);
  truth = λ l. k.truth (h.truth l);
  fresh = λ l. k.fresh (h.fresh l);
}

-- ---- scenes that agree on what is recorded

pub record Agree (s t : Scene) (lookups : Lookups) (reads : List Read) : Type 0 where
  pub number : t.site.number ≡ s.site.number
  pub contract : t.site.contract ≡ s.site.contract
  pub sender : t.site.sender ≡ s.site.sender
  pub newest : (key : List ℕ) → was_read reads key ≡ true → t.place.newest key ≡ s.place.newest key
  pub history : (query : Query) → Contains lookups.asked query → scan t.rows query ≡ scan s.rows query
  pub written : (key : List ℕ) → Contains lookups.met key → t.place.written key ≡ s.place.written key

pub agree_first : {s t : Scene} (l k : Lookups) (xs ys : List Read) → Grows xs ys → Agree s t (lookups_of_both l k) ys → Agree s t l xs
agree_first l k xs ys g a = record {
  number = a.number;
  contract = a.contract;
  sender = a.sender;
  newest = λ key h. a.newest key (still_read xs ys key g h);
  history = λ query h. a.history query (Contains-append_left l.asked k.asked query h);
  written = λ key h. a.written key (Contains-append_left l.met k.met key h);
}

pub agree_second : {s t : Scene} (l k : Lookups) (xs : List Read) → Agree s t (lookups_of_both l k) xs → Agree s t k xs
agree_second l k xs a = record {
  number = a.number;
  contract = a.contract;
  sender = a.sender;
  newest = a.newest;
  history = λ query h. a.history query (Contains-append_right l.asked k.asked query h);
  written = λ key h. a.written key (Contains-append_right l.met k.met key h);
}

-- What a step records determines it: it is the same in each scene that agrees on that.
abbrev pub Told : {A : Type 0} → Scene → Machine → (Scene → Step A) → (Scene → Lookups) → Step A → Lookups → Type 0
Told s m again look step lookups =
    Moves s m.capture (after step).capture
    × ((t : Scene) → Agree s t lookups (after step).capture.reads → (again t ≡ step) × (look t ≡ lookups))

-- ---- keys met by a step that is done

-- Each key that was met is unwritten, and was read or put.
abbrev pub AreClear : Scene → Lookups → Captured → Type 0
AreClear s lookups c = (key : List ℕ) → Contains lookups.met key → (s.place.written key ≡ false) × ((was_read c.reads key || was_put c.puts key) ≡ true)

abbrev pub EndsClear : {A : Type 0} → Scene → Lookups → Step A → Type 0
EndsClear s lookups (Done x n) = AreClear s lookups n.capture
EndsClear s lookups (Failed status n) = Unit {0}

pub no_keys : (s : Scene) (c : Captured) → AreClear s no_lookups c
no_keys s c key (k, lt, e) = absurd (not-suc-le-zero lt)

or_both : (a b c d : Bool) → (a ≡ true → c ≡ true) → (b ≡ true → d ≡ true) → (a || b) ≡ true → (c || d) ≡ true
or_both true b c d f g h = or_left c d (f refl)
or_both false b c d f g h = or_right c d (g h)

pub clear_later : (s : Scene) (lookups : Lookups) (b c : Captured) → Moves s b c → AreClear s lookups b → AreClear s lookups c
clear_later s lookups b c moves h key there = ((h key there).0, or_both _ _ _ _ (still_read b.reads c.reads key moves.reads) (moves.puts key) (h key there).1)

pub clear_both : (s : Scene) (l k : Lookups) (c : Captured) → AreClear s l c → AreClear s k c → AreClear s (lookups_of_both l k) c
clear_both s l k c h j key there = ⊎_elim (h key) (j key) (Contains-append_cases l.met k.met key there)

-- ---- larger budgets

abbrev pub is_out_of_steps : TxStatus → Bool
is_out_of_steps statuses.OutOfSteps = true
is_out_of_steps _ = false

-- The step failed because the budget was too small.
abbrev pub ran_out : {A : Type 0} → Step A → Bool
ran_out (Done x m) = false
ran_out (Failed status m) = is_out_of_steps status

-- The machine with `k` more left.
abbrev pub richer : ℕ → Machine → Machine
richer k m = record m { left = m.left + k }

abbrev pub raised : {A : Type 0} → ℕ → Step A → Step A
raised k (Done x m) = Done x (richer k m)
raised k (Failed status m) = Failed status (richer k m)

-- ---- failures

abbrev pub is_ok_status : TxStatus → Bool
is_ok_status statuses.Ok = true
is_ok_status _ = false

-- If a result is a failure, its status isn't Ok.
abbrev pub IsBad : {A : Type 0} → Result A TxStatus → Type 0
IsBad (Ok x) = Unit {0}
IsBad (Err status) = is_ok_status status ≡ false

-- If a step fails, its status isn't Ok.
abbrev pub FailsBadly : {A : Type 0} → Step A → Type 0
FailsBadly (Done x n) = Unit {0}
FailsBadly (Failed status n) = is_ok_status status ≡ false

-- ---- questions

-- Each question is about a block before the call's own.
abbrev pub AsksBefore : Scene → Lookups → Type 0
AsksBefore s lookups = All (λ (query : Query). query.at < s.site.number) lookups.asked

pub no_questions : (s : Scene) → AsksBefore s no_lookups
no_questions s = All-nil (λ (query : Query). query.at < s.site.number)

-- ---- what holds of each computation with its lookups

pub record Tame {A : Type 0} (f : Scene → Machine → Step A) (look : Scene → Machine → Lookups) : Type 0 where
  pub told : (s : Scene) (m : Machine) → Told s m (λ t. f t m) (λ t. look t m) (f s m) (look s m)
  pub lowers : (s : Scene) (m : Machine) → (after (f s m)).left ≤ m.left
  pub scales : (k : ℕ) (s : Scene) (m : Machine) → ran_out (f s m) ≡ false → f s (richer k m) ≡ raised k (f s m)
  pub clear : (s : Scene) (m : Machine) → EndsClear s (look s m) (f s m)
  pub fails : (s : Scene) (m : Machine) → FailsBadly (f s m)
  pub asks : (s : Scene) (m : Machine) → AsksBefore s (look s m)

pub tame_done : {A : Type 0} (x : A) → Tame (λ s m. Done x m) (λ s m. no_lookups)
tame_done x = record {
  told = λ s m. (moves_same s m.capture, λ t a. (refl, refl));
  lowers = λ s m. le_refl m.left;
  scales = λ k s m o. refl;
  clear = λ s m. no_keys s m.capture;
  fails = λ s m. tt;
  asks = λ s m. no_questions s;
}

pub tame_failed : (A : Type 0) (status : TxStatus) → is_ok_status status ≡ false → Tame {A = A} (λ s m. Failed status m) (λ s m. no_lookups)
tame_failed A status bad = record {
  told = λ s m. (moves_same s m.capture, λ t a. (refl, refl));
  lowers = λ s m. le_refl m.left;
  scales = λ k s m o. refl;
  clear = λ s m. tt;
  fails = λ s m. bad;
  asks = λ s m. no_questions s;
}

pub tame_given : {A : Type 0} (r : Result A TxStatus) → IsBad r → Tame (λ s m. step_of_result r m) (λ s m. no_lookups)
tame_given (Ok x) bad = tame_done x
tame_given {A} (Err status) bad = tame_failed A status bad

-- ---- charges

still_enough : (n k left : ℕ) → nat_le n left ≡ true → nat_le n (left + k) ≡ true
still_enough n k left h = grind (arith, nat_tests)

what_is_left : (n k left : ℕ) → nat_le n left ≡ true → left + k - n ≡ left - n + k
what_is_left n k left h = grind (arith, nat_tests)

abbrev pub paid : ℕ → Machine → Machine
paid n m = record m { left = m.left - n }

-- A charge, given whether it can be taken.
abbrev pub charge_by : {A : Type 0} → Bool → ℕ → Machine → (Machine → Step A) → Step A
charge_by b n m next = if b then next (paid n m) else Failed statuses.OutOfSteps m

abbrev look_by : Bool → ℕ → Machine → (Machine → Lookups) → Lookups
look_by b n m next = if b then next (paid n m) else no_lookups

charged_told : {A : Type 0} (n : ℕ) (f : Scene → Machine → Step A) (look : Scene → Machine → Lookups) (s : Scene) (m : Machine) (b : Bool)
    → Told s (paid n m) (λ t. f t (paid n m)) (λ t. look t (paid n m)) (f s (paid n m)) (look s (paid n m))
    → Told s m (λ t. charge_by b n m (f t)) (λ t. look_by b n m (look t)) (charge_by b n m (f s)) (look_by b n m (look s))
charged_told n f look s m true h = h
charged_told n f look s m false h = (moves_same s m.capture, λ t a. (refl, refl))

charged_lowers : {A : Type 0} (n : ℕ) (f : Machine → Step A) (m : Machine) (b : Bool) → (after (f (paid n m))).left ≤ m.left - n → (after (charge_by b n m f)).left ≤ m.left
charged_lowers n f m true h = omega (arith, h)
charged_lowers n f m false h = le_refl m.left

charged_scales : {A : Type 0} (n k : ℕ) (f : Machine → Step A) (m : Machine) (b : Bool) → nat_le n m.left ≡ b → (ran_out (f (paid n m)) ≡ false → f (richer k (paid n m)) ≡ raised k (f (paid n m)))
    → ran_out (charge_by b n m f) ≡ false → after_charge n (richer k m) f ≡ raised k (charge_by b n m f)
charged_scales n k f m true e h o = rw (still_enough n k m.left e, what_is_left n k m.left e) (h o)
charged_scales n k f m false e h o = absurd (true≢false o)

charged_clear : {A : Type 0} (n : ℕ) (f : Scene → Machine → Step A) (look : Scene → Machine → Lookups) (s : Scene) (m : Machine) (b : Bool)
    → EndsClear s (look s (paid n m)) (f s (paid n m)) → EndsClear s (look_by b n m (look s)) (charge_by b n m (f s))
charged_clear n f look s m true h = h
charged_clear n f look s m false h = tt

charged_asks : (n : ℕ) (look : Scene → Machine → Lookups) (s : Scene) (m : Machine) (b : Bool) → AsksBefore s (look s (paid n m)) → AsksBefore s (look_by b n m (look s))
charged_asks n look s m true h = h
charged_asks n look s m false h = no_questions s

charged_fails : {A : Type 0} (n : ℕ) (f : Machine → Step A) (m : Machine) (b : Bool) → FailsBadly (f (paid n m)) → FailsBadly (charge_by b n m f)
charged_fails n f m true h = h
charged_fails n f m false h = refl

pub tame_charged : {A : Type 0} (n : ℕ) {f : Scene → Machine → Step A} {look : Scene → Machine → Lookups} → Tame f look → Tame (λ s m. after_charge n m (f s)) (λ s m. charged_lookups n m (look s))
tame_charged {A} n {f} {look} h = record {
  told = λ s m. charged_told n f look s m (nat_le n m.left) (h.told s (paid n m));
  lowers = λ s m. charged_lowers n (f s) m (nat_le n m.left) (h.lowers s (paid n m));
  scales = λ k s m o. charged_scales n k (f s) m (nat_le n m.left) refl (h.scales k s (paid n m)) o;
  clear = λ s m. charged_clear n f look s m (nat_le n m.left) (h.clear s (paid n m));
  fails = λ s m. charged_fails n (f s) m (nat_le n m.left) (h.fails s (paid n m));
  asks = λ s m. charged_asks n look s m (nat_le n m.left) (h.asks s (paid n m));
}

-- A charge before a step that looks nothing up.
quiet_by : (b : Bool) (n : ℕ) (m : Machine) → look_by b n m (λ m. no_lookups) ≡ no_lookups
quiet_by true n m = refl
quiet_by false n m = refl

-- ---- the same lookups, written differently

told_as : {A : Type 0} (s : Scene) (m : Machine) (again : Scene → Step A) (look look' : Scene → Lookups) (step : Step A) → ((t : Scene) → look t ≡ look' t) → Told s m again look step (look s) → Told s m again look' step (look' s)
told_as s m again look look' step e h = (
  h.0,
  λ t a.
      let k = h.1 t (subst (λ l. Agree s t l (after step).capture.reads) (sym (e s)) a) in
      (k.0, sym (e t) ∙ k.1 ∙ e s),
)

pub tame_as : {A : Type 0} {f : Scene → Machine → Step A} {look : Scene → Machine → Lookups} (look' : Scene → Machine → Lookups) → ((s : Scene) (m : Machine) → look s m ≡ look' s m) → Tame f look → Tame f look'
tame_as {A} {f} {look} look' e h = record {
  told = λ s m. told_as s m (λ t. f t m) (λ t. look t m) (λ t. look' t m) (f s m) (λ t. e t m) (h.told s m);
  lowers = h.lowers;
  scales = h.scales;
  clear = λ s m. subst (λ l. EndsClear s l (f s m)) (e s m) (h.clear s m);
  fails = h.fails;
  asks = λ s m. subst (AsksBefore s) (e s m) (h.asks s m);
}

pub tame_charged_quiet : {A : Type 0} (n : ℕ) {f : Scene → Machine → Step A} → Tame f (λ s m. no_lookups) → Tame (λ s m. after_charge n m (f s)) (λ s m. no_lookups)
tame_charged_quiet n h = tame_as (λ s m. no_lookups) (λ s m. quiet_by (nat_le n m.left) n m) (tame_charged n h)

-- ---- one step after another

then_told : {A B : Type 0} (s : Scene) (m : Machine) (again : Scene → Step A) (look : Scene → Lookups) (g : A → Scene → Machine → Step B) (next : A → Scene → Machine → Lookups)
    → ((x : A) (n : Machine) → Told s n (λ t. g x t n) (λ t. next x t n) (g x s n) (next x s n))
    → (step : Step A) (lookups : Lookups) → Told s m again look step lookups
    → Told s m (λ t. and_then (again t) (λ x m. g x t m)) (λ t. then_lookups (look t) (again t) (λ x m. next x t m)) (and_then step (λ x m. g x s m)) (then_lookups lookups step (λ x m. next x s m))
then_told s m again look g next h (Done x n) lookups k =
    let l = h x n in
    let later : Captured = (after (g x s n)).capture in (
      moves_then s m.capture n.capture later k.0 l.0,
      λ t a.
          let first = k.1 t (agree_first lookups (next x s n) n.capture.reads later.reads l.0.reads a) in
          let second = l.1 t (agree_second lookups (next x s n) later.reads a) in (
            ap (λ step. and_then step (λ x m. g x t m)) first.0 ∙ second.0,
            ap₂ (λ look step. then_lookups look step (λ x m. next x t m)) first.1 first.0 ∙ ap (lookups_of_both lookups) second.1,
          ),
    )
then_told s m again look g next h (Failed status n) lookups k = (
  k.0,
  λ t a. let first = k.1 t a in (
    ap (λ step. and_then step (λ x m. g x t m)) first.0,
    ap₂ (λ look step. then_lookups look step (λ x m. next x t m)) first.1 first.0,
  ),
)

pub then_lowers : {A B : Type 0} (step : Step A) (g : A → Machine → Step B) (left : ℕ) → ((x : A) (n : Machine) → (after (g x n)).left ≤ n.left) → (after step).left ≤ left → (after (and_then step g)).left ≤ left
then_lowers (Done x n) g left h k = le_trans (h x n) k
then_lowers (Failed status n) g left h k = k

pub then_scales : {A B : Type 0} (k : ℕ) (step step' : Step A) (g g' : A → Machine → Step B) → (ran_out step ≡ false → step' ≡ raised k step) → ((x : A) (n : Machine) → ran_out (g x n) ≡ false → g' x (richer k n) ≡ raised k (g x n))
    → ran_out (and_then step g) ≡ false → and_then step' g' ≡ raised k (and_then step g)
then_scales k (Done x n) step' g g' h j o = ap (λ step. and_then step g') (h refl) ∙ j x n o
then_scales k (Failed status n) step' g g' h j o = ap (λ step. and_then step g') (h o)

last_clear : {B : Type 0} (s : Scene) (l k : Lookups) (b : Captured) (step : Step B) → Moves s b (after step).capture → AreClear s l b → EndsClear s k step → EndsClear s (lookups_of_both l k) step
last_clear s l k b (Done y n) moves h j = clear_both s l k n.capture (clear_later s l b n.capture moves h) j
last_clear s l k b (Failed status n) moves h j = tt

then_clear : {A B : Type 0} (s : Scene) (step : Step A) (lookups : Lookups) (g : A → Machine → Step B) (next : A → Machine → Lookups)
    → ((x : A) (n : Machine) → Moves s n.capture (after (g x n)).capture × EndsClear s (next x n) (g x n))
    → EndsClear s lookups step → EndsClear s (then_lookups lookups step next) (and_then step g)
then_clear s (Done x n) lookups g next h k = last_clear s lookups (next x n) n.capture (g x n) (h x n).0 k (h x n).1
then_clear s (Failed status n) lookups g next h k = tt

then_asks : {A : Type 0} (s : Scene) (lookups : Lookups) (step : Step A) (next : A → Machine → Lookups) → ((x : A) (n : Machine) → AsksBefore s (next x n)) → AsksBefore s lookups → AsksBefore s (then_lookups lookups step next)
then_asks s lookups (Done x n) next h k = All-append (λ (query : Query). query.at < s.site.number) lookups.asked (next x n).asked k (h x n)
then_asks s lookups (Failed status n) next h k = k

then_fails : {A B : Type 0} (step : Step A) (g : A → Machine → Step B) → ((x : A) (n : Machine) → FailsBadly (g x n)) → FailsBadly step → FailsBadly (and_then step g)
then_fails (Done x n) g h k = h x n
then_fails (Failed status n) g h k = k

pub tame_then : {A B : Type 0} {f : Scene → Machine → Step A} {look : Scene → Machine → Lookups} {g : A → Scene → Machine → Step B} {next : A → Scene → Machine → Lookups}
    → Tame f look → ((x : A) → Tame (g x) (next x)) → Tame (λ s m. and_then (f s m) (λ x m. g x s m)) (λ s m. then_lookups (look s m) (f s m) (λ x m. next x s m))
tame_then {A} {B} {f} {look} {g} {next} h j = record {
  told = λ s m. then_told s m (λ t. f t m) (λ t. look t m) g next (λ x n. (j x).told s n) (f s m) (look s m) (h.told s m);
  lowers = λ s m. then_lowers (f s m) (λ x m. g x s m) m.left (λ x n. (j x).lowers s n) (h.lowers s m);
  scales = λ k s m o. then_scales k (f s m) (f s (richer k m)) (λ x m. g x s m) (λ x m. g x s m) (h.scales k s m) (λ x n. (j x).scales k s n) o;
  clear = λ s m. then_clear s (f s m) (look s m) (λ x m. g x s m) (λ x m. next x s m) (λ x n. (((j x).told s n).0, (j x).clear s n)) (h.clear s m);
  fails = λ s m. then_fails (f s m) (λ x m. g x s m) (λ x n. (j x).fails s n) (h.fails s m);
  asks = λ s m. then_asks s (look s m) (f s m) (λ x m. next x s m) (λ x n. (j x).asks s n) (h.asks s m);
}

-- If the second step looks nothing up.
joined_none : (l : Lookups) → lookups_of_both l no_lookups ≡ l
joined_none l = ap₂ (λ asked met. record { asked = asked; met = met }) (append-nil l.asked) (append-nil l.met)

last_quiet : {A : Type 0} (l : Lookups) (step : Step A) → then_lookups l step (λ x m. no_lookups) ≡ l
last_quiet l (Done x m) = joined_none l
last_quiet l (Failed status m) = refl

pub tame_then_quiet : {A B : Type 0} {f : Scene → Machine → Step A} {look : Scene → Machine → Lookups} {g : A → Scene → Machine → Step B}
    → Tame f look → ((x : A) → Tame (g x) (λ s m. no_lookups)) → Tame (λ s m. and_then (f s m) (λ x m. g x s m)) look
tame_then_quiet {A} {B} {f} {look} {g} h j = tame_as look (λ s m. last_quiet (look s m) (f s m)) (tame_then {g = g} {next = λ x s m. no_lookups} h j)

-- ---- choices

pub tame_if : {A : Type 0} (b : Bool) {f g : Scene → Machine → Step A} {look next : Scene → Machine → Lookups} → Tame f look → Tame g next → Tame (λ s m. if b then f s m else g s m) (λ s m. if b then look s m else next s m)
tame_if true h j = h
tame_if false h j = j

pub tame_unless : (d : Option ℤ) {f : Scene → Machine → Step Value} {look : Scene → Machine → Lookups} → Tame f look → Tame (λ s m. unless_decided d (f s m) m) (λ s m. undecided_lookups d (look s m))
tame_unless None h = h
tame_unless (Some z) h = tame_done (values.Int z)
