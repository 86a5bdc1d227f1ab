-- Bytes that were taken of a source, one part after another.
use Rattle.std.proofs.Common.{
  ◌≡◌,
  ℕ,
  ◌+◌,
  ◌-◌,
  ◌<◌,
  ◌≤◌,
  List,
  [],
  ◌++◌,
  length,
  take,
  drop,
  refl,
  sym,
  ap,
  subst,
  ◌∙◌,
  arith,
}
use Rattle.std.specs.Prelude.{Option, Some, None, IfSome, min}
use Rattle.std.proofs.lemmas.List.{append_assoc, append-nil, take_at, drop_at, length-append}
use Rattle.lc_base.specs.Faults.{HasCause}
use Rattle.lc_io.specs.Outside.{prepend}
use Rattle.light_client.specs.declared.error.LightError.{LightError}
use Rattle.light_client.specs.declared.error.LightError.TheVariants as errors
use Rattle.light_client.specs.Reading.{IsEndOf, HasTaken, HasStopped}

pub if_some : (P : List ℕ → Type 0) (o : Option (List ℕ))
    → ((input : List ℕ) → o ≡ Some input → P input) → IfSome o P
if_some P None holds = tt
if_some P (Some input) holds = holds input refl

-- what holds of what is left is told for what is known to be left
pub at_some : (P : List ℕ → Type 0) (o : Option (List ℕ)) (input : List ℕ) → o ≡ Some input
    → IfSome o P → P input
at_some P o input is holds = subst (λ (o : Option (List ℕ)). IfSome o P) is holds

-- a count of faults stays over a call that blames nobody
pub unblamed : (before now : ℕ) (Blames : Type 0) → (Blames → ⊥) → HasCause before now Blames
    → now ≡ before
unblamed before now Blames nobody cause = grind (arith, cause.told, cause.later, nobody)

prepend-prepend : (a b : List ℕ) (left : Option (List ℕ))
    → prepend a (prepend b left) ≡ prepend (a ++ b) left
prepend-prepend a b None = refl
prepend-prepend a b (Some left) = ap Some (sym (append_assoc a b left))

-- bytes were taken, and then others
pub both_taken : (first before now : Option (List ℕ)) (a b : List ℕ) → first ≡ prepend a before
    → before ≡ prepend b now → first ≡ prepend (a ++ b) now
both_taken first before now a b one two = one ∙ ap (prepend a) two ∙ prepend-prepend a b now

-- bytes were taken, and then a call stopped
pub stopped_after : (count more whole : ℕ) (first before now : Option (List ℕ)) (bytes : List ℕ)
    (error : LightError) → length bytes ≡ count → count + more ≤ whole
    → first ≡ prepend bytes before → HasStopped more before error now
    → HasStopped whole first error now
stopped_after count more whole first before now bytes errors.Form size within taken stopped = (
  bytes ++ stopped.0,
  omega (arith, size, within, stopped.1, length-append bytes stopped.0),
  both_taken first before now bytes stopped.0 taken stopped.2,
  stopped.3,
)
stopped_after count more whole first before now bytes errors.Fault size within taken stopped =
    (bytes ++ stopped.0, both_taken first before now bytes stopped.0 taken stopped.1)
stopped_after count more whole first before now bytes errors.Memory size within taken stopped =
    (bytes ++ stopped.0, both_taken first before now bytes stopped.0 taken stopped.1)

-- a call that was to take more stopped too
pub stopped_sooner : (count whole : ℕ) (first now : Option (List ℕ)) (error : LightError)
    → count ≤ whole → HasStopped count first error now → HasStopped whole first error now
stopped_sooner count whole first now errors.Form within stopped =
    (stopped.0, omega (arith, within, stopped.1), stopped.2, stopped.3)
stopped_sooner count whole first now errors.Fault within stopped = stopped
stopped_sooner count whole first now errors.Memory within stopped = stopped

-- ---- of an input that is known

-- the first bytes of an input, with what is left of it
pub record AreFirst (count : ℕ) (input bytes : List ℕ) (left : Option (List ℕ)) : Type 0 where
  pub within : count ≤ length input
  pub bytes_are : bytes ≡ take count input
  pub left_is : left ≡ Some (drop count input)

unwrapped : (x y : List ℕ) → Some x ≡ Some y → x ≡ y
unwrapped x y is = cc is

pub taken_first : (count : ℕ) (input bytes : List ℕ) (left : Option (List ℕ)) → length bytes ≡ count
    → Some input ≡ prepend bytes left → AreFirst count input bytes left
taken_first count input bytes None size is = absurd (cc is)
taken_first count input bytes (Some rest) size is =
    let parts : input ≡ bytes ++ rest = unwrapped input (bytes ++ rest) is in
    record {
      within = omega (arith, size, ap (length {A = ℕ}) parts, length-append bytes rest);
      bytes_are = sym (ap (take count) parts ∙ take_at bytes rest count size);
      left_is = ap Some (sym (ap (drop count) parts ∙ drop_at bytes rest count size));
    }

pub taken_end : (input : List ℕ) (left : Option (List ℕ)) → HasTaken (Some input) left
    → IsEndOf input left
taken_end input None taken = absurd (cc taken.1)
taken_end input (Some rest) taken = (taken.0, rest, unwrapped input (taken.0 ++ rest) taken.1, refl)

-- the input was too short, and all of it was taken
pub stopped_short : (count : ℕ) (input : List ℕ) (left : Option (List ℕ))
    → HasStopped count (Some input) errors.Form left → (length input < count) × (left ≡ Some [])
stopped_short count input None stopped = absurd (cc stopped.2)
stopped_short count input (Some rest) stopped =
    let all : input ≡ stopped.0 = unwrapped input (stopped.0 ++ rest) stopped.2
    ∙ ap (λ (r : List ℕ). stopped.0 ++ r) stopped.3 ∙ append-nil stopped.0 in
    (omega (arith, stopped.1, ap (length {A = ℕ}) all), ap Some stopped.3)

-- ---- piece by piece

-- What was left at first is these bytes, no more than are wanted, and what is left now; no call has
-- failed.
pub record HasCome (first now : Option (List ℕ)) (faults_first faults_now size : ℕ)
    (bytes : List ℕ) : Type 0 where
  pub within : length bytes ≤ size
  pub taken : first ≡ prepend bytes now
  pub still : faults_now ≡ faults_first

pub none_came : (first : Option (List ℕ)) (faults size : ℕ)
    → HasCome first first faults faults size []
none_came None faults size = record { within = omega arith; taken = refl; still = refl }
none_came (Some input) faults size = record { within = omega arith; taken = refl; still = refl }

pub more_came : (first before now : Option (List ℕ))
    (faults_first faults_before faults_now size most : ℕ) (bytes piece : List ℕ)
    → HasCome first before faults_first faults_before size bytes
    → length piece ≡ min (size - length bytes) most → before ≡ prepend piece now
    → faults_now ≡ faults_before
    → HasCome first now faults_first faults_now size (bytes ++ piece)
more_came first before now faults_first faults_before faults_now size most bytes piece so_far
    piece_size pulled same = record {
      within = omega (arith, so_far.within, piece_size, length-append bytes piece);
      taken = both_taken first before now bytes piece so_far.taken pulled;
      still = same ∙ so_far.still;
    }
