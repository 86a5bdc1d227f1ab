-- What the head of some bytes says they are, and what opening them as a log yields.
use Rattle.std.proofs.Common.{◌≡◌, inl, inr, ℕ, zero, suc, ◌+◌, Bool, true, false, List, [], ◌∷◌}
use Rattle.std.proofs.Common.{length, take, drop, get_or, refl, sym, ◌∙◌, ap, arith}
use Rattle.std.specs.Prelude.{nat_lt, nat_le}
use Rattle.std.proofs.lemmas.Bool.Decides.{nat_tests}
use Rattle.std.proofs.lemmas.List.{length-take, get_or-take}
use Rattle.std.specs.Prelude.{◌==◌, if◌then◌else◌, Option, Some, slice_get}
use Rattle.std.proofs.lemmas.Bool.{cases_Bool}
use Rattle.block_codec.specs.Placement.{no_parent}
use Rattle.block_log.specs.declared.layout.TheConstants.{FIRST_GATE, MAX_RECORDS}
use Rattle.block_log.specs.declared.layout.Stored.{Stored}
use Rattle.block_log.specs.declared.reading.Head.TheVariants as heads
use Rattle.block_log.specs.Standing.{Blank, NotALog, is_log, is_blank, records_at, standing}
use Rattle.block_log.specs.Log.{AreStored, next_in_log}
use Rattle.block_log.specs.Reader.{AreRead, AreReadTo, reader_at, AreAll, blank_log, log_at}
use Rattle.block_log.specs.Reading.{head_of}

-- ---- the first nine bytes decide

front_eight : (image : List ℕ) → take 8 (take 9 image) ≡ take 8 image
front_eight [] = refl
front_eight (a ∷ []) = refl
front_eight (a ∷ b ∷ []) = refl
front_eight (a ∷ b ∷ c ∷ []) = refl
front_eight (a ∷ b ∷ c ∷ d ∷ []) = refl
front_eight (a ∷ b ∷ c ∷ d ∷ e ∷ []) = refl
front_eight (a ∷ b ∷ c ∷ d ∷ e ∷ f ∷ []) = refl
front_eight (a ∷ b ∷ c ∷ d ∷ e ∷ f ∷ g ∷ []) = refl
front_eight (a ∷ b ∷ c ∷ d ∷ e ∷ f ∷ g ∷ h ∷ image) = refl

after_gate : (image : List ℕ) → take 7 (drop 1 (take 9 image)) ≡ take 7 (drop 1 image)
after_gate image = sym (shifted (take 9 image)) ∙ ap (drop 1) (front_eight image) ∙ shifted image
  where
    shifted : (bytes : List ℕ) → drop 1 (take 8 bytes) ≡ take 7 (drop 1 bytes)
    shifted [] = refl
    shifted (a ∷ bytes) = refl

-- Nothing after the gate of the first record matters.
pub head_prefix : (image : List ℕ) → head_of (take 9 image) ≡ head_of image
unfolding head_of
head_prefix image =
    let long : nat_lt 8 (length (take 9 image)) ≡ nat_lt 8 (length image) = grind (arith, nat_tests, length-take 9 image) in
    let few : nat_le (length (take 9 image)) 1 ≡ nat_le (length image) 1 = grind (arith, nat_tests, length-take 9 image) in
    rw (long, few, front_eight image, after_gate image, get_or-take 9 image 0 1 (omega arith), get_or-take 9 image 0 165 (omega arith), get_or-take 9 image 8 165 (omega arith)) refl

-- ---- what the head says

-- A log stands for its records.
pub log_head : (image : List ℕ) → head_of image ≡ heads.Log
    → standing next_in_log image ≡ records_at next_in_log (MAX_RECORDS + 1) false FIRST_GATE [] (drop FIRST_GATE image)
unfolding head_of standing
log_head image is = elim (cases_Bool (is_log image)) [
  | inl opens ↦ rw opens refl
  | inr shut ↦ absurd (not_log (is_blank image) (get_or image 0 1 == 0) (sym (rw shut refl) ∙ is))
]
  where
    not_log : (blank begun : Bool) → (if blank then heads.Blank begun else heads.Other) ≡ heads.Log
        → ⊥
    not_log true begun is = cc is
    not_log false begun is = cc is

pub blank_head : (image : List ℕ) (begun : Bool) → head_of image ≡ heads.Blank begun
    → (standing next_in_log image ≡ Blank) × (begun ≡ (get_or image 0 1 == 0))
unfolding head_of standing
blank_head image begun is = elim (cases_Bool (is_log image)) [
  | inl opens ↦ absurd (log_is_other begun (sym (rw opens refl) ∙ is))
  | inr shut ↦ elim (cases_Bool (is_blank image)) [
    | inl blank ↦ (rw (shut, blank) refl, sym (same _ _ (sym (rw (shut, blank) refl) ∙ is)))
    | inr not_blank ↦ absurd (other begun (sym (rw (shut, not_blank) refl) ∙ is))
  ]
]
  where
    log_is_other : (begun : Bool) → heads.Log ≡ heads.Blank begun → ⊥
    log_is_other begun is = cc is

    other : (begun : Bool) → heads.Other ≡ heads.Blank begun → ⊥
    other begun is = cc is

    same : (a b : Bool) → heads.Blank a ≡ heads.Blank b → a ≡ b
    same a b is = cc is

pub other_head : (image : List ℕ) → head_of image ≡ heads.Other
    → standing next_in_log image ≡ NotALog
unfolding head_of standing
other_head image is = elim (cases_Bool (is_log image)) [
  | inl opens ↦ absurd (log_is_other (sym (rw opens refl) ∙ is))
  | inr shut ↦ elim (cases_Bool (is_blank image)) [
    | inl blank ↦ absurd (blank_is_other (get_or image 0 1 == 0) (sym (rw (shut, blank) refl) ∙ is))
    | inr not_blank ↦ rw (shut, not_blank) refl
  ]
]
  where
    log_is_other : heads.Log ≡ heads.Other → ⊥
    log_is_other is = cc is

    blank_is_other : (begun : Bool) → heads.Blank begun ≡ heads.Other → ⊥
    blank_is_other begun is = cc is

-- ---- what opening a log returns

none_stored : AreStored []
none_stored = record { chained = λ i s at. absurd (none_at i s at); digests_are = refl; lawful = λ i s at. absurd (none_at i s at) }
  where
    none_at : (i : ℕ) (s : Stored) → slice_get [] i ≡ Some s → ⊥
    none_at zero s at = cc at
    none_at (suc i) s at = cc at

-- A log of which no block has been read.
first_read : (content : Option (List ℕ))
    → ((image : List ℕ) → content ≡ Some image → head_of image ≡ heads.Log)
    → AreReadTo (log_at FIRST_GATE 0 no_parent false) content []
first_read content is = record {
  are_stored = none_stored;
  held = record { count_is = refl; last_is = refl; fits = λ unmarked. refl; headless = λ is. refl };
  stands = λ image told. log_head image (is image told);
}

-- The reader of that, which has read nothing ahead.
pub just_opened : (content : Option (List ℕ))
    → ((image : List ℕ) → content ≡ Some image → head_of image ≡ heads.Log)
    → AreRead (reader_at FIRST_GATE 0 no_parent false []) content []
just_opened content is = record { read = first_read content is; ahead = λ image told. record { count = 0; is = refl } }

-- No log yet.
pub blank_started : (content : Option (List ℕ)) (begun : Bool)
    → ((image : List ℕ) → content ≡ Some image → head_of image ≡ heads.Blank begun)
    → AreAll (blank_log begun) content []
blank_started content begun is = record {
  are_stored = none_stored;
  held = record { count_is = refl; last_is = refl; fits = λ unmarked. refl; headless = λ is. refl };
  started = λ image told.
      let blank = blank_head image begun (is image told) in
      (record { stands = blank.0; begun_is = blank.1 }, refl);
}
