-- Reading stops where the longest prefix that is fields ends.
use Rattle.std.proofs.Common.{◌≡◌, ℕ, ◌-◌, ◌≤◌, List, ◌++◌, length, take, drop, Ok, Err, refl, sym, ap, subst, ◌∙◌, arith}
use Rattle.std.specs.List.{concat}
use Rattle.std.proofs.lemmas.List.{length-append, length-drop, take-append-drop, take_at, take_all}
use Rattle.byte_fields.specs.Reading.{Field}
use Rattle.byte_fields.specs.Prefixes.{IsGoodPrefix, IsLongestPrefix}
use Rattle.byte_fields.specs.Spelling.{IsBytes}
use Rattle.byte_fields.proofs.Laws.{IsField, Stops, left_of}

module _ {A : Type 0} {read : List ℕ → Field A} {fields : A → List (List ℕ)} {Is : A → Type 0} (field : IsField read fields Is) (bytes : List ℕ) (fits : IsBytes bytes) where
  -- what was read, or what precedes the fault, is whole fields
  stopped : (r : Field A) → read bytes ≡ r → Stops fields Is bytes (left_of r)
  stopped (Ok x) e =
      let t = field.takes bytes x.0 x.1 fits e in
      let all : take (length (fields x.0)) (fields x.0) ≡ fields x.0 = take_all (length (fields x.0)) (fields x.0) (omega arith) in
      record { value = x.0; is = t.is; whole = length (fields x.0); rest = x.1; parts = t.parts ∙ ap (λ (f : List (List ℕ)). concat f ++ x.1) (sym all); left_is = refl }
  stopped (Err left) e = field.stops bytes left fits e

  good_prefix : (n : ℕ) → n ≡ length bytes - left_of (read bytes) → IsGoodPrefix fields Is bytes n
  good_prefix n e =
      let s = stopped (read bytes) refl in
      let prefix : List ℕ = concat (take s.whole (fields s.value)) in
      let long : length prefix ≡ n = omega (arith, s.left_is, ap length s.parts, length-append prefix s.rest) in
      record { within = omega arith; value = s.value; lawful = s.is; whole = s.whole; prefix = ap (take n) s.parts ∙ take_at prefix s.rest n long }

  no_longer : (m : ℕ) → IsGoodPrefix fields Is bytes m → m ≤ length bytes - left_of (read bytes)
  no_longer m prefix =
      let parts : bytes ≡ concat (take prefix.whole (fields prefix.value)) ++ drop m bytes = sym (take-append-drop m bytes) ∙ ap (λ (t : List ℕ). t ++ drop m bytes) prefix.prefix in
      let far = field.most bytes prefix.value prefix.whole (drop m bytes) fits prefix.lawful parts in
      omega (arith, far, prefix.within, length-drop m bytes)

  pub longest_prefix : (n : ℕ) → n ≡ length bytes - left_of (read bytes) → IsLongestPrefix fields Is bytes n
  longest_prefix n e = record { good = good_prefix n e; longest = λ m prefix. subst (λ (k : ℕ). m ≤ k) (sym e) (no_longer m prefix) }

  -- what is left is no longer than what there was
  pub left_within : left_of (read bytes) ≤ length bytes
  left_within = let s = stopped (read bytes) refl in omega (arith, s.left_is, ap length s.parts, length-append (concat (take s.whole (fields s.value))) s.rest)
