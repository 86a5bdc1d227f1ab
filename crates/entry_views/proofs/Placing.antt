-- A value is read from an offset on exactly if its fields are there.
use Rattle.std.proofs.Common.{◌≡◌, ℕ, ◌+◌, ◌-◌, ◌≤◌, List, ◌++◌, length, take, drop, Result, Ok, Err, refl, sym, ap, subst, ◌∙◌, arith}
use Rattle.std.specs.Prelude.{IfOk, IfErr}
use Rattle.std.specs.List.{concat}
use Rattle.std.proofs.lemmas.List.{length-append, take_at, take-append-drop}
use Rattle.byte_fields.specs.Reader.{fault_left, Reads}
use Rattle.byte_fields.specs.Reading.{Field}
use Rattle.byte_fields.specs.declared.fault.Fault.{Fault}
use Rattle.byte_fields.specs.Spelling.{IsBytes}
use Rattle.byte_fields.proofs.Laws.{IsField, left_of}
use Rattle.byte_fields.proofs.LongestPrefixes.{longest_prefix, left_within}
use Rattle.byte_fields.proofs.Pieces.{IsBytes-drop}
use Rattle.entry_views.specs.declared.fault.FieldError.{FieldError}
use Rattle.entry_views.specs.Placed.{Placed, IsSpelled}
use Rattle.entry_views.specs.Standing.{StandsAt, IsInvalidAt, placed_value, read_from}

abbrev done : {A : Type 0} → Placed A → Result (Placed A) FieldError
done view = Ok view

-- the result of a reader, in place of an equal one
pub reads_this : {A : Type 0} (result known : Result A Fault) (r : Field A) (after : List ℕ) → result ≡ known → Reads fault_left result r after → Reads fault_left known r after
reads_this {A = A} result known r after e read = subst (λ (t : Result A Fault). Reads fault_left t r after) e read

module _ {A : Type 0} {read : List ℕ → Field A} {fields : A → List (List ℕ)} {Is : A → Type 0} (field : IsField read fields Is) (bytes : List ℕ) (offset : ℕ) where
  abbrev rest : List ℕ
  rest = drop offset bytes

  found_by : IsBytes bytes → (r : Field A) → read rest ≡ r → IfOk (placed_value offset (length rest) r) (λ view. StandsAt fields Is bytes offset view.value view.end)
  found_by fits (Ok x) e =
      let t = field.takes rest x.0 x.1 (IsBytes-drop offset bytes fits) e in
      let spelled : List ℕ = concat (fields x.0) in
      record {
        lawful = t.is;
        stands = ap (take (length spelled)) t.parts ∙ take_at spelled x.1 (length spelled) refl;
        end_is = omega (arith, ap length t.parts, length-append spelled x.1);
      }
  found_by fits (Err left) e = tt

  pub found : IsBytes bytes → (result : Result (Placed A) FieldError) → result ≡ read_from read bytes offset → IfOk result (λ view. StandsAt fields Is bytes offset view.value view.end)
  found fits result e = subst (λ (r : Result (Placed A) FieldError). IfOk r (λ view. StandsAt fields Is bytes offset view.value view.end)) (sym e) (found_by fits (read rest) refl)

  pub only : (result : Result (Placed A) FieldError) → result ≡ read_from read bytes offset → (x : A) (end : ℕ) → StandsAt fields Is bytes offset x end → result ≡ Ok (record { value = x; end = end })
  only result e x end is =
      let spelled : List ℕ = concat (fields x) in
      let after : List ℕ = drop (length spelled) rest in
      let parts : rest ≡ spelled ++ after = sym (take-append-drop (length spelled) rest) ∙ ap (λ (t : List ℕ). t ++ after) is.stands in
      let got : read rest ≡ Ok (x, after) = ap read parts ∙ field.again x after is.lawful in
      let ends : offset + (length rest - length after) ≡ end = omega (arith, ap length parts, length-append spelled after, is.end_is) in
      e ∙ ap (placed_value offset (length rest)) got ∙ ap (λ (n : ℕ). done (record { value = x; end = n })) ends

  fault_by : IsBytes bytes → (r : Field A) → read rest ≡ r → IfErr (placed_value offset (length rest) r) (λ error. IsInvalidAt fields Is bytes offset error.at)
  fault_by fits (Ok x) e = tt
  fault_by fits (Err left) e = record {
    reach = length rest - left_of (read rest);
    longest = longest_prefix field rest (IsBytes-drop offset bytes fits) (length rest - left_of (read rest)) refl;
    fault_is = ap (λ (r : Field A). offset + (length rest - left_of r)) (sym e);
  }

  pub fault : IsBytes bytes → (result : Result (Placed A) FieldError) → result ≡ read_from read bytes offset → IfErr result (λ error. IsInvalidAt fields Is bytes offset error.at)
  fault fits result e = subst (λ (r : Result (Placed A) FieldError). IfErr r (λ error. IsInvalidAt fields Is bytes offset error.at)) (sym e) (fault_by fits (read rest) refl)

  -- what is left is no longer than what there was
  within : IsBytes bytes → left_of (read rest) ≤ length rest
  within fits = left_within field rest (IsBytes-drop offset bytes fits)

  pub left_after : IsBytes bytes → (input : List ℕ) → input ≡ rest → (r : Field A) → read input ≡ r → left_of r ≤ length rest
  left_after fits input e r got = subst (λ (r : Field A). left_of r ≤ length rest) (ap read (sym e) ∙ got) (within fits)

  -- what was read is spelled by the bytes before those that are left
  pub is_spelled : IsBytes bytes → (whole : List ℕ) → whole ≡ rest → (input : List ℕ) → input ≡ whole → (x : A) (after : List ℕ) → read input ≡ Ok (x, after) → (left : ℕ) → left ≡ length after → IsSpelled fields Is x (take (length whole - left) whole)
  is_spelled fits whole whole_is input input_is x after got left left_is =
      let t = field.takes whole x after (subst IsBytes (sym whole_is) (IsBytes-drop offset bytes fits)) (ap read (sym input_is) ∙ got) in
      let spelled : List ℕ = concat (fields x) in
      let long : length spelled ≡ length whole - left = omega (arith, ap length t.parts, length-append spelled after, left_is) in
      record { lawful = t.is; spelled = ap (take (length whole - left)) t.parts ∙ take_at spelled after (length whole - left) long }
