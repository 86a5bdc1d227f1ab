-- Reading stops at an offset of the kind that is declared, and only one offset is of that kind.
use Rattle.std.proofs.Common.{◌≡◌, ◌∙◌, ℕ, ◌+◌, ◌-◌, ◌<◌, ◌≤◌, ◌^◌, Bool, true, false, cond, eqb}
use Rattle.std.proofs.Common.{nat_lt, List, ◌++◌, length, take, drop, Result, Ok, Err}
use Rattle.std.proofs.Common.{IfSome, refl, sym, ap, subst, arith}
use Rattle.std.specs.Prelude.{IfErr}
use Rattle.std.specs.Int.{w32, from_be_bytes, to_be_bytes}
use Rattle.std.proofs.lemmas.Bool.{ltb-true}
use Rattle.std.proofs.lemmas.List.{length-append, take_at, drop_at}
use Rattle.lc_base.specs.Answers.{Answers}
use Rattle.byte_fields.specs.Prefixes.{IsGoodPrefix, IsLongestPrefix}
use Rattle.byte_fields.specs.Reading.{Field, ◌>>=◌, bind_at, all_read, number_at, bytes_at}
use Rattle.byte_fields.specs.Spelling.{IsBytes}
use Rattle.byte_fields.proofs.Laws.{IsField, renamed, bind_field, falls, left_of}
use Rattle.byte_fields.proofs.LongestPrefixes.{longest_prefix}
use Rattle.byte_fields.proofs.Pieces.{piece_field, number_piece, bytes_piece, wide32}
use Rattle.byte_fields.proofs.Pieces.{IsBytes-take, IsBytes-drop}
use Rattle.proof_codec.specs.declared.proof.Proof.{Proof}
use Rattle.proof_codec.specs.Spelling.{IsProof, proof_fields}
use Rattle.proof_codec.specs.declared.proof_view.ViewError.{ViewError}
use Rattle.proof_codec.specs.declared.proof_view.ViewError.TheVariants as views
use Rattle.proof_codec.specs.Viewing.{Spells, proof_in, told_at}
use Rattle.proof_codec.proofs.Viewed.{found_this, is_read}
use Rattle.proof_codec.proofs.Viewed.{fault_this as proof_fault}
use Rattle.proof_verifier.specs.proof_checks.declared.trace_limits.TheConstants.{TRACE_MAGIC}
use Rattle.proof_verifier.specs.proof_checks.declared.trace_proof.TraceItem.{TraceItem}
use Rattle.proof_verifier.specs.proof_checks.declared.trace_proof.TraceProof.{TraceProof}
use Rattle.proof_verifier.specs.proof_checks.TraceSpelling.{items_fields}
use Rattle.trace_verifier.specs.Reading.{magic_at, proof_before, proof_of_length, start_at}
use Rattle.trace_verifier.specs.Reading.{counted_items_at, trace_proof_at, with_offset, trace_in}
use Rattle.trace_verifier.specs.Malformed.{front_fields, IsCount, start_length, start_bytes}
use Rattle.trace_verifier.specs.Malformed.{items_bytes, AreItems, HasStart, IsInvalidAt, InFront}
use Rattle.trace_verifier.specs.Malformed.{CutShort, InStart, InItems}
use Rattle.trace_verifier.proofs.Fields.{items_field, magic_piece, magic_field, magic_is}
use Rattle.trace_verifier.proofs.Fields.{with_items, after_start, after_magic, parted}

-- ---- only one offset

one_end : {A : Type 0} {fields : A → List (List ℕ)} {Is : A → Type 0} (bytes : List ℕ) (m n : ℕ)
    → IsLongestPrefix fields Is bytes m → IsLongestPrefix fields Is bytes n → m ≡ n
one_end bytes m n is_m is_n =
    let up = is_n.longest m is_m.good in
    let down = is_m.longest n is_n.good in
    omega (arith, up, down)

module _ (bytes : List ℕ) where
  -- A front that is whole isn't at fault.
  not_in_front : (offset : ℕ) → IsLongestPrefix front_fields IsCount bytes offset → offset < 8
      → IsGoodPrefix front_fields IsCount bytes 8 → ⊥
  not_in_front offset is low front = let past = is.longest 8 front in omega (arith, low, past)

  -- A start that is there isn't cut short.
  not_short : length bytes < 8 + start_length bytes → HasStart bytes → ⊥
  not_short short has = let whole = has.whole in omega (arith, short, whole)

  pub one_offset : (a b : ℕ) → IsInvalidAt bytes a → IsInvalidAt bytes b → a ≡ b
  one_offset _ _ (InFront a is low) (InFront b other under) = one_end bytes a b is other
  one_offset _ _ (InFront a is low) (CutShort front short) =
      absurd (not_in_front a is low front)
  one_offset _ _ (InFront a is low) (InStart has none b other) =
      absurd (not_in_front a is low has.front)
  one_offset _ _ (InFront a is low) (InItems has start spelled b other) =
      absurd (not_in_front a is low has.front)
  one_offset _ _ (CutShort front short) (InFront b other under) =
      absurd (not_in_front b other under front)
  one_offset _ _ (CutShort front short) (CutShort again less) = refl
  one_offset _ _ (CutShort front short) (InStart has none b other) = absurd (not_short short has)
  one_offset _ _ (CutShort front short) (InItems has start spelled b other) =
      absurd (not_short short has)
  one_offset _ _ (InStart has none a is) (InFront b other under) =
      absurd (not_in_front b other under has.front)
  one_offset _ _ (InStart has none a is) (CutShort front short) = absurd (not_short short has)
  one_offset _ _ (InStart has none a is) (InStart there never b other) =
      ap (λ (n : ℕ). 8 + n) (one_end (start_bytes bytes) a b is other)
  one_offset _ _ (InStart has none a is) (InItems there start spelled b other) =
      absurd (none start spelled)
  one_offset _ _ (InItems has start spelled a is) (InFront b other under) =
      absurd (not_in_front b other under has.front)
  one_offset _ _ (InItems has start spelled a is) (CutShort front short) =
      absurd (not_short short has)
  one_offset _ _ (InItems has start spelled a is) (InStart there never b other) =
      absurd (never start spelled)
  one_offset _ _ (InItems has start spelled a is) (InItems there own too b other) =
      ap (λ (n : ℕ). 8 + start_length bytes + n) (one_end (items_bytes bytes) a b is other)

-- ---- the front

abbrev front_at : List ℕ → Field ℕ
front_at = bind_at magic_at (λ magic. number_at w32)

front_field : IsField front_at front_fields IsCount
front_field =
    renamed (bind_field {Is_b = λ magic count. _} (λ count. TRACE_MAGIC) magic_field
    (λ magic is. piece_field (number_piece wide32))
    (λ magic count is is_count. sym (magic_is magic is)))
    (λ count is. is.1) (λ count is. ((refl, refl), is)) (λ count is. refl)

abbrev then_number : List ℕ × List ℕ → Field ℕ
then_number magic = number_at w32 magic.1

abbrev then_start : ℕ × List ℕ → Field Proof
then_start count = proof_of_length count.0 count.1

abbrev then_own : List ℕ → List ℕ × List ℕ → Field Proof
then_own after own = proof_before after own.1 (proof_in own.0)

-- How many bytes are left of a trace, where its items are read next.
with_items_left : (start : Proof) (r : Field (List TraceItem))
    → left_of (r >>= with_items start) ≡ left_of r
with_items_left start (Ok items) = refl
with_items_left start (Err left) = refl

too_few : (count : ℕ) (bytes : List ℕ) (left : ℕ) → bytes_at count bytes ≡ Err left
    → length bytes < count
unfolding bytes_at
too_few count bytes left e = go (nat_lt (length bytes) count) refl e
  where
    go : (b : Bool) → nat_lt (length bytes) count ≡ b
        → cond b (Err (length bytes)) (Ok (parted count bytes)) ≡ Err left
        → length bytes < count
    go true is e = ltb-true (length bytes) count is
    go false is e = absurd cc

module _ (bytes : List ℕ) (fits : IsBytes bytes) where
  in_front : (left : ℕ) → front_at bytes ≡ Err left → length bytes < left + 8
      → (at : ℕ) → at ≡ length bytes - left → left ≤ length bytes → IsInvalidAt bytes at
  in_front left e low at is within =
      let same = ap (λ (r : Field ℕ). length bytes - left_of r) (sym e) in
      InFront at (longest_prefix front_field bytes fits at (is ∙ same))
      (omega (arith, is, low, within))

  -- ---- after the front

  module _ (count : ℕ) (after : List ℕ) (read : front_at bytes ≡ Ok (count, after)) where
    front_taken : (bytes ≡ TRACE_MAGIC ++ (to_be_bytes w32 count ++ after)) × (count < 2 ^ 32)
    front_taken = let is = front_field.takes bytes count after fits read in (is.parts, is.is)

    long : length bytes ≡ 8 + length after
    long =
        let all = ap (λ (t : List ℕ). length t) front_taken.0 in
        let magic : length TRACE_MAGIC ≡ 4 = refl in
        let number : length (to_be_bytes w32 count) ≡ 4 = refl in
        let first = length-append TRACE_MAGIC (to_be_bytes w32 count ++ after) in
        let second = length-append (to_be_bytes w32 count) after in
        omega (arith, all, magic, number, first, second)

    after_is : drop 8 bytes ≡ after
    after_is = ap (λ (t : List ℕ). drop 8 t) front_taken.0

    count_is : start_length bytes ≡ count
    count_is =
        ap (λ (t : List ℕ). from_be_bytes w32 (take 4 (drop 4 t))) front_taken.0
        ∙ wide32.again count front_taken.1

    front : IsGoodPrefix front_fields IsCount bytes 8
    front =
        let same = ap (λ (r : Field ℕ). length bytes - left_of r) (sym read) in
        let is : 8 ≡ length bytes - length after = omega (arith, long) in
        (longest_prefix front_field bytes fits 8 (is ∙ same)).good

    after_fits : IsBytes after
    after_fits = subst IsBytes after_is (IsBytes-drop 8 bytes fits)

    module _ (own : List ℕ) (rest : List ℕ) (parts : after ≡ own ++ rest)
        (own_long : length own ≡ count) where
      own_is : start_bytes bytes ≡ own
      own_is =
          ap (λ (n : ℕ). take n (drop 8 bytes)) count_is ∙ ap (take count) (after_is ∙ parts)
          ∙ take_at own rest count own_long

      rest_is : items_bytes bytes ≡ rest
      rest_is =
          ap (λ (n : ℕ). drop n (drop 8 bytes)) count_is ∙ ap (drop count) (after_is ∙ parts)
          ∙ drop_at own rest count own_long

      after_long : length after ≡ count + length rest
      after_long =
          omega (arith, ap (λ (t : List ℕ). length t) parts, length-append own rest, own_long)

      has : HasStart bytes
      has = record { front = front; whole = omega (arith, long, count_is, after_long) }

      own_fits : IsBytes own
      own_fits =
          let after_front = IsBytes-drop 8 bytes fits in
          subst IsBytes own_is (IsBytes-take (start_length bytes) (drop 8 bytes) after_front)

      rest_fits : IsBytes rest
      rest_fits =
          let after_front = IsBytes-drop 8 bytes fits in
          subst IsBytes rest_is (IsBytes-drop (start_length bytes) (drop 8 bytes) after_front)

      not_spelled : (offset : ℕ) → proof_in own ≡ Err offset → (start : Proof)
          → Spells (start_bytes bytes) start → ⊥
      not_spelled offset got start spells =
          let spelled : proof_in own ≡ Ok start =
          is_read own start (subst (λ (t : List ℕ). Spells t start) own_is spells) in
          cc

      fault_in_start : (offset : ℕ) → proof_in own ≡ Err offset
          → IsLongestPrefix proof_fields IsProof own offset
      fault_in_start offset got =
          let result : Result Proof ViewError = Err (views.Malformed offset) in
          proof_fault own result own_fits got

      start_spelled : (start : Proof) → proof_in own ≡ Ok start → Spells (start_bytes bytes) start
      start_spelled start got =
          let result : Result Proof ViewError = Ok start in
          subst (λ (t : List ℕ). Spells t start) (sym own_is) (found_this own result own_fits got)

      by_own : (r : Result Proof ℕ) → proof_in own ≡ r → (at : ℕ)
          → at ≡ length bytes - left_of {A = TraceProof} (proof_before after rest r >>= after_start)
          → IsInvalidAt bytes at
      by_own (Err offset) got at is =
          let longest = fault_in_start offset got in
          let within = longest.good.within in
          let place : 8 + offset ≡ at = omega (arith, is, long, after_long, own_long, within) in
          subst (IsInvalidAt bytes) place
          (InStart has (not_spelled offset got) offset
          (subst (λ (t : List ℕ). IsLongestPrefix proof_fields IsProof t offset) (sym own_is)
          longest))
      by_own (Ok start) got at is =
          let left : ℕ = left_of (counted_items_at rest) in
          let offset : ℕ = length rest - left in
          let low : left ≤ length rest = falls items_field rest rest_fits in
          let stops = with_items_left start (counted_items_at rest) in
          let longest = longest_prefix items_field rest rest_fits offset refl in
          let place : 8 + start_length bytes + offset ≡ at =
          omega (arith, is, stops, long, after_long, count_is, low) in
          subst (IsInvalidAt bytes) place
          (InItems has start (start_spelled start got) offset
          (subst (λ (t : List ℕ). IsLongestPrefix items_fields AreItems t offset) (sym rest_is)
          longest))

    by_start : (r : Field (List ℕ)) → bytes_at count after ≡ r → (at : ℕ)
        → at ≡ length bytes - left_of {A = TraceProof} ((r >>= then_own after) >>= after_start)
        → IsInvalidAt bytes at
    by_start (Err left) got at is =
        let left_is : left ≡ length after = (bytes_piece count).stops after left got in
        let few = too_few count after left got in
        let place : 8 ≡ at = omega (arith, is, left_is, long) in
        subst (IsInvalidAt bytes) place
        (CutShort front (omega (arith, long, count_is, few)))
    by_start (Ok own) got at is =
        let taken = (bytes_piece count).takes after own.0 own.1 after_fits got in
        by_own own.0 own.1 taken.parts taken.is (proof_in own.0) refl at is

  -- ---- all of it

  by_count : (magic : List ℕ × List ℕ) → magic_at bytes ≡ Ok magic
      → length bytes ≡ 4 + length magic.1 → (r : Field ℕ) → number_at w32 magic.1 ≡ r → (at : ℕ)
      → at ≡ length bytes - left_of {A = TraceProof} ((r >>= then_start) >>= after_start)
      → IsInvalidAt bytes at
  by_count magic read sum (Err left) got at is =
      let left_is : left ≡ length magic.1 = (number_piece wide32).stops magic.1 left got in
      let front_read : front_at bytes ≡ Err left =
      ap (λ (r : Field (List ℕ)). r >>= then_number) read ∙ got in
      in_front left front_read (omega (arith, left_is, sum)) at is (omega (arith, left_is, sum))
  by_count magic read sum (Ok count) got at is =
      let front_read : front_at bytes ≡ Ok count =
      ap (λ (r : Field (List ℕ)). r >>= then_number) read ∙ got in
      by_start count.0 count.1 front_read (bytes_at count.0 count.1) refl at is

  by_magic : (r : Field (List ℕ)) → magic_at bytes ≡ r → (at : ℕ)
      → at ≡ length bytes - left_of {A = TraceProof} (r >>= after_magic) → IsInvalidAt bytes at
  unfolding start_at
  by_magic (Err left) got at is =
      let left_is : left ≡ length bytes = magic_piece.stops bytes left got in
      let front_read : front_at bytes ≡ Err left =
      ap (λ (r : Field (List ℕ)). r >>= then_number) got in
      in_front left front_read (omega (arith, left_is)) at is (omega (arith, left_is))
  by_magic (Ok magic) got at is =
      let taken = magic_piece.takes bytes magic.0 magic.1 fits got in
      let sum = length-append magic.0 magic.1 in
      let four : length magic.0 ≡ 4 = taken.is.0 in
      by_count magic got (omega (arith, ap (λ (t : List ℕ). length t) taken.parts, sum, four))
      (number_at w32 magic.1) refl at is

offset_is : (total : ℕ) (r : Field TraceProof) (at : ℕ) → with_offset total (all_read r) ≡ Err at
    → at ≡ total - left_of r
offset_is total (Ok read) at e = go (eqb (length read.1) 0) e
  where
    go : (b : Bool) → with_offset total (cond b (Ok read.0) (Err (length read.1))) ≡ Err at
        → at ≡ total - length read.1
    go true e = absurd cc
    go false e = cc
offset_is total (Err left) at e = cc

-- What the reader tells is an offset of that kind.
pub is_invalid : (bytes : List ℕ) (at : ℕ) → IsBytes bytes → trace_in bytes ≡ Err at
    → IsInvalidAt bytes at
unfolding trace_in trace_proof_at
is_invalid bytes at fits e =
    by_magic bytes fits (magic_at bytes) refl at
    (offset_is (length bytes) (trace_proof_at bytes) at e)

pub fault_this : (bytes : List ℕ) (result : Result TraceProof ViewError) → IsBytes bytes
    → Answers (λ trace. trace) told_at result (trace_in bytes)
    → IfErr result (λ error. IfSome (told_at error) (IsInvalidAt bytes))
fault_this bytes (Ok trace) fits told = tt
fault_this bytes (Err (views.Malformed at)) fits told = is_invalid bytes at fits told
