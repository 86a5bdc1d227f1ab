-- Reading and spelling agree for traces: what is read is spelled the same way, and what is spelled
-- is read. Each part of a trace is a field but the proof of the version: its length is read before
-- it, and no field of any trace need begin with that length.
use Rattle.std.proofs.Common.{◌≡◌, ◌∙◌, ℕ, ◌-◌, ◌<◌, ◌≤◌, ◌^◌, ◌==◌, nat_le, List, [], ◌∷◌}
use Rattle.std.proofs.Common.{◌++◌, length, take, Result, Ok, Err, refl, sym, ap, subst, arith}
use Rattle.std.proofs.Common.{append_assoc, Bool, true, false, cond, nat_lt, drop, Some, IfSome}
use Rattle.std.specs.List.{concat}
use Rattle.std.specs.Int.{w32, to_be_bytes}
use Rattle.std.specs.Cmp.Lexicographic.{pointwise}
use Rattle.std.proofs.lemmas.Bool.{leb-true, le-leb}
use Rattle.std.proofs.lemmas.List.{length-append, length-take, append-nil, take_at}
use Rattle.std.proofs.lemmas.Slice.Eq.{bytes_eq-Decides}
use Rattle.lc_base.specs.declared.limits.TheConstants.{MAX_ROWS}
use Rattle.byte_fields.specs.Spelling.{IsBytes}
use Rattle.byte_fields.specs.Prefixes.{IsLongestPrefix}
use Rattle.byte_fields.specs.Reading.{Field, ◌>>=◌, number_at, bytes_at}
use Rattle.byte_fields.proofs.Laws.{IsField, renamed, then_field, made_field, falls, left_of, ok_is}
use Rattle.byte_fields.proofs.Laws.{Sample, IsBytes-after, concat-append}
use Rattle.byte_fields.proofs.Items.{counted_field}
use Rattle.byte_fields.proofs.Pieces.{IsPiece, piece_field, ruled_piece, number_piece, bytes_piece}
use Rattle.byte_fields.proofs.Pieces.{wide32, IsBytes-take}
use Rattle.prov_entry.specs.declared.entry.Header.{Header}
use Rattle.prov_entry.specs.declared.entry.Body.{Body}
use Rattle.entry_views.specs.Headers.{header_field}
use Rattle.entry_views.specs.Bodies.{body_field}
use Rattle.proof_codec.specs.declared.proof.Proof.{Proof}
use Rattle.proof_codec.specs.Spelling.{IsProof, proof_fields}
use Rattle.proof_codec.specs.declared.proof_view.ViewError.{ViewError}
use Rattle.proof_codec.specs.declared.proof_view.ViewError.TheVariants.{Malformed}
use Rattle.proof_codec.specs.Viewing.{Spells, proof_in, told_at}
use Rattle.proof_codec.proofs.Viewed.{found_this, is_read}
use Rattle.proof_verifier.specs.proof_checks.declared.trace_limits.TheConstants.{TRACE_MAGIC}
use Rattle.proof_verifier.specs.proof_checks.declared.trace_proof.TraceItem.{TraceItem}
use Rattle.proof_verifier.specs.proof_checks.declared.trace_proof.TraceProof.{TraceProof}
use Rattle.proof_verifier.specs.proof_checks.TraceTexts.{IsTraceItem, IsTraceProof}
use Rattle.proof_verifier.specs.proof_checks.TraceSpelling.{start_fields, item_fields, items_fields}
use Rattle.proof_verifier.specs.proof_checks.TraceSpelling.{trace_fields}
use Rattle.trace_verifier.specs.Reading.{magic_at, proof_before, proof_of_length, start_at, item_of}
use Rattle.trace_verifier.specs.Reading.{item_at, counted_items_at, trace_proof_at}
use Rattle.trace_verifier.specs.Malformed.{AreItems}

-- ---- the items

abbrev item_parts : TraceItem → Header × Body
item_parts item = (item.header, item.body)

item_field : IsField item_at item_fields IsTraceItem
unfolding item_at
item_field =
    renamed (made_field item_of item_parts (then_field header_field body_field) (λ parts is. refl))
    (λ item is. record { header_is_header = is.0.0; body_is_body = is.0.1 })
    (λ item is. ((is.header_is_header, is.body_is_body), refl))
    (λ item is. refl)

pub items_field : IsField counted_items_at items_fields AreItems
unfolding counted_items_at
items_field =
    let none : Sample (λ (n : ℕ). (n < 2 ^ 32) × (nat_le n MAX_ROWS ≡ true)) =
    record { value = 0; is = (omega arith, refl) } in
    let count = ruled_piece (number_piece wide32) (λ n. nat_le n MAX_ROWS) none in
    renamed (counted_field (piece_field count) item_field)
    (λ items is. record { few = leb-true (length items) MAX_ROWS is.0.1; lawful = is.1 })
    (λ items is. ((omega (arith, is.few), le-leb (length items) MAX_ROWS is.few), is.lawful))
    (λ items is. refl)

-- ---- the magic bytes

abbrev pub IsMagic : List ℕ → Type 0
IsMagic bytes = (length bytes ≡ 4) × (pointwise ◌==◌ bytes TRACE_MAGIC ≡ true)

pub magic_piece : IsPiece magic_at (λ bytes. bytes) IsMagic
unfolding magic_at
magic_piece =
    let magic : Sample IsMagic = record { value = TRACE_MAGIC; is = (refl, refl) } in
    ruled_piece (bytes_piece 4) (λ bytes. pointwise ◌==◌ bytes TRACE_MAGIC) magic

pub magic_field : IsField magic_at (λ bytes. bytes ∷ []) IsMagic
magic_field = piece_field magic_piece

pub magic_is : (bytes : List ℕ) → IsMagic bytes → bytes ≡ TRACE_MAGIC
magic_is bytes is = (bytes_eq-Decides bytes TRACE_MAGIC).0 is.1

-- ---- the proof of the version

-- The first bytes are the number of bytes of a lawful proof, and the proof.
record IsStart (bytes : List ℕ) (start : Proof) (rest : List ℕ) : Type 0 where
  pub parts : bytes ≡ concat (start_fields start) ++ rest
  pub lawful : IsProof start
  pub short : length (concat (proof_fields start)) < 2 ^ 32

-- What these bytes are as a proof, which are read with `after` left behind them.
proof_taken : (all own after : List ℕ) (start : Proof) (rest : List ℕ) → IsBytes own
    → (r : Result Proof ℕ) → proof_in own ≡ r → proof_before all after r ≡ Ok (start, rest)
    → Spells own start × (after ≡ rest)
proof_taken all own after start rest fits (Ok proof) got e =
    let same = ok_is (proof, after) (start, rest) e in
    let found : Spells own proof = found_this own (Ok proof) fits got in
    let proof_is : proof ≡ start = ap (λ (p : Proof × List ℕ). p.0) same in
    (subst (Spells own) proof_is found, ap (λ (p : Proof × List ℕ). p.1) same)
proof_taken all own after start rest fits (Err at) got e = absurd cc

module _ (bytes : List ℕ) (fits : IsBytes bytes) where
  own_taken : (count : ℕ) (after : List ℕ) (start : Proof) (rest : List ℕ)
      → bytes ≡ to_be_bytes w32 count ++ after → count < 2 ^ 32
      → (r : Field (List ℕ)) → bytes_at count after ≡ r
      → (r >>= (λ (own : List ℕ × List ℕ). proof_before after own.1 (proof_in own.0)))
      ≡ Ok (start, rest)
      → IsStart bytes start rest
  own_taken count after start rest parts few (Ok own) got e =
      let number : List ℕ = to_be_bytes w32 count in
      let after_fits : IsBytes after = IsBytes-after number after (subst IsBytes parts fits) in
      let is = (bytes_piece count).takes after own.0 own.1 after_fits got in
      let first : take count after ≡ own.0 =
      ap (take count) is.parts ∙ take_at own.0 own.1 count is.is in
      let own_fits : IsBytes own.0 = subst IsBytes first (IsBytes-take count after after_fits) in
      let taken = proof_taken after own.0 own.1 start rest own_fits (proof_in own.0) refl e in
      let spelled : List ℕ = concat (proof_fields start) in
      let own_is : own.0 ≡ spelled = taken.0.spelled in
      let count_is : count ≡ length spelled = sym is.is ∙ ap (λ (t : List ℕ). length t) own_is in
      let after_is : after ≡ spelled ++ rest =
      is.parts ∙ ap (λ (t : List ℕ). t ++ own.1) own_is
      ∙ ap (λ (t : List ℕ). spelled ++ t) taken.1 in
      record {
        parts =
            parts ∙ ap (λ (t : List ℕ). number ++ t) after_is
            ∙ ap (λ (n : ℕ). to_be_bytes w32 n ++ (spelled ++ rest)) count_is
            ∙ sym (append_assoc (to_be_bytes w32 (length spelled)) spelled rest);
        lawful = taken.0.lawful;
        short = subst (λ (n : ℕ). n < 2 ^ 32) count_is few;
      }
  own_taken count after start rest parts few (Err left) got e = absurd cc

  count_taken : (start : Proof) (rest : List ℕ) → (r : Field ℕ) → number_at w32 bytes ≡ r
      → (r >>= (λ (count : ℕ × List ℕ). proof_of_length count.0 count.1)) ≡ Ok (start, rest)
      → IsStart bytes start rest
  count_taken start rest (Ok count) got e =
      let is = (number_piece wide32).takes bytes count.0 count.1 fits got in
      own_taken count.0 count.1 start rest is.parts is.is (bytes_at count.0 count.1) refl e
  count_taken start rest (Err left) got e = absurd cc

  start_taken : (start : Proof) (rest : List ℕ) → start_at bytes ≡ Ok (start, rest)
      → IsStart bytes start rest
  unfolding start_at
  start_taken start rest e = count_taken start rest (number_at w32 bytes) refl e

  -- How many bytes are left after the proof, or from its fault on.
  proof_low : (all after : List ℕ) → length after ≤ length all → (r : Result Proof ℕ)
      → left_of (proof_before all after r) ≤ length all
  proof_low all after less (Ok proof) = less
  proof_low all after less (Err at) = omega arith

  own_low : (count : ℕ) (after : List ℕ) → IsBytes after → (r : Field (List ℕ))
      → bytes_at count after ≡ r
      → left_of (r >>= (λ (own : List ℕ × List ℕ). proof_before after own.1 (proof_in own.0)))
      ≤ length after
  own_low count after after_fits (Ok own) got =
      let is = (bytes_piece count).takes after own.0 own.1 after_fits got in
      let sum = length-append own.0 own.1 in
      let less : length own.1 ≤ length after =
      omega (arith, ap (λ (t : List ℕ). length t) is.parts, sum) in
      proof_low after own.1 less (proof_in own.0)
  own_low count after after_fits (Err left) got =
      let is : left ≡ length after = (bytes_piece count).stops after left got in
      omega (arith, is)

  count_low : (r : Field ℕ) → number_at w32 bytes ≡ r
      → left_of (r >>= (λ (count : ℕ × List ℕ). proof_of_length count.0 count.1)) ≤ length bytes
  count_low (Ok count) got =
      let is = (number_piece wide32).takes bytes count.0 count.1 fits got in
      let number : List ℕ = to_be_bytes w32 count.0 in
      let after_fits = IsBytes-after number count.1 (subst IsBytes is.parts fits) in
      let low = own_low count.0 count.1 after_fits (bytes_at count.0 count.1) refl in
      let sum = length-append number count.1 in
      omega (arith, low, sum, ap (λ (t : List ℕ). length t) is.parts)
  count_low (Err left) got =
      let is : left ≡ length bytes = (number_piece wide32).stops bytes left got in
      omega (arith, is)

  start_low : left_of (start_at bytes) ≤ length bytes
  unfolding start_at
  start_low = count_low (number_at w32 bytes) refl

-- ---- a fault in it

abbrev pub parted : ℕ → List ℕ → List ℕ × List ℕ
parted count all = (take count all, drop count all)

own_within : (count : ℕ) (all own after : List ℕ) → bytes_at count all ≡ Ok (own, after)
    → length own ≤ length all
unfolding bytes_at
own_within count all own after e = go (nat_lt (length all) count) e
  where
    go : (b : Bool)
        → cond b (Err (length all)) (Ok (parted count all)) ≡ Ok (own, after)
        → length own ≤ length all
    go true e = absurd cc
    go false e =
        let same = ok_is (parted count all) (own, after) e in
        let first : take count all ≡ own = ap (λ (p : List ℕ × List ℕ). p.0) same in
        omega (arith, length-take count all, ap (λ (t : List ℕ). length t) first)

-- It is within the bytes.
pub offset_within : (count : ℕ) (all own after : List ℕ) (error : ViewError) (offset : ℕ)
    → bytes_at count all ≡ Ok (own, after) → told_at error ≡ Some offset
    → IfSome (told_at error) (IsLongestPrefix proof_fields IsProof own) → offset ≤ length all
offset_within count all own after (Malformed at) offset read is prefix =
    let same : at ≡ offset = cc in
    let within = prefix.good.within in
    omega (arith, same, within, own_within count all own after read)

abbrev left_after : ℕ → ℕ → Field Proof
left_after total offset = Err (total - offset)

-- It is told by the bytes that are left there.
pub fault_read : (count : ℕ) (all own after : List ℕ) (error : ViewError) (offset : ℕ)
    → bytes_at count all ≡ Ok (own, after) → told_at error ≡ Some offset
    → IfSome (told_at error) (λ at. proof_in own ≡ Err at)
    → proof_of_length count all ≡ Err (length all - offset)
fault_read count all own after (Malformed at) offset read is told =
    let same : at ≡ offset = cc in
    rw (read, told) (ap (left_after (length all)) same)

-- A lawful proof is read after the number of its bytes.
start_again : (start : Proof) (rest : List ℕ) → IsProof start
    → length (concat (proof_fields start)) < 2 ^ 32
    → start_at (concat (start_fields start) ++ rest) ≡ Ok (start, rest)
unfolding start_at
start_again start rest lawful short =
    let spelled : List ℕ = concat (proof_fields start) in
    let count : ℕ = length spelled in
    let parts = append_assoc (to_be_bytes w32 count) spelled rest in
    let count_read = (number_piece wide32).again count (spelled ++ rest) short in
    let own_read = (bytes_piece count).again spelled rest refl in
    let read : proof_in spelled ≡ Ok start =
    is_read spelled start (record { lawful = lawful; spelled = refl }) in
    rw (parts, count_read, own_read, read) refl

-- ---- the trace

-- The bytes are the fields of a lawful trace, up to these that are left.
pub record IsTaken (bytes : List ℕ) (trace : TraceProof) (rest : List ℕ) : Type 0 where
  pub parts : bytes ≡ concat (trace_fields trace) ++ rest
  pub lawful : IsTraceProof trace

-- What is read of the items, and of all after the magic bytes.
abbrev pub with_items : Proof → List TraceItem × List ℕ → Field TraceProof
with_items start items = Ok (record { start = start; items = items.0 }, items.1)

abbrev pub after_start : Proof × List ℕ → Field TraceProof
after_start start = counted_items_at start.1 >>= with_items start.0

abbrev pub after_magic : List ℕ × List ℕ → Field TraceProof
after_magic magic = start_at magic.1 >>= after_start

-- The fields of the proof and of the items, and how they follow the magic bytes.
same_parts : (start : Proof) (items : List TraceItem) (rest : List ℕ)
    → TRACE_MAGIC ++ (concat (start_fields start) ++ (concat (items_fields items) ++ rest))
    ≡ concat (trace_fields (record { start = start; items = items })) ++ rest
same_parts start items rest =
    let first : List ℕ = concat (start_fields start) in
    let second : List ℕ = concat (items_fields items) in
    let both = concat-append (start_fields start) (items_fields items) in
    ap (λ (t : List ℕ). TRACE_MAGIC ++ t) (sym (append_assoc first second rest))
    ∙ sym (append_assoc TRACE_MAGIC (first ++ second) rest)
    ∙ ap (λ (t : List ℕ). (TRACE_MAGIC ++ t) ++ rest) (sym both)

module _ (bytes : List ℕ) (fits : IsBytes bytes) (trace : TraceProof) (rest : List ℕ) where
  items_taken : (start : Proof) (after : List ℕ)
      → bytes ≡ TRACE_MAGIC ++ (concat (start_fields start) ++ after)
      → IsBytes after → IsProof start → length (concat (proof_fields start)) < 2 ^ 32
      → (r : Field (List TraceItem)) → counted_items_at after ≡ r
      → (r >>= with_items start) ≡ Ok (trace, rest)
      → IsTaken bytes trace rest
  items_taken start after parts after_fits lawful short (Ok items) got e =
      let is = items_field.takes after items.0 items.1 after_fits got in
      let own : TraceProof = record { start = start; items = items.0 } in
      let same = ok_is (own, items.1) (trace, rest) e in
      let taken : IsTaken bytes own items.1 = record {
        parts =
            parts ∙ ap (λ (t : List ℕ). TRACE_MAGIC ++ (concat (start_fields start) ++ t)) is.parts
            ∙ same_parts start items.0 items.1;
        lawful = record {
          start_is_proof = lawful;
          start_fits = short;
          few_items = is.is.few;
          items_are_items = is.is.lawful;
        };
      } in
      subst (λ (p : TraceProof × List ℕ). IsTaken bytes p.0 p.1) same taken
  items_taken start after parts after_fits lawful short (Err left) got e = absurd cc

  start_goes_on : (after : List ℕ) → bytes ≡ TRACE_MAGIC ++ after → IsBytes after
      → (r : Field Proof) → start_at after ≡ r
      → (r >>= after_start) ≡ Ok (trace, rest)
      → IsTaken bytes trace rest
  start_goes_on after parts after_fits (Ok start) got e =
      let is = start_taken after after_fits start.0 start.1 got in
      let first : List ℕ = concat (start_fields start.0) in
      let others_fit = IsBytes-after first start.1 (subst IsBytes is.parts after_fits) in
      let all = parts ∙ ap (λ (t : List ℕ). TRACE_MAGIC ++ t) is.parts in
      items_taken start.0 start.1 all others_fit is.lawful is.short
      (counted_items_at start.1) refl e
  start_goes_on after parts after_fits (Err left) got e = absurd cc

  magic_goes_on : (r : Field (List ℕ)) → magic_at bytes ≡ r
      → (r >>= after_magic) ≡ Ok (trace, rest)
      → IsTaken bytes trace rest
  magic_goes_on (Ok magic) got e =
      let is = magic_field.takes bytes magic.0 magic.1 fits got in
      let first : concat (magic.0 ∷ []) ≡ TRACE_MAGIC = append-nil magic.0 ∙ magic_is magic.0 is.is in
      let parts = is.parts ∙ ap (λ (t : List ℕ). t ++ magic.1) first in
      let after_fits = IsBytes-after TRACE_MAGIC magic.1 (subst IsBytes parts fits) in
      start_goes_on magic.1 parts after_fits (start_at magic.1) refl e
  magic_goes_on (Err left) got e = absurd cc

-- What is read is spelled so.
pub trace_taken : (bytes : List ℕ) (trace : TraceProof) (rest : List ℕ) → IsBytes bytes
    → trace_proof_at bytes ≡ Ok (trace, rest) → IsTaken bytes trace rest
unfolding trace_proof_at
trace_taken bytes trace rest fits e = magic_goes_on bytes fits trace rest (magic_at bytes) refl e

-- What is spelled so is read.
pub trace_again : (trace : TraceProof) (rest : List ℕ) → IsTraceProof trace
    → trace_proof_at (concat (trace_fields trace) ++ rest) ≡ Ok (trace, rest)
unfolding trace_proof_at
trace_again trace rest lawful =
    let first : List ℕ = concat (start_fields trace.start) in
    let second : List ℕ = concat (items_fields trace.items) in
    let parts = sym (same_parts trace.start trace.items rest) in
    let magic_read = magic_field.again TRACE_MAGIC (first ++ (second ++ rest)) (refl, refl) in
    let short = lawful.start_fits in
    let start_read = start_again trace.start (second ++ rest) lawful.start_is_proof short in
    let are : AreItems trace.items =
    record { few = lawful.few_items; lawful = lawful.items_are_items } in
    let items_read = items_field.again trace.items rest are in
    rw (parts, magic_read, start_read, items_read) refl

-- How many bytes are left after a trace, or from its fault on.
module _ (bytes : List ℕ) (fits : IsBytes bytes) where
  items_low : (start : Proof) (after : List ℕ) → length after ≤ length bytes
      → (r : Field (List TraceItem)) → left_of r ≤ length after
      → left_of {A = TraceProof} (r >>= with_items start) ≤ length bytes
  items_low start after less (Ok items) low = omega (arith, less, low)
  items_low start after less (Err left) low = omega (arith, less, low)

  after_start_low : (after : List ℕ) → length after ≤ length bytes → IsBytes after
      → (r : Field Proof) → start_at after ≡ r
      → left_of {A = TraceProof} (r >>= after_start) ≤ length bytes
  after_start_low after less after_fits (Ok start) got =
      let is = start_taken after after_fits start.0 start.1 got in
      let first : List ℕ = concat (start_fields start.0) in
      let others_fit = IsBytes-after first start.1 (subst IsBytes is.parts after_fits) in
      let sum = length-append first start.1 in
      let shorter : length start.1 ≤ length bytes =
      omega (arith, less, sum, ap (λ (t : List ℕ). length t) is.parts) in
      items_low start.0 start.1 shorter (counted_items_at start.1)
      (falls items_field start.1 others_fit)
  after_start_low after less after_fits (Err left) got =
      let low : left ≤ length after =
      subst (λ (r : Field Proof). left_of r ≤ length after) got (start_low after after_fits) in
      omega (arith, less, low)

  after_magic_low : (r : Field (List ℕ)) → magic_at bytes ≡ r
      → left_of {A = TraceProof} (r >>= after_magic) ≤ length bytes
  after_magic_low (Ok magic) got =
      let is = magic_field.takes bytes magic.0 magic.1 fits got in
      let first : List ℕ = concat (magic.0 ∷ []) in
      let after_fits = IsBytes-after first magic.1 (subst IsBytes is.parts fits) in
      let sum = length-append first magic.1 in
      let less : length magic.1 ≤ length bytes =
      omega (arith, sum, ap (λ (t : List ℕ). length t) is.parts) in
      after_start_low magic.1 less after_fits (start_at magic.1) refl
  after_magic_low (Err left) got =
      subst (λ (r : Field (List ℕ)). left_of r ≤ length bytes) got (falls magic_field bytes fits)

  trace_low : left_of {A = TraceProof} (trace_proof_at bytes) ≤ length bytes
  unfolding trace_proof_at
  trace_low = after_magic_low (magic_at bytes) refl

pub left_low : (bytes : List ℕ) (r : Field TraceProof) → IsBytes bytes → trace_proof_at bytes ≡ r
    → left_of r ≤ length bytes
left_low bytes r fits e =
    subst (λ (read : Field TraceProof). left_of read ≤ length bytes) e (trace_low bytes fits)
