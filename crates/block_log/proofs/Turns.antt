-- What the records from a gate on stand for, and where reading continues from there.
use Rattle.std.proofs.Common.{◌≡◌, inl, inr, ℕ, zero, suc, ◌+◌, ◌≤◌, ◌<◌, Bool, true, false, subst, List, [], ◌∷◌, ◌++◌, length, take, drop, refl, sym, ◌∙◌, ap, arith}
use Rattle.std.specs.Prelude.{◌==◌, nat_lt, nat_le, Some, None, if◌then◌else◌}
use Rattle.std.specs.Int.{w32, from_be_bytes}
use Rattle.std.proofs.lemmas.Bool.{cases_Bool, eqb-true}
use Rattle.std.proofs.lemmas.Bool.Decides.{nat_tests}
use Rattle.std.proofs.lemmas.List.{length-take, length-drop, drop-drop, take-take, take-append-le}
use Rattle.block_codec.specs.declared.limits.TheConstants.{MAX_BLOCK_BYTES}
use Rattle.block_log.specs.declared.layout.TheConstants.{OPEN_GATE}
use Rattle.block_log.specs.declared.layout.Stored.{Stored}
use Rattle.block_log.specs.declared.reading.Record.{Record}
use Rattle.block_log.specs.declared.reading.Record.TheVariants as records
use Rattle.block_log.specs.Standing.{Standing, Damaged, Holds, NextBlock, blocks_in, after_record, is_mark, is_sized, record_at, records_at}
use Rattle.block_log.specs.Reader.{stored_at}
use Rattle.block_codec.specs.declared.block.Block.{Block}
use Rattle.block_log.specs.Reading.{sized_record, opened_record, gate_of, whole_record, record_of, record_size, IsBody}

-- ---- what the first bytes decide

-- The gate and the four bytes of the length decide.
pub gate_prefix : (bytes : List ℕ) → gate_of (take 5 bytes) ≡ gate_of bytes
unfolding gate_of
gate_prefix [] = refl
gate_prefix (gate ∷ []) = refl
gate_prefix (gate ∷ a ∷ []) = refl
gate_prefix (gate ∷ a ∷ b ∷ []) = refl
gate_prefix (gate ∷ a ∷ b ∷ c ∷ []) = refl
gate_prefix (gate ∷ a ∷ b ∷ c ∷ d ∷ bytes) =
    let long : nat_lt (length (a ∷ b ∷ c ∷ d ∷ bytes)) 4 ≡ false = grind (arith, nat_tests) in
    rw long refl

sized_small : (size : ℕ) → record_size (sized_record size) ≤ MAX_BLOCK_BYTES
sized_small size = elim (cases_Bool (nat_le size MAX_BLOCK_BYTES)) [
  | inl good ↦ rw good (grind (arith, nat_tests))
  | inr bad ↦ rw bad (omega arith)
]

-- No record is longer than a block may be.
pub gate_small : (bytes : List ℕ) → record_size (gate_of bytes) ≤ MAX_BLOCK_BYTES
unfolding gate_of
gate_small [] = omega arith
gate_small (gate ∷ bytes) = elim (cases_Bool (gate == OPEN_GATE)) [
  | inl open_gate ↦ rw open_gate (opened bytes)
  | inr shut ↦ rw shut (omega arith)
]
  where
    opened : (bytes : List ℕ) → record_size (opened_record bytes) ≤ MAX_BLOCK_BYTES
    opened bytes = elim (cases_Bool (nat_lt (length bytes) 4)) [
      | inl short ↦ rw short (omega arith)
      | inr long ↦ rw long (sized_small (from_be_bytes w32 (take 4 bytes)))
    ]

-- What was read to the front of a buffer is the body of a record, if it is long enough.
pub body_read : (size count gate : ℕ) (front rest content : List ℕ) → length front ≡ size + 1 → count ≤ length front → take count front ≡ take (length front) (drop (gate + 5) content) → IsBody (nat_lt size count) size (front ++ rest) (drop 5 (drop gate content))
body_read size count gate front rest content long bound is =
    let bytes = drop 5 (drop gate content) in
    let there : take count front ≡ take (size + 1) bytes = is ∙ rw long (ap (take (size + 1)) (sym (drop-drop 5 gate content))) in
    let counted : length (take count front) ≡ length (take (size + 1) bytes) = ap (length {A = ℕ}) there in
    elim (cases_Bool (nat_lt size count)) [
      | inl whole ↦
          let more : size < count = grind (arith, nat_tests, whole) in
          let within : nat_lt size (length bytes) ≡ true = grind (arith, nat_tests, counted, length-take count front, length-take (size + 1) bytes) in
          let same : take size (front ++ rest) ≡ take size bytes =
          take-append-le size front rest (omega (arith, long)) ∙ sym (take-take size count front (omega (arith, more))) ∙ ap (take size) there ∙ take-take size (size + 1) bytes (omega arith) in
          rw whole (within, same)
      | inr cut ↦
          let less : count ≤ size = grind (arith, nat_tests, cut) in
          rw cut (grind (arith, nat_tests, counted, length-take count front, length-take (size + 1) bytes))
    ]

-- ---- where reading continues

-- What the records from a gate on stand for, given what is at the gate.
abbrev pub turn : NextBlock → ℕ → Bool → ℕ → List Stored → List ℕ → Record → Standing
turn next more marked gate stored bytes records.Closed = Holds stored marked gate
turn next more marked gate stored bytes records.Broken = Damaged stored gate
turn next more marked gate stored bytes (records.Open size) =
    if size == 0 then (if marked then Damaged stored gate else records_at next more true (gate + 5) stored (drop 5 bytes))
    else after_record (records_at next more marked) gate size stored (drop size (drop 5 bytes)) (next marked (blocks_in stored) (take size (drop 5 bytes)))

-- A record that is cut short is none.
short : (next : NextBlock) (more : ℕ) (marked : Bool) (gate size : ℕ) (stored : List Stored) (bytes : List ℕ) → nat_lt (length bytes) 4 ≡ true → record_at next (records_at next more) marked gate size stored (drop 4 bytes) ≡ Damaged stored gate
short next more marked gate size stored bytes is =
    let none : nat_lt 0 (length (drop 4 bytes)) ≡ false = grind (arith, nat_tests, length-drop 4 bytes) in
    let less : nat_lt size (length (drop 4 bytes)) ≡ false = grind (arith, nat_tests, length-drop 4 bytes) in
    let mark : is_mark marked size (drop 4 bytes) ≡ false = grind (arith, none) in
    let test : is_sized size (drop 4 bytes) ≡ false = grind (arith, less) in
    rw (mark, test) refl

-- A record of length 0.
sized_mark : (next : NextBlock) (more : ℕ) (marked : Bool) (gate : ℕ) (stored : List Stored) (bytes : List ℕ) → record_at next (records_at next more) marked gate 0 stored (drop 4 bytes) ≡ turn next more marked gate stored (OPEN_GATE ∷ bytes) (whole_record (sized_record 0) (drop 4 bytes))
sized_mark next more true gate stored bytes = elim (cases_Bool (nat_lt 0 (length (drop 4 bytes)))) [
  | inl whole ↦ rw whole refl
  | inr cut ↦ rw cut refl
]
sized_mark next more false gate stored bytes = elim (cases_Bool (nat_lt 0 (length (drop 4 bytes)))) [
  | inl whole ↦ rw whole refl
  | inr cut ↦ rw cut refl
]

-- A record of another length.
sized_block : (next : NextBlock) (more : ℕ) (marked : Bool) (gate size : ℕ) (stored : List Stored) (bytes : List ℕ) → size == 0 ≡ false → record_at next (records_at next more) marked gate size stored (drop 4 bytes) ≡ turn next more marked gate stored (OPEN_GATE ∷ bytes) (whole_record (sized_record size) (drop 4 bytes))
sized_block next more marked gate size stored bytes some =
    let mark : is_mark marked size (drop 4 bytes) ≡ false = grind (arith, some) in
    let low : nat_le 1 size ≡ true = grind (arith, nat_tests, some) in
    elim (cases_Bool (nat_le size MAX_BLOCK_BYTES)) [
      | inl good ↦ elim (cases_Bool (nat_lt size (length (drop 4 bytes)))) [
        | inl whole ↦ rw (mark, low, good, whole, some) refl
        | inr cut ↦ rw (mark, low, good, cut) refl
      ]
      | inr bad ↦ rw (mark, low, bad) refl
    ]

sized : (next : NextBlock) (more : ℕ) (marked : Bool) (gate size : ℕ) (stored : List Stored) (bytes : List ℕ) → record_at next (records_at next more) marked gate size stored (drop 4 bytes) ≡ turn next more marked gate stored (OPEN_GATE ∷ bytes) (whole_record (sized_record size) (drop 4 bytes))
sized next more marked gate size stored bytes = elim (cases_Bool (size == 0)) [
  | inl is ↦
      subst (λ (n : ℕ). record_at next (records_at next more) marked gate n stored (drop 4 bytes) ≡ turn next more marked gate stored (OPEN_GATE ∷ bytes) (whole_record (sized_record n) (drop 4 bytes)))
      (sym (eqb-true size 0 is)) (sized_mark next more marked gate stored bytes)
  | inr some ↦ sized_block next more marked gate size stored bytes some
]

opened : (next : NextBlock) (more : ℕ) (marked : Bool) (gate : ℕ) (stored : List Stored) (bytes : List ℕ) → record_at next (records_at next more) marked gate (from_be_bytes w32 (take 4 bytes)) stored (drop 4 bytes) ≡ turn next more marked gate stored (OPEN_GATE ∷ bytes) (whole_record (opened_record bytes) (drop 4 bytes))
opened next more marked gate stored bytes = elim (cases_Bool (nat_lt (length bytes) 4)) [
  | inl is ↦ rw is (short next more marked gate (from_be_bytes w32 (take 4 bytes)) stored bytes is)
  | inr long ↦ rw long (sized next more marked gate (from_be_bytes w32 (take 4 bytes)) stored bytes)
]

-- What the records from a gate on stand for is decided by what is at the gate.
pub turned : (next : NextBlock) (more : ℕ) (marked : Bool) (gate : ℕ) (stored : List Stored) (bytes : List ℕ) → records_at next (suc more) marked gate stored bytes ≡ turn next more marked gate stored bytes (record_of bytes)
unfolding records_at gate_of record_of
turned next more marked gate stored [] = refl
turned next more marked gate stored (byte ∷ bytes) = elim (cases_Bool (byte == OPEN_GATE)) [
  | inl is ↦ rw is (opened next more marked gate stored bytes)
  | inr shut ↦ rw shut refl
]

-- At a closed gate the records end.
pub ended : (next : NextBlock) (n : ℕ) (marked : Bool) (gate : ℕ) (stored : List Stored) (bytes : List ℕ) → 0 < n → record_of bytes ≡ records.Closed → records_at next n marked gate stored bytes ≡ Holds stored marked gate
ended next zero marked gate stored bytes some is = absurd (omega (arith, some))
ended next (suc more) marked gate stored bytes some is = turned next more marked gate stored bytes ∙ ap (turn next more marked gate stored bytes) is

-- Without a closed gate, or an open one and a whole record, the log is damaged.
pub broken : (next : NextBlock) (n : ℕ) (marked : Bool) (gate : ℕ) (stored : List Stored) (bytes : List ℕ) → 0 < n → record_of bytes ≡ records.Broken → records_at next n marked gate stored bytes ≡ Damaged stored gate
broken next zero marked gate stored bytes some is = absurd (omega (arith, some))
broken next (suc more) marked gate stored bytes some is = turned next more marked gate stored bytes ∙ ap (turn next more marked gate stored bytes) is

-- It is damaged too at a second mark.
pub marked_twice : (next : NextBlock) (n gate : ℕ) (stored : List Stored) (bytes : List ℕ) → 0 < n → record_of bytes ≡ records.Open 0 → records_at next n true gate stored bytes ≡ Damaged stored gate
marked_twice next zero gate stored bytes some is = absurd (omega (arith, some))
marked_twice next (suc more) gate stored bytes some is = turned next more true gate stored bytes ∙ ap (turn next more true gate stored bytes) is

-- And at a record whose block is not the next one.
pub refused : (next : NextBlock) (n : ℕ) (marked : Bool) (gate size : ℕ) (stored : List Stored) (bytes : List ℕ) → 0 < n → size == 0 ≡ false → record_of bytes ≡ records.Open size → next marked (blocks_in stored) (take size (drop 5 bytes)) ≡ None → records_at next n marked gate stored bytes ≡ Damaged stored gate
refused next zero marked gate size stored bytes some low is none = absurd (omega (arith, some))
refused next (suc more) marked gate size stored bytes some low is none =
    turned next more marked gate stored bytes ∙ ap (turn next more marked gate stored bytes) is ∙ rw low (ap (after_record (records_at next more marked) gate size stored (drop size (drop 5 bytes))) none)

-- After the next block reading continues at the gate after it.
pub goes_on : (next : NextBlock) (n left : ℕ) (marked : Bool) (gate size after : ℕ) (stored : List Stored) (content : List ℕ) (block : Block) → n ≡ left + 1 → after ≡ gate + (5 + size) → size == 0 ≡ false → record_of (drop gate content) ≡ records.Open size → next marked (blocks_in stored) (take size (drop 5 (drop gate content))) ≡ Some block
    → records_at next n marked gate stored (drop gate content) ≡ records_at next left marked after (stored ++ stored_at gate block ∷ []) (drop after content)
goes_on next n left marked gate size after stored content block fuel there low is found =
    let bytes = drop gate content in
    let count : n ≡ suc left = omega (arith, fuel) in
    let at : gate + 5 + size ≡ after = omega (arith, there) in
    let rest : drop size (drop 5 bytes) ≡ drop after content = drop-drop size 5 bytes ∙ drop-drop (5 + size) gate content ∙ ap (λ k. drop k content) (omega (arith, there)) in
    ap (λ k. records_at next k marked gate stored bytes) count ∙ turned next left marked gate stored bytes ∙ ap (turn next left marked gate stored bytes) is
    ∙ rw low (ap (after_record (records_at next left marked) gate size stored (drop size (drop 5 bytes))) found)
    ∙ ap (λ k. records_at next left marked k (stored ++ stored_at gate block ∷ []) (drop size (drop 5 bytes))) at
    ∙ ap (records_at next left marked after (stored ++ stored_at gate block ∷ [])) rest

-- After the mark too.
pub goes_on_marked : (next : NextBlock) (n left gate after : ℕ) (stored : List Stored) (content : List ℕ) → n ≡ left + 1 → after ≡ gate + 5 → record_of (drop gate content) ≡ records.Open 0
    → records_at next n false gate stored (drop gate content) ≡ records_at next left true after stored (drop after content)
goes_on_marked next n left gate after stored content fuel there is =
    let bytes = drop gate content in
    let count : n ≡ suc left = omega (arith, fuel) in
    let rest : drop 5 bytes ≡ drop after content = drop-drop 5 gate content ∙ ap (λ k. drop k content) (omega (arith, there)) in
    ap (λ k. records_at next k false gate stored bytes) count ∙ turned next left false gate stored bytes ∙ ap (turn next left false gate stored bytes) is
    ∙ ap (λ k. records_at next left true k stored (drop 5 bytes)) (sym there)
    ∙ ap (records_at next left true after stored) rest
