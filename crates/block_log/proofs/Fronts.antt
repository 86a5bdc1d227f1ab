-- What bytes that are read ahead say of a record.
use Rattle.std.proofs.Common.{◌≡◌, ◌⊎◌, inl, inr, ℕ, zero, suc, ◌+◌, ◌-◌, ◌≤◌, ◌<◌, true, false}
use Rattle.std.proofs.Common.{List, [], ◌∷◌, length, take, drop, refl, sym, ◌∙◌, ap, arith}
use Rattle.std.specs.Prelude.{◌==◌, nat_lt, Option}
use Rattle.std.proofs.lemmas.Bool.{cases_Bool, cases_lt}
use Rattle.std.proofs.lemmas.Bool.Decides.{nat_tests}
use Rattle.std.proofs.lemmas.List.{length-take, length-drop, drop-drop, drop-take, drop_all}
use Rattle.std.proofs.lemmas.List.{take-take}
use Rattle.block_log.specs.declared.layout.TheConstants.{OPEN_GATE}
use Rattle.block_log.specs.declared.reading.Record.{Record}
use Rattle.block_log.specs.declared.reading.Record.TheVariants as records
use Rattle.block_log.specs.Ahead.{IsAhead}
use Rattle.block_log.specs.Reading.{gate_of, whole_record, record_of, record_size, is_broken}
use Rattle.block_log.specs.Reader.{IsRecordAt}
use Rattle.block_log.proofs.Turns.{gate_prefix}

-- ---- what is given up

pub skip_some : (start count : ℕ) (bytes : List ℕ)
    → drop (start + count) bytes ≡ drop count (drop start bytes)
skip_some start count bytes = sym (drop-drop count start bytes)

pub skip_all : (start end count : ℕ) (bytes : List ℕ) → start ≤ end → end - start ≤ count
    → drop end (take end bytes) ≡ drop count (drop start (take end bytes))
skip_all start end count bytes before all =
    let short : length (take end bytes) ≤ end = grind (arith, length-take end bytes) in
    drop_all end (take end bytes) short ∙ sym (drop_all (start + count) (take end bytes) (omega (arith, short, before, all))) ∙ skip_some start count (take end bytes)

-- ---- what stands after a record's length

-- what is left of first bytes
pub rest_front : (n k : ℕ) (bytes : List ℕ) → drop k (take n bytes) ≡ take (n - k) (drop k bytes)
rest_front n k bytes = elim (cases_lt n k) [
  | inl less ↦
      let none : n - k ≡ 0 = omega (arith, less) in
      let short : length (take n bytes) ≤ k = grind (arith, less, length-take n bytes) in
      drop_all k (take n bytes) short ∙ ap (λ m. take m (drop k bytes)) (sym none)
  | inr more ↦
      let sum : n ≡ k + (n - k) = omega (arith, more) in
      ap (λ m. drop k (take m bytes)) sum ∙ drop-take k (n - k) bytes
]

pub rest_after : (bytes : List ℕ) → length (drop 5 bytes) ≡ length bytes - 5
rest_after bytes = length-drop 5 bytes

-- the first bytes of a longer list decide, if the record is whole in them
whole_longer : (found : Record) (short long : List ℕ) (size : ℕ) → length short ≤ length long
    → whole_record found short ≡ records.Open size
    → (whole_record found long ≡ records.Open size) × (size < length short)
whole_longer records.Closed short long size more is = absurd (cc is)
whole_longer records.Broken short long size more is = absurd (cc is)
whole_longer (records.Open n) short long size more is = elim (cases_Bool (nat_lt n (length short))) [
  | inl fits ↦
      let opens : records.Open n ≡ records.Open size = rw fits at is in
      let same : n ≡ size = cc opens in
      let longer : nat_lt n (length long) ≡ true = grind (arith, nat_tests, fits, more) in
      (rw longer opens, grind (arith, nat_tests, fits, same))
  | inr cut ↦
      let other : records.Broken ≡ records.Open size = rw cut at is in
      absurd (cc other)
]

closed_longer : (found : Record) (short long : List ℕ) → whole_record found short ≡ records.Closed
    → whole_record found long ≡ records.Closed
closed_longer records.Closed short long is = refl
closed_longer records.Broken short long is = absurd (cc is)
closed_longer (records.Open n) short long is = elim (cases_Bool (nat_lt n (length short))) [
  | inl fits ↦
      let other : records.Open n ≡ records.Closed = rw fits at is in
      absurd (cc other)
  | inr cut ↦
      let other : records.Broken ≡ records.Closed = rw cut at is in
      absurd (cc other)
]

-- the gate and the length, as far as first bytes say it
gate_short : (n : ℕ) (bytes : List ℕ) → n < 5
    → (gate_of (take n bytes) ≡ records.Broken) ⊎ (gate_of (take n bytes) ≡ gate_of bytes)
unfolding gate_of
gate_short zero bytes few = inl refl
gate_short (suc m) [] few = inr refl
gate_short (suc m) (gate ∷ bytes) few = elim (cases_Bool (gate == OPEN_GATE)) [
  | inl is ↦
      let cut : nat_lt (length (take m bytes)) 4 ≡ true = grind (arith, nat_tests, few, length-take m bytes) in
      inl (rw (is, cut) refl)
  | inr shut ↦ inr (rw shut refl)
]

gate_front : (n : ℕ) (bytes : List ℕ)
    → (gate_of (take n bytes) ≡ records.Broken) ⊎ (gate_of (take n bytes) ≡ gate_of bytes)
gate_front n bytes = elim (cases_lt n 5) [
  | inl few ↦ gate_short n bytes few
  | inr many ↦ inr (sym (gate_prefix (take n bytes)) ∙ ap gate_of (take-take 5 n bytes (omega (arith, many))) ∙ gate_prefix bytes)
]

fewer_left : (n : ℕ) (bytes : List ℕ) → length (drop 5 (take n bytes)) ≤ length (drop 5 bytes)
fewer_left n bytes = grind (arith, length-drop 5 (take n bytes), length-drop 5 bytes, length-take n bytes)

-- ---- a record that is whole in first bytes

open_front : (n size : ℕ) (bytes : List ℕ) → record_of (take n bytes) ≡ records.Open size
    → (record_of bytes ≡ records.Open size) × (size < length (drop 5 (take n bytes)))
unfolding record_of
open_front n size bytes is = elim (gate_front n bytes) [
  | inl none ↦
      let other : whole_record records.Broken (drop 5 (take n bytes)) ≡ records.Open size = ap (λ r. whole_record r (drop 5 (take n bytes))) (sym none) ∙ is in
      absurd (cc other)
  | inr same ↦
      whole_longer (gate_of bytes) (drop 5 (take n bytes)) (drop 5 bytes) size (fewer_left n bytes) (ap (λ r. whole_record r (drop 5 (take n bytes))) (sym same) ∙ is)
]

closed_front : (n : ℕ) (bytes : List ℕ) → record_of (take n bytes) ≡ records.Closed
    → record_of bytes ≡ records.Closed
unfolding record_of
closed_front n bytes is = elim (gate_front n bytes) [
  | inl none ↦
      let other : whole_record records.Broken (drop 5 (take n bytes)) ≡ records.Closed = ap (λ r. whole_record r (drop 5 (take n bytes))) (sym none) ∙ is in
      absurd (cc other)
  | inr same ↦
      closed_longer (gate_of bytes) (drop 5 (take n bytes)) (drop 5 bytes) (ap (λ r. whole_record r (drop 5 (take n bytes))) (sym same) ∙ is)
]

body_front : (n size : ℕ) (bytes : List ℕ) → size < length (drop 5 (take n bytes))
    → take size (drop 5 (take n bytes)) ≡ take size (drop 5 bytes)
body_front n size bytes within =
    let room : size ≤ n - 5 = grind (arith, within, length-drop 5 (take n bytes), length-take n bytes) in
    ap (take size) (rest_front n 5 bytes) ∙ take-take size (n - 5) (drop 5 bytes) room

found_front : (found : Record) (n : ℕ) (bytes : List ℕ) → found ≡ record_of (take n bytes)
    → is_broken found ≡ false
    → (found ≡ record_of bytes) × (take (record_size found) (drop 5 (take n bytes)) ≡ take (record_size found) (drop 5 bytes))
found_front records.Closed n bytes is some = (sym (closed_front n bytes (sym is)), refl)
found_front records.Broken n bytes is some = absurd (cc some)
found_front (records.Open size) n bytes is some =
    let whole = open_front n size bytes (sym is) in
    (sym whole.0, body_front n size bytes whole.1)

-- The record that the bytes ahead say is there, and its block.
pub record_ahead : (gate : ℕ) (ahead : List ℕ) (content : Option (List ℕ)) (found : Record)
    → found ≡ record_of ahead → is_broken found ≡ false → IsAhead gate ahead content
    → IsRecordAt gate found (take (record_size found) (drop 5 ahead)) content
record_ahead gate ahead content found is some there = λ image told.
    let begins = there image told in
    let front = found_front found begins.count (drop gate image) (is ∙ ap record_of begins.is) some in
    (front.0, ap (λ (bytes : List ℕ). take (record_size found) (drop 5 bytes)) begins.is ∙ front.1)

-- Where the next gate is, the rest of these bytes is ahead.
pub ahead_after : (gate after : ℕ) (ahead : List ℕ) (content : Option (List ℕ)) → gate ≤ after
    → IsAhead gate ahead content → IsAhead after (drop (after - gate) ahead) content
ahead_after gate after ahead content later there = λ image told.
    let begins = there image told in
    let sum : gate + (after - gate) ≡ after = omega (arith, later) in
    record {
      count = begins.count - (after - gate);
      is = ap (drop (after - gate)) begins.is ∙ rest_front begins.count (after - gate) (drop gate image)
          ∙ ap (take (begins.count - (after - gate))) (drop-drop (after - gate) gate image ∙ ap (λ n. drop n image) sum);
    }

-- No byte is ahead.
pub none_ahead : (gate : ℕ) (content : Option (List ℕ)) → IsAhead gate [] content
none_ahead gate content = λ image told. record { count = 0; is = refl }

-- A record that is whole in some bytes fits them.
pub body_there : (found : Record) (bytes : List ℕ) → record_of bytes ≡ found
    → 0 < record_size found → 5 + record_size found < length bytes
unfolding record_of
body_there found bytes is some = fits (gate_of bytes) found is some
  where
    fits : (gate found : Record) → whole_record gate (drop 5 bytes) ≡ found → 0 < record_size found
        → 5 + record_size found < length bytes
    fits gate records.Closed is some = absurd (omega (arith, some))
    fits gate records.Broken is some = absurd (omega (arith, some))
    fits gate (records.Open size) is some =
        let within = (whole_longer gate (drop 5 bytes) (drop 5 bytes) size (omega arith) is).1 in
        grind (arith, within, length-drop 5 bytes)
