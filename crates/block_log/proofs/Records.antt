-- The records of a log up to its closed gate, and what becomes of them with other bytes from that
-- gate on.
use Rattle.std.proofs.Common.{◌≡◌, inl, inr, ℕ, zero, suc, ◌+◌, ◌≤◌, ◌<◌, Bool, true, false, List, [], ◌∷◌, ◌++◌, length, take, drop, refl, sym, ◌∙◌, ap, subst, arith, append_assoc}
use Rattle.std.specs.Prelude.{Option, Some, None, ◌==◌, nat_lt, if◌then◌else◌}
use Rattle.std.specs.Int.{w32, from_be_bytes}
use Rattle.std.proofs.lemmas.List.{take_at, drop_at, length-take-le, length-drop, length-append, take-append-drop}
use Rattle.std.proofs.lemmas.Bool.{cases_eq, cases_Bool}
use Rattle.std.proofs.lemmas.Bool.Decides.{nat_tests}
use Rattle.block_codec.specs.Placement.{digest_of}
use Rattle.block_codec.specs.declared.limits.TheConstants.{MAX_BLOCK_BYTES}
use Rattle.block_codec.specs.declared.block.Block.{Block}
use Rattle.block_log.specs.declared.layout.TheConstants.{OPEN_GATE, FIRST_GATE, MAX_RECORDS}
use Rattle.block_log.specs.declared.layout.Stored.{Stored}
use Rattle.block_log.specs.Standing.{Standing, Blank, NotALog, Damaged, Holds, NextBlock, blocks_in, after_record, is_mark, is_sized, record_at, records_at, is_log, is_blank, standing}
use Rattle.block_log.specs.Log.{marks}

-- the record of a block
abbrev pub stored_at : ℕ → Block → Stored
stored_at gate block = record { place = gate; digest = digest_of block; block = block }

-- the record that follows an open gate
pub record IsRecord (next : NextBlock) (marked : Bool) (held : List Stored) (rest : List ℕ) (block : Block) (size : ℕ) (back : List ℕ) : Type 0 where
  pub four : List ℕ
  pub bytes : List ℕ
  pub four_long : length four ≡ 4
  pub counts : from_be_bytes w32 four ≡ size
  pub long : length bytes ≡ size
  pub low : 1 ≤ size
  pub high : size ≤ MAX_BLOCK_BYTES
  pub next_is : next marked (blocks_in held) bytes ≡ Some block
  pub is : rest ≡ four ++ (bytes ++ back)

-- a record that passed the tests
pub record_is : (next : NextBlock) (marked : Bool) (held : List Stored) (rest : List ℕ) (block : Block) → let size = from_be_bytes w32 (take 4 rest) in
    is_sized size (drop 4 rest) ≡ true → next marked (blocks_in held) (take size (drop 4 rest)) ≡ Some block → IsRecord next marked held rest block size (drop size (drop 4 rest))
record_is next marked held rest block sized found =
    let size = from_be_bytes w32 (take 4 rest) in
    let within : size < length (drop 4 rest) = grind (arith, nat_tests) in
    record {
      four = take 4 rest;
      bytes = take size (drop 4 rest);
      four_long = length-take-le 4 rest (omega (arith, within, length-drop 4 rest));
      counts = refl;
      long = length-take-le size (drop 4 rest) (omega (arith, within));
      low = grind (arith, nat_tests);
      high = grind (arith, nat_tests);
      next_is = found;
      is = sym (take-append-drop 4 rest) ∙ ap (λ (l : List ℕ). take 4 rest ++ l) (sym (take-append-drop size (drop 4 rest)));
    }

-- a record of a length other than 0 is no mark
no_mark : (marked : Bool) (size : ℕ) (bytes : List ℕ) → 1 ≤ size → is_mark marked size bytes ≡ false
no_mark true size bytes low = refl
no_mark false size bytes low = let some : (size == 0) ≡ false = grind (arith, nat_tests) in rw some refl

-- a record is read, whatever follows its bytes
pub record_made : (next : NextBlock) (more : Bool → ℕ → List Stored → List ℕ → Standing) (marked : Bool) (gate : ℕ) (held : List Stored) (four bytes back : List ℕ) (block : Block)
    → length four ≡ 4 → from_be_bytes w32 four ≡ length bytes → 1 ≤ length bytes → length bytes ≤ MAX_BLOCK_BYTES → 0 < length back → next marked (blocks_in held) bytes ≡ Some block
    → let rest = four ++ (bytes ++ back) in record_at next more marked gate (from_be_bytes w32 (take 4 rest)) held (drop 4 rest) ≡ more marked (gate + 5 + length bytes) (held ++ stored_at gate block ∷ []) back
record_made next more marked gate held four bytes back block long counts low high follows found =
    rw (take_at four (bytes ++ back) 4 long, drop_at four (bytes ++ back) 4 long, counts) (made next more marked gate held bytes back block low high follows found)
  where
    made : (next : NextBlock) (more : Bool → ℕ → List Stored → List ℕ → Standing) (marked : Bool) (gate : ℕ) (held : List Stored) (bytes back : List ℕ) (block : Block) → 1 ≤ length bytes → length bytes ≤ MAX_BLOCK_BYTES → 0 < length back → next marked (blocks_in held) bytes ≡ Some block
        → record_at next more marked gate (length bytes) held (bytes ++ back) ≡ more marked (gate + 5 + length bytes) (held ++ stored_at gate block ∷ []) back
    made next more marked gate held bytes back block low high follows found =
        let sized : is_sized (length bytes) (bytes ++ back) ≡ true = grind (arith, nat_tests, length-append bytes back) in
        rw (no_mark marked (length bytes) (bytes ++ back) low, sized, take_at bytes back (length bytes) refl, drop_at bytes back (length bytes) refl, found) refl

-- so is a mark, where none stands before
pub mark_made : (next : NextBlock) (more : Bool → ℕ → List Stored → List ℕ → Standing) (gate : ℕ) (held : List Stored) (four back : List ℕ)
    → length four ≡ 4 → from_be_bytes w32 four ≡ 0 → 0 < length back
    → let rest = four ++ back in record_at next more false gate (from_be_bytes w32 (take 4 rest)) held (drop 4 rest) ≡ more true (gate + 5) held back
mark_made next more gate held four back long counts follows =
    let test : nat_lt 0 (length back) ≡ true = grind (arith, nat_tests) in
    rw (take_at four back 4 long, drop_at four back 4 long, counts, test) refl

-- a closed gate ends the records
pub closed_records : (next : NextBlock) (left : ℕ) (marked : Bool) (gate : ℕ) (stored : List Stored) (byte : ℕ) (bytes : List ℕ) → byte == OPEN_GATE ≡ false → records_at next (suc left) marked gate stored (byte ∷ bytes) ≡ Holds stored marked gate
unfolding records_at
closed_records next left marked gate stored byte bytes shut = rw shut refl

-- a record is read after an open gate
pub open_records : (next : NextBlock) (left : ℕ) (marked : Bool) (gate : ℕ) (stored : List Stored) (bytes : List ℕ) → records_at next (suc left) marked gate stored (OPEN_GATE ∷ bytes) ≡ record_at next (records_at next left) marked gate (from_be_bytes w32 (take 4 bytes)) stored (drop 4 bytes)
unfolding records_at
open_records next left marked gate stored bytes = refl

-- The bytes that lead to the closed gate lead to it whatever follows.
pub record Parts (next : NextBlock) (count : ℕ) (before : Bool) (gate : ℕ) (held : List Stored) (bytes : List ℕ) (stored : List Stored) (marked : Bool) (end : ℕ) : Type 0 where
  pub front : List ℕ
  pub byte : ℕ
  pub junk : List ℕ
  pub left : ℕ
  pub is : bytes ≡ front ++ byte ∷ junk
  pub closed : byte == OPEN_GATE ≡ false
  pub end_is : end ≡ gate + length front
  pub count_is : length stored + marks marked + suc left ≡ length held + marks before + count
  pub again : (g : ℕ) (ys : List ℕ) → records_at next count before gate held (front ++ g ∷ ys) ≡ records_at next (suc left) marked end stored (g ∷ ys)

regroup : (a b c d : List ℕ) → a ++ (b ++ (c ++ d)) ≡ (a ++ (b ++ c)) ++ d
regroup a b c d = ap (λ (l : List ℕ). a ++ l) (sym (append_assoc b c d)) ∙ sym (append_assoc a (b ++ c) d)

opened : (next : NextBlock) (count : ℕ) (before : Bool) (gate : ℕ) (held : List Stored) (rest : List ℕ) (stored : List Stored) (marked : Bool) (end : ℕ) (block : Block) (size : ℕ) (back : List ℕ) → IsRecord next before held rest block size back
    → Parts next count before (gate + 5 + size) (held ++ stored_at gate block ∷ []) back stored marked end → Parts next (suc count) before gate held (OPEN_GATE ∷ rest) stored marked end
opened next count before gate held rest stored marked end block size back r q = record {
  front = OPEN_GATE ∷ (r.four ++ (r.bytes ++ q.front));
  byte = q.byte;
  junk = q.junk;
  left = q.left;
  is = ap (λ (l : List ℕ). OPEN_GATE ∷ l) (r.is ∙ ap (λ (l : List ℕ). r.four ++ (r.bytes ++ l)) q.is ∙ regroup r.four r.bytes q.front (q.byte ∷ q.junk));
  closed = q.closed;
  end_is = omega (arith, q.end_is, r.four_long, r.long, length-append r.four (r.bytes ++ q.front), length-append r.bytes q.front);
  count_is = omega (arith, q.count_is, length-append held (stored_at gate block ∷ []));
  again = λ g ys.
      ap (λ (l : List ℕ). records_at next (suc count) before gate held (OPEN_GATE ∷ l)) (sym (regroup r.four r.bytes q.front (g ∷ ys)))
      ∙ open_records next count before gate held (r.four ++ (r.bytes ++ (q.front ++ g ∷ ys)))
      ∙ record_made next (records_at next count) before gate held r.four r.bytes (q.front ++ g ∷ ys) block r.four_long (r.counts ∙ sym r.long) (omega (arith, r.long, r.low)) (omega (arith, r.long, r.high)) (omega (arith, length-append q.front (g ∷ ys))) r.next_is
      ∙ ap (λ n. records_at next count before (gate + 5 + n) (held ++ stored_at gate block ∷ []) (q.front ++ g ∷ ys)) r.long
      ∙ q.again g ys;
}

-- after a mark
opened_mark : (next : NextBlock) (count gate : ℕ) (held : List Stored) (rest : List ℕ) (stored : List Stored) (marked : Bool) (end : ℕ) → is_mark false (from_be_bytes w32 (take 4 rest)) (drop 4 rest) ≡ true
    → Parts next count true (gate + 5) held (drop 4 rest) stored marked end → Parts next (suc count) false gate held (OPEN_GATE ∷ rest) stored marked end
opened_mark next count gate held rest stored marked end mark q =
    let four = take 4 rest in
    let size = from_be_bytes w32 four in
    let within : 0 < length (drop 4 rest) = grind (arith, nat_tests) in
    let counts : size ≡ 0 = grind (arith, nat_tests) in
    let long : length four ≡ 4 = length-take-le 4 rest (omega (arith, within, length-drop 4 rest)) in
    record {
      front = OPEN_GATE ∷ (four ++ q.front);
      byte = q.byte;
      junk = q.junk;
      left = q.left;
      is = ap (λ (l : List ℕ). OPEN_GATE ∷ l) (sym (take-append-drop 4 rest) ∙ ap (λ (l : List ℕ). four ++ l) q.is ∙ sym (append_assoc four q.front (q.byte ∷ q.junk)));
      closed = q.closed;
      end_is = omega (arith, q.end_is, long, length-append four q.front);
      count_is = omega (arith, q.count_is);
      again = λ g ys.
          ap (λ (l : List ℕ). records_at next (suc count) false gate held (OPEN_GATE ∷ l)) (append_assoc four q.front (g ∷ ys))
          ∙ open_records next count false gate held (four ++ (q.front ++ g ∷ ys))
          ∙ mark_made next (records_at next count) gate held four (q.front ++ g ∷ ys) long counts (omega (arith, length-append q.front (g ∷ ys)))
          ∙ q.again g ys;
    }

after : (next : NextBlock) (count : ℕ) (before : Bool) (gate : ℕ) (held : List Stored) (rest : List ℕ) (stored : List Stored) (marked : Bool) (end : ℕ)
    → ((before : Bool) (gate : ℕ) (held : List Stored) (bytes : List ℕ) → records_at next count before gate held bytes ≡ Holds stored marked end → Parts next count before gate held bytes stored marked end)
    → (mark : Bool) → let size = from_be_bytes w32 (take 4 rest) in is_mark before size (drop 4 rest) ≡ mark → (sized : Bool) → is_sized size (drop 4 rest) ≡ sized → (found : Option Block) → next before (blocks_in held) (take size (drop 4 rest)) ≡ found
    → (if mark then records_at next count true (gate + 5) held (drop 4 rest) else (if sized then after_record (records_at next count before) gate size held (drop size (drop 4 rest)) found else Damaged held gate)) ≡ Holds stored marked end
    → Parts next (suc count) before gate held (OPEN_GATE ∷ rest) stored marked end
after next count false gate held rest stored marked end more true mark sized e found f is =
    opened_mark next count gate held rest stored marked end mark (more true (gate + 5) held (drop 4 rest) is)
after next count true gate held rest stored marked end more true mark sized e found f is = absurd (cc mark)
after next count before gate held rest stored marked end more false mark true sized (Some block) found is =
    opened next count before gate held rest stored marked end block _ _ (record_is next before held rest block sized found) (more before _ _ _ is)
after next count before gate held rest stored marked end more false mark true sized None found is = absurd (cc is)
after next count before gate held rest stored marked end more false mark false sized found e is = absurd (cc is)

pub parts : (next : NextBlock) (count : ℕ) (before : Bool) (gate : ℕ) (held : List Stored) (bytes : List ℕ) (stored : List Stored) (marked : Bool) (end : ℕ) → records_at next count before gate held bytes ≡ Holds stored marked end → Parts next count before gate held bytes stored marked end
unfolding records_at
parts next zero before gate held bytes stored marked end is = let e : Damaged held gate ≡ Holds stored marked end = is in absurd (cc e)
parts next (suc count) before gate held [] stored marked end is = let e : Damaged held gate ≡ Holds stored marked end = is in absurd (cc e)
parts next (suc count) before gate held (byte ∷ rest) stored marked end is = elim (cases_eq byte OPEN_GATE) [
  | inl opens ↦
      let at_open : records_at next (suc count) before gate held (OPEN_GATE ∷ rest) ≡ Holds stored marked end = ap (λ g. records_at next (suc count) before gate held (g ∷ rest)) (sym opens) ∙ is in
      subst (λ g. Parts next (suc count) before gate held (g ∷ rest) stored marked end) (sym opens)
      (after next count before gate held rest stored marked end (λ before gate held bytes. parts next count before gate held bytes stored marked end) _ refl _ refl _ refl (sym (open_records next count before gate held rest) ∙ at_open))
  | inr shuts ↦
      let test : (byte == OPEN_GATE) ≡ false = grind (arith, nat_tests) in
      let ends : Holds held before gate ≡ Holds stored marked end = sym (closed_records next count before gate held byte rest test) ∙ is in
      ended next count before gate held byte rest stored marked end test ends
]
  where
    ended : (next : NextBlock) (count : ℕ) (before : Bool) (gate : ℕ) (held : List Stored) (byte : ℕ) (rest : List ℕ) (stored : List Stored) (marked : Bool) (end : ℕ) → (byte == OPEN_GATE) ≡ false → Holds held before gate ≡ Holds stored marked end → Parts next (suc count) before gate held (byte ∷ rest) stored marked end
    ended next count before gate held byte rest stored marked end test ends =
        let same : held ≡ stored = cc ends in
        let mark : before ≡ marked = cc ends in
        let at : gate ≡ end = cc ends in
        record {
          front = [];
          byte = byte;
          junk = rest;
          left = count;
          is = refl;
          closed = test;
          end_is = omega (arith, at);
          count_is = omega (arith, ap (length {A = Stored}) same, ap marks mark);
          again = λ g ys. rw (same, mark, at) refl;
        }

-- An image that is a log: its bytes up to the closed gate, and what it stands for with others from
-- that gate on.
pub record IsLog (next : NextBlock) (image : List ℕ) (stored : List Stored) (marked : Bool) (gate : ℕ) : Type 0 where
  pub front : List ℕ
  pub byte : ℕ
  pub junk : List ℕ
  pub left : ℕ
  pub is : image ≡ front ++ byte ∷ junk
  pub closed : byte == OPEN_GATE ≡ false
  pub size : length front ≡ gate
  pub count_is : length stored + marks marked + left ≡ MAX_RECORDS
  pub stands : (g : ℕ) (ys : List ℕ) → standing next (front ++ g ∷ ys) ≡ records_at next (suc left) marked gate stored (g ∷ ys)

no_head : (stored : List Stored) (marked : Bool) (gate : ℕ) (b : Bool) → (if b then Blank else NotALog) ≡ Holds stored marked gate → ⊥
no_head stored marked gate true is = cc is
no_head stored marked gate false is = cc is

-- what a head leads to, whatever follows it
with_head : (next : NextBlock) (image front : List ℕ) (g : ℕ) (ys : List ℕ) → is_log image ≡ true → length (take FIRST_GATE image) ≡ FIRST_GATE
    → standing next ((take FIRST_GATE image ++ front) ++ g ∷ ys) ≡ records_at next (MAX_RECORDS + 1) false FIRST_GATE [] (front ++ g ∷ ys)
unfolding standing
with_head next image front g ys opens eight =
    let all = (take FIRST_GATE image ++ front) ++ g ∷ ys in
    let split : all ≡ take FIRST_GATE image ++ (front ++ g ∷ ys) = append_assoc (take FIRST_GATE image) front (g ∷ ys) in
    let head : take FIRST_GATE all ≡ take FIRST_GATE image = ap (take FIRST_GATE) split ∙ take_at (take FIRST_GATE image) (front ++ g ∷ ys) FIRST_GATE eight in
    let tail : drop FIRST_GATE all ≡ front ++ g ∷ ys = ap (drop FIRST_GATE) split ∙ drop_at (take FIRST_GATE image) (front ++ g ∷ ys) FIRST_GATE eight in
    let size : 9 ≤ length all = omega (arith, eight, length-append (take FIRST_GATE image ++ front) (g ∷ ys), length-append (take FIRST_GATE image) front) in
    let same : is_log all ≡ true = grind (arith, nat_tests, head, size, opens) in
    rw (same, tail) refl

log_of : (next : NextBlock) (image : List ℕ) (stored : List Stored) (marked : Bool) (gate : ℕ) → is_log image ≡ true → Parts next (MAX_RECORDS + 1) false FIRST_GATE [] (drop FIRST_GATE image) stored marked gate → IsLog next image stored marked gate
log_of next image stored marked gate opens q =
    let long : 9 ≤ length image = grind (arith, nat_tests) in
    let eight : length (take FIRST_GATE image) ≡ FIRST_GATE = length-take-le FIRST_GATE image (omega (arith, long)) in
    record {
      front = take FIRST_GATE image ++ q.front;
      byte = q.byte;
      junk = q.junk;
      left = q.left;
      is = sym (take-append-drop FIRST_GATE image) ∙ ap (λ (l : List ℕ). take FIRST_GATE image ++ l) q.is ∙ sym (append_assoc (take FIRST_GATE image) q.front (q.byte ∷ q.junk));
      closed = q.closed;
      size = omega (arith, eight, q.end_is, length-append (take FIRST_GATE image) q.front);
      count_is = omega (arith, q.count_is);
      stands = λ g ys. with_head next image q.front g ys opens eight ∙ q.again g ys;
    }

pub log_is : (next : NextBlock) (image : List ℕ) (stored : List Stored) (marked : Bool) (gate : ℕ) → standing next image ≡ Holds stored marked gate → IsLog next image stored marked gate
unfolding standing
log_is next image stored marked gate is = elim (cases_Bool (is_log image)) [
  | inl opens ↦ log_of next image stored marked gate opens (parts next (MAX_RECORDS + 1) false FIRST_GATE [] (drop FIRST_GATE image) stored marked gate (sym (rw opens refl) ∙ is))
  | inr shut ↦ absurd (no_head stored marked gate (is_blank image) (sym (rw shut refl) ∙ is))
]
