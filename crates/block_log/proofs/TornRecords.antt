-- Whatever a crash leaves in a step of an append has the blocks of before, or the new one too; in a
-- step of a mark it has the blocks of before, and the mark or not.
use Rattle.std.proofs.Common.{◌≡◌, ◌⊎◌, inl, inr, ℕ, suc, pred, ◌+◌, ◌≤◌, ◌<◌, Bool, true, false, List, [], ◌∷◌, ◌++◌, length, take, drop, get_or, refl, sym, ◌∙◌, ap, subst, arith, append_assoc}
use Rattle.std.specs.Prelude.{Some}
use Rattle.std.specs.Int.{w32, to_be_bytes}
use Rattle.std.proofs.lemmas.Nat.{from_be_bytes-to_be_bytes_4}
use Rattle.std.proofs.lemmas.List.{take_at, drop_at, drop_more, length-append, take-append-drop}
use Rattle.std.proofs.lemmas.Bool.{cases_eq}
use Rattle.std.proofs.lemmas.Bool.Decides.{nat_tests}
use Rattle.disk_model.specs.Disk.{Torn, bytes_over}
use Rattle.block_codec.specs.declared.limits.TheConstants.{MAX_BLOCK_BYTES}
use Rattle.block_codec.specs.declared.block.Block.{Block}
use Rattle.block_log.specs.declared.layout.TheConstants.{OPEN_GATE, CLOSED_GATE}
use Rattle.block_log.specs.declared.layout.Stored.{Stored}
use Rattle.block_log.specs.Standing.{Standing, Holds, NextBlock, blocks_in, records_at, standing}
use Rattle.block_log.specs.Steps.{record_bytes}
use Rattle.block_log.proofs.Records.{IsLog, stored_at, record_made, mark_made, closed_records, open_records}

-- an open gate with a record after it
open_record : (next : NextBlock) (left : ℕ) (marked : Bool) (gate : ℕ) (stored : List Stored) (bytes ys : List ℕ) (block : Block) → 1 ≤ length bytes → length bytes ≤ MAX_BLOCK_BYTES → next marked (blocks_in stored) bytes ≡ Some block
    → records_at next (suc (suc left)) marked gate stored (OPEN_GATE ∷ (record_bytes bytes ++ ys)) ≡ Holds (stored ++ stored_at gate block ∷ []) marked (gate + 5 + length bytes)
unfolding record_bytes
open_record next left marked gate stored bytes ys block low high found =
    let four = to_be_bytes w32 (length bytes) in
    let split : record_bytes bytes ++ ys ≡ four ++ (bytes ++ CLOSED_GATE ∷ ys) = append_assoc (four ++ bytes) (CLOSED_GATE ∷ []) ys ∙ append_assoc four bytes (CLOSED_GATE ∷ ys) in
    ap (λ (l : List ℕ). records_at next (suc (suc left)) marked gate stored (OPEN_GATE ∷ l)) split
    ∙ open_records next (suc left) marked gate stored (four ++ (bytes ++ CLOSED_GATE ∷ ys))
    ∙ record_made next (records_at next (suc left)) marked gate stored four bytes (CLOSED_GATE ∷ ys) block refl (from_be_bytes-to_be_bytes_4 (length bytes) (omega (arith, high))) low high (omega arith) found
    ∙ closed_records next left marked (gate + 5 + length bytes) (stored ++ stored_at gate block ∷ []) CLOSED_GATE ys refl

-- or the mark
open_mark : (next : NextBlock) (left gate : ℕ) (stored : List Stored) (ys : List ℕ)
    → records_at next (suc (suc left)) false gate stored (OPEN_GATE ∷ (record_bytes [] ++ ys)) ≡ Holds stored true (gate + 5)
unfolding record_bytes
open_mark next left gate stored ys =
    let four = to_be_bytes w32 0 in
    let split : record_bytes [] ++ ys ≡ four ++ CLOSED_GATE ∷ ys = append_assoc (four ++ []) (CLOSED_GATE ∷ []) ys ∙ append_assoc four [] (CLOSED_GATE ∷ ys) in
    ap (λ (l : List ℕ). records_at next (suc (suc left)) false gate stored (OPEN_GATE ∷ l)) split
    ∙ open_records next (suc left) false gate stored (four ++ CLOSED_GATE ∷ ys)
    ∙ mark_made next (records_at next (suc left)) gate stored four (CLOSED_GATE ∷ ys) refl (from_be_bytes-to_be_bytes_4 0 (omega arith)) (omega arith)
    ∙ closed_records next left true (gate + 5) stored CLOSED_GATE ys refl

one_left : (left : ℕ) → 0 < left → (l : ℕ) × (left ≡ suc l)
one_left left some = (pred left, grind (arith, nat_tests, some))

-- the next block is what an open gate leads to
pub block_opens : (next : NextBlock) (left : ℕ) (marked : Bool) (gate : ℕ) (stored : List Stored) (bytes : List ℕ) (block : Block) → 0 < left → 1 ≤ length bytes → length bytes ≤ MAX_BLOCK_BYTES → next marked (blocks_in stored) bytes ≡ Some block
    → (ys : List ℕ) → records_at next (suc left) marked gate stored (OPEN_GATE ∷ (record_bytes bytes ++ ys)) ≡ Holds (stored ++ stored_at gate block ∷ []) marked (gate + 5 + length bytes)
block_opens next left marked gate stored bytes block some low high found ys =
    let l = one_left left some in
    ap (λ n. records_at next (suc n) marked gate stored (OPEN_GATE ∷ (record_bytes bytes ++ ys))) l.1 ∙ open_record next l.0 marked gate stored bytes ys block low high found

-- or the mark is
pub mark_opens : (next : NextBlock) (left gate : ℕ) (stored : List Stored) → 0 < left
    → (ys : List ℕ) → records_at next (suc left) false gate stored (OPEN_GATE ∷ (record_bytes [] ++ ys)) ≡ Holds stored true (gate + 5)
mark_opens next left gate stored some ys =
    let l = one_left left some in
    ap (λ n. records_at next (suc n) false gate stored (OPEN_GATE ∷ (record_bytes [] ++ ys))) l.1 ∙ open_mark next l.0 gate stored ys

-- `new` is what the image stands for once the gate is open
module _ (next : NextBlock) (content : List ℕ) (stored : List Stored) (marked : Bool) (gate : ℕ) (bytes : List ℕ) (new : Standing) (log : IsLog next content stored marked gate)
    (opens : (ys : List ℕ) → records_at next (suc log.left) marked gate stored (OPEN_GATE ∷ (record_bytes bytes ++ ys)) ≡ new) where
  abbrev record_there : List ℕ
  record_there = record_bytes bytes

  abbrev staged : List ℕ
  staged = bytes_over (gate + 1) record_there content

  abbrev later : List ℕ
  later = record_there ++ drop (gate + 1 + length record_there) content

  with_gate : content ≡ (log.front ++ log.byte ∷ []) ++ log.junk
  with_gate = log.is ∙ sym (append_assoc log.front (log.byte ∷ []) log.junk)

  gate_size : length (log.front ++ log.byte ∷ []) ≡ gate + 1
  gate_size = omega (arith, log.size, length-append log.front (log.byte ∷ []))

  up_to_gate : take (gate + 1) content ≡ log.front ++ log.byte ∷ []
  up_to_gate = ap (take (gate + 1)) with_gate ∙ take_at (log.front ++ log.byte ∷ []) log.junk (gate + 1) gate_size

  pub within : gate + 1 ≤ length content
  within = omega (arith, ap (length {A = ℕ}) with_gate, gate_size, length-append (log.front ++ log.byte ∷ []) log.junk)

  -- the closed gate stays in each outcome of the first write
  pub torn_after : (c : List ℕ) → Torn (gate + 1) (length record_there) content c → standing next c ≡ Holds stored marked gate
  torn_after c torn =
      let rest = drop (gate + 1) c in
      let whole : c ≡ log.front ++ log.byte ∷ rest =
      sym (take-append-drop (gate + 1) c) ∙ ap (λ (l : List ℕ). l ++ rest) (torn.before ∙ up_to_gate) ∙ append_assoc log.front (log.byte ∷ []) rest in
      ap (standing next) whole ∙ log.stands log.byte rest ∙ closed_records next log.left marked gate stored log.byte rest log.closed

  staged_is : staged ≡ log.front ++ log.byte ∷ later
  staged_is = ap (λ (l : List ℕ). l ++ record_there ++ drop (gate + 1 + length record_there) content) up_to_gate ∙ append_assoc (log.front ++ log.byte ∷ []) record_there (drop (gate + 1 + length record_there) content) ∙ append_assoc log.front (log.byte ∷ []) later

  pub staged_within : gate ≤ length staged
  staged_within = omega (arith, ap (length {A = ℕ}) staged_is, log.size, length-append log.front (log.byte ∷ later))

  staged_front : take gate staged ≡ log.front
  staged_front = ap (take gate) staged_is ∙ take_at log.front (log.byte ∷ later) gate log.size

  staged_back : drop (gate + 1) staged ≡ later
  staged_back = ap (drop (gate + 1)) (staged_is ∙ sym (append_assoc log.front (log.byte ∷ []) later)) ∙ drop_at (log.front ++ log.byte ∷ []) later (gate + 1) gate_size

  opened : standing next (log.front ++ OPEN_GATE ∷ later) ≡ new
  opened = log.stands OPEN_GATE later ∙ opens (drop (gate + 1 + length record_there) content)

  -- the record is whole after the gate, whichever byte that is
  any_gate : (g : ℕ) → (standing next (log.front ++ g ∷ later) ≡ Holds stored marked gate) ⊎ (standing next (log.front ++ g ∷ later) ≡ new)
  any_gate g = elim (cases_eq g OPEN_GATE) [
    | inl open_gate ↦ inr (ap (λ h. standing next (log.front ++ h ∷ later)) open_gate ∙ opened)
    | inr shut ↦ inl (log.stands g later ∙ closed_records next log.left marked gate stored g later (grind (arith, nat_tests)))
  ]

  pub torn_gate : (c : List ℕ) → Torn gate 1 staged c → (standing next c ≡ Holds stored marked gate) ⊎ (standing next c ≡ new)
  torn_gate c torn =
      let long : gate < length c = omega (arith, torn.no_shorter, ap (length {A = ℕ}) staged_is, log.size, length-append log.front (log.byte ∷ later)) in
      let g = get_or c gate 0 in
      let whole : c ≡ log.front ++ g ∷ later =
      sym (take-append-drop gate c) ∙ ap (λ (l : List ℕ). l ++ drop gate c) (torn.before ∙ staged_front)
      ∙ ap (λ (l : List ℕ). log.front ++ l) (drop_more c gate 0 long ∙ ap (λ (l : List ℕ). g ∷ l) (torn.after ∙ staged_back)) in
      subst (λ d. (standing next d ≡ Holds stored marked gate) ⊎ (standing next d ≡ new)) (sym whole) (any_gate g)

  -- and counts once the gate is open
  pub written_gate : standing next (bytes_over gate (OPEN_GATE ∷ []) staged) ≡ new
  written_gate =
      let whole : bytes_over gate (OPEN_GATE ∷ []) staged ≡ log.front ++ OPEN_GATE ∷ later =
      ap (λ (l : List ℕ). l ++ (OPEN_GATE ∷ []) ++ drop (gate + 1) staged) staged_front ∙ ap (λ (l : List ℕ). log.front ++ (OPEN_GATE ∷ []) ++ l) staged_back ∙ append_assoc log.front (OPEN_GATE ∷ []) later in
      ap (standing next) whole ∙ opened
