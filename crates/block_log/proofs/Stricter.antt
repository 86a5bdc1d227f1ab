-- A placement that is stricter than the log's own finds the same records, up to the first block
-- that it does not find next.
use Rattle.std.proofs.Common.{◌≡◌, inl, inr, ℕ, zero, suc, ◌+◌, Bool, true, false, List, [], ◌∷◌, ◌++◌, take, drop, refl, sym, ◌∙◌, ap, append_assoc, arith}
use Rattle.std.specs.Prelude.{Option, Some, None, Result, Ok, Err, ◌==◌, if◌then◌else◌}
use Rattle.std.specs.Option.{is_some}
use Rattle.std.specs.Int.{w32, from_be_bytes}
use Rattle.std.proofs.lemmas.List.{append-nil}
use Rattle.std.proofs.lemmas.Bool.{cases_Bool}
use Rattle.block_codec.specs.Reading.{block_in}
use Rattle.block_codec.specs.declared.block.Block.{Block}
use Rattle.block_codec.specs.declared.placement.Placement.{Placement}
use Rattle.block_codec.specs.declared.placement.Placement.TheVariants.{Known, Next, Not}
use Rattle.block_log.specs.declared.layout.TheConstants.{OPEN_GATE, FIRST_GATE, MAX_RECORDS}
use Rattle.block_log.specs.declared.layout.Stored.{Stored}
use Rattle.block_log.specs.Standing.{Standing, Blank, NotALog, Damaged, Holds, Logged, Placer, if_next, next_decoded, next_block, blocks_in, logged_of, after_record, is_mark, is_sized, records_at, is_log, is_blank, standing, chain_of}
use Rattle.block_log.specs.Log.{log_placement, next_in_log, IsStricter}
use Rattle.block_log.specs.Stricter.{is_second, is_next_by, standing_after, restanding}
use Rattle.block_codec.specs.Placement.{wanted_version}
use Rattle.block_codec.proofs.Versions.{next_version}
use Rattle.std.proofs.lemmas.Bool.Decides.{nat_tests}
use Rattle.block_log.proofs.Records.{stored_at}

-- ---- one step of the fold

pub restood_none : (place : Placer) (held : List Stored) (end : List Stored → Standing) → standing_after place held [] end ≡ end held
unfolding standing_after
restood_none place held end = refl

pub restood_next : (place : Placer) (held : List Stored) (s : Stored) (more : List Stored) (end : List Stored → Standing) → is_next_by place held s.block ≡ true → standing_after place held (s ∷ more) end ≡ standing_after place (held ++ s ∷ []) more end
unfolding standing_after
restood_next place held s more end is = rw is refl

pub restood_other : (place : Placer) (held : List Stored) (s : Stored) (more : List Stored) (end : List Stored → Standing) → is_next_by place held s.block ≡ false → standing_after place held (s ∷ more) end ≡ Damaged held s.place
unfolding standing_after
restood_other place held s more end is = rw is refl

-- ---- both placements over the same records

-- how records end: at a closed gate, after a mark or not, or at damage
abbrev ended : Option Bool → ℕ → List Stored → Standing
ended (Some marked) gate held = Holds held marked gate
ended None gate held = Damaged held gate

-- What some bytes stand for after these blocks, by the log's own placement and by a stricter one.
record Restands (place : Placer) (held : List Stored) (own stricter : Standing) : Type 0 where
  pub more : List Stored
  pub closes : Option Bool
  pub end : ℕ
  pub own_is : own ≡ ended closes end (held ++ more)
  pub stricter_is : stricter ≡ standing_after place held more (ended closes end)

here : (place : Placer) (held : List Stored) (closes : Option Bool) (gate : ℕ) → Restands place held (ended closes gate held) (ended closes gate held)
here place held closes gate = record {
  more = [];
  closes = closes;
  end = gate;
  own_is = ap (ended closes gate) (sym (append-nil held));
  stricter_is = sym (restood_none place held (ended closes gate));
}

-- a block of the version that is wanted has the second version exactly in a marked log
second_of : (marked : Bool) (block : Block) → block.version ≡ wanted_version marked → is_second block ≡ marked
second_of true block is = grind (arith, nat_tests, is)
second_of false block is = grind (arith, nat_tests, is)

-- so its place is that by the mark of the log that took it
pub is_next_marked : (place : Placer) (marked : Bool) (held : List Stored) (block : Block) → block.version ≡ wanted_version marked → is_next_by place held block ≡ is_some (if_next block (place marked (blocks_in held) block))
is_next_marked place marked held block is = ap (λ (m : Bool). is_some (if_next block (place m (blocks_in held) block))) (second_of marked block is)

-- a block that is the next one
next_is : (block found : Block) (placement : Placement) → if_next block placement ≡ Some found → (placement ≡ Next) × (found ≡ block)
next_is block found Next is = (refl, cc is)
next_is block found Known is = absurd (cc is)
next_is block found (Not why) is = absurd (cc is)

module _ (place : Placer) (is_stricter : IsStricter place) where
  -- a block that both find next, or the log alone, or neither
  placed : (count : ℕ) (marked : Bool) (gate size : ℕ) (held : List Stored) (rest : List ℕ) (block : Block) (own stricter : Option Block)
      → ((marked : Bool) (gate : ℕ) (held : List Stored) (bytes : List ℕ) → Restands place held (records_at next_in_log count marked gate held bytes) (records_at (next_block block_in place) count marked gate held bytes))
      → if_next block (log_placement marked (blocks_in held) block) ≡ own → if_next block (place marked (blocks_in held) block) ≡ stricter
      → Restands place held (after_record (records_at next_in_log count marked) gate size held rest own) (after_record (records_at (next_block block_in place) count marked) gate size held rest stricter)
  placed count marked gate size held rest block None None more own_is stricter_is = here place held None gate
  placed count marked gate size held rest block None (Some found) more own_is stricter_is =
      let next = is_stricter marked (blocks_in held) block (next_is block found (place marked (blocks_in held) block) stricter_is).0 in
      let some : if_next block (log_placement marked (blocks_in held) block) ≡ Some block = ap (if_next block) next in
      absurd (cc (own_is, some))
  placed count marked gate size held rest block (Some found) (Some other) more own_is stricter_is =
      let own = next_is block found (log_placement marked (blocks_in held) block) own_is in
      let strict = (next_is block other (place marked (blocks_in held) block) stricter_is).1 in
      let by_mark = is_next_marked place marked held block (next_version marked 0 (blocks_in held) block own.0) in
      goes_on found other (own.1 ∙ sym strict)
      (ap (is_next_by place held) own.1 ∙ by_mark ∙ ap is_some stricter_is)
    where
      goes_on : (found other : Block) → found ≡ other → is_next_by place held found ≡ true
          → Restands place held (records_at next_in_log count marked (gate + 5 + size) (held ++ stored_at gate found ∷ []) rest) (records_at (next_block block_in place) count marked (gate + 5 + size) (held ++ stored_at gate other ∷ []) rest)
      goes_on found other same test =
          let q = more marked (gate + 5 + size) (held ++ stored_at gate found ∷ []) rest in
          record {
            more = stored_at gate found ∷ q.more;
            closes = q.closes;
            end = q.end;
            own_is = q.own_is ∙ ap (ended q.closes q.end) (append_assoc held (stored_at gate found ∷ []) q.more);
            stricter_is = ap (λ b. records_at (next_block block_in place) count marked (gate + 5 + size) (held ++ stored_at gate b ∷ []) rest) (sym same) ∙ q.stricter_is
                ∙ sym (restood_next place held (stored_at gate found) q.more (ended q.closes q.end) test);
          }
  placed count marked gate size held rest block (Some found) None more own_is stricter_is =
      let own = next_is block found (log_placement marked (blocks_in held) block) own_is in
      let by_mark = is_next_marked place marked held block (next_version marked 0 (blocks_in held) block own.0) in
      let q = more marked (gate + 5 + size) (held ++ stored_at gate found ∷ []) rest in
      record {
        more = stored_at gate found ∷ q.more;
        closes = q.closes;
        end = q.end;
        own_is = q.own_is ∙ ap (ended q.closes q.end) (append_assoc held (stored_at gate found ∷ []) q.more);
        stricter_is = sym (restood_other place held (stored_at gate found) q.more (ended q.closes q.end) (ap (is_next_by place held) own.1 ∙ by_mark ∙ ap is_some stricter_is));
      }

  -- what is read between two gates
  decoded : (count : ℕ) (marked : Bool) (gate size : ℕ) (held : List Stored) (bytes rest : List ℕ) (mark sized : Bool) (read : Result Block ℕ)
      → ((marked : Bool) (gate : ℕ) (held : List Stored) (bytes : List ℕ) → Restands place held (records_at next_in_log count marked gate held bytes) (records_at (next_block block_in place) count marked gate held bytes))
      → Restands place held
      (if mark then records_at next_in_log count true (gate + 5) held bytes else (if sized then after_record (records_at next_in_log count marked) gate size held rest (next_decoded log_placement marked (blocks_in held) read) else Damaged held gate))
      (if mark then records_at (next_block block_in place) count true (gate + 5) held bytes else (if sized then after_record (records_at (next_block block_in place) count marked) gate size held rest (next_decoded place marked (blocks_in held) read) else Damaged held gate))
  decoded count marked gate size held bytes rest true sized read more = more true (gate + 5) held bytes
  decoded count marked gate size held bytes rest false true (Ok block) more = placed count marked gate size held rest block _ _ more refl refl
  decoded count marked gate size held bytes rest false true (Err offset) more = here place held None gate
  decoded count marked gate size held bytes rest false false read more = here place held None gate

  at_gate : (opens marked : Bool) (gate : ℕ) (held : List Stored) (own stricter : Standing) → Restands place held own stricter → Restands place held (if opens then own else Holds held marked gate) (if opens then stricter else Holds held marked gate)
  at_gate true marked gate held own stricter is = is
  at_gate false marked gate held own stricter is = here place held (Some marked) gate

  restands : (count : ℕ) (marked : Bool) (gate : ℕ) (held : List Stored) (bytes : List ℕ) → Restands place held (records_at next_in_log count marked gate held bytes) (records_at (next_block block_in place) count marked gate held bytes)
  unfolding records_at
  restands zero marked gate held bytes = here place held None gate
  restands (suc count) marked gate held [] = here place held None gate
  restands (suc count) marked gate held (byte ∷ bytes) =
      let size = from_be_bytes w32 (take 4 bytes) in
      at_gate (byte == OPEN_GATE) marked gate held _ _
      (decoded count marked gate size held (drop 4 bytes) (drop size (drop 4 bytes)) (is_mark marked size (drop 4 bytes)) (is_sized size (drop 4 bytes)) (block_in (take size (drop 4 bytes))) (λ marked gate held bytes. restands count marked gate held bytes))

  restanding_ended : (closes : Option Bool) (end : ℕ) (stored : List Stored) → restanding place (ended closes end stored) ≡ standing_after place [] stored (ended closes end)
  restanding_ended (Some marked) end stored = refl
  restanding_ended None end stored = refl

  no_log : (blank : Bool) → (if blank then Blank else NotALog) ≡ restanding place (if blank then Blank else NotALog)
  no_log true = refl
  no_log false = refl

  -- What bytes stand for by the stricter placement.
  pub stands_stricter : (image : List ℕ) → standing (next_block block_in place) image ≡ restanding place (standing next_in_log image)
  unfolding standing
  stands_stricter image = elim (cases_Bool (is_log image)) [
    | inl opens ↦
        let q = restands (MAX_RECORDS + 1) false FIRST_GATE [] (drop FIRST_GATE image) in
        rw opens (q.stricter_is ∙ sym (restanding_ended q.closes q.end q.more) ∙ ap (restanding place) (sym q.own_is))
    | inr shut ↦ rw shut (no_log (is_blank image))
  ]

  -- If a block that the log takes is not the next one by the stricter placement, after blocks that
  -- all are, then the log is damaged at its gate.
  pub damaged_at : (image : List ℕ) (count : ℕ) (marked : Bool) (gate : ℕ) (held : List Stored) (s : Stored) (bytes : List ℕ) → standing next_in_log image ≡ records_at next_in_log count marked gate (held ++ s ∷ []) bytes
      → ((more : List Stored) (end : List Stored → Standing) → standing_after place [] (held ++ more) end ≡ standing_after place held more end) → is_next_by place held s.block ≡ false
      → standing (next_block block_in place) image ≡ Damaged held s.place
  damaged_at image count marked gate held s bytes own same other =
      let q = restands count marked gate (held ++ s ∷ []) bytes in
      stands_stricter image ∙ ap (restanding place) (own ∙ q.own_is) ∙ restanding_ended q.closes q.end ((held ++ s ∷ []) ++ q.more)
      ∙ ap (λ (all : List Stored). standing_after place [] all (ended q.closes q.end)) (append_assoc held (s ∷ []) q.more) ∙ same (s ∷ q.more) (ended q.closes q.end)
      ∙ restood_other place held s q.more (ended q.closes q.end) other

  -- what stored blocks end in, if all of them are next
  pub restood_all : (held more : List Stored) (marked : Bool) (gate : ℕ) (logged : Logged) → logged_of (standing_after place held more (λ held. Holds held marked gate)) ≡ Some logged → standing_after place held more (λ held. Holds held marked gate) ≡ Holds (held ++ more) marked gate
  restood_all held [] marked gate logged is = restood_none place held (λ held. Holds held marked gate) ∙ ap (λ (held : List Stored). Holds held marked gate) (sym (append-nil held))
  restood_all held (s ∷ more) marked gate logged is = elim (cases_Bool (is_next_by place held s.block)) [
    | inl next ↦
        let step = restood_next place held s more (λ held. Holds held marked gate) next in
        step ∙ restood_all (held ++ s ∷ []) more marked gate logged (ap logged_of (sym step) ∙ is) ∙ ap (λ (held : List Stored). Holds held marked gate) (append_assoc held (s ∷ []) more)
    | inr other ↦
        let stops : Some logged ≡ None = sym is ∙ ap logged_of (restood_other place held s more (λ held. Holds held marked gate) other) in
        absurd (cc stops)
  ]

  -- if the stricter placement finds a chain, its blocks are those that the log finds, up to the
  -- same closed gate, and it is marked as the log is
  pub same_blocks : (image : List ℕ) (stored : List Stored) (marked : Bool) (gate : ℕ) (logged : Logged) → standing next_in_log image ≡ Holds stored marked gate → chain_of (next_block block_in place) image ≡ Some logged
      → (standing (next_block block_in place) image ≡ Holds stored marked gate) × (logged ≡ record { blocks = blocks_in stored; marked = marked })
  same_blocks image stored marked gate logged own is =
      let all = stands_stricter image ∙ ap (restanding place) own in
      let holds = all ∙ restood_all [] stored marked gate logged (ap logged_of (sym all) ∙ is) in
      let found : Some logged ≡ Some (record { blocks = blocks_in stored; marked = marked }) = sym is ∙ ap logged_of holds in
      (holds, cc found)

-- ---- bytes that are no log yet

never_blank : (closes : Option Bool) (end : ℕ) (stored : List Stored) → ended closes end stored ≡ Blank → ⊥
never_blank (Some marked) end stored is = cc is
never_blank None end stored is = cc is

blank_or_not : (blank : Bool) → (if blank then Blank else NotALog) ≡ Blank → blank ≡ true
blank_or_not true is = refl
blank_or_not false is = absurd (cc is)

pub blank_is : (image : List ℕ) → standing next_in_log image ≡ Blank → (is_log image ≡ false) × (is_blank image ≡ true)
unfolding standing
blank_is image is = elim (cases_Bool (is_log image)) [
  | inl opens ↦
      let q = restands log_placement (λ marked blocks block next. next) (MAX_RECORDS + 1) false FIRST_GATE [] (drop FIRST_GATE image) in
      absurd (never_blank q.closes q.end q.more (sym q.own_is ∙ sym (rw opens refl) ∙ is))
  | inr shut ↦ (shut, blank_or_not (is_blank image) (sym (rw shut refl) ∙ is))
]
