-- Whatever a crash leaves in a step of making a log has no block.
use Rattle.std.proofs.Common.{◌≡◌, inl, inr, ℕ, ◌≤◌, ◌<◌, Bool, true, false, List, [], ◌∷◌, ◌++◌, length, take, drop, get_or, refl, sym, ◌∙◌, ap, subst, arith}
use Rattle.std.specs.Prelude.{◌==◌}
use Rattle.std.specs.Cmp.Lexicographic.{pointwise, same_text}
use Rattle.std.proofs.lemmas.List.{take-append-drop, length-drop, drop_more, get_or-drop}
use Rattle.std.proofs.lemmas.Bool.{cases_eq, cases_lt}
use Rattle.std.proofs.lemmas.Bool.Decides.{nat_tests}
use Rattle.disk_model.specs.Disk.{Torn, bytes_over}
use Rattle.block_log.specs.declared.layout.TheConstants.{OPEN_GATE, CLOSED_GATE, FIRST_GATE, MAX_RECORDS}
use Rattle.block_log.specs.Standing.{Blank, Holds, NextBlock, is_log, is_blank, standing, magic, logged_of, chain_of}
use Rattle.block_log.specs.Log.{LogState, IsBlank, IsKeptLog, Agrees, next_in_log, log_with_head}
use Rattle.block_log.specs.Steps.{HasClosedHead, IsPrepared, HasNoBlock}
use Rattle.block_log.proofs.Records.{closed_records}
use Rattle.block_log.proofs.Stricter.{blank_is}

-- ---- bytes that are no log yet

blank_stands : (next : NextBlock) (image : List ℕ) → is_log image ≡ false → is_blank image ≡ true → standing next image ≡ Blank
unfolding standing
blank_stands next image no_log blank = rw (no_log, blank) refl

short_stands : (next : NextBlock) (image : List ℕ) → length image ≤ 1 → standing next image ≡ Blank
short_stands next image short = blank_stands next image (grind (arith, nat_tests)) (grind (arith, nat_tests))

-- a closed head gate, as creation writes it first
pub begun_stands : (next : NextBlock) (rest : List ℕ) → standing next (CLOSED_GATE ∷ rest) ≡ Blank
begun_stands next rest = blank_stands next (CLOSED_GATE ∷ rest) (grind (arith, nat_tests)) (grind (arith, nat_tests))

-- a head gate that is closed already
pub begun_head : (content : List ℕ) → IsBlank true content → HasClosedHead content
begun_head [] blank = let begun : true ≡ (get_or {A = ℕ} [] 0 1 == 0) = blank.begun_is in absurd (cc begun)
begun_head (byte ∷ rest) blank =
    let begun : true ≡ (get_or (byte ∷ rest) 0 1 == 0) = blank.begun_is in
    let closed : byte ≡ CLOSED_GATE = grind (arith, nat_tests, begun) in
    record { rest = rest; is = ap (λ (b : ℕ). b ∷ rest) closed }

-- ---- the magic between two gates

headed_stands : (next : NextBlock) (head gate : ℕ) (rest : List ℕ) → head == OPEN_GATE ≡ false → gate == OPEN_GATE ≡ false → standing next (head ∷ (magic ++ gate ∷ rest)) ≡ Blank
headed_stands next head gate rest shut closed = blank_stands next (head ∷ (magic ++ gate ∷ rest)) (grind (arith, nat_tests)) (grind (arith, nat_tests))

pub opened_stands : (next : NextBlock) (gate : ℕ) (rest : List ℕ) → gate == OPEN_GATE ≡ false → standing next (OPEN_GATE ∷ (magic ++ gate ∷ rest)) ≡ Holds [] false FIRST_GATE
unfolding standing
opened_stands next gate rest closed =
    let opens : is_log (OPEN_GATE ∷ (magic ++ gate ∷ rest)) ≡ true = grind (arith, nat_tests) in
    rw opens (closed_records next MAX_RECORDS false FIRST_GATE [] gate rest closed)

-- whichever byte the head gate is
pub any_head : (head gate : ℕ) (rest : List ℕ) → gate == OPEN_GATE ≡ false → HasNoBlock (head ∷ (magic ++ gate ∷ rest))
any_head head gate rest closed next = elim (cases_eq head OPEN_GATE) [
  | inl opens ↦ ap (λ h. chain_of next (h ∷ (magic ++ gate ∷ rest))) opens ∙ ap logged_of (opened_stands next gate rest closed)
  | inr shuts ↦ ap logged_of (headed_stands next head gate rest (grind (arith, nat_tests)) closed)
]

-- ---- the three steps

-- no log yet, whichever block comes next
pub blank_none : (is_begun : Bool) (content : List ℕ) → IsBlank is_begun content → HasNoBlock content
blank_none is_begun content blank next = let is = blank_is content blank.stands in ap logged_of (blank_stands next content is.0 is.1)

-- the first byte may be any, the others stay
first_torn : (old c : List ℕ) → Torn 0 1 old c → 1 ≤ length old → c ≡ get_or c 0 0 ∷ drop 1 old
first_torn old c torn some = drop_more c 0 0 (omega (arith, torn.no_shorter, some)) ∙ ap (λ (l : List ℕ). get_or c 0 0 ∷ l) torn.after

-- if there is more than one byte, and the first is not 0, the magic is there, before a closed gate
magic_there : (image : List ℕ) → is_blank image ≡ true → get_or image 0 1 == 0 ≡ false → 1 < length image → (gate : ℕ) × (rest : List ℕ) × (gate == OPEN_GATE ≡ false) × (drop 1 image ≡ magic ++ gate ∷ rest)
magic_there image blank other more =
    let long : 8 < length image = grind (arith, nat_tests) in
    let later = drop 1 image in
    let seven : true ≡ pointwise ◌==◌ (take 7 later) magic = grind (arith, nat_tests) in
    let shut : get_or image 8 OPEN_GATE == OPEN_GATE ≡ false = grind (arith, nat_tests) in (
      get_or later 7 OPEN_GATE,
      drop 8 later,
      ap (λ g. g == OPEN_GATE) (get_or-drop 1 image 7 OPEN_GATE) ∙ shut,
      sym (take-append-drop 7 later) ∙ ap (λ (l : List ℕ). l ++ drop 7 later) (same_text (take 7 later) magic seven) ∙ ap (λ (l : List ℕ). magic ++ l) (drop_more later 7 OPEN_GATE (omega (arith, long, length-drop 1 image))),
    )

-- the first step, on bytes that do not begin with 0
pub first_step : (content : List ℕ) → IsBlank false content → (c : List ℕ) → Torn 0 1 content c → HasNoBlock c
first_step content blank c torn next = elim (cases_lt 1 (length content)) [
  | inr short ↦ ap logged_of (short_stands next c (omega (arith, torn.no_longer, short)))
  | inl long ↦
      let m = magic_there content (blank_is content blank.stands).1 (sym blank.begun_is) long in
      ap (chain_of next) (first_torn content c torn (omega (arith, long)) ∙ ap (λ (l : List ℕ). get_or c 0 0 ∷ l) m.3) ∙ any_head (get_or c 0 0) m.0 m.1 m.2 next
]

-- the second step
pub second_step : (content : List ℕ) → HasClosedHead content → (c : List ℕ) → Torn 1 8 content c → HasNoBlock c
second_step content closed c torn next =
    ap (chain_of next) (sym (take-append-drop 1 c) ∙ ap (λ (l : List ℕ). l ++ drop 1 c) (torn.before ∙ ap (take 1) closed.is)) ∙ ap logged_of (begun_stands next (drop 1 c))

-- the third step
pub third_step : (content : List ℕ) → IsPrepared content → (c : List ℕ) → Torn 0 1 content c → HasNoBlock c
third_step content prepared c torn next =
    let old = CLOSED_GATE ∷ (magic ++ CLOSED_GATE ∷ prepared.rest) in
    let whole = first_torn old c (subst (λ l. Torn 0 1 l c) prepared.is torn) (omega arith) in
    ap (chain_of next) whole ∙ any_head (get_or c 0 0) CLOSED_GATE prepared.rest refl next

pub third_done : (next : NextBlock) (content : List ℕ) → IsPrepared content → standing next (bytes_over 0 (OPEN_GATE ∷ []) content) ≡ Holds [] false FIRST_GATE
third_done next content prepared = ap (λ (l : List ℕ). standing next (bytes_over 0 (OPEN_GATE ∷ []) l)) prepared.is ∙ opened_stands next CLOSED_GATE prepared.rest refl

pub created_agrees : (log : LogState) → IsKeptLog log → log.is_ready ≡ false → (content : List ℕ) → IsPrepared content → Agrees (log_with_head log) (bytes_over 0 (OPEN_GATE ∷ []) content)
created_agrees log kept headless content prepared = let none = kept.no_block headless in record { stored = []; stands = third_done next_in_log content prepared; count_is = none.0; last_is = none.1 }
