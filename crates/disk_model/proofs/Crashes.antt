-- What a crash leaves of a machine in memory is an image of its disk, and making the calls again
-- yields that disk.
use Rattle.std.proofs.Common.{◌≡◌, ℕ, zero, suc, ◌+◌, ◌≤◌, List, [], ◌∷◌, length, take, drop, get_or, Bool, true, false, refl, sym, ◌∙◌, ap, subst, arith}
use Rattle.std.specs.Prelude.{Result, Ok, Err, IfOk, IfSome, vec_len, vec_capacity}
use Rattle.std.proofs.lemmas.List.{length-take-le, get_or-take}
use Rattle.lc_io.specs.Disk.{DiskState}
use Rattle.disk_model.specs.Disk.{IsImage, is_pending, settled_disk}
use Rattle.disk_model.specs.Crash.{kept_byte, keep_after, fill_pending, crash_image, crashed_machine}
use Rattle.disk_model.specs.Machine.{MachineState, new_machine, disk_after_calls, disk_of, content_now}
use Rattle.disk_model.specs.declared.crash.Replayed.{Replayed}
use Rattle.disk_model.specs.declared.mem_machine.Mark.{Mark}
use Rattle.disk_model.specs.Marks.{kept_len, calls_of, total_len, machine_state}
use Rattle.disk_model.specs.declared.mem_machine.MemMachine.TheInside.{Inside}
use Rattle.disk_model.specs.Sound.{content_is_image}
use Rattle.disk_model.specs.Replays.{IsReplayed}

-- ---- the bytes

pub filled_len : (pending : List (ℕ × ℕ)) (fill keep offset : ℕ) (bytes : List ℕ) → length (fill_pending pending fill keep offset bytes) ≡ length bytes
filled_len pending fill keep offset [] = refl
filled_len pending fill keep offset (byte ∷ bytes) = omega (arith, filled_len pending fill (keep_after (is_pending pending offset) keep) (offset + 1) bytes)

kept_clear : (pending : Bool) (keep fill byte : ℕ) → pending ≡ false → kept_byte pending keep fill byte ≡ byte
kept_clear false keep fill byte clear = refl
kept_clear true keep fill byte clear = absurd (cc clear)

-- a byte where no write is pending stays
filled_same : (pending : List (ℕ × ℕ)) (fill keep offset : ℕ) (bytes : List ℕ) (i : ℕ) → is_pending pending (offset + i) ≡ false
    → get_or (fill_pending pending fill keep offset bytes) i 0 ≡ get_or bytes i 0
filled_same pending fill keep offset [] i clear = refl
filled_same pending fill keep offset (byte ∷ bytes) zero clear =
    let here : offset ≡ offset + 0 = omega arith in
    kept_clear (is_pending pending offset) keep fill byte (ap (is_pending pending) here ∙ clear)
filled_same pending fill keep offset (byte ∷ bytes) (suc i) clear =
    let there : offset + 1 + i ≡ offset + suc i = omega arith in
    filled_same pending fill (keep_after (is_pending pending offset) keep) (offset + 1) bytes i (ap (is_pending pending) there ∙ clear)

from_none : (i : ℕ) → 0 + i ≡ i
from_none i = omega arith

-- what a crash leaves is an image, if the content is one
pub crashed_image : (keep fill : ℕ) (short : Bool) (state : DiskState) → IsImage state state.content → IsImage state (crash_image keep fill short state)
crashed_image keep fill true state image =
    let whole : length (fill_pending state.pending fill keep 0 state.content) ≡ length state.content = filled_len state.pending fill keep 0 state.content in
    let len : length (take state.synced (fill_pending state.pending fill keep 0 state.content)) ≡ state.synced = length-take-le state.synced (fill_pending state.pending fill keep 0 state.content) (omega (arith, whole, image.no_shorter)) in
    record {
      no_shorter = omega (arith, len);
      no_longer = omega (arith, len, image.no_shorter, image.no_longer);
      same = λ i lt clear. get_or-take state.synced (fill_pending state.pending fill keep 0 state.content) i 0 (omega (arith, len, lt)) ∙ filled_same state.pending fill keep 0 state.content i (ap (is_pending state.pending) (from_none i) ∙ clear);
    }
crashed_image keep fill false state image =
    let whole : length (fill_pending state.pending fill keep 0 state.content) ≡ length state.content = filled_len state.pending fill keep 0 state.content in
    record {
      no_shorter = omega (arith, whole, image.no_shorter);
      no_longer = omega (arith, whole, image.no_longer);
      same = λ i lt clear. filled_same state.pending fill keep 0 state.content i (ap (is_pending state.pending) (from_none i) ∙ clear);
    }

-- of four bytes of which the last three are pending, one is kept
one_kept : fill_pending ((1, 3) ∷ []) 165 1 0 (1 ∷ 2 ∷ 3 ∷ 4 ∷ []) ≡ 1 ∷ 2 ∷ 165 ∷ 165 ∷ []
one_kept = refl

-- and the length is that of the last sync, or the whole
one_kept_short : crash_image 1 165 true (record { content = 1 ∷ 2 ∷ 3 ∷ 4 ∷ []; synced = 3; most = 4; pending = (3, 1) ∷ (0, 2) ∷ [] }) ≡ 1 ∷ 165 ∷ 3 ∷ []
one_kept_short = refl

one_kept_long : crash_image 1 165 false (record { content = 1 ∷ 2 ∷ 3 ∷ 4 ∷ []; synced = 3; most = 4; pending = (3, 1) ∷ (0, 2) ∷ [] }) ≡ 1 ∷ 165 ∷ 3 ∷ 165 ∷ []
one_kept_long = refl

-- ---- the calls up to a moment

pub calls_take : (n : ℕ) (marks : List Mark) (bytes : List ℕ) → calls_of (take n marks) bytes ≡ take n (calls_of marks bytes)
calls_take zero marks bytes = refl
calls_take (suc n) [] bytes = refl
calls_take (suc n) (mark ∷ marks) bytes = rw (calls_take n marks (drop (kept_len mark) bytes)) refl

pub total_len_take : (n : ℕ) (marks : List Mark) → total_len (take n marks) ≤ total_len marks
total_len_take zero marks = omega arith
total_len_take (suc n) [] = omega arith
total_len_take (suc n) (mark ∷ marks) = omega (arith, total_len_take n marks)

-- the machine over what a crash leaves
pub machine_left : (m : Inside) (moment keep fill : ℕ) (short : Bool) (now : MachineState) (first : List ℕ) (marks : List Mark) (bytes left : List ℕ) → machine_state m ≡ now
    → first ≡ m.first.items → marks ≡ m.marks.items → bytes ≡ m.bytes.items
    → left ≡ crash_image keep fill short (disk_after_calls (settled_disk first) (calls_of (take moment marks) bytes))
    → new_machine left m.room.calls m.room.bytes [] ≡ crashed_machine moment keep fill short now
machine_left m moment keep fill short now first marks bytes left view same_first same_marks same_bytes is =
    rw (← view, is, same_first, same_marks, same_bytes, calls_take moment m.marks.items m.bytes.items) refl

-- its content is among what a crash may leave
pub machine_image : {E : Type 0} (moment keep fill : ℕ) (short : Bool) (now : MachineState) (result : Result MachineState E) → IfOk result (λ machine. machine ≡ crashed_machine moment keep fill short now)
    → IfOk result (λ machine. IfSome (disk_of now moment) (λ state. IsImage state (content_now machine)))
machine_image moment keep fill short now (Ok machine) is =
    let state : DiskState = disk_after_calls (settled_disk now.first) (take moment now.calls) in
    subst (λ (m : MachineState). IsImage state (content_now m)) (sym is) (crashed_image keep fill short state (content_is_image now moment state refl))
machine_image moment keep fill short now (Err e) is = tt

-- After some calls were made again, the calls that are left lead to the final disk, and there are
-- bytes and memory for them.
pub record IsPart (first : List ℕ) (marks : List Mark) (bytes : List ℕ) (number : ℕ) (rest : List ℕ) (disk : Replayed) : Type 0 where
  pub whole : total_len (drop number marks) ≤ length rest
  pub room : vec_len disk.content + length rest ≤ vec_capacity disk.content
  pub state : DiskState
  pub stands : IsReplayed disk state
  pub same : disk_after_calls state (calls_of (drop number marks) rest) ≡ disk_after_calls (settled_disk first) (calls_of marks bytes)
