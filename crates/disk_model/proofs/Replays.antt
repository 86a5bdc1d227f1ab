-- What one more call of a machine in memory leaves of disk and wire.
use Rattle.std.proofs.Common.{◌≡◌, ℕ, ◌+◌, ◌≤◌, ◌<◌, min, List, [], ◌∷◌, ◌++◌, length, take, drop, Bool, true, false, refl, sym, ◌∙◌, ap, subst, arith, inl, inr}
use Rattle.std.specs.Prelude.{Some, Result, Ok, Err, nat_lt, nat_le, ◌&&◌, MatchBool}
use Rattle.std.specs.Option.{option_map}
use Rattle.std.proofs.lemmas.List.{take-append-le, take_all, drop_all, length-append, length-take, length-drop, take_at}
use Rattle.std.proofs.lemmas.Bool.{cases_lt}
use Rattle.std.proofs.lemmas.Bool.Decides.{nat_tests}
use Rattle.lc_io.specs.Disk.{DiskState, Turns, Stays}
use Rattle.lc_io.specs.Outside.{Tell, Tells}
use Rattle.disk_model.specs.Disk.{settled_disk, disk_after_write, with_pending, bytes_over, Torn, Writes, Syncs}
use Rattle.disk_model.specs.declared.mem_machine.Mark.{Mark}
use Rattle.disk_model.specs.declared.mem_machine.Mark.TheVariants as marks
use Rattle.disk_model.specs.Machine.{Call, Wrote, FailedWrite, Synced, Told, Idle, after_call, disk_after_calls, tells_from, MachineState, now_of, disk_of, content_now, told_of, has_room, with_call, with_disk_fault, with_wire_fault, Attempts, Makes, MakesRead, MakesWrite, MakesSync, MakesTell}
use Rattle.disk_model.specs.Marks.{call_of, changed_by}

-- ---- the content

pub replayed_push : (state : DiskState) (calls : List Call) (call : Call) → disk_after_calls state (calls ++ call ∷ []) ≡ after_call (disk_after_calls state calls) call
replayed_push state [] call = refl
replayed_push state (c ∷ calls) call = replayed_push (after_call state c) calls call

changed_content : (state : DiskState) (mark : Mark) (bytes : List ℕ) → (after_call state (call_of mark bytes)).content ≡ changed_by mark bytes state.content
changed_content state (marks.Wrote at len) bytes = refl
changed_content state (marks.FailedWrite at len) bytes = refl
changed_content state marks.Synced bytes = refl
changed_content state (marks.Told len) bytes = refl
changed_content state marks.Idle bytes = refl

-- the content after one more call
pub content_push : (first : List ℕ) (calls new : List Call) (mark : Mark) (bytes : List ℕ) → new ≡ calls ++ call_of mark bytes ∷ []
    → (disk_after_calls (settled_disk first) new).content ≡ changed_by mark bytes (disk_after_calls (settled_disk first) calls).content
content_push first calls new mark bytes is =
    ap (λ (l : List Call). (disk_after_calls (settled_disk first) l).content) is
    ∙ ap (λ (s : DiskState). s.content) (replayed_push (settled_disk first) calls (call_of mark bytes))
    ∙ changed_content (disk_after_calls (settled_disk first) calls) mark bytes

-- bytes written past the end go to the end
pub overwritten_past : (at : ℕ) (bytes content : List ℕ) → bytes_over (min at (length content)) bytes content ≡ bytes_over at bytes content
overwritten_past at bytes content = elim (cases_lt (length content) at) [
  | inr within ↦ ap (λ (n : ℕ). bytes_over n bytes content) (omega arith)
  | inl past ↦ let end : min at (length content) ≡ length content = omega arith in rw (end, take_all at content (omega arith), take_all (length content) content (omega arith), drop_all (at + length bytes) content (omega arith), drop_all (length content + length bytes) content (omega arith)) refl
]

overwritten_len : (at : ℕ) (bytes content : List ℕ) → length (bytes_over at bytes content) ≤ length content + length bytes
overwritten_len at bytes content = omega (arith, length-append (take at content ++ bytes) (drop (at + length bytes) content), length-append (take at content) bytes, length-take at content, length-drop (at + length bytes) content)

pub changed_len : (mark : Mark) (bytes content : List ℕ) → length (changed_by mark bytes content) ≤ length content + length bytes
changed_len (marks.Wrote at len) bytes content = overwritten_len at bytes content
changed_len (marks.FailedWrite at len) bytes content = omega arith
changed_len marks.Synced bytes content = omega arith
changed_len (marks.Told len) bytes content = omega arith
changed_len marks.Idle bytes content = omega arith

-- ---- the room

pub in_room : (a b c d : ℕ) → nat_lt a b && nat_le c d ≡ true → (a < b) × (c ≤ d)
in_room a b c d is = (grind (arith, nat_tests), grind (arith, nat_tests))

-- a call that fits the room would also fit it without its bytes
pub room_for_none : (m : MachineState) (count : ℕ) → has_room m count ≡ true → has_room m 0 ≡ true
room_for_none m count fits =
    let both = in_room (length m.calls) m.room_calls (m.bytes + count) m.room_bytes fits in
    grind (arith, nat_tests)

-- ---- the disk

pub all_calls : (m : MachineState) → disk_of m (now_of m) ≡ Some (disk_after_calls (settled_disk m.first) m.calls)
all_calls m = ap (λ (l : List Call). Some (disk_after_calls (settled_disk m.first) l)) (take_all (length m.calls) m.calls (omega arith))

-- a call that took a number
turns : (old new : MachineState) (call : Call) → new.first ≡ old.first → new.calls ≡ old.calls ++ call ∷ []
    → Turns now_of disk_of old new (Some (after_call (disk_after_calls (settled_disk old.first) old.calls) call))
turns old new call first calls = record {
  later = omega (arith, longer);
  past = λ t le. ap (λ (l : List ℕ). Some (disk_after_calls (settled_disk l) (take t new.calls))) first ∙ ap (λ (l : List Call). Some (disk_after_calls (settled_disk old.first) l)) (ap (take t) calls ∙ take-append-le t old.calls (call ∷ []) le);
  here = λ t lt le. at_end t (omega (arith, longer));
  last = at_end (length new.calls) (omega arith);
}
  where
    longer : length new.calls ≡ length old.calls + 1
    longer = ap (length {A = Call}) calls ∙ length-append old.calls (call ∷ [])

    at_end : (t : ℕ) → length new.calls ≤ t → disk_of new t ≡ Some (after_call (disk_after_calls (settled_disk old.first) old.calls) call)
    at_end t le =
        ap (λ (l : List Call). Some (disk_after_calls (settled_disk new.first) l)) (take_all t new.calls le ∙ calls)
        ∙ ap (λ (l : List ℕ). Some (disk_after_calls (settled_disk l) (old.calls ++ call ∷ []))) first
        ∙ ap Some (replayed_push (settled_disk old.first) old.calls call)

-- a call that does not fit the room
idle : (old new : MachineState) → new.first ≡ old.first → new.calls ≡ old.calls → Stays now_of disk_of old new
idle old new first calls = record {
  later = omega (arith, ap (length {A = Call}) calls);
  past = λ t le. same t;
  here = λ t lt le. absurd (omega (arith, ap (length {A = Call}) calls));
  last = same (now_of new) ∙ ap (λ (l : List Call). disk_of old (length l)) calls;
}
  where
    same : (t : ℕ) → disk_of new t ≡ disk_of old t
    same t = ap (λ (l : List ℕ). Some (disk_after_calls (settled_disk l) (take t new.calls))) first ∙ ap (λ (l : List Call). Some (disk_after_calls (settled_disk old.first) (take t l))) calls

-- a call that leaves the disk as it was
stays : (old new : MachineState) (call : Call) → new.first ≡ old.first → new.calls ≡ old.calls ++ call ∷ [] → ((s : DiskState) → after_call s call ≡ s) → Stays now_of disk_of old new
stays old new call first calls same = subst (Turns now_of disk_of old new) (ap Some (same (disk_after_calls (settled_disk old.first) old.calls)) ∙ sym (all_calls old)) (turns old new call first calls)

-- a call of the disk that fails and is no write
disk_fails : (old new : MachineState) (fits : Bool) (Fails : Type 0) → MatchBool fits (Fails × (new ≡ with_disk_fault (with_call Idle 0 old))) (new ≡ with_disk_fault old) → Stays now_of disk_of old new
disk_fails old new true Fails (fails, is) = stays old new Idle (ap (λ (m : MachineState). m.first) is) (ap (λ (m : MachineState). m.calls) is) (λ s. refl)
disk_fails old new false Fails is = idle old new (ap (λ (m : MachineState). m.first) is) (ap (λ (m : MachineState). m.calls) is)

pub read_stays : {T E : Type 0} (old new : MachineState) (result : Result T E) → MakesRead old new result → Stays now_of disk_of old new
read_stays old new (Ok x) makes = stays old new Idle (ap (λ (m : MachineState). m.first) makes.2) (ap (λ (m : MachineState). m.calls) makes.2) (λ s. refl)
read_stays old new (Err e) makes = disk_fails old new (has_room old 0) _ makes

pub syncs : {T E : Type 0} (old new : MachineState) (result : Result T E) → MakesSync old new result → Syncs now_of disk_of old new result
syncs old new (Ok x) makes = subst (Turns now_of disk_of old new) (ap (option_map (λ s. settled_disk s.content)) (sym (all_calls old))) (turns old new Synced (ap (λ (m : MachineState). m.first) makes.2) (ap (λ (m : MachineState). m.calls) makes.2))
syncs old new (Err e) makes = disk_fails old new (has_room old 0) _ makes

-- a write that fails leaves the content, which a failed write may do
write_fails : (T : Type 0) {E : Type 0} (old new : MachineState) (at : ℕ) (bytes : List ℕ) (e : E) (fits : Bool) (Fails : Type 0)
    → MatchBool fits (Fails × (new ≡ with_disk_fault (with_call (FailedWrite at (length bytes)) 0 old))) (new ≡ with_disk_fault old) → Writes {T = T} now_of disk_of old new at bytes (Err e)
write_fails T old new at bytes e true Fails (fails, is) =
    let state : DiskState = disk_after_calls (settled_disk old.first) old.calls in
    inr (
      state.content,
      λ s told. let same : s ≡ state = cc (told, all_calls old) in
          subst (λ (t : DiskState). Torn at (length bytes) t.content state.content) (sym same) (record { before = refl; after = refl; no_shorter = omega arith; no_longer = omega arith }),
      subst (Turns now_of disk_of old new) (ap (option_map (with_pending at (length bytes) state.content)) (sym (all_calls old)))
          (turns old new (FailedWrite at (length bytes)) (ap (λ (m : MachineState). m.first) is) (ap (λ (m : MachineState). m.calls) is)),
    )
write_fails T old new at bytes e false Fails is = inl (idle old new (ap (λ (m : MachineState). m.first) is) (ap (λ (m : MachineState). m.calls) is))

pub writes : (T : Type 0) {E : Type 0} (old new : MachineState) (at : ℕ) (bytes : List ℕ) (result : Result T E) → MakesWrite at bytes old new result → Writes now_of disk_of old new at bytes result
writes T old new at bytes (Ok x) makes = subst (Turns now_of disk_of old new) (ap (option_map (disk_after_write at bytes)) (sym (all_calls old))) (turns old new (Wrote at bytes) (ap (λ (m : MachineState). m.first) makes.2) (ap (λ (m : MachineState). m.calls) makes.2))
writes T old new at bytes (Err e) makes = write_fails T old new at bytes e (has_room old (length bytes)) _ makes

tell_fails : (old new : MachineState) (fits : Bool) (Fails : Type 0) → MatchBool fits (Fails × (new ≡ with_wire_fault (with_call Idle 0 old))) (new ≡ with_wire_fault old) → Stays now_of disk_of old new
tell_fails old new true Fails (fails, is) = stays old new Idle (ap (λ (m : MachineState). m.first) is) (ap (λ (m : MachineState). m.calls) is) (λ s. refl)
tell_fails old new false Fails is = idle old new (ap (λ (m : MachineState). m.first) is) (ap (λ (m : MachineState). m.calls) is)

pub tell_stays : {T E : Type 0} (old new : MachineState) (bytes : List ℕ) (result : Result T E) → MakesTell bytes old new result → Stays now_of disk_of old new
tell_stays old new bytes (Ok x) makes = stays old new (Told bytes) (ap (λ (m : MachineState). m.first) makes.2) (ap (λ (m : MachineState). m.calls) makes.2) (λ s. refl)
tell_stays old new bytes (Err e) makes = tell_fails old new (has_room old (length bytes)) _ makes

-- the content at the present moment
pub content_at_now : (m : MachineState) → (disk_after_calls (settled_disk m.first) (take (now_of m) m.calls)).content ≡ content_now m
content_at_now m = ap (λ (l : List Call). (disk_after_calls (settled_disk m.first) l).content) (take_all (length m.calls) m.calls (omega arith))

-- a read that succeeded leaves the content as it was
pub read_content : (old new : MachineState) → new ≡ with_call Idle 0 old → content_now new ≡ content_now old
read_content old new is = ap content_now is ∙ ap (λ (s : DiskState). s.content) (replayed_push (settled_disk old.first) old.calls Idle)

-- ---- the wire

-- whether a call prints nothing
abbrev pub is_silent : Call → Bool
is_silent (Told bytes) = false
is_silent call = true

silent_from : (n : ℕ) (calls : List Call) (call : Call) → is_silent call ≡ true → tells_from n (calls ++ call ∷ []) ≡ tells_from n calls
silent_from n [] (Wrote at bytes) silent = refl
silent_from n [] (FailedWrite at count) silent = refl
silent_from n [] Synced silent = refl
silent_from n [] (Told bytes) silent = absurd (cc silent)
silent_from n [] Idle silent = refl
silent_from n (Wrote at bytes ∷ calls) call silent = silent_from (n + 1) calls call silent
silent_from n (FailedWrite at count ∷ calls) call silent = silent_from (n + 1) calls call silent
silent_from n (Synced ∷ calls) call silent = silent_from (n + 1) calls call silent
silent_from n (Told bytes ∷ calls) call silent = ap (λ (tells : List Tell). record { at = n; bytes = bytes } ∷ tells) (silent_from (n + 1) calls call silent)
silent_from n (Idle ∷ calls) call silent = silent_from (n + 1) calls call silent

silent_push : (old new : MachineState) (call : Call) → new.calls ≡ old.calls ++ call ∷ [] → is_silent call ≡ true → told_of new ≡ told_of old
silent_push old new call calls silent = ap (λ (l : List Call). Some (tells_from 0 l)) calls ∙ ap Some (silent_from 0 old.calls call silent)

silent_fails : (old new : MachineState) (failed : Call) (fits : Bool) (Fails : Type 0) → is_silent failed ≡ true → MatchBool fits (Fails × (new ≡ with_disk_fault (with_call failed 0 old))) (new ≡ with_disk_fault old) → told_of new ≡ told_of old
silent_fails old new failed true Fails silent (fails, is) = silent_push old new failed (ap (λ (m : MachineState). m.calls) is) silent
silent_fails old new failed false Fails silent is = ap (λ (m : MachineState). told_of m) is

pub tells_nothing : {T E : Type 0} (old new : MachineState) (count : ℕ) (done failed : Call) (result : Result T E) → is_silent done ≡ true → is_silent failed ≡ true
    → Makes count done failed with_disk_fault old new result → told_of new ≡ told_of old
tells_nothing old new count done failed (Ok x) silent silent' makes = silent_push old new done (ap (λ (m : MachineState). m.calls) makes.2) silent
tells_nothing old new count done failed (Err e) silent silent' makes = silent_fails old new failed (has_room old count) _ silent' makes

abbrev one_tell : ℕ → List ℕ → List Tell
one_tell at bytes = record { at = at; bytes = bytes } ∷ []

tells_push : (n : ℕ) (calls : List Call) (bytes : List ℕ) (at : ℕ) → at ≡ length calls + n → tells_from n (calls ++ Told bytes ∷ []) ≡ tells_from n calls ++ one_tell at bytes
tells_push n [] bytes at is = ap (λ (k : ℕ). one_tell k bytes) (let e : n ≡ at = omega (arith, is) in e)
tells_push n (Wrote place more ∷ calls) bytes at is = tells_push (n + 1) calls bytes at (omega (arith, is))
tells_push n (FailedWrite place count ∷ calls) bytes at is = tells_push (n + 1) calls bytes at (omega (arith, is))
tells_push n (Synced ∷ calls) bytes at is = tells_push (n + 1) calls bytes at (omega (arith, is))
tells_push n (Told piece ∷ calls) bytes at is = ap (λ (tells : List Tell). record { at = n; bytes = piece } ∷ tells) (tells_push (n + 1) calls bytes at (omega (arith, is)))
tells_push n (Idle ∷ calls) bytes at is = tells_push (n + 1) calls bytes at (omega (arith, is))

tell_adds_none : (T : Type 0) {E : Type 0} (old new : MachineState) (bytes : List ℕ) (e : E) (fits : Bool) (Fails : Type 0)
    → MatchBool fits (Fails × (new ≡ with_wire_fault (with_call Idle 0 old))) (new ≡ with_wire_fault old) → Tells {T = T} (now_of old) bytes (told_of old) (told_of new) (Err e)
tell_adds_none T old new bytes e true Fails (fails, is) = inl (silent_push old new Idle (ap (λ (m : MachineState). m.calls) is) refl)
tell_adds_none T old new bytes e false Fails is = inl (ap (λ (m : MachineState). told_of m) is)

pub tells : (T : Type 0) {E : Type 0} (old new : MachineState) (bytes : List ℕ) (result : Result T E) → MakesTell bytes old new result → Tells (now_of old) bytes (told_of old) (told_of new) result
tells T old new bytes (Ok x) makes = ap (λ (m : MachineState). Some (tells_from 0 m.calls)) makes.2 ∙ ap Some (tells_push 0 old.calls bytes (now_of old) (omega arith))
tells T old new bytes (Err e) makes = tell_adds_none T old new bytes e (has_room old (length bytes)) _ makes

-- ---- the counts of faults

other_fails : (old new : MachineState) (failed : Call) (fits : Bool) (Fails : Type 0) → MatchBool fits (Fails × (new ≡ with_disk_fault (with_call failed 0 old))) (new ≡ with_disk_fault old) → new.wire_faults ≡ old.wire_faults
other_fails old new failed true Fails (fails, is) = ap (λ (m : MachineState). m.wire_faults) is
other_fails old new failed false Fails is = ap (λ (m : MachineState). m.wire_faults) is

pub wire_faults_stay : {T E : Type 0} (old new : MachineState) (count : ℕ) (done failed : Call) (result : Result T E) → Makes count done failed with_disk_fault old new result → new.wire_faults ≡ old.wire_faults
wire_faults_stay old new count done failed (Ok x) makes = ap (λ (m : MachineState). m.wire_faults) makes.2
wire_faults_stay old new count done failed (Err e) makes = other_fails old new failed (has_room old count) _ makes

disk_faults_kept : (old new : MachineState) (fits : Bool) (Fails : Type 0) → MatchBool fits (Fails × (new ≡ with_wire_fault (with_call Idle 0 old))) (new ≡ with_wire_fault old) → new.disk_faults ≡ old.disk_faults
disk_faults_kept old new true Fails (fails, is) = ap (λ (m : MachineState). m.disk_faults) is
disk_faults_kept old new false Fails is = ap (λ (m : MachineState). m.disk_faults) is

pub disk_faults_stay : {T E : Type 0} (old new : MachineState) (bytes : List ℕ) (result : Result T E) → MakesTell bytes old new result → new.disk_faults ≡ old.disk_faults
disk_faults_stay old new bytes (Ok x) makes = ap (λ (m : MachineState). m.disk_faults) makes.2
disk_faults_stay old new bytes (Err e) makes = disk_faults_kept old new (has_room old (length bytes)) _ makes

-- a fault is counted after a call that failed
counted : (mid new x y : MachineState) (with_fault : MachineState → MachineState) (fits : Bool) (Fails : Type 0)
    → MatchBool fits (Fails × (mid ≡ x)) (mid ≡ y) → new ≡ with_fault mid → MatchBool fits (Fails × (new ≡ with_fault x)) (new ≡ with_fault y)
counted mid new x y with_fault true Fails (fails, is) counts = (fails, counts ∙ ap with_fault is)
counted mid new x y with_fault false Fails is counts = counts ∙ ap with_fault is

pub makes_fault : (T : Type 0) {E : Type 0} (count : ℕ) (done failed : Call) (with_fault : MachineState → MachineState) (old mid new : MachineState) (e : E)
    → Attempts count done failed old mid false → new ≡ with_fault mid → Makes {T = T} count done failed with_fault old new (Err e)
makes_fault T count done failed with_fault old mid new e attempts counts = counted mid new (with_call failed 0 old) old with_fault (has_room old count) _ attempts counts

-- ---- the buffer

-- what a read puts into a buffer is in its prefix
pub filled : (at : ℕ) (content before after : List ℕ) (n : ℕ) → n ≡ length (take (length before) (drop at content)) → after ≡ take (length before) (drop at content) ++ drop n before
    → take n after ≡ take (length after) (drop at content)
filled at content before after n count is =
    let bytes : List ℕ = take (length before) (drop at content) in
    let short : n ≤ length before = omega (arith, count, length-take (length before) (drop at content)) in
    let size : length after ≡ length before = omega (arith, ap (length {A = ℕ}) is, length-append bytes (drop n before), length-drop n before, count, short) in
    ap (take n) is ∙ take_at bytes (drop n before) n (sym count) ∙ ap (λ (k : ℕ). take k (drop at content)) (sym size)
