use Rattle.std.proofs.Common.{◌+◌, ◌∙◌, ℕ, length, ap, sym, arith}
use Rattle.disk_model.specs.Machine.{MachineState}
use Rattle.disk_model.specs.Marks.{changed_by}
use Rattle.disk_model.proofs.Keeping.{length_calls}
use Rattle.disk_model.proofs.Replays.{content_push, changed_len, in_room}
use Rattle.disk_model.proofs.mem_machine.MemMachine.record.Goals as goal

pub keep-requires-clause-mark_room : goal.keep-requires-clause-mark_room
keep-requires-clause-mark_room c =
    let old : MachineState = c.args.self.now in
    let room = in_room (length old.calls) old.room_calls (old.bytes + length c.args.bytes.now) old.room_bytes c.requires.room in
    let calls = ap (λ (m : MachineState). length m.calls) c.self.view_is in
    let room_calls = ap (λ (m : MachineState). m.room_calls) c.self.view_is in
    omega (arith, room.0, calls, room_calls, length_calls c.self.inside.marks.items c.self.inside.bytes.items, c.self.invariant.mark_room)

pub invariant_of-self : goal.invariant_of-self
invariant_of-self c =
    let old : MachineState = c.args.self.now in
    let kept = c.self.invariant in
    let room = in_room (length old.calls) old.room_calls (old.bytes + length c.args.bytes.now) old.room_bytes c.requires.room in
    let calls = ap (λ (m : MachineState). length m.calls) c.self.view_is in
    let room_calls = ap (λ (m : MachineState). m.room_calls) c.self.view_is in
    let bytes = ap (λ (m : MachineState). m.bytes) c.self.view_is in
    let room_bytes = ap (λ (m : MachineState). m.room_bytes) c.self.view_is in
    record {
      content = c.change.ensures.content ∙ ap (changed_by c.args.mark c.args.bytes.now) kept.content ∙ sym (content_push c.self.inside.first.items _ _ c.args.mark c.args.bytes.now c.keep.ensures.calls);
      whole = c.keep.ensures.whole;
      few = omega (arith, room.0, calls, room_calls, length_calls c.self.inside.marks.items c.self.inside.bytes.items, c.keep.ensures.marks_len);
      mark_room = omega (arith, kept.mark_room, c.keep.ensures.mark_room_stays);
      short = omega (arith, room.1, bytes, room_bytes, c.keep.ensures.len);
      byte_room = omega (arith, kept.byte_room, c.keep.ensures.byte_room_stays);
      no_longer = omega (arith, kept.no_longer, c.keep.ensures.len, ap (length {A = ℕ}) c.change.ensures.content, changed_len c.args.mark c.args.bytes.now c.self.inside.content.items);
      content_room = omega (arith, kept.content_room, c.change.ensures.room_stays);
    }
