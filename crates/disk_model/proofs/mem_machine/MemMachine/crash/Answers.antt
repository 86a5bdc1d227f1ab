use Rattle.std.proofs.Common.{◌≡◌, ◌∙◌, ℕ, length, ap, subst, arith, IfOk}
use Rattle.std.proofs.lemmas.List.{length-take}
use Rattle.disk_model.specs.Machine.{MachineState}
use Rattle.disk_model.specs.Marks.{total_len}
use Rattle.disk_model.proofs.Crashes.{total_len_take, machine_left, machine_image}
use Rattle.disk_model.proofs.Keeping.{length_calls}
use Rattle.disk_model.proofs.mem_machine.MemMachine.crash.Goals as goal

pub slice_bounds-replay-end : goal.slice_bounds-replay-end
slice_bounds-replay-end c =
    let calls = ap (λ (m : MachineState). length m.calls) c.self.view_is in
    let marks = ap length c.deref-2.ensures.value in
    omega (arith, c.requires, calls, marks, length_calls c.self.inside.marks.items c.self.inside.bytes.items, length-take c.args.moment c.deref-2.result.now)

pub replay-requires : goal.replay-requires
replay-requires c =
    let marks = ap total_len c.deref-2.ensures.value in
    let bytes = ap (length {A = ℕ}) c.deref-3.ensures.value in
    omega (arith, total_len_take c.args.moment c.deref-2.result.now, marks, bytes, c.self.invariant.whole)

pub returns-clause-exact : goal.returns-clause-exact
returns-clause-exact c =
    let left = machine_left c.self.inside c.args.moment c.args.keep c.args.fill c.args.short c.args.self.now c.deref.result.now c.deref-2.result.now c.deref-3.result.now c.deref-4.result.now c.self.view_is c.deref.ensures.value c.deref-2.ensures.value c.deref-3.ensures.value (c.deref-4.ensures.value ∙ c.in_ok-left.ensures _ c.in_ok-disk.ensures) in
    subst (λ (m : MachineState). IfOk c.new.result (λ machine. machine ≡ m)) left c.new.ensures

pub returns-clause-image : goal.returns-clause-image
returns-clause-image c = machine_image c.args.moment c.args.keep c.args.fill c.args.short c.args.self.now c.new.result (returns-clause-exact c)
