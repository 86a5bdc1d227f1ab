use Rattle.std.proofs.Common.{length}
use Rattle.std.specs.Prelude.{Ok, Err}
use Rattle.lc_io.specs.declared.outside.Failed.{Failed}
use Rattle.disk_model.specs.Machine.{Told, Idle, MakesTell, with_wire_fault}
use Rattle.disk_model.proofs.Replays.{makes_fault, tell_stays, tells}
use Rattle.disk_model.proofs.mem_machine.MemMachineWire.tell.Goals as goal

pub returns-then-attempt-clause-disk : goal.returns-then-attempt-clause-disk
returns-then-attempt-clause-disk c = tell_stays {T = Unit {0}} {E = Failed} c.args.self.now c.attempt.new.self c.args.bytes.now (Ok tt) c.if-attempt.ensures

pub returns-then-attempt-clause-told : goal.returns-then-attempt-clause-told
returns-then-attempt-clause-told c = tells (Unit {0}) {E = Failed} c.args.self.now c.attempt.new.self c.args.bytes.now (Ok tt) c.if-attempt.ensures

pub returns-else-attempt-clause-disk : goal.returns-else-attempt-clause-disk
returns-else-attempt-clause-disk c =
    let makes : MakesTell {T = Unit {0}} {E = Failed} c.args.bytes.now c.args.self.now c.wire_fault.new.self (Err c.wire_fault.result) =
    makes_fault (Unit {0}) (length c.args.bytes.now) (Told c.args.bytes.now) Idle with_wire_fault c.args.self.now c.attempt.new.self c.wire_fault.new.self c.wire_fault.result c.if-attempt.ensures c.wire_fault.ensures.exact in
    tell_stays {T = Unit {0}} {E = Failed} c.args.self.now c.wire_fault.new.self c.args.bytes.now (Err c.wire_fault.result) makes

pub returns-else-attempt-clause-told : goal.returns-else-attempt-clause-told
returns-else-attempt-clause-told c =
    let makes : MakesTell {T = Unit {0}} {E = Failed} c.args.bytes.now c.args.self.now c.wire_fault.new.self (Err c.wire_fault.result) =
    makes_fault (Unit {0}) (length c.args.bytes.now) (Told c.args.bytes.now) Idle with_wire_fault c.args.self.now c.attempt.new.self c.wire_fault.new.self c.wire_fault.result c.if-attempt.ensures c.wire_fault.ensures.exact in
    tells (Unit {0}) {E = Failed} c.args.self.now c.wire_fault.new.self c.args.bytes.now (Err c.wire_fault.result) makes
