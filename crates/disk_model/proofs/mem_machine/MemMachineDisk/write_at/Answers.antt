use Rattle.std.proofs.Common.{length, refl}
use Rattle.disk_model.specs.Machine.{Wrote, FailedWrite}
use Rattle.disk_model.proofs.Replays.{writes, tells_nothing}
use Rattle.disk_model.proofs.mem_machine.MemMachineDisk.write_at.Goals as goal

pub returns-clause-disk : goal.returns-clause-disk
returns-clause-disk c = writes _ c.args.self.now c.disk_call.new.self c.args.at c.args.bytes.now c.disk_call.result c.disk_call.ensures.exact

pub returns-clause-told : goal.returns-clause-told
returns-clause-told c = tells_nothing c.args.self.now c.disk_call.new.self (length c.args.bytes.now) (Wrote c.args.at c.args.bytes.now) (FailedWrite c.args.at (length c.args.bytes.now)) c.disk_call.result refl refl c.disk_call.ensures.exact
