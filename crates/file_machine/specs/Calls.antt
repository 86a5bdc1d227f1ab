-- What calls of a machine over a file leave alone, and how their faults are counted.
use Rattle.std.specs.Prelude.{◌≡◌, Result, IsErr}
use Rattle.lc_base.specs.Faults.{HasCause}
use Rattle.lc_io.specs.Streams.{CountsFaults}
use Rattle.file_machine.specs.declared.machine.MachineOver.{MachineOver}

-- A call of the disk leaves the wire and its writer alone, and is counted exactly if it failed.
pub record CallsDisk {C W T E : Type 0} (old new : MachineOver C W) (result : Result T E)
    : Type 0 where
  pub wire_faults : new.wire_faults ≡ old.wire_faults
  pub writer : new.writer ≡ old.writer
  pub cause : HasCause old.disk_faults new.disk_faults (IsErr result)
  pub faults : CountsFaults old.disk_faults new.disk_faults result
