-- Which part of a machine, a disk and a wire, a call leaves as it was.
use Rattle.std.specs.Prelude.{◌≡◌, ℕ, Option}
use Rattle.lc_io.specs.Disk.{DiskState, Stays}

-- The wire: what was printed, and how many of its calls failed.
pub record LeavesWire {D T : Type 0} (tells : D → T) (wire_faults : D → ℕ) (old new : D) : Type 0 where
  pub told : tells new ≡ tells old
  pub faults : wire_faults new ≡ wire_faults old

-- The disk at each moment of the call, and how many of its calls failed.
pub record LeavesDisk {D : Type 0} (now : D → ℕ) (disk : D → ℕ → Option DiskState) (disk_faults : D → ℕ)
    (old new : D) : Type 0 where
  pub stays : Stays now disk old new
  pub faults : disk_faults new ≡ disk_faults old
