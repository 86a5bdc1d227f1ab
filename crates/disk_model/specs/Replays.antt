-- How a disk is represented while calls of it are made again.
use Rattle.std.specs.Prelude.{◌≡◌, reverse}
use Rattle.lc_io.specs.Disk.{DiskState}
use Rattle.disk_model.specs.declared.crash.Replayed.{Replayed}

-- The parts represent this disk. The writes are in order, the last one at the end; the greatest
-- length is not represented.
pub record IsReplayed (disk : Replayed) (state : DiskState) : Type 0 where
  pub content : disk.content.items ≡ state.content
  pub synced : disk.synced ≡ state.synced
  pub pending : reverse disk.pending.items ≡ state.pending
