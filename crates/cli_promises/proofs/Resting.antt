-- What rests: a chain to which nothing was added, and a disk on which nothing is pending.
use Rattle.std.proofs.Common.{◌≡◌, ℕ, List, [], sym, ap, subst, append-nil}
use Rattle.std.specs.Prelude.{Option, Some}
use Rattle.lc_io.specs.Disk.{DiskState}
use Rattle.disk_model.specs.Disk.{IsImage, Rests}
use Rattle.disk_model.proofs.Images.{settled_image}
use Rattle.block_codec.specs.declared.block.Block.{Block}
use Rattle.block_log.specs.Standing.{Logged, with_blocks}

-- a chain with no more blocks is the same
pub with_none : (logged : Logged) → with_blocks logged [] ≡ logged
with_none logged =
    ap (λ (blocks : List Block). record { blocks = blocks; marked = logged.marked })
    (append-nil logged.blocks)

-- if nothing is pending, each image that a crash may leave is the content
pub rests_each : (state : Option DiskState) (P : List ℕ → Type 0) → Rests state P
    → (s : DiskState) (image : List ℕ) → state ≡ Some s → IsImage s image → P image
rests_each state P rests s image is at =
    let r = subst (λ (o : Option DiskState). Rests o P) is rests in
    subst P (sym (settled_image s.content image (subst (λ (u : DiskState). IsImage u image) r.0
    at))) r.1
