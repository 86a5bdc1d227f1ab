-- Judging by the version of the last block is judging by the versions of all.
use Rattle.std.proofs.Common.{◌≡◌, ℕ, List, refl, ap}
use Rattle.std.specs.Prelude.{Result, Ok, Err}
use Rattle.block_codec.specs.Placement.{is_marked_by, last_version}
use Rattle.block_codec.specs.declared.block.Block.{Block}
use Rattle.chain_replay.specs.chain_exec.Compiled.{compiled_in}
use Rattle.chain_replay.specs.Chain.{placement_by_mark, placement_in}
use Rattle.chain_replay.specs.Judging.{judgement_of, judged_by_placement, placement_for}
use Rattle.chain_replay.specs.declared.marking.Marking.TheVariants.{OfVersions}

pub by_last : (last : ℕ) (blocks : List Block) (decoded : Result Block ℕ) → last ≡ last_version blocks
    → judgement_of (placement_for compiled_in (OfVersions last)) blocks decoded
    ≡ judgement_of (placement_in compiled_in) blocks decoded
by_last last blocks (Ok block) is =
    ap (λ (n : ℕ). judged_by_placement block
    (placement_by_mark compiled_in (is_marked_by n block) blocks block)) is
by_last last blocks (Err offset) is = refl
