-- A lawful block without a spelling is over the limit of bytes.
use Rattle.std.proofs.Common.{ℕ, ◌<◌, List, length, refl}
use Rattle.std.specs.List.{concat}
use Rattle.std.proofs.Math.Nat.{lt_of_not-le}
use Rattle.block_codec.specs.Spelling.{IsBlock, Spells, block_fields}
use Rattle.block_codec.specs.declared.block.Block.{Block}
use Rattle.block_codec.specs.declared.limits.TheConstants.{MAX_BLOCK_BYTES}

pub is_long : (block : Block) → IsBlock block → ((bytes : List ℕ) → Spells bytes block → ⊥) → MAX_BLOCK_BYTES < length (concat (block_fields block))
is_long block lawful none = lt_of_not-le (λ short. none (concat (block_fields block)) (record { lawful = lawful; spelled = refl; short = short }))
