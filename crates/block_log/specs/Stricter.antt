-- What a log stands for by a placement that is stricter than its own.
use Rattle.std.specs.Prelude.{◌==◌, Bool, if◌then◌else◌, List, [], ◌∷◌, ◌++◌}
use Rattle.std.specs.Option.{is_some}
use Rattle.block_codec.specs.declared.block.TheConstants.{SECOND_VERSION}
use Rattle.block_codec.specs.declared.block.Block.{Block}
use Rattle.block_log.specs.declared.layout.Stored.{Stored}
use Rattle.block_log.specs.Standing.{Standing, Blank, NotALog, Damaged, Holds, Placer, if_next}
use Rattle.block_log.specs.Standing.{blocks_in}

-- Whether a block has the second version. In a log these are the blocks after the mark.
abbrev pub is_second : Block → Bool
is_second block = block.version == SECOND_VERSION

-- Whether a block is the next one after those that are stored.
abbrev pub is_next_by : Placer → List Stored → Block → Bool
is_next_by place held block = is_some (if_next block (place (is_second block) (blocks_in held) block))

-- Stored blocks are taken one by one as long as each is the next one, then they end as `end` says.
-- At the first that is not the next one, the log is damaged, at the gate of its record.
unfoldable pub standing_after : Placer → List Stored → List Stored → (List Stored → Standing)
    → Standing
standing_after place held [] end = end held
standing_after place held (s ∷ more) end = if is_next_by place held s.block then standing_after place (held ++ s ∷ []) more end else Damaged held s.place

-- What bytes stand for by this placement, derived from what they stand for by the log's own.
abbrev pub restanding : Placer → Standing → Standing
restanding place Blank = Blank
restanding place NotALog = NotALog
restanding place (Damaged stored gate) = standing_after place [] stored (λ held. Damaged held gate)
restanding place (Holds stored marked gate) = standing_after place [] stored (λ held. Holds held marked gate)
