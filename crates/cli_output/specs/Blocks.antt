-- What is printed for blocks that are made, and for drafts.
use Rattle.std.specs.Prelude.{◌≡◌, ℕ, List, [], length, ◌++◌, map, codes, decimal, Some, Result, Ok}
use Rattle.std.specs.Prelude.{Err}
use Rattle.std.specs.Int.{w32, to_be_bytes}
use Rattle.chain_pack.specs.Draft.{pack_fault}
use Rattle.chain_pack.specs.declared.error.PackError.{PackError}
use Rattle.chain_pack.specs.declared.error.PackError.TheVariants.{Json, Top, Shape, BlockLimit}
use Rattle.chain_pack.specs.declared.error.PackError.TheVariants.{Memory}
use Rattle.cli_promises.specs.cli_lines.Outcome.{outcome_with, bad_input}
use Rattle.cli_promises.specs.cli_lines.declared.outcome.Outcome.{Outcome}
use Rattle.cli_promises.specs.cli_lines.declared.outcome.Ending.TheVariants as endings

-- The frame of a block: the number of its bytes, in four bytes, the most significant first, and
-- then these.
abbrev pub frame : List ℕ → List ℕ
frame block = to_be_bytes w32 (length block) ++ block

-- The cause for a fault of a draft. Memory is no fault of it, and has an empty cause.
abbrev pub draft_cause : PackError → List ℕ
draft_cause Json = codes "json"
draft_cause Top = codes "top"
draft_cause (Shape block tx) = codes "draft " ++ decimal block ++ codes " " ++ decimal tx
draft_cause (BlockLimit block) = codes "block " ++ decimal block
draft_cause Memory = []

-- What is printed for a draft: the frame of each of its blocks, or its first fault.
abbrev pub draft_outcome : Result (List (List ℕ)) PackError → Outcome
draft_outcome (Ok blocks) = outcome_with (map frame blocks) endings.Done
draft_outcome (Err fault) = bad_input (draft_cause fault)

-- The error reports a fault of the draft, and the outcome is that of the fault.
abbrev pub TellsFault : PackError → Outcome → Type 0
TellsFault error outcome = (fault : PackError) × (pack_fault error ≡ Some fault) × (outcome ≡ bad_input (draft_cause fault))
