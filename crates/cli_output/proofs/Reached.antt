-- What is printed for a question if the chain has the blocks that it names.
use Rattle.std.proofs.Common.{◌≡◌, ℕ, ◌-◌, ◌<◌, ◌≤◌, Bool, true, false, cond, eqb, leb, ltb, ◌&&◌}
use Rattle.std.proofs.Common.{List, length, Some, None, ap, ◌∙◌, arith}
use Rattle.std.specs.Prelude.{if◌then◌else◌, nat_le, nat_lt}
use Rattle.std.proofs.lemmas.Bool.Decides.{nat_tests}
use Rattle.block_codec.specs.declared.block.Block.{Block}
use Rattle.cli_promises.specs.cli_lines.Outcome.{outcome_with}
use Rattle.cli_promises.specs.cli_lines.declared.outcome.Outcome.{Outcome}
use Rattle.cli_promises.specs.cli_lines.declared.outcome.Ending.TheVariants as endings
use Rattle.cli_output.specs.Output.{beyond_outcome, beyond_head, outcome_at}

-- the chain has the block
pub block_reached : (at : ℕ) (blocks : List Block) (lines : List (List ℕ)) → at < length blocks
    → outcome_at at blocks lines ≡ outcome_with lines endings.Done
block_reached at blocks lines low =
    let past : Outcome = beyond_outcome (Some (length blocks - 1)) in
    let done : Outcome = outcome_with lines endings.Done in
    let some : eqb (length blocks) 0 ≡ false = grind (arith, nat_tests) in
    let fits : ltb at (length blocks) ≡ true = grind (arith, nat_tests) in
    ap (λ (b : Bool). cond b (beyond_outcome None) (cond (ltb at (length blocks)) done past)) some
    ∙ ap (λ (b : Bool). cond b done past) fits

-- it has the block of a root, and the question is about no later one
pub root_reached : (at root_at : ℕ) (blocks : List Block) (done : Outcome)
    → root_at < length blocks → at ≤ root_at
    → (if nat_le at root_at && nat_lt root_at (length blocks) then done else beyond_head blocks)
    ≡ done
root_reached at root_at blocks done low early =
    let fits : leb at root_at && ltb root_at (length blocks) ≡ true = grind (arith, nat_tests) in
    ap (λ (b : Bool). cond b done (beyond_head blocks)) fits
