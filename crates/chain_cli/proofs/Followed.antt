-- The chain of a follower stays a prefix of its leader's, by any right compiler.
use Rattle.std.proofs.Common.{◌≡◌, ℕ, ◌++◌, List, subst, sym, ap, ◌∙◌, append_assoc}
use Rattle.std.specs.Prelude.{take, drop}
use Rattle.std.proofs.lemmas.List.{take-append-drop}
use Rattle.block_codec.specs.declared.block.Block.{Block}
use Rattle.chain_replay.specs.Chain.{IsChain, placement_by_mark}
use Rattle.chain_exec.proofs.TheLaws.{one_compiler}
use Rattle.chain_exec.specs.Compiled.{Compiler, compiled_in}
use Rattle.cli_append.specs.cli_promises.Promises.{Appends}
use Rattle.cli_append.specs.cli_promises.Following.{follow_all}
use Rattle.cli_append.specs.cli_promises.FollowLaws.{FollowsItsLeader}
use Rattle.follower_steps.specs.Laws.{IsPrefixOf}
use Rattle.cli_append.proofs.Leader.{follows_leader}
use Rattle.cli_output.specs.Output.{follow_to}
use Rattle.cli_output.specs.Showing.{FollowedChainsArePrefixes}

-- a chain with some first ones of these blocks is a prefix of what the chain with all of them is
part_is_prefix : (first added leader : List Block) (count : ℕ)
    → IsPrefixOf (first ++ added) leader → IsPrefixOf (first ++ take count added) leader
part_is_prefix first added leader count (rest, is) = (
  drop count added ++ rest,
  append_assoc first (take count added) (drop count added ++ rest)
      ∙ ap (λ (l : List Block). first ++ l)
      (sym (append_assoc (take count added) (drop count added) rest)
      ∙ ap (λ (l : List Block). l ++ rest) (take-append-drop count added))
      ∙ sym (append_assoc first added rest) ∙ is,
)

of_law : FollowsItsLeader → (input : List ℕ) → FollowedChainsArePrefixes input
of_law law input compile leader added frames logged is_compiler chain prefix read all
    appends =
    let compile_is : compile ≡ compiled_in = one_compiler.only compile is_compiler in
    let here : IsChain compiled_in leader =
    subst (λ (c : Compiler). IsChain c leader) compile_is chain in
    let added_here : (follow_to compiled_in input logged).change ≡ Appends added =
    subst (λ (c : Compiler). (follow_to c input logged).change ≡ Appends added) compile_is
    appends in
    let blocks : List Block =
    (follow_all compiled_in (placement_by_mark compiled_in) logged input).done.added in
    let same : blocks ≡ added = cc added_here in
    let whole : IsPrefixOf (logged.blocks ++ added) leader =
    subst (λ (b : List Block). IsPrefixOf (logged.blocks ++ b) leader) same
    (law leader here logged prefix input frames read all) in
    (whole, λ count. part_is_prefix logged.blocks added leader count whole)

pub followed_chains : (input : List ℕ) → FollowedChainsArePrefixes input
followed_chains = of_law follows_leader
