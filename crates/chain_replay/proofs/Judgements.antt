-- A judgement that adds a block says that its placement is the next one.
use Rattle.std.proofs.Common.{◌≡◌, ℕ, List, refl, sym, ap, subst, ◌∙◌}
use Rattle.std.specs.Prelude.{Result, Ok}
use Rattle.lc_base.specs.declared.digest.Digest.{Digest}
use Rattle.block_codec.specs.Reading.{block_in}
use Rattle.block_codec.specs.Spelling.{IsBlock}
use Rattle.block_codec.specs.Placement.{digest_of}
use Rattle.block_codec.specs.declared.block.Block.{Block}
use Rattle.block_codec.specs.declared.placement.Placement.{Placement}
use Rattle.block_codec.specs.declared.placement.Placement.TheVariants.{Known as KnownBlock, Next, Not}
use Rattle.chain_replay.specs.Chain.{ChainState, HasRoom, placement_kept}
use Rattle.chain_replay.specs.Judging.{Placer, Added, is_marked_for, judgement_of, judged_by_placement, IsJudged, IsPlacedBlock, IfNext, IsNextBlock}
use Rattle.chain_replay.specs.declared.judging.Judged.{Judged}
use Rattle.chain_replay.specs.declared.marking.Marking.{Marking}
use Rattle.chain_replay.specs.declared.judging.Judged.TheVariants as judgements

added_stands : (block other : Block) (place : Placement) → judged_by_placement block place ≡ Ok (Added other) → place ≡ Next
added_stands block other KnownBlock is = absurd (cc is)
added_stands block other Next is = refl
added_stands block other (Not why) is = absurd (cc is)

-- a block that a chain reports as its next one is judged and placed as the next one
pub record IsAdded (place : Placer) (marking : Marking) (blocks : List Block) (kept : ChainState) (bytes : List ℕ) (block : Block) (digest : Digest) : Type 0 where
  pub judgement : judgement_of place blocks (block_in bytes) ≡ Ok (Added block)
  pub stands : place blocks block ≡ Next
  pub given : IsNextBlock marking kept bytes block digest

pub added : (place : Placer) (marking : Marking) (blocks : List Block) (kept : ChainState) (bytes : List ℕ) (told : Judged) (block : Block) (digest : Digest)
    → told ≡ judgements.Next block digest → IsJudged told (judgement_of place blocks (block_in bytes)) → IfNext told (IsNextBlock marking kept bytes) → IsAdded place marking blocks kept bytes block digest
added place marking blocks kept bytes told block digest is is_judged next =
    let judgement : judgement_of place blocks (block_in bytes) ≡ Ok (Added block) = subst (λ (j : Judged). IsJudged j (judgement_of place blocks (block_in bytes))) is is_judged in
    let given : IsNextBlock marking kept bytes block digest = subst (λ (j : Judged). IfNext j (IsNextBlock marking kept bytes)) is next in
    record {
      judgement = judgement;
      stands = added_stands block block (place blocks block) (sym (ap (judgement_of place blocks) given.decoded) ∙ judgement);
      given = given;
    }

-- a block that is judged to be added is the next one
pub added_is_next : (place : Placer) (blocks : List Block) (decoded : Result Block ℕ) (block other : Block) → decoded ≡ Ok block → judgement_of place blocks decoded ≡ Ok (Added other) → place blocks block ≡ Next
added_is_next place blocks decoded block other is judgement = added_stands block other (place blocks block) (sym (ap (judgement_of place blocks) is) ∙ judgement)

-- ---- what a block is to a chain, by its placement

-- the judgement of a block is that of the bytes that spell it
pub judged_of_bytes : (told : Judged) (place : Placer) (blocks : List Block) (bytes : List ℕ) (block : Block) (placement : Placement)
    → IsJudged told (judged_by_placement block placement) → block_in bytes ≡ Ok block → placement ≡ place blocks block → IsJudged told (judgement_of place blocks (block_in bytes))
judged_of_bytes told place blocks bytes block placement is spelled placed =
    subst (λ (decoded : Result Block ℕ). IsJudged told (judgement_of place blocks decoded)) (sym spelled)
    (subst (λ (found : Placement). IsJudged told (judged_by_placement block found)) placed is)

-- what holds of the block that is reported as next implies this of it
if_next : (told : Judged) (P Q : Block → Digest → Type 0) → IfNext told P → ((block : Block) (digest : Digest) → P block digest → Q block digest) → IfNext told Q
if_next (judgements.Known number) P Q is leads = tt
if_next (judgements.Next block digest) P Q is leads = leads block digest is
if_next (judgements.Refused refusal) P Q is leads = tt

-- a block that is reported as next is the next block of what is kept
pub next_of_bytes : (told : Judged) (marking : Marking) (kept : ChainState) (bytes : List ℕ) (block : Block) (digest : Digest) (placement : Placement)
    → IfNext told (IsPlacedBlock block digest placement) → block_in bytes ≡ Ok block → IsBlock block → digest ≡ digest_of block → placement ≡ placement_kept (is_marked_for marking block) kept block digest → (placement ≡ Next → HasRoom kept block)
    → IfNext told (IsNextBlock marking kept bytes)
next_of_bytes told marking kept bytes block digest placement is spelled lawful digest_is placed room =
    if_next told (IsPlacedBlock block digest placement) (IsNextBlock marking kept bytes) is (λ next next_digest given.
    subst (λ (b : Block). IsNextBlock marking kept bytes b next_digest) (sym given.block_is)
    (subst (IsNextBlock marking kept bytes block) (sym given.digest_is) (record {
      decoded = spelled;
      lawful = lawful;
      digest_is = digest_is;
      room = room given.is_next;
      placed = sym placed ∙ given.is_next;
    })))
