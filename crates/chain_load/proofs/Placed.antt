-- The next block of a seed is placed as the next one of the chain of those before it.
use Rattle.std.proofs.Common.{◌≡◌, ◌∙◌, Bool, true, false, ℕ, zero, suc, ◌+◌, ◌-◌, ◌*◌, ◌<◌, ◌≤◌}
use Rattle.std.proofs.Common.{List, [], ◌∷◌, ◌++◌, length, map, Option, Some, None, refl, sym, ap}
use Rattle.std.proofs.Common.{subst, arith}
use Rattle.std.specs.Prelude.{slice_get, unwrap_or}
use Rattle.std.proofs.lemmas.List.{length-map, map_push, length-append}
use Rattle.std.proofs.lemmas.Option.{slice_get_past}
use Rattle.lc_base.specs.declared.digest.Digest.{Digest}
use Rattle.block_codec.specs.Placement.{digest_of, last_digest, no_parent, placement}
use Rattle.block_codec.specs.Placement.{placement_after}
use Rattle.block_codec.specs.declared.block.Block.{Block}
use Rattle.block_codec.specs.declared.limits.TheConstants.{MAX_BLOCKS, MAX_ROWS_BEFORE_BLOCK}
use Rattle.block_codec.specs.declared.placement.Placement.TheVariants.{Next}
use Rattle.block_codec.proofs.Versions.{next_by_versions}
use Rattle.dep_capture.specs.declared.limits.TheConstants.{MAX_KEYS_PUT}
use Rattle.rooted_chain.specs.chain_exec.Compiled.{compiled_in}
use Rattle.rooted_chain.specs.chain_exec.Effect.{History}
use Rattle.rooted_chain.specs.chain_exec.Replay.{replay}
use Rattle.rooted_chain.specs.chain_replay.Chain.{ChainState, HasRoom, StandsFor, nothing_kept, placement_in}
use Rattle.chain_pack.specs.declared.limits.TheConstants.{MAX_TXS_MADE}
use Rattle.chain_pack.specs.Generator.{Progress, block_drawn, first_blocks, progress}
use Rattle.chain_pack.specs.Generator.{IsPlaced}
use Rattle.chain_pack.proofs.Generating.{made_more, made_fit}
use Rattle.chain_load.specs.Building.{HasAdded}

-- ---- the first blocks of a seed

pub made_count : (seed count : ℕ) → length (first_blocks seed count).blocks ≡ count
unfolding first_blocks
made_count seed zero = refl
made_count seed (suc count) =
    let before = made_count seed count in
    let last = block_drawn count (first_blocks seed count).parent (first_blocks seed count).state in
    omega (arith, before, length-append (first_blocks seed count).blocks (last.0 ∷ []))

at_end : (digests : List Digest) (digest : Digest)
    → slice_get (digests ++ digest ∷ []) (length digests) ≡ Some digest
at_end [] digest = refl
at_end (first ∷ digests) digest = at_end digests digest

last_is : (digests : List Digest) (digest : Digest) → last_digest (digests ++ digest ∷ []) ≡ digest
last_is digests digest =
    let last : length (digests ++ digest ∷ []) - 1 ≡ length digests = omega
    (arith, length-append digests (digest ∷ [])) in
    ap (λ (n : ℕ). unwrap_or (slice_get (digests ++ digest ∷ []) n) no_parent) last
    ∙ ap (λ (o : Option Digest). unwrap_or o no_parent) (at_end digests digest)

made_parent : (seed count : ℕ)
    → last_digest (map digest_of (first_blocks seed count).blocks) ≡ (first_blocks seed count).parent
unfolding first_blocks
made_parent seed zero = refl
made_parent seed (suc count) =
    let block = (block_drawn count (first_blocks seed count).parent (first_blocks seed count).state).0 in
    ap last_digest (map_push digest_of (first_blocks seed count).blocks block)
    ∙ last_is (map digest_of (first_blocks seed count).blocks) (digest_of block)

number_is : (number state : ℕ) (parent : Digest)
    → (block_drawn number parent state).0.number ≡ number
unfolding block_drawn
number_is number state parent = refl

-- ---- the next one

pub placed_next : (seed count : ℕ) (block : Block)
    → block ≡ (block_drawn count (first_blocks seed count).parent (first_blocks seed count).state).0
    → count < MAX_BLOCKS
    → length (replay compiled_in (first_blocks seed count).blocks).rows ≤ MAX_ROWS_BEFORE_BLOCK
    → IsPlaced count (first_blocks seed count).parent block
    → placement_in compiled_in (first_blocks seed count).blocks block ≡ Next
placed_next seed count block is room few placed =
    let before = (first_blocks seed count).blocks in
    let digests = map digest_of before in
    let rows = length (replay compiled_in before).rows in
    let number : block.number ≡ count = ap (λ (b : Block). b.number) is
    ∙ number_is count (first_blocks seed count).state (first_blocks seed count).parent in
    let long = made_count seed count in
    let past : slice_get digests block.number ≡ None = slice_get_past digests block.number
    (omega (arith, number, long, length-map before digest_of)) in
    let unmarked : placement_after false rows before block ≡ Next =
    ap (λ (n : ℕ). placement false n rows (slice_get digests block.number) (last_digest digests)
    block (digest_of block)) long
    ∙ ap (λ (have : Option Digest). placement false count rows have (last_digest digests) block
    (digest_of block)) past
    ∙ ap (λ (parent : Digest). placement false count rows None parent block (digest_of block))
    (made_parent seed count)
    ∙ placed.next room rows few in
    next_by_versions false rows before block (made_fit seed count) unmarked

pub rows_are : (chain : ChainState) (blocks : List Block) → StandsFor chain blocks
    → chain.rows ≡ (replay compiled_in blocks).rows
rows_are chain blocks stands = ap (λ (h : History). h.rows) stands.history_is

-- what the generator makes next
pub record GivesNext (told : Bool) (seed count added : ℕ) (chain : ChainState)
    (generator : Progress) (parent : Digest) (block : Block) : Type 0 where
  pub given_is : generator.given ≡ added
  pub goes_is : generator ≡ progress seed generator.count generator.given
  pub parent_is : parent ≡ (first_blocks seed generator.given).parent
  pub block_is : block ≡ (block_drawn added (first_blocks seed added).parent (first_blocks seed added).state).0
  pub room : HasRoom chain block
  pub next : told ≡ true → placement_in compiled_in (first_blocks seed added).blocks block ≡ Next

pub gives_next : (told : Bool) (seed count added : ℕ) (chain : ChainState) (generator : Progress)
    (parent : Digest) → HasAdded told seed count added chain generator parent → added < count
    → count ≤ MAX_BLOCKS
    → IsPlaced generator.given parent (block_drawn generator.given parent generator.state).0
    → GivesNext told seed count added chain generator parent
    (block_drawn generator.given parent generator.state).0
gives_next told seed count added chain generator parent has more few placed =
    let given_is : generator.given ≡ added = ap (λ (g : Progress). g.given) has.generator_is in
    let count_is : generator.count ≡ count = ap (λ (g : Progress). g.count) has.generator_is in
    let state_is : generator.state ≡ (first_blocks seed added).state = ap (λ (g : Progress). g.state)
    has.generator_is in
    let few_rows = has.few_rows in
    let block : Block = (block_drawn generator.given parent generator.state).0 in
    let block_is : block ≡ (block_drawn added (first_blocks seed added).parent (first_blocks seed added).state).0 =
    ap (λ (n : ℕ). (block_drawn n parent generator.state).0) given_is
    ∙ ap (λ (p : Digest). (block_drawn added p generator.state).0) has.parent_is
    ∙ ap (λ (s : ℕ). (block_drawn added (first_blocks seed added).parent s).0) state_is in
    let many : length chain.digests ≡ added = ap (length {A = Digest}) has.digests_are
    ∙ length-map (first_blocks seed added).blocks digest_of ∙ made_count seed added in
    let number : block.number ≡ added = ap (λ (b : Block). b.number) block_is
    ∙ number_is added (first_blocks seed added).state (first_blocks seed added).parent in
    record {
      given_is = given_is;
      goes_is = has.generator_is ∙ ap (λ (n : ℕ). progress seed n added) (sym count_is)
          ∙ ap (progress seed generator.count) (sym given_is);
      parent_is = has.parent_is ∙ ap (λ (n : ℕ). (first_blocks seed n).parent) (sym given_is);
      block_is = block_is;
      room = record {
        number = number ∙ sym many;
        room = omega (arith, many, more, few);
        few_rows = omega (arith, few_rows, more, few);
      };
      next = λ t.
          let rows = ap (length {A = _}) (rows_are chain (first_blocks seed added).blocks (has.stands t)) in
          placed_next seed added block block_is (omega (arith, more, few))
          (omega (arith, rows, few_rows, more, few))
          (subst (λ (n : ℕ). IsPlaced n (first_blocks seed added).parent block) given_is
          (subst (λ (p : Digest). IsPlaced generator.given p block) has.parent_is placed));
    }

pub added_more : (told : Bool) (seed count added : ℕ) (chain longer : ChainState)
    (generator after : Progress) (parent digest : Digest) (block : Block)
    → HasAdded told seed count added chain generator parent
    → GivesNext told seed count added chain generator parent block
    → longer.digests ≡ chain.digests ++ digest_of block ∷ []
    → (told ≡ true → StandsFor longer ((first_blocks seed added).blocks ++ block ∷ []))
    → length longer.rows ≤ length chain.rows + MAX_KEYS_PUT * length block.txs
    → length block.txs ≤ MAX_TXS_MADE
    → after ≡ progress seed generator.count (generator.given + 1)
    → digest ≡ (first_blocks seed (generator.given + 1)).parent
    → HasAdded told seed count (added + 1) longer after digest
added_more told seed count added chain longer generator after parent digest block has gives digests
    stands rows txs after_is digest_is =
    let few_rows = has.few_rows in
    let count_is : generator.count ≡ count = ap (λ (g : Progress). g.count) has.generator_is in
    let next : generator.given + 1 ≡ added + 1 = ap (λ (n : ℕ). n + 1) gives.given_is in
    let blocks_are : (first_blocks seed (added + 1)).blocks ≡ (first_blocks seed added).blocks ++ block ∷ [] =
    ap (λ m. m.blocks) (made_more seed added)
    ∙ ap (λ (b : Block). (first_blocks seed added).blocks ++ b ∷ []) (sym gives.block_is) in
    record {
      digests_are = digests ∙ ap (λ (ds : List Digest). ds ++ digest_of block ∷ []) has.digests_are
          ∙ sym (map_push digest_of (first_blocks seed added).blocks block)
          ∙ ap (map digest_of) (sym blocks_are);
      stands = λ t. subst (StandsFor longer) (sym blocks_are) (stands t);
      few_rows = omega (arith, few_rows, rows, txs);
      generator_is = after_is ∙ ap (λ (n : ℕ). progress seed n (generator.given + 1)) count_is
          ∙ ap (progress seed count) next;
      parent_is = digest_is ∙ ap (λ (n : ℕ). (first_blocks seed n).parent) next;
    }

-- the chain before any block was added
none_stand : StandsFor nothing_kept []
unfolding replay
none_stand = record {
  chained = λ i block within. absurd (omega (arith, within));
  digests_are =
      refl;
  history_is = refl;
}

pub none_added : (told : Bool) (seed count : ℕ) (chain : ChainState) (generator : Progress)
    → chain ≡ nothing_kept → generator ≡ progress seed count 0
    → HasAdded told seed count 0 chain generator no_parent
unfolding first_blocks
none_added told seed count chain generator none start = record {
  digests_are = ap (λ (c : ChainState). c.digests) none;
  stands = λ t. subst (λ (c : ChainState). StandsFor c []) (sym none) none_stand;
  few_rows = (let rows = ap (λ (c : ChainState). length c.rows) none in omega (arith, rows));
  generator_is = start;
  parent_is = refl;
}

-- all blocks were added
pub all_added : (told : Bool) (seed count : ℕ) (chain : ChainState) (generator : Progress)
    (parent : Digest) → HasAdded told seed count count chain generator parent
    → length chain.digests ≡ count
all_added told seed count chain generator parent has = ap (length {A = Digest}) has.digests_are
    ∙ length-map (first_blocks seed count).blocks digest_of ∙ made_count seed count
