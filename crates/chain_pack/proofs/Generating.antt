-- A generator that has returned the first blocks of a seed returns the next one of them; all of them
-- have the first version.
use Rattle.std.proofs.Common.{◌≡◌, ℕ, zero, suc, false, ◌+◌, ◌∷◌, ◌++◌, [], List, Some, refl, sym, ap, subst, ◌∙◌}
use Rattle.std.proofs.lemmas.List.{map-append}
use native.Mathlib.Numerals.{unary_clauses}
use Rattle.lc_base.specs.declared.digest.Digest.{Digest}
use Rattle.block_codec.specs.Placement.{bytes_digest, no_parent, FitsVersions}
use Rattle.block_codec.specs.declared.block.TheConstants.{FIRST_VERSION}
use Rattle.block_codec.proofs.Versions.{last_version_of}
use Rattle.chain_pack.specs.Generator.{Progress, GoesOn, none_made, one_more_made, first_blocks}
use Rattle.chain_pack.specs.Generator.{blocks_of_seed, spelling, block_drawn, given_block, progress}

pub made_more : (seed count : ℕ) → first_blocks seed (count + 1) ≡ one_more_made count (first_blocks seed count)
unfolding first_blocks
made_more seed count = simp unary_clauses refl

-- all of them have the first version, as the blocks of a chain that is not marked
version_is : (number state : ℕ) (parent : Digest) → (block_drawn number parent state).0.version ≡ FIRST_VERSION
unfolding block_drawn
version_is number state parent = refl

pub made_fit : (seed count : ℕ) → FitsVersions false (first_blocks seed count).blocks
unfolding first_blocks
made_fit seed zero unmarked = refl
made_fit seed (suc count) unmarked =
    let before = first_blocks seed count in
    last_version_of before.blocks (block_drawn count before.parent before.state).0 ∙ version_is count before.state before.parent

digest_is : (seed : ℕ) (gen : Progress) (parent : Digest) (bytes : List ℕ) → bytes ≡ spelling (block_drawn gen.given parent gen.state).0 → gen.state ≡ (first_blocks seed gen.given).state → parent ≡ (first_blocks seed gen.given).parent → bytes_digest bytes ≡ (first_blocks seed (gen.given + 1)).parent
unfolding spelling
digest_is seed gen parent bytes spelled state chained = rw (made_more seed gen.given, spelled, state, chained) refl

-- the bytes of the next block, and the generator after returning it
pub goes_on : (seed : ℕ) (gen after : Progress) (parent : Digest) (bytes : List ℕ) → bytes ≡ spelling (block_drawn gen.given parent gen.state).0 → after ≡ (given_block gen (block_drawn gen.given parent gen.state)).1
    → gen ≡ progress seed gen.count gen.given → parent ≡ (first_blocks seed gen.given).parent → GoesOn seed gen (Some (bytes, after))
goes_on seed gen after parent bytes spelled moved is chained =
    let step = made_more seed gen.given in
    let state : gen.state ≡ (first_blocks seed gen.given).state = ap (λ (g : Progress). g.state) is in
    let block = block_drawn gen.given (first_blocks seed gen.given).parent (first_blocks seed gen.given).state in
    (rw (step, spelled, state, chained) (map-append spelling (first_blocks seed gen.given).blocks (block.0 ∷ [])), digest_is seed gen parent bytes spelled state chained, rw (step, moved, state, chained) refl)

-- The first `given` of a seed's `count` blocks were returned as these texts, and the last of them
-- is the next one's parent.
pub record HasGiven (seed count given : ℕ) (gen : Progress) (parent : Digest) (texts : List (List ℕ)) : Type 0 where
  pub gen_is : gen ≡ progress seed count given
  pub parent_is : parent ≡ (first_blocks seed given).parent
  pub texts_are : texts ≡ blocks_of_seed given seed

pub given_none : (seed count : ℕ) (gen : Progress) (texts : List (List ℕ)) → gen ≡ progress seed count 0 → first_blocks seed 0 ≡ none_made seed → texts ≡ [] → HasGiven seed count 0 gen no_parent texts
given_none seed count gen texts start none no_texts = record { gen_is = start; parent_is = rw none refl; texts_are = rw (none, no_texts) refl }

pub given_more : (seed count given : ℕ) (gen after : Progress) (parent next : Digest) (texts more : List (List ℕ)) (bytes : List ℕ) → HasGiven seed count given gen parent texts → GoesOn seed gen (Some (bytes, after)) → next ≡ bytes_digest bytes → more ≡ texts ++ bytes ∷ []
    → HasGiven seed count (given + 1) after next more
given_more seed count given gen after parent next texts more bytes so_far step digest pushed =
    let step_is = subst (λ (g : Progress). GoesOn seed g (Some (bytes, after))) so_far.gen_is step in
    record {
      gen_is = step_is.2;
      parent_is = digest ∙ step_is.1;
      texts_are = pushed ∙ ap (λ (t : List (List ℕ)). t ++ bytes ∷ []) so_far.texts_are ∙ sym step_is.0;
    }
