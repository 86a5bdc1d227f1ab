-- Chains without a mark: where a mark fits the blocks, what is next by it is next by the versions.
use Rattle.std.proofs.Common.{◌≡◌, ◌≢◌, ℕ, ◌+◌, ◌-◌, ◌≤◌, Bool, true, false, List, [], ◌∷◌, ◌++◌, length}
use Rattle.std.proofs.Common.{map, refl, sym, ap, ◌∙◌, arith}
use Rattle.std.specs.Prelude.{Option, Some, slice_get, unwrap_or, ◌==◌, ◌||◌}
use Rattle.std.proofs.lemmas.Bool.{eq-eqb}
use Rattle.std.proofs.lemmas.Bool.Decides.{nat_tests}
use Rattle.std.proofs.lemmas.List.{length-append, length-map, map-append}
use Rattle.std.proofs.lemmas.Option.{slice_get-get_or}
use Rattle.std.proofs.Math.Seq.{get_or-append_seam}
use Rattle.lc_base.specs.declared.digest.Digest.{Digest}
use Rattle.block_codec.specs.declared.limits.TheConstants.{MAX_BLOCKS, MAX_MARKED_BLOCKS}
use Rattle.block_codec.specs.declared.block.TheConstants.{FIRST_VERSION, SECOND_VERSION}
use Rattle.block_codec.specs.declared.block.Block.{Block}
use Rattle.block_codec.specs.declared.placement.Placement.TheVariants.{Next}
use Rattle.block_codec.specs.Placement.{digest_of, last_digest, most_blocks, wanted_version}
use Rattle.block_codec.specs.Placement.{placement, placement_after}
use Rattle.block_codec.specs.Placement.{last_version, is_marked_by, placement_by_versions}
use Rattle.block_codec.specs.Placement.{FitsVersions}
use Rattle.block_codec.proofs.Placements.{next_has_passed}

-- a block that is next has the version that is wanted
pub next_version : (marked : Bool) (rows : ℕ) (blocks : List Block) (block : Block)
    → placement_after marked rows blocks block ≡ Next → block.version ≡ wanted_version marked
next_version marked rows blocks block is =
    let digests = map digest_of blocks in
    (next_has_passed marked (length blocks) rows (slice_get digests block.number)
    (last_digest digests) block (digest_of block) is).version_is

-- ---- by a mark, and by the versions

-- with a mark that fits, the versions say the same as the mark of a block of the wanted version
pub marked_as_wanted : (marked : Bool) (blocks : List Block) (block : Block)
    → FitsVersions marked blocks → block.version ≡ wanted_version marked
    → is_marked_by (last_version blocks) block ≡ marked
marked_as_wanted true blocks block fits is = grind (arith, nat_tests, is)
marked_as_wanted false blocks block fits is =
    let first = fits refl in
    grind (arith, nat_tests, is, first)

-- what is next by a mark that fits is next by the versions
pub next_by_versions : (marked : Bool) (rows : ℕ) (blocks : List Block) (block : Block)
    → FitsVersions marked blocks → placement_after marked rows blocks block ≡ Next
    → placement_by_versions rows blocks block ≡ Next
next_by_versions marked rows blocks block fits is =
    ap (λ (m : Bool). placement_after m rows blocks block)
    (marked_as_wanted marked blocks block fits (next_version marked rows blocks block is)) ∙ is

-- and the other way round, where the block has the version that the mark wants
pub next_by_mark : (marked : Bool) (rows : ℕ) (blocks : List Block) (block : Block)
    → FitsVersions marked blocks → block.version ≡ wanted_version marked
    → placement_by_versions rows blocks block ≡ Next
    → placement_after marked rows blocks block ≡ Next
next_by_mark marked rows blocks block fits version is =
    ap (λ (m : Bool). placement_after m rows blocks block)
    (sym (marked_as_wanted marked blocks block fits version)) ∙ is

-- ---- the last version

abbrev version_of : Block → ℕ
version_of block = block.version

-- the version of the last block
pub last_version_of : (blocks : List Block) (block : Block)
    → last_version (blocks ++ block ∷ []) ≡ block.version
last_version_of blocks block =
    let versions = map version_of blocks in
    let all : map version_of (blocks ++ block ∷ []) ≡ versions ++ block.version ∷ [] =
    map-append version_of blocks (block ∷ []) in
    let long = length-append blocks (block ∷ []) in
    let end : length (blocks ++ block ∷ []) - 1 ≡ length versions =
    omega (arith, long, length-map blocks version_of) in
    ap (λ n. unwrap_or (slice_get (map version_of (blocks ++ block ∷ [])) n) FIRST_VERSION) end
    ∙ ap (λ (l : List ℕ). unwrap_or (slice_get l (length versions)) FIRST_VERSION) all
    ∙ ap (λ (o : Option ℕ). unwrap_or o FIRST_VERSION)
    (slice_get-get_or (versions ++ block.version ∷ []) (length versions) block.version
    (omega (arith, length-append versions (block.version ∷ [])))
    ∙ ap Some (get_or-append_seam versions block.version [] block.version))

-- a mark fits the blocks with one more that is next by it
pub fits_with_next : (marked : Bool) (rows : ℕ) (blocks : List Block) (block : Block)
    → placement_after marked rows blocks block ≡ Next
    → FitsVersions marked (blocks ++ block ∷ [])
fits_with_next marked rows blocks block is unmarked =
    last_version_of blocks block ∙ next_version marked rows blocks block is
    ∙ ap wanted_version unmarked

-- ---- how many blocks a chain has

-- the greatest number of blocks of any chain is that of a marked one
pub most_of_all : (marked : Bool) (n : ℕ) → n ≤ most_blocks marked → n ≤ MAX_MARKED_BLOCKS
most_of_all true n few = few
most_of_all false n few = omega (arith, few)

-- as many blocks as a chain without a mark may have, any chain may have
pub few_of_any : (marked : Bool) (n : ℕ) → n ≤ MAX_BLOCKS → n ≤ most_blocks marked
few_of_any true n few = omega (arith, few)
few_of_any false n few = few

-- with a block of the second version there may be as many blocks as without it, or more
pub most_with : (second other : Bool) (n : ℕ) → n ≤ most_blocks second
    → n ≤ most_blocks (second || other)
most_with true other n few = few
most_with false true n few = omega (arith, few)
most_with false false n few = few

few_by : (second other : Bool) (held version : ℕ) → held ≤ most_blocks second
    → held ≢ most_blocks (second || other) → version ≡ wanted_version (second || other)
    → (version == SECOND_VERSION) ≡ other → held + 1 ≤ most_blocks other
few_by true true held version few room is same = omega (arith, few, room)
few_by true false held version few room is same =
    absurd (cc (same, eq-eqb version SECOND_VERSION is))
few_by false true held version few room is same = omega (arith, few)
few_by false false held version few room is same = omega (arith, few, room)

-- a chain that is placed by versions has with its next block at most as many blocks as one that
-- ends so
pub few_with_next : (last held rows : ℕ) (have : Option Digest) (parent : Digest) (block : Block)
    (digest : Digest)
    → placement (is_marked_by last block) held rows have parent block digest ≡ Next
    → held ≤ most_blocks (last == SECOND_VERSION)
    → held + 1 ≤ most_blocks (block.version == SECOND_VERSION)
few_with_next last held rows have parent block digest is few =
    let placed = next_has_passed (is_marked_by last block) held rows have parent block digest is in
    few_by (last == SECOND_VERSION) (block.version == SECOND_VERSION) held block.version few
    placed.room placed.version_is refl
