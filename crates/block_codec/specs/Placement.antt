-- The place of a block relative to a chain: known, next, or why it is neither.
use Rattle.std.specs.Prelude.{◌≡◌, ◌≢◌, ◌≤◌, ℕ, ◌-◌, ◌==◌, ◌||◌, Bool, true, false, not, nat_lt}
use Rattle.std.specs.Prelude.{if◌then◌else◌, List, ◌∷◌, length, map, replicate, unwrap_or, slice_get}
use Rattle.std.specs.Prelude.{Option, Some, None}
use Rattle.std.specs.List.{concat, sum_by}
use Rattle.std.specs.Cmp.Lexicographic.{pointwise}
use Rattle.sha2.specs.Sha256.{sha256}
use Rattle.lc_base.specs.declared.digest.Digest.{Digest}
use Rattle.block_codec.specs.Spelling.{block_fields}
use Rattle.block_codec.specs.declared.limits.TheConstants.{MAX_BLOCK_BUDGET, MAX_BLOCKS, MAX_MARKED_BLOCKS, MAX_ROWS_BEFORE_BLOCK}
use Rattle.block_codec.specs.declared.placement.TheConstants.{BLOCK_TAG}
use Rattle.block_codec.specs.declared.block.TheConstants.{FIRST_VERSION, SECOND_VERSION}
use Rattle.block_codec.specs.declared.block.Tx.{Tx}
use Rattle.block_codec.specs.declared.block.Tx.TheVariants.{Set, Deploy, Call}
use Rattle.block_codec.specs.declared.block.Block.{Block}
use Rattle.block_codec.specs.declared.placement.Placement.{Placement}
use Rattle.block_codec.specs.declared.placement.Placement.TheVariants.{Known, Next, Not}
use Rattle.block_codec.specs.declared.placement.Misplaced.TheVariants.{Fork, Full, Number, Parent}
use Rattle.block_codec.specs.declared.placement.Misplaced.TheVariants.{Version, Budget}

-- The digest of a block's bytes: SHA-256 (FIPS 180-4) of the byte 7 and the bytes.
abbrev pub bytes_digest : List ℕ → Digest
bytes_digest bytes = record { 0 = sha256 (BLOCK_TAG ∷ bytes) }

-- The digest of a block: that of its spelling.
abbrev pub digest_of : Block → Digest
digest_of block = bytes_digest (concat (block_fields block))

-- 32 zero bytes, the parent of the first block.
abbrev pub no_parent : Digest
no_parent = record { 0 = replicate 32 0 }

-- Whether two digests are the same.
abbrev pub is_same_digest : Digest → Digest → Bool
is_same_digest a b = pointwise ◌==◌ a.0 b.0

-- A block of a held number: the held block itself, or another.
abbrev pub held_placement : Digest → Digest → Placement
held_placement have digest = if is_same_digest have digest then Known else Not (Fork have)

-- The budget of a transaction: a Call's own, and 0 for a Set and a Deploy.
abbrev pub tx_budget : Tx → ℕ
tx_budget (Set sender key value deps) = 0
tx_budget (Deploy sender name source) = 0
tx_budget (Call sender contract function args budget) = budget

-- The budget of a block: the sum of its transactions' budgets.
abbrev pub block_budget : Block → ℕ
block_budget block = sum_by tx_budget block.txs

-- The greatest number of blocks of a chain that is `marked`, or isn't.
abbrev pub most_blocks : Bool → ℕ
most_blocks marked = if marked then MAX_MARKED_BLOCKS else MAX_BLOCKS

-- The version of the next block: in a chain that is marked the second, in another the first.
abbrev pub wanted_version : Bool → ℕ
wanted_version marked = if marked then SECOND_VERSION else FIRST_VERSION

-- A block whose number is not held: it is next if the chain has room, this is its number, its
-- parent is the last block, it has the version that the chain wants, which is `marked` or isn't, and
-- its budget is at most `MAX_BLOCK_BUDGET`.
abbrev pub new_placement : Bool → ℕ → ℕ → Digest → Block → Placement
new_placement marked held rows parent block =
    if held == most_blocks marked || nat_lt MAX_ROWS_BEFORE_BLOCK rows then Not Full
    else (if not (block.number == held) then Not (Number held)
    else (if not (is_same_digest block.parent parent) then Not (Parent parent)
    else (if not (block.version == wanted_version marked) then Not (Version (wanted_version marked))
    else (if nat_lt MAX_BLOCK_BUDGET (block_budget block) then Not (Budget (block_budget block))
    else Next))))

-- What each test of `new_placement` found of a block that is next.
pub record IsNextPlaced (marked : Bool) (held rows : ℕ) (parent : Digest) (block : Block) : Type 0 where
  pub room : held ≢ most_blocks marked
  pub few_rows : rows ≤ MAX_ROWS_BEFORE_BLOCK
  pub number : block.number ≡ held
  pub parent_is : is_same_digest block.parent parent ≡ true
  pub version_is : block.version ≡ wanted_version marked
  pub cheap : block_budget block ≤ MAX_BLOCK_BUDGET

-- The place of a block relative to a chain of `held` blocks and `rows` rows: `have` is the digest
-- of the held block with its number, `parent` that of the last block, and the chain is `marked` or
-- isn't.
abbrev pub placement : Bool → ℕ → ℕ → Option Digest → Digest → Block → Digest → Placement
placement marked held rows (Some have) parent block digest = held_placement have digest
placement marked held rows None parent block digest = new_placement marked held rows parent block

-- The last of some digests, or 32 zero bytes if there are none.
abbrev pub last_digest : List Digest → Digest
last_digest digests = unwrap_or (slice_get digests (length digests - 1)) no_parent

-- The place of a block relative to a chain of these blocks with `rows` rows, which is `marked` or
-- isn't.
abbrev pub placement_after : Bool → ℕ → List Block → Block → Placement
placement_after marked rows blocks block =
    let digests = map digest_of blocks in
    placement marked (length blocks) rows (slice_get digests block.number) (last_digest digests) block (digest_of block)

-- ---- chains without a mark, where the versions of the blocks say what is next

-- The version of the last of some blocks, or the first version if there is none.
abbrev pub last_version : List Block → ℕ
last_version blocks =
    unwrap_or (slice_get (map (λ (block : Block). block.version) blocks) (length blocks - 1)) FIRST_VERSION

-- Whether a block after one of the version `last` is placed as in a marked chain: one of the two has
-- the second version. So a chain may go on with blocks of the second version at any block, and not
-- back.
abbrev pub is_marked_by : ℕ → Block → Bool
is_marked_by last block = last == SECOND_VERSION || block.version == SECOND_VERSION

-- The place of a block relative to a chain of these blocks with `rows` rows, where no mark, but the
-- versions of the blocks say which version is next.
abbrev pub placement_by_versions : ℕ → List Block → Block → Placement
placement_by_versions rows blocks block =
    placement_after (is_marked_by (last_version blocks) block) rows blocks block

-- A mark fits blocks: where there is none, the last of them has the first version.
abbrev pub FitsVersions : Bool → List Block → Type 0
FitsVersions marked blocks = marked ≡ false → last_version blocks ≡ FIRST_VERSION
