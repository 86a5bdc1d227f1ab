-- The pieces, one after another, are the whole file.
use Rattle.std.proofs.Common.{
  ◌≡◌,
  ℕ,
  zero,
  suc,
  ◌+◌,
  ◌-◌,
  ◌*◌,
  ◌≤◌,
  List,
  ◌++◌,
  length,
  take,
  drop,
  refl,
  sym,
  ap,
  ◌∙◌,
  arith,
}
use Rattle.std.specs.Prelude.{min}
use Rattle.std.specs.List.{flat_map, range_with_len}
use Rattle.std.proofs.lemmas.List.{
  append_assoc,
  drop-drop,
  drop-take,
  take-take,
  take-append-drop,
  take_all,
  take_min,
  length-drop,
}
use Rattle.std.proofs.lemmas.List.Concat.{flat_map-append}
use Rattle.lc_base.specs.declared.digest.Digest.{Digest}
use Rattle.lc_base.specs.declared.row.Row.{Row}
use Rattle.light_client.specs.declared.block_root.BlockRoot.{BlockRoot}
use Rattle.light_client.specs.Format.{head_bytes, block_root_bytes, light_bytes}
use Rattle.light_client.specs.declared.piece_limits.TheConstants.{BLOCKS_PER_PIECE}
use Rattle.light_client.specs.Making.{block_roots_of, piece_bytes}
use Rattle.light_client.specs.MadeLaws.{PiecesMakeTheFile}
use Rattle.light_client.proofs.Made.{length-block_roots_of, bytes_between}

-- the first blocks, and then some more
take-sum : (m n : ℕ) (blocks : List BlockRoot)
    → take (m + n) blocks ≡ take m blocks ++ take n (drop m blocks)
take-sum m n blocks =
    sym (take-append-drop m (take (m + n) blocks))
    ∙ ap (λ (first : List BlockRoot). first ++ drop m (take (m + n) blocks))
    (take-take m (m + n) blocks (omega arith))
    ∙ ap (λ (more : List BlockRoot). take m blocks ++ more) (drop-take m n blocks)

-- The head, and the bytes of the blocks before this one.
abbrev pub bytes_before : List Row → List Digest → ℕ → List ℕ
bytes_before rows digests from = head_bytes (length digests) ++ flat_map block_root_bytes
    (take from (block_roots_of rows digests))

-- one piece more
pub piece_more : (rows : List Row) (digests : List Digest) (from : ℕ)
    → bytes_before rows digests from ++ piece_bytes rows digests from ≡ bytes_before rows digests
    (from + BLOCKS_PER_PIECE)
piece_more rows digests from =
    let file = block_roots_of rows digests in
    let before = flat_map block_root_bytes (take from file) in
    append_assoc (head_bytes (length digests)) before (piece_bytes rows digests from)
    ∙ ap (λ (bytes : List ℕ). head_bytes (length digests) ++ bytes)
    (sym (flat_map-append block_root_bytes (take from file)
    (take BLOCKS_PER_PIECE (drop from file))))
    ∙ ap (λ (blocks : List BlockRoot). head_bytes (length digests) ++ flat_map block_root_bytes
    blocks) (sym (take-sum from BLOCKS_PER_PIECE file))

-- no block is left
pub pieces_end : (rows : List Row) (digests : List Digest) (from : ℕ) → length digests ≤ from
    → bytes_before rows digests from ≡ light_bytes (block_roots_of rows digests)
pieces_end rows digests from most =
    let file = block_roots_of rows digests in
    let size = length-block_roots_of rows digests in
    ap (λ (n : ℕ). head_bytes n ++ flat_map block_root_bytes (take from file)) (sym size)
    ∙ ap (λ (blocks : List BlockRoot). head_bytes (length file) ++ flat_map block_root_bytes blocks)
    (take_all from file (omega (arith, most, size)))

-- so many pieces, from the piece of this index on
pieces_from : (rows : List Row) (digests : List Digest) (count start : ℕ)
    → flat_map (λ index. piece_bytes rows digests (BLOCKS_PER_PIECE * index))
    (range_with_len start count)
    ≡ flat_map block_root_bytes (take (BLOCKS_PER_PIECE * count)
    (drop (BLOCKS_PER_PIECE * start) (block_roots_of rows digests)))
pieces_from rows digests zero start = refl
pieces_from rows digests (suc count) start =
    let file = drop (BLOCKS_PER_PIECE * start) (block_roots_of rows digests) in
    let next : BLOCKS_PER_PIECE * start + BLOCKS_PER_PIECE ≡ BLOCKS_PER_PIECE * (start + 1) =
    omega arith in
    let others : drop (BLOCKS_PER_PIECE * (start + 1)) (block_roots_of rows digests)
    ≡ drop BLOCKS_PER_PIECE file =
    sym (drop-drop BLOCKS_PER_PIECE (BLOCKS_PER_PIECE * start) (block_roots_of rows digests)
    ∙ ap (λ (n : ℕ). drop n (block_roots_of rows digests)) next) in
    let size : BLOCKS_PER_PIECE + BLOCKS_PER_PIECE * count ≡ BLOCKS_PER_PIECE * suc count =
    omega arith in
    ap (λ (bytes : List ℕ). flat_map block_root_bytes (take BLOCKS_PER_PIECE file) ++ bytes)
    (pieces_from rows digests count (start + 1))
    ∙ ap (λ (blocks : List BlockRoot). flat_map block_root_bytes (take BLOCKS_PER_PIECE file)
    ++ flat_map block_root_bytes (take (BLOCKS_PER_PIECE * count) blocks)) others
    ∙ sym (flat_map-append block_root_bytes (take BLOCKS_PER_PIECE file)
    (take (BLOCKS_PER_PIECE * count) (drop BLOCKS_PER_PIECE file)))
    ∙ ap (λ (blocks : List BlockRoot). flat_map block_root_bytes blocks)
    (sym (take-sum BLOCKS_PER_PIECE (BLOCKS_PER_PIECE * count) file))
    ∙ ap (λ (n : ℕ). flat_map block_root_bytes (take n file)) size

pub pieces_make_the_file : PiecesMakeTheFile
pieces_make_the_file rows digests count enough =
    ap (λ (bytes : List ℕ). head_bytes (length digests) ++ bytes) (pieces_from rows digests count 0)
    ∙ pieces_end rows digests (BLOCKS_PER_PIECE * count) enough

-- ---- what is written at once

-- the blocks of a piece, by where they end
pub piece_is : (rows : List Row) (digests : List Digest) (from until : ℕ)
    → until ≡ min (from + BLOCKS_PER_PIECE) (length digests)
    → bytes_between rows digests from until ≡ piece_bytes rows digests from
piece_is rows digests from until until_is =
    let file = block_roots_of rows digests in
    let count : until - from ≡ min BLOCKS_PER_PIECE (length (drop from file)) =
    omega (arith, until_is, length-drop from file, length-block_roots_of rows digests) in
    ap (λ (n : ℕ). flat_map block_root_bytes (take n (drop from file))) count
    ∙ ap (λ (blocks : List BlockRoot). flat_map block_root_bytes blocks)
    (take_min BLOCKS_PER_PIECE (drop from file))

-- all blocks
pub whole_is : (rows : List Row) (digests : List Digest)
    → head_bytes (length digests) ++ bytes_between rows digests 0 (length digests)
    ≡ light_bytes (block_roots_of rows digests)
whole_is rows digests =
    let all : length digests - 0 ≡ length digests = omega arith in
    ap (λ (n : ℕ). head_bytes (length digests) ++ flat_map block_root_bytes
    (take n (block_roots_of rows digests))) all
    ∙ pieces_end rows digests (length digests) (omega arith)
