-- What bytes say of blocks, 64 bytes each.
use Rattle.std.proofs.Common.{
  ◌≡◌,
  ℕ,
  zero,
  suc,
  ◌+◌,
  ◌*◌,
  ◌<◌,
  ◌≤◌,
  List,
  [],
  ◌∷◌,
  ◌++◌,
  length,
  take,
  drop,
  refl,
  sym,
  ap,
  ◌∙◌,
  arith,
}
use Rattle.std.specs.Prelude.{Option, Some, None, MatchOption, slice_get, slice_index_or}
use Rattle.std.specs.List.{flat_map, All}
use Rattle.std.proofs.lemmas.List.{
  append_assoc,
  take_at,
  drop_at,
  take-append-le,
  drop-append-le,
  drop-drop,
  take-append-drop,
  length-append,
  length-drop,
  length-take-le,
}
use Rattle.light_client.specs.declared.block_root.BlockRoot.{BlockRoot}
use Rattle.light_client.specs.Format.{block_root_bytes, block_root_in, block_roots_in}
use Rattle.light_client.specs.FileLaws.{IsBlockRoot}

abbrev made : List ℕ → List ℕ → BlockRoot
made digest root = record { digest = record { 0 = digest }; root = record { 0 = root } }

pub length-block_roots : (count : ℕ) (bytes : List ℕ) → length (block_roots_in count bytes) ≡ count
length-block_roots zero bytes = refl
length-block_roots (suc count) bytes = ap suc (length-block_roots count (drop 64 bytes))

-- those of a block are 64 bytes after those of the block before
next_start : (at : ℕ) (bytes : List ℕ) → drop (64 * at) (drop 64 bytes) ≡ drop (64 * suc at) bytes
next_start at bytes =
    let more : 64 + 64 * at ≡ 64 * suc at = omega arith in
    drop-drop (64 * at) 64 bytes ∙ ap (λ (n : ℕ). drop n bytes) more

pub block_root_at : (count at : ℕ) (bytes : List ℕ) → at < count
    → slice_get (block_roots_in count bytes) at ≡ Some (block_root_in (drop (64 * at) bytes))
block_root_at zero at bytes less = absurd (omega (arith, less))
block_root_at (suc count) zero bytes less = refl
block_root_at (suc count) (suc at) bytes less =
    block_root_at count at (drop 64 bytes) (omega (arith, less))
    ∙ ap (λ (rest : List ℕ). Some (block_root_in rest)) (next_start at bytes)

-- what follows changes nothing
pub blocks_before : (count : ℕ) (bytes rest : List ℕ) → length bytes ≡ 64 * count
    → block_roots_in count (bytes ++ rest) ≡ block_roots_in count bytes
blocks_before zero bytes rest size = refl
blocks_before (suc count) bytes rest size =
    let digest : take 32 (bytes ++ rest) ≡ take 32 bytes =
    take-append-le 32 bytes rest (omega (arith, size)) in
    let after : drop 32 (bytes ++ rest) ≡ drop 32 bytes ++ rest =
    drop-append-le 32 bytes rest (omega (arith, size)) in
    let root : take 32 (drop 32 (bytes ++ rest)) ≡ take 32 (drop 32 bytes) =
    ap (take 32) after ∙ take-append-le 32 (drop 32 bytes) rest
    (omega (arith, size, length-drop 32 bytes)) in
    let others : drop 64 (bytes ++ rest) ≡ drop 64 bytes ++ rest =
    drop-append-le 64 bytes rest (omega (arith, size)) in
    ap (λ (first : List ℕ). made first (take 32 (drop 32 (bytes ++ rest))) ∷ block_roots_in count
    (drop 64 (bytes ++ rest))) digest
    ∙ ap (λ (second : List ℕ). made (take 32 bytes) second ∷ block_roots_in count
    (drop 64 (bytes ++ rest))) root
    ∙ ap (λ (more : List ℕ). block_root_in bytes ∷ block_roots_in count more) others
    ∙ ap (λ (more : List BlockRoot). block_root_in bytes ∷ more)
    (blocks_before count (drop 64 bytes) rest (omega (arith, size, length-drop 64 bytes)))

-- what is found where those of a block begin
pub found_at : (count at start : ℕ) (bytes : List ℕ) (found : Option BlockRoot) → at < count
    → start ≡ 64 * at → length bytes ≡ 64 * count
    → MatchOption found (length (drop start bytes) < 64)
    (λ block_root. (64 ≤ length (drop start bytes))
    × (block_root ≡ block_root_in (drop start bytes)))
    → found ≡ slice_get (block_roots_in count bytes) at
found_at count at start bytes None less start_is size short =
    absurd (omega (arith, short, less, start_is, size, length-drop start bytes))
found_at count at start bytes (Some block_root) less start_is size is =
    ap Some is.1 ∙ ap (λ (n : ℕ). Some (block_root_in (drop n bytes))) start_is
    ∙ sym (block_root_at count at bytes less)

-- ---- what is written is read

pub length-block_root_bytes : (block_root : BlockRoot) → IsBlockRoot block_root
    → length (block_root_bytes block_root) ≡ 64
length-block_root_bytes block_root is = omega (
  arith,
  is.digest_length,
  is.root_length,
  length-append block_root.digest.0 block_root.root.0,
)

first_again : (block_root : BlockRoot) (more : List ℕ) → IsBlockRoot block_root
    → block_root_in (block_root_bytes block_root ++ more) ≡ block_root
first_again block_root more is =
    let digest = block_root.digest.0 in
    let root = block_root.root.0 in
    let all = (digest ++ root) ++ more in
    let parts : all ≡ digest ++ (root ++ more) = append_assoc digest root more in
    let first : take 32 all ≡ digest = ap (take 32) parts
    ∙ take_at digest (root ++ more) 32 is.digest_length in
    let after : drop 32 all ≡ root ++ more = ap (drop 32) parts
    ∙ drop_at digest (root ++ more) 32 is.digest_length in
    let second : take 32 (drop 32 all) ≡ root = ap (take 32) after
    ∙ take_at root more 32 is.root_length in
    ap (λ (bytes : List ℕ). made bytes (take 32 (drop 32 all))) first ∙ ap (made digest) second

-- without the first
pub All-rest : (block_root : BlockRoot) (file : List BlockRoot)
    → All IsBlockRoot (block_root ∷ file) → All IsBlockRoot file
All-rest block_root file all k d less = all (suc k) d (omega (arith, less))

pub length-block_bytes : (file : List BlockRoot) → All IsBlockRoot file
    → length (flat_map block_root_bytes file) ≡ 64 * length file
length-block_bytes [] all = refl
length-block_bytes (block_root ∷ file) all =
    let first = length-block_root_bytes block_root (all 0 block_root (omega arith)) in
    let others = length-block_bytes file (All-rest block_root file all) in
    omega (
      arith,
      first,
      others,
      length-append (block_root_bytes block_root)
          (flat_map block_root_bytes file),
    )

pub blocks_again : (file : List BlockRoot) (more : List ℕ) → All IsBlockRoot file
    → block_roots_in (length file) (flat_map block_root_bytes file ++ more) ≡ file
blocks_again [] more all = refl
blocks_again (block_root ∷ file) more all =
    let is = all 0 block_root (omega arith) in
    let first = block_root_bytes block_root in
    let others = flat_map block_root_bytes file in
    let parts : (first ++ others) ++ more ≡ first ++ (others ++ more) =
    append_assoc first others more in
    let after : drop 64 (first ++ (others ++ more)) ≡ others ++ more =
    drop_at first (others ++ more) 64 (length-block_root_bytes block_root is) in
    ap (λ (bytes : List ℕ). block_root_in bytes ∷ block_roots_in (length file) (drop 64 bytes))
    parts
    ∙ ap (λ (one : BlockRoot). one ∷ block_roots_in (length file)
    (drop 64 (first ++ (others ++ more)))) (first_again block_root (others ++ more) is)
    ∙ ap (λ (bytes : List ℕ). block_root ∷ block_roots_in (length file) bytes) after
    ∙ ap (λ (all : List BlockRoot). block_root ∷ all)
    (blocks_again file more (All-rest block_root file all))

-- ---- what is read was so written

first_back : (bytes : List ℕ) → (take 32 bytes ++ take 32 (drop 32 bytes)) ++ drop 64 bytes ≡ bytes
first_back bytes =
    append_assoc (take 32 bytes) (take 32 (drop 32 bytes)) (drop 64 bytes)
    ∙ ap (λ (rest : List ℕ). take 32 bytes ++ (take 32 (drop 32 bytes) ++ rest))
    (sym (drop-drop 32 32 bytes))
    ∙ ap (λ (rest : List ℕ). take 32 bytes ++ rest) (take-append-drop 32 (drop 32 bytes))
    ∙ take-append-drop 32 bytes

pub blocks_back : (count : ℕ) (bytes : List ℕ)
    → flat_map block_root_bytes (block_roots_in count bytes) ++ drop (64 * count) bytes ≡ bytes
blocks_back zero bytes = refl
blocks_back (suc count) bytes =
    let first = take 32 bytes ++ take 32 (drop 32 bytes) in
    let others = flat_map block_root_bytes (block_roots_in count (drop 64 bytes)) in
    append_assoc first others (drop (64 * suc count) bytes)
    ∙ ap (λ (rest : List ℕ). first ++ (others ++ rest)) (sym (next_start count bytes))
    ∙ ap (λ (rest : List ℕ). first ++ rest) (blocks_back count (drop 64 bytes))
    ∙ first_back bytes

pub blocks_are : (count : ℕ) (bytes : List ℕ) → 64 * count ≤ length bytes → (k : ℕ) (d : BlockRoot)
    → k < count → IsBlockRoot (slice_index_or (block_roots_in count bytes) k d)
blocks_are zero bytes enough k d less = absurd (omega (arith, less))
blocks_are (suc count) bytes enough zero d less = record {
  digest_length = length-take-le 32 bytes (omega (arith, enough));
  root_length = length-take-le 32 (drop 32 bytes) (omega (arith, enough, length-drop 32 bytes));
}
blocks_are (suc count) bytes enough (suc k) d less =
    blocks_are count (drop 64 bytes) (omega (arith, enough, length-drop 64 bytes)) k d
    (omega (arith, less))
