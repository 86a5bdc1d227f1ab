-- What is made of each block.
use Rattle.std.proofs.Common.{
  ◌≡◌,
  inl,
  inr,
  ℕ,
  suc,
  ◌+◌,
  ◌-◌,
  ◌<◌,
  ◌≤◌,
  List,
  ◌∷◌,
  ◌++◌,
  length,
  take,
  drop,
  get_or,
  refl,
  sym,
  ap,
  subst,
  ◌∙◌,
  arith,
}
use Rattle.std.specs.Prelude.{Option, Some, MatchOption, slice_get}
use Rattle.std.specs.List.{flat_map}
use Rattle.std.proofs.lemmas.List.{append_assoc, append-nil, drop_more}
use Rattle.std.proofs.lemmas.List.FromFn.{length-map-range_with_len, get_or-map-range_with_len}
use Rattle.std.proofs.lemmas.Option.{
  slice_get-get_or,
  slice_get_past,
  slice_get_cases,
  get_or_from_slice_get,
}
use Rattle.lc_base.specs.declared.digest.Digest.{Digest}
use Rattle.lc_base.specs.declared.row.Row.{Row}
use Rattle.root_laws.specs.Root.{digest_at, root_of}
use Rattle.light_client.specs.declared.block_root.BlockRoot.{BlockRoot}
use Rattle.light_client.specs.Format.{block_root_bytes}
use Rattle.light_client.specs.Making.{block_root_of, block_roots_of}
use Rattle.light_client.specs.MadeLaws.{BlockRootsAreOfTheirBlocks}

pub length-block_roots_of : (rows : List Row) (digests : List Digest)
    → length (block_roots_of rows digests) ≡ length digests
length-block_roots_of rows digests = length-map-range_with_len (block_root_of rows digests) 0
    (length digests)

block_root_there : (rows : List Row) (digests : List Digest) (at : ℕ) (d : BlockRoot)
    → at < length digests → get_or (block_roots_of rows digests) at d ≡ block_root_of rows digests
    at
block_root_there rows digests at d less = get_or-map-range_with_len (block_root_of rows digests) 0
    (length digests) at at d less (omega arith)

abbrev as_digest : List ℕ → Digest
as_digest bytes = record { 0 = bytes }

digest_is : (digests : List Digest) (at : ℕ) (digest : Digest) → slice_get digests at ≡ Some digest
    → as_digest (digest_at digests at) ≡ digest
digest_is digests at digest there =
    ap (λ (d : Digest). as_digest d.0) (get_or_from_slice_get digests at digest _ there)

abbrev with_parts : Digest → Digest → BlockRoot
with_parts digest root = record { digest = digest; root = root }

-- what is made of a digest and a root of the block
pub made_of_parts : (rows : List Row) (digests : List Digest) (at : ℕ) (digest root : Digest)
    → slice_get digests at ≡ Some digest → root.0 ≡ root_of rows digests at
    → with_parts digest root ≡ block_root_of rows digests at
made_of_parts rows digests at digest root there root_is =
    ap (λ (d : Digest). with_parts d root) (sym (digest_is digests at digest there))
    ∙ ap (λ (bytes : List ℕ). with_parts (as_digest (digest_at digests at)) (as_digest bytes))
    root_is

-- each block has its own
pub block_roots_are_of_their_blocks : BlockRootsAreOfTheirBlocks
block_roots_are_of_their_blocks rows digests at =
    let all = block_roots_of rows digests in
    let size = length-block_roots_of rows digests in
    let P = λ (found : Option BlockRoot). MatchOption found (length digests ≤ at)
    (λ (block_root : BlockRoot). (slice_get digests at ≡ Some block_root.digest)
    × (block_root.root.0 ≡ root_of rows digests at)) in
    elim (slice_get_cases digests at).1 [
      | inl (digest, less, there, same) ↦
          let here : slice_get all at ≡ Some (block_root_of rows digests at) =
          slice_get-get_or all at (block_root_of rows digests at) (omega (arith, less, size))
          ∙ ap Some (block_root_there rows digests at (block_root_of rows digests at)
          less) in
          subst P (sym here) (there ∙ ap Some (sym (digest_is digests at digest there)), refl)
      | inr (past, none) ↦ subst P (sym (slice_get_past all at (omega (arith, past, size)))) past
    ]

-- ---- one block after another

-- the bytes of the blocks from this one on that come before `until`
abbrev pub bytes_between : List Row → List Digest → ℕ → ℕ → List ℕ
bytes_between rows digests from until =
    flat_map block_root_bytes (take (until - from) (drop from (block_roots_of rows digests)))

pub one_more : (rows : List Row) (digests : List Digest) (at until : ℕ) (bytes all : List ℕ)
    → at < until → until ≤ length digests
    → bytes ++ bytes_between rows digests at until ≡ all
    → (bytes ++ block_root_bytes (block_root_of rows digests at)) ++ bytes_between rows digests
    (at + 1) until ≡ all
one_more rows digests at until bytes all less most so_far =
    let file = block_roots_of rows digests in
    let one = block_root_of rows digests at in
    let within : at < length file = omega (arith, less, most, length-block_roots_of rows digests) in
    let first : drop at file ≡ one ∷ drop (at + 1) file =
    drop_more file at one within ∙ ap (λ (b : BlockRoot). b ∷ drop (at + 1) file)
    (block_root_there rows digests at one (omega (arith, less, most))) in
    let count : until - at ≡ suc (until - (at + 1)) = omega (arith, less) in
    let parts : take (until - at) (drop at file) ≡ one ∷ take (until - (at + 1))
    (drop (at + 1) file) =
    ap (λ (n : ℕ). take n (drop at file)) count ∙ ap (take (suc (until - (at + 1)))) first in
    append_assoc bytes (block_root_bytes one) (bytes_between rows digests (at + 1) until)
    ∙ ap (λ (blocks : List BlockRoot). bytes ++ flat_map block_root_bytes blocks) (sym parts)
    ∙ so_far

pub no_more : (rows : List Row) (digests : List Digest) (at until : ℕ) (bytes all : List ℕ)
    → until ≤ at
    → bytes ++ bytes_between rows digests at until ≡ all → bytes ≡ all
no_more rows digests at until bytes all most so_far =
    let none : until - at ≡ 0 = omega (arith, most) in
    sym (append-nil bytes)
    ∙ ap (λ (n : ℕ). bytes ++ flat_map block_root_bytes
    (take n (drop at (block_roots_of rows digests)))) (sym none) ∙ so_far
