-- What a load reports of a chain and of its look-ups is what it is defined to be.
use Rattle.std.proofs.Common.{◌≡◌, ◌∙◌, ℕ, zero, suc, ◌-◌, List, [], ◌∷◌, length, map, refl, sym}
use Rattle.std.proofs.Common.{ap, arith}
use Rattle.std.specs.List.{sum}
use Rattle.std.proofs.lemmas.List.{length-map, length-append}
use Rattle.lc_base.specs.declared.digest.Digest.{Digest}
use Rattle.lc_base.specs.declared.row.Row.{Row}
use Rattle.rooted_chain.specs.chain_exec.Compiled.{compiled_in}
use Rattle.rooted_chain.specs.chain_replay.Chain.{ChainState, StandsFor}
use Rattle.rooted_chain.specs.Roots.{root_in}
use Rattle.chain_pack.specs.Draws.{draw_list}
use Rattle.chain_pack.specs.Generator.{Progress, first_blocks, progress}
use Rattle.chain_load.specs.Lookups.{lookup_drawn, lookups_drawn, looked_at, bytes_found}
use Rattle.chain_load.specs.Lookups.{lookup_counts}
use Rattle.chain_load.specs.Loads.{blocks_of, rows_of, counts_of, bytes_of, load_of}
use Rattle.chain_load.specs.declared.looking.LookupCounts.{LookupCounts}
use Rattle.chain_load.specs.declared.loading.Load.{Load}
use Rattle.chain_load.proofs.Placed.{rows_are}

many_drawn : (blocks count state : ℕ) → length (lookups_drawn blocks count state) ≡ count
unfolding draw_list
many_drawn blocks zero state = refl
many_drawn blocks (suc count) state =
    let before = many_drawn blocks count state in
    let last = lookup_drawn blocks (draw_list (lookup_drawn blocks) count state).1 in
    omega (arith, before, length-append (lookups_drawn blocks count state) (last.0 ∷ []))

abbrev load_with : ℕ → ℕ → Digest → ℕ → LookupCounts → Load
load_with blocks rows root lookups looked = record {
  blocks = blocks;
  rows = rows;
  root = root;
  lookups = lookups;
  entries = looked.entries;
  most = looked.most;
  value_bytes = looked.value_bytes;
}

pub load_is : (chain : ChainState) (generator : Progress) (blocks seed count : ℕ) (rows : List Row)
    (root : Digest) (looked : LookupCounts) → StandsFor chain (blocks_of blocks seed)
    → generator ≡ progress seed blocks blocks
    → rows ≡ chain.rows → count ≡ length rows
    → root.0 ≡ root_in compiled_in (blocks_of blocks seed) (blocks - 1)
    → looked ≡ lookup_counts (map (looked_at rows) (lookups_drawn blocks blocks generator.state))
    looked.value_bytes
    → looked.value_bytes ≡ sum
    (map (bytes_found rows) (lookups_drawn blocks blocks generator.state))
    → load_with blocks count root blocks looked ≡ load_of compiled_in blocks seed
load_is chain generator blocks seed count rows root looked stands generator_is kept count_is root_is
    looked_is bytes_is =
    let all : rows ≡ rows_of compiled_in blocks seed = kept
    ∙ rows_are chain (blocks_of blocks seed) stands in
    let state : generator.state ≡ (first_blocks seed blocks).state = ap (λ (g : Progress). g.state)
    generator_is in
    let counts : map (looked_at rows) (lookups_drawn blocks blocks generator.state) ≡ counts_of
    compiled_in blocks seed =
    ap (λ (s : ℕ). map (looked_at rows) (lookups_drawn blocks blocks s)) state
    ∙ ap (λ (rs : List Row). map (looked_at rs)
    (lookups_drawn blocks blocks (first_blocks seed blocks).state)) all in
    let bytes : looked.value_bytes ≡ sum (bytes_of compiled_in blocks seed) =
    bytes_is ∙ ap (λ (s : ℕ). sum (map (bytes_found rows) (lookups_drawn blocks blocks s))) state
    ∙ ap (λ (rs : List Row). sum (map (bytes_found rs)
    (lookups_drawn blocks blocks (first_blocks seed blocks).state))) all in
    let many : blocks ≡ length (counts_of compiled_in blocks seed) =
    sym (length-map (lookups_drawn blocks blocks (first_blocks seed blocks).state)
    (looked_at (rows_of compiled_in blocks seed))
    ∙ many_drawn blocks blocks (first_blocks seed blocks).state) in
    let digest : root ≡ record { 0 = root_in compiled_in (blocks_of blocks seed) (blocks - 1) } = ap
    (λ (bytes : List ℕ). let d : Digest = record { 0 = bytes } in d) root_is in
    ap (λ (n : ℕ). load_with blocks n root blocks looked) (count_is ∙ ap (length {A = Row}) all)
    ∙ ap (λ (d : Digest). load_with blocks (length (rows_of compiled_in blocks seed)) d blocks
    looked) digest
    ∙ ap (λ (n : ℕ). load_with blocks (length (rows_of compiled_in blocks seed))
    (record { 0 = root_in compiled_in (blocks_of blocks seed) (blocks - 1) }) n looked) many
    ∙ ap (λ (l : LookupCounts). load_with blocks (length (rows_of compiled_in blocks seed))
    (record { 0 = root_in compiled_in (blocks_of blocks seed) (blocks - 1) })
    (length (counts_of compiled_in blocks seed)) l)
    (looked_is ∙ ap (λ (numbers : List ℕ). lookup_counts numbers looked.value_bytes) counts
    ∙ ap (lookup_counts (counts_of compiled_in blocks seed)) bytes)
