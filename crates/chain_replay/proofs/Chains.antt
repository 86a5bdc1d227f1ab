-- A chain and its next block are a chain, and what is kept after that block stands for it.
use Rattle.std.proofs.Common.{◌≡◌, ℕ, Bool, List, [], ◌∷◌, ◌++◌, length, get_or, take, map, sym, ap, ◌∙◌, arith, inl, inr}
use Rattle.std.specs.Prelude.{slice_get}
use Rattle.std.proofs.lemmas.Bool.{cases_lt}
use Rattle.std.proofs.lemmas.List.{length-map, map_push, map-append, length-append, take-append-le, take_at, get_or_append_left, get_or_push}
use Rattle.lc_base.specs.declared.digest.Digest.{Digest}
use Rattle.lc_base.specs.declared.row.Row.{Row}
use Rattle.block_codec.specs.Placement.{digest_of, last_digest, placement}
use Rattle.block_codec.specs.declared.block.Block.{Block}
use Rattle.block_codec.specs.declared.placement.Placement.TheVariants.{Next}
use Rattle.contract_tree.specs.declared.tree.Contract.{Contract}
use Rattle.world_state.specs.Known.{Known}
use Rattle.chain_exec.specs.declared.block.BlockRun.{BlockRun}
use Rattle.chain_exec.specs.Compiled.{compiled_in}
use Rattle.chain_exec.specs.Effect.{Codes, History}
use Rattle.chain_exec.specs.Fold.{Staged, block_effects}
use Rattle.chain_exec.specs.Replay.{with_staged, history_after}
use Rattle.chain_exec.specs.Running.{code_seen, codes_seen, history_in, staged_in}
use Rattle.chain_exec.proofs.TheLaws.{replay_grows}
use Rattle.chain_replay.specs.Chain.{ChainState, IsAfter, StandsFor, placement_by_mark, placement_in, placement_kept, IsChain}

-- what is kept determines the placement of a block
pub placed_as_kept : (marked : Bool) (kept : ChainState) (blocks : List Block) (block : Block) (digest : Digest) → StandsFor kept blocks → digest ≡ digest_of block
    → placement_kept marked kept block digest ≡ placement_by_mark compiled_in marked blocks block
placed_as_kept marked kept blocks block digest stands is =
    ap (placement_kept marked kept block) is
    ∙ ap (λ (ds : List Digest). placement marked (length ds) (length kept.rows) (slice_get ds block.number) (last_digest ds) block (digest_of block)) stands.digests_are
    ∙ ap (λ (n : ℕ). placement marked n (length kept.rows) (slice_get (map digest_of blocks) block.number) (last_digest (map digest_of blocks)) block (digest_of block)) (length-map blocks digest_of)
    ∙ ap (λ (h : History). placement marked (length blocks) (length h.rows) (slice_get (map digest_of blocks) block.number) (last_digest (map digest_of blocks)) block (digest_of block)) stands.history_is

-- a chain and its next block are a chain
pub chain_more : (blocks : List Block) (block : Block) → IsChain compiled_in blocks → placement_in compiled_in blocks block ≡ Next → IsChain compiled_in (blocks ++ block ∷ [])
chain_more blocks block chain next i d within =
    elim (cases_lt i (length blocks)) [
      | inl inside ↦
          ap (λ (bs : List Block). placement_in compiled_in bs (get_or (blocks ++ block ∷ []) i d)) (take-append-le i blocks (block ∷ []) (omega arith))
          ∙ ap (placement_in compiled_in (take i blocks)) (get_or_append_left blocks (block ∷ []) d i inside) ∙ chain i d inside
      | inr past ↦
          let last : length blocks ≡ i = omega (arith, length-append blocks (block ∷ [])) in
          ap (λ (bs : List Block). placement_in compiled_in bs (get_or (blocks ++ block ∷ []) i d)) (take_at blocks (block ∷ []) i last) ∙ ap (placement_in compiled_in blocks) (get_or_push blocks block d i last) ∙ next
    ]

abbrev history : List Row → Codes → History
history rows codes = record { rows = rows; codes = codes }

-- what is kept with a block that has run is what it is defined to be
pub is_after : (digests new_digests : List Digest) (rows new_rows : List Row) (world run_world new_world : Known Contract) (block : Block) (digest : Digest) (run : BlockRun)
    → staged_in run_world run ≡ block_effects compiled_in (history_in rows world) block → run_world.codes ≡ world.codes → new_world.codes ≡ run_world.codes ++ run_world.staged_codes
    → new_digests ≡ digests ++ digest ∷ [] → new_rows ≡ rows ++ run.rows
    → IsAfter (record { digests = digests; rows = rows; codes = world.codes }) block digest (record { digests = new_digests; rows = new_rows; codes = new_world.codes }) run
is_after digests new_digests rows new_rows world run_world new_world block digest run effects same committed digest_added rows_added =
    let codes : codes_seen new_world.codes ≡ codes_seen world.codes ++ codes_seen run_world.staged_codes =
    ap codes_seen (committed ∙ ap (λ (codes : List (List ℕ × Contract)). codes ++ run_world.staged_codes) same) ∙ map-append code_seen world.codes run_world.staged_codes in
    record {
      digests = digest_added;
      history =
          ap (λ (all : List Row). history all (codes_seen new_world.codes)) rows_added ∙ ap (history (rows ++ run.rows)) codes
          ∙ ap (with_staged (history_in rows world)) effects;
      rows = ap (λ (done : Staged). done.rows) effects;
      receipts = ap (λ (done : Staged). done.receipts) effects;
    }

-- what is kept after the next block stands for it too
pub stands_after : (kept new : ChainState) (blocks : List Block) (block : Block) (digest : Digest) (run : BlockRun)
    → IsAfter kept block digest new run → StandsFor kept blocks → digest ≡ digest_of block → placement_in compiled_in blocks block ≡ Next → StandsFor new (blocks ++ block ∷ [])
stands_after kept new blocks block digest run after stands is next = record {
  chained = chain_more blocks block stands.chained next;
  digests_are = after.digests ∙ ap (λ (d : Digest). kept.digests ++ d ∷ []) is
      ∙ ap (λ (ds : List Digest). ds ++ digest_of block ∷ []) stands.digests_are ∙ sym (map_push digest_of blocks block);
  history_is = after.history ∙ ap (λ (h : History). history_after compiled_in h block) stands.history_is ∙ sym ((replay_grows compiled_in blocks block).history);
}
