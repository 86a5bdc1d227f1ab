-- Laws of what calls, blocks and replays write: typed histories stay typed.
use Rattle.std.specs.Prelude.{ℕ, ◌^◌, ◌<◌, Bool, List, length, map, IfSome}
use Rattle.std.specs.List.{All}
use Rattle.lc_base.specs.KeyBytes.{IsKey}
use Rattle.lc_base.specs.declared.row.Row.{Row}
use Rattle.lc_base.specs.declared.value.Value.{Value}
use Rattle.byte_fields.specs.Spelling.{IsValue}
use Rattle.contract_tree.specs.Tree.{FunctionTree}
use Rattle.dep_capture.specs.Captured.{AreLawfulRows}
use Rattle.contract_semantics.specs.declared.site.CallSite.{CallSite}
use Rattle.contract_semantics.specs.Scenes.{scene_of}
use Rattle.contract_semantics.specs.Calls.{call_result, rows_written}
use Rattle.world_state.specs.Rows.{held_in}
use Rattle.block_codec.specs.Spelling.{IsBlock}
use Rattle.block_codec.specs.Placement.{digest_of}
use Rattle.block_codec.specs.declared.block.Block.{Block}
use Rattle.chain_input.specs.chain_exec.BlockRows.{AreBlockRows}
use Rattle.chain_input.specs.chain_exec.Compiled.{Compiler, IsCompiler}
use Rattle.chain_input.specs.chain_exec.Effect.{Codes, History}
use Rattle.chain_input.specs.chain_exec.Fold.{block_effects}
use Rattle.chain_input.specs.chain_exec.Replay.{replay}
use Rattle.root_laws.specs.TypedLedger.{IsTypedRow, IsTypedHistory, IsTypedLedger}
use Rattle.replay_soundness.specs.TypedChains.{IsLawfulChain}
use Rattle.replay_soundness.specs.Literals.{AreFunctionsOfValues}

-- ---- calls

-- What a call writes over a typed history is typed, and lawful: at most MAX_KEYS_PUT rows of
-- distinct keys, each with at most MAX_DEPS distinct dependencies, each of which was read.
abbrev pub CallsWriteTypedRows : Type 0
CallsWriteTypedRows =
    (functions : List FunctionTree) (rows : List Row) (written : List ℕ → Bool) (site : CallSite)
    (args : List Value) (at : ℕ)
    → AreFunctionsOfValues functions → IsTypedHistory rows → IsKey site.sender
    → site.number < 2 ^ 32 → All IsValue args → at < 2 ^ 16
    → let result = call_result functions (scene_of rows written site) args in
    let more = rows_written site.number at result.outcome.status result.capture in
    AreLawfulRows result.capture.reads more × All IsTypedRow more

-- ---- compilers

-- The literals of each contract that a compiler makes are values, in every edition.
abbrev pub CompilesValues : Compiler → Type 0
CompilesValues compile =
    (edition : ℕ) (source : List ℕ) → IfSome (compile edition source) AreFunctionsOfValues

-- The literals of each contract that a right compiler makes are values.
abbrev pub CompilersGiveValues : Type 0
CompilersGiveValues = (compile : Compiler) → IsCompiler compile → CompilesValues compile

-- ---- blocks

-- The literals of each contract that was deployed are values.
abbrev pub AreCodesOfValues : Codes → Type 0
AreCodesOfValues codes = All (λ (code : List ℕ × List FunctionTree). AreFunctionsOfValues code.1) codes

-- What the blocks before the block `number` left: a typed history of their rows, and contracts
-- whose literals are values.
pub record IsTypedBefore (number : ℕ) (history : History) : Type 0 where
  pub rows : IsTypedHistory history.rows
  pub before : All (λ (row : Row). row.block < number) history.rows
  pub codes : AreCodesOfValues history.codes

-- The rows that a block adds to a typed history are typed, and rows of a block: of its number, in
-- the order of their transactions, of distinct keys, with each dependency on the newest version
-- before the block.
abbrev pub BlocksAddTypedRows : Type 0
BlocksAddTypedRows =
    (compile : Compiler) (history : History) (block : Block)
    → CompilesValues compile → IsTypedBefore block.number history → IsBlock block
    → AreBlockRows (held_in history.rows) block.number (length block.txs)
    (block_effects compile history block).rows
    × All IsTypedRow (block_effects compile history block).rows

-- ---- replays

-- If the premise holds of a compiler and blocks, the rows and the digests of the blocks are a typed
-- ledger.
abbrev pub AreTypedWhere : (Compiler → List Block → Type 0) → Type 0
AreTypedWhere Premise =
    (compile : Compiler) (blocks : List Block) → Premise compile blocks
    → IsTypedLedger (replay compile blocks).rows (map digest_of blocks)

-- The replay of a chain is a typed ledger, if the compiler makes literals that are values.
abbrev pub ChainsOfValuesAreTyped : Type 0
ChainsOfValuesAreTyped =
    AreTypedWhere (λ compile blocks. CompilesValues compile × IsLawfulChain compile blocks)

-- The replay of a chain is a typed ledger, if the compiler is right.
abbrev pub ReplaysAreTyped : Type 0
ReplaysAreTyped = AreTypedWhere (λ compile blocks. IsCompiler compile × IsLawfulChain compile blocks)
