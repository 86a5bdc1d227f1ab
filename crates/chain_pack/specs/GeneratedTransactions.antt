-- The transactions that are drawn for a block.
use Rattle.std.specs.Prelude.{ℕ, pos, ◌==◌, if◌then◌else◌, List, [], ◌∷◌, codes}
use Rattle.lc_base.specs.declared.value.Value.TheVariants.{Int}
use Rattle.block_codec.specs.declared.block.Tx.{Tx}
use Rattle.block_codec.specs.declared.block.Tx.TheVariants.{Set, Deploy, Call}
use Rattle.chain_pack.specs.Draws.{number_below, key_drawn, draw_list}
use Rattle.chain_pack.specs.declared.limits.TheConstants.{ARGS, VALUES, DEP_COUNTS, SETS, BUDGET}

-- The sender of every transaction.
abbrev pub sender : List ℕ
sender = codes "gen"

-- The name of the contract.
abbrev pub contract : List ℕ
contract = codes "mix"

-- The function that is called.
abbrev pub function : List ℕ
function = codes "step"

-- The contract's source.
abbrev pub source : List ℕ
source = codes "fn step(a: int) { let k = \"raw/\" ++ text(a); if has(k) { put \"mix/\" ++ text(a) = hist_block(k, block() - 1); } }"

-- The transaction that deploys the contract.
abbrev pub deploy : Tx
deploy = Deploy sender contract source

-- The transaction that calls the contract with a number.
abbrev pub call_with : ℕ → Tx
call_with argument = Call sender contract function (Int (pos argument) ∷ []) BUDGET

-- A Set: its key, its value, its number of dependency keys, and these keys are drawn in this order.
unfoldable pub set_drawn : ℕ → Tx × ℕ
set_drawn state =
    let key = key_drawn state in
    let value = number_below VALUES key.1 in
    let count = number_below DEP_COUNTS value.1 in
    let deps = draw_list key_drawn count.0 count.1 in
    (Set sender key.0 (Int (pos value.0)) deps.0, deps.1)

-- The transactions of a block after the first: a call, then the Sets.
unfoldable pub later_txs : ℕ → List Tx × ℕ
later_txs state =
    let argument = number_below ARGS state in
    let sets = draw_list set_drawn SETS argument.1 in
    (call_with argument.0 ∷ sets.0, sets.1)

-- The transactions of the block with this number.
unfoldable pub txs_drawn : ℕ → ℕ → List Tx × ℕ
txs_drawn number state = if number == 0 then (deploy ∷ [], state) else later_txs state
