use Rattle.serde_json.specs.View.{view}
use Rattle.block_codec.specs.Spelling.{text_limit, IsTx}
use Rattle.chain_pack.specs.Transactions.{tx_in}
use Rattle.chain_pack.proofs.Each.{Made}
use Rattle.chain_pack.proofs.block.txs_at.Given as goal

abbrev pub invariant-loop-item : goal.invariant-loop-item
invariant-loop-item l =
    Made view (tx_in (text_limit l.version)) (IsTx (text_limit l.version)) l.items l.item-index
    l.txs
