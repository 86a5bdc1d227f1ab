use Rattle.serde_json.specs.View.{view}
use Rattle.chain_pack.proofs.Each.{Made}
use Rattle.chain_pack.proofs.lists.each.Given as goal

abbrev pub invariant-loop-item : goal.invariant-loop-item
invariant-loop-item g l =
    Made view (g.T.FromJson.made l.longest) (g.T.FromJson.lawful l.longest) l.items l.item-index
    l.list
