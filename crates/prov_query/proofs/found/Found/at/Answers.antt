use Rattle.std.specs.Rc.{rc_slice_items}
use Rattle.prov_query.proofs.Spelled.{value_again, deps_again}
use Rattle.prov_query.proofs.found.Found.at.Goals as goal

pub returns-in-Ok-clause-found : goal.returns-in-Ok-clause-found
returns-in-Ok-clause-found g c row at told =
    let rows = c.args.lineage.now.rows in
    let typed = c.row_count-count.ensures.typed.history in
    let bytes = rc_slice_items c.in-Ok.body in
    let are = c.in-Ok.ensures.body row at told in
    let facts = c.row_facts-facts.ensures row at in
    record {
      block_is = facts.block_is;
      tx_is = facts.tx_is;
      value_is = value_again rows c.args.index row bytes typed at are;
      deps_are = deps_again rows c.args.index row bytes typed at are;
    }

pub returns-in-Ok-clause-always : goal.returns-in-Ok-clause-always
returns-in-Ok-clause-always g c row at =
    let facts = c.row_facts-facts.ensures row at in
    record { block_is = facts.block_is; tx_is = facts.tx_is }
