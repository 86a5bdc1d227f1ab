use Rattle.answer_exposing.proofs.TreeTexts.{ledger_added}
use Rattle.answer_exposing.proofs.ledger.search_ledger.Goals as goal

pub returns-clause-texts : goal.returns-clause-texts
returns-clause-texts g c told =
    ledger_added c.args.lineage.now.rows c.search_rows.new.lineage.rows c.tree.result.now
    c.args.block c.args.block_digest.now.0 c.args.search.now c.search_tree.new.search
    c.search_rows.new.search c.search_lists.new.search c.tree.ensures
    c.search_rows.ensures.leaves.same.rows c.in_ok-search_tree.ensures
    (c.in_ok-search_rows.ensures.texts told) c.in_ok-search_lists.ensures
