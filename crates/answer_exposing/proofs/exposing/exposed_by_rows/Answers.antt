use Rattle.std.proofs.Common.{[]}
use Rattle.proof_checks.specs.ProofTexts.{joined_texts, proof_texts}
use Rattle.proof_checks.specs.LedgerTexts.{history_parts}
use Rattle.answer_exposing.proofs.exposing.exposed_by_rows.Goals as goal

pub returns-in_ok-found_by-in-Ok-search_ledger-clause-found :
    goal.returns-in_ok-found_by-in-Ok-search_ledger-clause-found
returns-in_ok-found_by-in-Ok-search_ledger-clause-found g c told =
    let given = proof_texts c.args.view.now in
    let own = joined_texts (history_parts c.args.lineage.now.rows c.args.root_at
    c.args.block_digest.now.0) in
    c.in_ok-found_by-in-Ok-search_ledger.ensures given own
    (c.in-Ok-search_ledger.ensures.texts told given [] c.in-Ok.ensures)
