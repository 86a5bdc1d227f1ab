-- The bytes of a made proof spell it, and it is accepted.
use Rattle.std.proofs.Common.{◌≡◌, ℕ, ◌<◌, ◌≤◌, List, length}
use Rattle.std.specs.List.{concat}
use Rattle.lc_base.specs.KeyBytes.{IsKey}
use Rattle.lc_base.specs.declared.answer.Query.{Query}
use Rattle.root_laws.specs.TypedLedger.{IsTypedLedger}
use Rattle.proof_codec.specs.Spelling.{proof_fields}
use Rattle.proof_checks.specs.Making.{made_proof}
use Rattle.proof_checks.proofs.MadeThere.{made_is_there}
use Rattle.merkle_dag.specs.Ledger.{Ledger}
use Rattle.answer_proof.specs.Proving.{Shows}

pub shows : (ledger : Ledger) (query : Query) (root_at : ℕ) (bytes : List ℕ) → IsTypedLedger ledger.rows ledger.digests → root_at < length ledger.digests → IsKey query.key → query.at ≤ root_at
    → bytes ≡ concat (proof_fields (made_proof ledger.rows ledger.digests root_at query)) → Shows ledger query root_at bytes
shows ledger query root_at bytes typed within key early are =
    let both = made_is_there ledger.rows ledger.digests root_at query typed within key early in
    (made_proof ledger.rows ledger.digests root_at query, record { lawful = both.0; spelled = are }, both.1)
