-- A query has a proof under the root at a block exactly if the ledger has the block and the query's
-- block isn't after it.
use Rattle.std.specs.Prelude.{◌≡◌, ◌<◌, ◌≤◌, ◌⊎◌, ℕ, List, length, Option, Result, Ok}
use Rattle.std.specs.Prelude.{IfOk}
use Rattle.std.specs.List.{concat}
use Rattle.std.specs.Option.{is_some}
use Rattle.lc_base.specs.declared.answer.Query.{Query}
use Rattle.lc_base.specs.History.{up_to, scan}
use Rattle.prov_entry.specs.declared.entry.Body.{Body}
use Rattle.root_laws.specs.Root.{root_of}
use Rattle.proof_codec.specs.declared.proof.Proof.{Proof}
use Rattle.proof_codec.specs.Spelling.{proof_fields}
use Rattle.proof_codec.specs.Viewing.{Spells}
use Rattle.proof_checks.specs.Checks.{verdict}
use Rattle.proof_checks.specs.Making.{made_proof}
use Rattle.merkle_dag.specs.Ledger.{Ledger}
use Rattle.merkle_dag.specs.Questions.{TellsBeyond}
use Rattle.merkle_dag.specs.declared.query_error.QueryError.{QueryError}

-- The ledger has the root's block, and the query's block isn't after it.
abbrev pub IsWithin : Ledger → Query → ℕ → Type 0
IsWithin ledger query root_at = (root_at < length ledger.digests) × (query.at ≤ root_at)

-- The root's block is after the last one, or the query's block is after the root's.
abbrev pub IsBeyond : Ledger → Query → ℕ → Type 0
IsBeyond ledger query root_at = (length ledger.digests ≤ root_at) ⊎ (root_at < query.at)

-- A query is refused, with the number of the last block, exactly if it goes beyond.
abbrev pub IsRefusedBeyond : Ledger → Query → ℕ → Result (List ℕ) QueryError → Type 0
IsRefusedBeyond ledger query root_at result = TellsBeyond ledger.digests
    (IsWithin ledger query root_at) (IsBeyond ledger query root_at) result

-- A query within the ledger has the bytes of the proof that is made of the ledger at the root's
-- block, unless the scratch device fails or memory runs out; one that goes beyond is refused with
-- the number of the last block.
abbrev pub IsProved : Ledger → Query → ℕ → Result (List ℕ) QueryError → Type 0
IsProved ledger query root_at result = IsRefusedBeyond ledger query root_at result
    × IfOk result (λ bytes. bytes ≡ concat
    (proof_fields (made_proof ledger.rows ledger.digests root_at query)))

-- The bytes spell a proof that is accepted by one who has the root at the block, with the answer of
-- scanning the rows up to it.
abbrev pub Shows : Ledger → Query → ℕ → List ℕ → Type 0
Shows ledger query root_at bytes =
    (proof : Proof) × Spells bytes proof × (verdict (root_of ledger.rows ledger.digests root_at) query proof ≡ Ok (scan (up_to ledger.rows root_at) query))

-- The bytes spell this proof, but for its body: there may be another one in its place, and there is
-- one exactly if the proof has one.
abbrev pub IsButForBody : Proof → List ℕ → Type 0
IsButForBody proof bytes =
    (body : Option Body) × (is_some body ≡ is_some proof.body)
    × Spells bytes (record proof { body = body })
