-- How a question about a ledger is answered and counted.
use Rattle.std.specs.Prelude.{◌≡◌, ℕ, length, Result, Ok, Err, IfOk}
use Rattle.lc_base.specs.History.{scan}
use Rattle.lc_base.specs.declared.answer.Answer.{Answer}
use Rattle.lc_base.specs.declared.answer.Query.{Query}
use Rattle.skip_links.specs.Paths.{path}
use Rattle.merkle_dag.specs.entry_store.Steps.{raised_count}
use Rattle.merkle_dag.specs.Ledger.{Ledger}
use Rattle.merkle_dag.specs.Questions.{TellsPastHead}
use Rattle.merkle_dag.specs.declared.query_error.QueryError.{QueryError}
use Rattle.merkle_dag.specs.declared.query_error.QueryError.TheVariants as errors

-- A question about a block of the ledger has the answer of scanning its rows, unless the scratch
-- device fails or memory runs out; one past the last block is refused, with the number of the last
-- block.
abbrev pub IsAnswered : Ledger → Query → Result Answer QueryError → Type 0
IsAnswered ledger query result = TellsPastHead ledger.digests query.at result
    × IfOk result (λ answer. answer ≡ scan ledger.rows query)

-- A count of the versions that lookups look at rises by the length of the path over the rows; it
-- stays if the question is past the last block.
abbrev pub IsCounted : Ledger → Query → Result Answer QueryError → ℕ → ℕ → Type 0
IsCounted ledger query (Err (errors.Beyond head)) before after = after ≡ before
IsCounted ledger query (Ok answer) before after = after ≡ raised_count before
    (length (path ledger.rows query.key query.at))
IsCounted ledger query (Err errors.Fault) before after = after ≡ raised_count before
    (length (path ledger.rows query.key query.at))
IsCounted ledger query (Err errors.Memory) before after = after ≡ raised_count before
    (length (path ledger.rows query.key query.at))
