-- What `expose` returns: the first clash between the texts of a proof and those of a ledger at a
-- block.
use Rattle.std.specs.Prelude.{◌≡◌, ℕ, List, Option, Some, None, Result, Ok, IfOk}
use Rattle.lc_base.specs.declared.answer.Query.{Query}
use Rattle.lc_base.specs.declared.answer.Answer.{Answer}
use Rattle.lc_base.specs.History.{up_to, scan}
use Rattle.merkle_tree.specs.Clash.{Clash as HasClash}
use Rattle.root_laws.specs.Root.{root_of}
use Rattle.proof_codec.specs.declared.proof.Proof.{Proof}
use Rattle.proof_codec.specs.Spelling.{IsProof}
use Rattle.proof_checks.specs.Checks.{verdict}
use Rattle.proof_checks.specs.ProofTexts.{proof_texts}
use Rattle.proof_checks.specs.LedgerTexts.{ledger_texts}
use Rattle.text_clashes.specs.FirstClash.{text_at, IsFirstAt}
use Rattle.merkle_dag.specs.Ledger.{Ledger}
use Rattle.merkle_dag.specs.Questions.{TellsPastHead}
use Rattle.merkle_dag.specs.declared.query_error.QueryError.{QueryError}
use Rattle.answer_exposing.specs.declared.exposing.Clash.{Clash}

-- These are the texts at the two places: the first in the proof's texts, the second in the
-- ledger's.
abbrev pub AreTextsAt : List (List ℕ) → List (List ℕ) → ℕ × ℕ → Clash → Type 0
AreTextsAt given own pair clash = (clash.proof_text ≡ text_at given pair.0)
    × (clash.chain_text ≡ text_at own pair.1)

-- The texts of the first clash of two lists, or `None` if they don't clash.
abbrev pub IsFound : List (List ℕ) → List (List ℕ) → Option Clash → Type 0
IsFound given own None = HasClash given own → ⊥
IsFound given own (Some clash) = (pair : ℕ × ℕ) × IsFirstAt given own pair
    × AreTextsAt given own pair clash

-- For a block of the ledger, the first clash of the proof's texts with the ledger's texts at that
-- block, unless the scratch device fails or memory runs out; a block after the last one is refused
-- with the number of the last block.
abbrev pub IsExposed : Ledger → ℕ → Proof → Result (Option Clash) QueryError → Type 0
IsExposed ledger root_at proof result = TellsPastHead ledger.digests root_at result
    × IfOk result
    (IsFound (proof_texts proof) (ledger_texts ledger.rows ledger.digests root_at))

-- If no clash is found, each answer with which the proof is accepted under the root at the block is
-- that of scanning the rows up to it.
abbrev pub Clears : Ledger → ℕ → Proof → Option Clash → Type 0
Clears ledger root_at proof None =
    (query : Query) (answer : Answer) → IsProof proof
    → verdict (root_of ledger.rows ledger.digests root_at) query proof ≡ Ok answer
    → answer ≡ scan (up_to ledger.rows root_at) query
Clears ledger root_at proof (Some clash) = Unit {0}
