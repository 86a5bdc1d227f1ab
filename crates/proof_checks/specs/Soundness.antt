-- An accepted proof can be wrong about a history only if two different texts have one digest.
use Rattle.std.specs.Prelude.{◌≡◌, ◌⊎◌, ◌^◌, ◌<◌, ℕ, List, slice_get, Ok, Some, None}
use Rattle.lc_base.specs.declared.digest.Digest.{Digest}
use Rattle.lc_base.specs.declared.row.Row.{Row}
use Rattle.lc_base.specs.declared.answer.Query.{Query}
use Rattle.lc_base.specs.declared.answer.Answer.{Answer}
use Rattle.lc_base.specs.History.{up_to, latest, scan}
use Rattle.proof_codec.specs.merkle_tree.Clash.{Clash}
use Rattle.root_laws.specs.Naming.{header_of, body_of}
use Rattle.root_laws.specs.Root.{leaves, root_of}
use Rattle.root_laws.specs.TypedLedger.{IsTypedHistory}
use Rattle.proof_codec.specs.declared.proof.LeafProof.{LeafProof}
use Rattle.proof_codec.specs.declared.proof.Proof.{Proof}
use Rattle.proof_codec.specs.Spelling.{IsLeafProof, IsProof, last_of}
use Rattle.proof_checks.specs.Checks.{root_fault, judgement, verdict}
use Rattle.proof_checks.specs.ProofTexts.{leaf_proof_texts, proof_texts}
use Rattle.proof_checks.specs.LedgerTexts.{ledger_texts}

-- The answer is that of scanning the rows up to the block; or one of `texts` and one of the
-- ledger's texts differ and have one digest.
abbrev pub AnswersOrClashes : List Row → List Digest → ℕ → Query → List (List ℕ) → Answer → Type 0
AnswersOrClashes rows digests block query texts answer =
    (answer ≡ scan (up_to rows block) query) ⊎ Clash texts (ledger_texts rows digests block)

-- The answer of an accepted proof is right for every typed history that has the root at some block,
-- whatever digests its blocks have.
abbrev pub AcceptedProofsAreSound : Type 0
AcceptedProofsAreSound =
    (root : List ℕ) (query : Query) (proof : Proof) (answer : Answer) → IsProof proof → verdict root query proof ≡ Ok answer
    → (rows : List Row) (digests : List Digest) (block : ℕ) → IsTypedHistory rows → block < 2 ^ 32 → root_of rows digests block ≡ root
    → AnswersOrClashes rows digests block query (proof_texts proof) answer

-- The same of a proof that is judged by its own query.
abbrev pub JudgedProofsAreSound : Type 0
JudgedProofsAreSound =
    (root : List ℕ) (proof : Proof) (answer : Answer) → IsProof proof → judgement root proof ≡ Ok answer
    → (rows : List Row) (digests : List Digest) (block : ℕ) → IsTypedHistory rows → block < 2 ^ 32 → root_of rows digests block ≡ root
    → AnswersOrClashes rows digests block proof.query (proof_texts proof) answer

-- The last header and the body of a proof are those of the version that answers its query; or no
-- version answers it, and there is no body.
abbrev pub ShowsVersion : List Row → Proof → Type 0
ShowsVersion rows proof =
    ((latest rows proof.query.key proof.query.at ≡ None) × (proof.body ≡ None))
    ⊎ ((row : Row) × (latest rows proof.query.key proof.query.at ≡ Some row) × (last_of proof.headers ≡ Some (header_of rows row)) × (proof.body ≡ Some (body_of rows row)))

-- An accepted proof shows the header and the body of the version that answers in every typed history
-- that has the root at some block; or a text of the proof and one of the history differ and have one
-- digest.
abbrev pub AcceptedProofsShowVersions : Type 0
AcceptedProofsShowVersions =
    (root : List ℕ) (proof : Proof) (answer : Answer) → IsProof proof → judgement root proof ≡ Ok answer
    → (rows : List Row) (digests : List Digest) (block : ℕ) → IsTypedHistory rows → block < 2 ^ 32 → root_of rows digests block ≡ root
    → ShowsVersion (up_to rows block) proof ⊎ Clash (proof_texts proof) (ledger_texts rows digests block)

-- The leaf proof has the number of the block, and a leaf that is at its index among the leaves.
abbrev pub ShowsLeaf : List Row → ℕ → LeafProof → Type 0
ShowsLeaf rows block leaf_proof = (leaf_proof.root_at ≡ block) × (slice_get (leaves rows) leaf_proof.leaf_index ≡ Some leaf_proof.leaf)

-- A leaf proof that leads to a root shows a leaf of every typed history that has the root at some
-- block, and that block; or a text of the leaf proof and one of the history differ and have one
-- digest.
abbrev pub LeafProofsShowLeaves : Type 0
LeafProofsShowLeaves =
    (root : List ℕ) (least : ℕ) (leaf_proof : LeafProof) → IsLeafProof least leaf_proof → root_fault root leaf_proof ≡ None
    → (rows : List Row) (digests : List Digest) (block : ℕ) → IsTypedHistory rows → block < 2 ^ 32 → root_of rows digests block ≡ root
    → ShowsLeaf (up_to rows block) block leaf_proof ⊎ Clash (leaf_proof_texts leaf_proof) (ledger_texts rows digests block)
