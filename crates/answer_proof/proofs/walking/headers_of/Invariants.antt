use Rattle.std.proofs.Common.{◌≡◌, ℕ, List, take}
use Rattle.std.specs.List.{filter_map}
use Rattle.merkle_dag.specs.lineage_index.OnPath.{AreEntriesIn}
use Rattle.proof_checks.specs.Making.{header_in}
use Rattle.answer_proof.proofs.walking.headers_of.Given as goal

abbrev pub invariant-loop-id : goal.invariant-loop-id
invariant-loop-id g l = (key blocks : List ℕ) → AreEntriesIn l.lineage.rows key blocks l.ids
    → l.headers ≡ filter_map (header_in l.lineage.rows key) (take l.id-index blocks)
