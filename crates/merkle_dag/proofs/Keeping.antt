-- What a lineage keeps, at first and with one block more.
use Rattle.std.proofs.Common.{◌≡◌, ◌∙◌, ℕ, ◌+◌, ◌<◌, List, [], ◌∷◌, ◌++◌, length, Option, None}
use Rattle.std.proofs.Common.{refl, sym}
use Rattle.std.proofs.Common.{ap, subst, rules, arith}
use Rattle.std.specs.List.{All}
use Rattle.std.proofs.lemmas.List.{length_push}
use Rattle.std.proofs.lemmas.Option.{none-some}
use Rattle.std.proofs.lemmas.List.Elements.{All-append, All-cons, All-nil}
use Rattle.lc_base.specs.declared.digest.Digest.{Digest}
use Rattle.lc_base.specs.declared.row.Row.{Row}
use Rattle.lc_base.specs.History.{IsLawful}
use Rattle.lineage_rewind.specs.lineage_index.Growth.{Grows}
use Rattle.lineage_rewind.specs.lineage_index.Index.{IsIndexOf}
use Rattle.lineage_rewind.specs.lineage_index.declared.index.LineageIndex.{LineageIndex}
use Rattle.merkle_dag.specs.declared.limits.TheConstants.{MAX_LINEAGE_BLOCKS}
use Rattle.merkle_dag.specs.Ledger.{IsLedger, AreRootsMade}
use Rattle.merkle_dag.proofs.LedgerSteps.{grows_from, roots_after, ledger_after}

pub ledger_none : IsLedger [] []
ledger_none = record {
  lawful = record
      { few = omega arith; ordered = search rules; lawful_deps = search rules };
  within = search
      rules;
  few = omega arith;
}

pub roots_none : AreRootsMade [] [] []
roots_none = record { many = refl; each = λ at made there. absurd (none-some made there) }

pub digests_are : (digests : List Digest) (d : Digest)
    → All (λ (digest : Digest). length digest.0 ≡ 32) digests → length d.0 ≡ 32
    → All (λ (digest : Digest). length digest.0 ≡ 32) (digests ++ d ∷ [])
digests_are digests d before now =
    let Fits : Digest → Type 0 = λ (digest : Digest). length digest.0 ≡ 32 in
    All-append Fits digests (d ∷ []) before (All-cons Fits d [] now (All-nil Fits))

-- the next block: its number and its rows
module _ (rows new : List Row) (digests : List Digest) (roots : List (Option Digest)) (n : ℕ) (d : Digest)
    (ledger : IsLedger rows digests) (count : n ≡ length digests)
    (now : All (λ (row : Row). row.block ≡ n) new) (lawful : IsLawful (rows ++ new)) where
  pub grows : Grows rows new n
  grows = grows_from rows new digests n ledger count now lawful

  pub ledger_is : n < MAX_LINEAGE_BLOCKS → IsLedger (rows ++ new) (digests ++ d ∷ [])
  ledger_is low = ledger_after rows new digests d n grows count low

  pub index_is : (index : LineageIndex) → IsIndexOf (rows ++ new) (n + 1) index
      → IsIndexOf (rows ++ new) (length (digests ++ d ∷ [])) index
  index_is index is = subst (λ (m : ℕ). IsIndexOf (rows ++ new) m index)
      (ap (λ (k : ℕ). k + 1) count ∙ sym (length_push digests d)) is

  pub roots_are : AreRootsMade rows digests roots
      → AreRootsMade (rows ++ new) (digests ++ d ∷ []) (roots ++ None ∷ [])
  roots_are before = roots_after rows new digests d roots n grows count before
