-- What holds of a ledger with one block more.
use Rattle.std.proofs.Common.{◌≡◌, ◌∙◌, ℕ, zero, suc, ◌+◌, ◌<◌, ◌≤◌, List, [], ◌∷◌, ◌++◌, length}
use Rattle.std.proofs.Common.{Option, None, Some, IfSome, true, nat_le, sym, ap, subst, arith}
use Rattle.std.specs.Prelude.{slice_get, slice_index_or, slice_set}
use Rattle.std.specs.List.{All}
use Rattle.std.proofs.lemmas.List.{length_push, length-set}
use Rattle.std.proofs.lemmas.List.Elements.{All-from_recursion, recursion_from_All}
use Rattle.std.proofs.lemmas.Option.{get_or_from_slice_get, same_Some, slice_get-get_or}
use Rattle.std.proofs.lemmas.Option.{slice_get_within}
use Rattle.std.proofs.lemmas.Bool.{le-leb}
use Rattle.sha2.specs.Sha256.{sha256}
use Rattle.lc_base.specs.declared.digest.Digest.{Digest}
use Rattle.lc_base.specs.declared.row.Row.{Row}
use Rattle.lc_base.specs.History.{IsLawful, up_to}
use Rattle.lineage_rewind.specs.prov_entry.Spelling.{text_of_root}
use Rattle.lineage_rewind.specs.prov_entry.declared.entry.Leaf.{Leaf}
use Rattle.lineage_rewind.specs.root_laws.Root.{root_of, root_text, digest_at, leaves, leaves_hash}
use Rattle.lineage_rewind.proofs.root_laws.Lists.{all_weaker, all_append, keep_all}
use Rattle.lineage_rewind.proofs.root_laws.UpToBlock.{earlier_roots_stay}
use Rattle.merkle_dag.specs.declared.limits.TheConstants.{MAX_LINEAGE_BLOCKS}
use Rattle.lineage_rewind.specs.lineage_index.Growth.{Grows}
use Rattle.merkle_dag.specs.Ledger.{IsLedger, AreRootsMade}
use Rattle.lineage_rewind.proofs.lineage_index.Blocks.{rows_before, rows_now}
use Rattle.lineage_rewind.proofs.plain_rows.UsedEnd.{at_front}

pub grows_from : (rows new : List Row) (digests : List Digest) (n : ℕ) → IsLedger rows digests
    → n ≡ length digests → All (λ (row : Row). row.block ≡ n) new → IsLawful (rows ++ new)
    → Grows rows new n
grows_from rows new digests n ledger count now lawful = record {
  lawful_before = ledger.lawful;
  before = rw count ledger.within;
  now = now;
  lawful = lawful;
}

-- ---- roots

abbrev IsMade : List Row → List Digest → ℕ → Option Digest → Type 0
IsMade rows digests at one = IfSome one (λ root. root.0 ≡ root_of rows digests at)

-- the rows up to the last block are all
pub up_to_last : (rows : List Row) (at n : ℕ) → at + 1 ≡ n
    → All (λ (row : Row). row.block < n) rows → up_to rows at ≡ rows
up_to_last rows at n last within = keep_all (λ (row : Row). nat_le row.block at) rows
    (all_weaker (λ (row : Row). row.block < n) (λ (row : Row). nat_le row.block at ≡ true)
    (λ row h. le-leb row.block at (omega (arith, h, last))) rows
    (recursion_from_All (λ (row : Row). row.block < n) rows within))

-- the digest at a block
digest_there : (digests : List Digest) (at : ℕ) (digest : Digest) → at < length digests
    → digest ≡ slice_index_or digests at digest → digest.0 ≡ digest_at digests at
digest_there digests at digest within is =
    let there = get_or_from_slice_get digests at (slice_index_or digests at digest)
    (record { 0 = [] }) (slice_get-get_or digests at digest within) in
    ap (λ (d : Digest). d.0) (is ∙ sym there)

-- a root by the number of the leaves and their tree hash
pub root_by_hash : (rows : List Row) (digests : List Digest) (at : ℕ) (digest : Digest) (count : ℕ)
    (hash : List ℕ) → at < length digests → digest ≡ slice_index_or digests at digest
    → count ≡ length (leaves (up_to rows at)) → hash ≡ leaves_hash (leaves (up_to rows at))
    → sha256 (text_of_root at digest.0 count hash) ≡ root_of rows digests at
unfolding root_of
root_by_hash rows digests at digest count hash within is many hashed =
    ap (λ (d : List ℕ). sha256 (text_of_root at d count hash))
    (digest_there digests at digest within is)
    ∙ ap (λ (n : ℕ). sha256 (text_of_root at (digest_at digests at) n hash)) many
    ∙ ap (λ (h : List ℕ). sha256
    (text_of_root at (digest_at digests at) (length (leaves (up_to rows at))) h)) hashed

-- the root at the last block, by the leaves of all rows
pub root_of_all : (rows : List Row) (digests : List Digest) (at : ℕ) (digest : Digest)
    (all : List Leaf) → at + 1 ≡ length digests
    → All (λ (row : Row). row.block < length digests) rows
    → digest ≡ slice_index_or digests at digest → all ≡ leaves rows
    → sha256 (root_text at digest.0 all) ≡ root_of rows digests at
root_of_all rows digests at digest all last within is leaves_are =
    let same : all ≡ leaves (up_to rows at) = leaves_are
    ∙ ap leaves (sym (up_to_last rows at (length digests) last within)) in
    root_by_hash rows digests at digest (length all) (leaves_hash all) (omega (arith, last)) is
    (ap length same) (ap leaves_hash same)

later_rows : (rows new : List Row) (n r : ℕ) → Grows rows new n → r < n
    → All (λ (row : Row). suc r ≤ row.block) new
later_rows rows new n r g l = All-from_recursion (λ (row : Row). suc r ≤ row.block) new
    (all_weaker (λ (row : Row). row.block ≡ n) (λ (row : Row). suc r ≤ row.block)
    (λ row e. omega (arith, e, l)) new (rows_now rows new n g))

pub roots_after : (rows new : List Row) (digests : List Digest) (d : Digest)
    (roots : List (Option Digest)) (n : ℕ) → Grows rows new n → n ≡ length digests
    → AreRootsMade rows digests roots
    → AreRootsMade (rows ++ new) (digests ++ d ∷ []) (roots ++ None ∷ [])
roots_after rows new digests d roots n g count made = record {
  many = length_push roots None ∙ ap (λ (k : ℕ). k + 1) made.many ∙ sym (length_push digests d);
  each = at_front (IsMade (rows ++ new) (digests ++ d ∷ [])) roots None
      (λ at one there. stays at one (slice_get_within roots at one there) (made.each at one there))
      tt;
}
  where
    stays : (at : ℕ) (one : Option Digest) → at < length roots → IsMade rows digests at one
        → IsMade (rows ++ new) (digests ++ d ∷ []) at one
    stays at None within is = tt
    stays at (Some root) within is =
        let low : at < n = omega (arith, within, count, made.many) in
        is
        ∙ sym (earlier_roots_stay rows new digests (d ∷ []) at (later_rows rows new n at g low)
        (omega (arith, low, count)))

-- an item of a list in which one item was set
at_set : {A : Type 0} (P : ℕ → A → Type 0) (xs : List A) (k : ℕ) (y : A)
    → ((i : ℕ) (x : A) → slice_get xs i ≡ Some x → P i x) → P k y
    → (i : ℕ) (x : A) → slice_get (slice_set xs k y) i ≡ Some x → P i x
at_set P [] k y all here i x at = all i x at
at_set P (z ∷ zs) zero y all here zero x at = subst (P 0) (same_Some y x at) here
at_set P (z ∷ zs) zero y all here (suc i) x at = all (suc i) x at
at_set P (z ∷ zs) (suc k) y all here zero x at = all 0 x at
at_set P (z ∷ zs) (suc k) y all here (suc i) x at = at_set (λ j. P (suc j)) zs k y
    (λ j w e. all (suc j) w e) here i x at

pub root_set : (rows : List Row) (digests : List Digest) (roots : List (Option Digest)) (at : ℕ)
    (root : Digest) → AreRootsMade rows digests roots → root.0 ≡ root_of rows digests at
    → AreRootsMade rows digests (slice_set roots at (Some root))
root_set rows digests roots at root made is = record {
  many = length-set roots at (Some root) ∙ made.many;
  each = at_set (IsMade rows digests) roots at (Some root) made.each is;
}

-- ---- the ledger

pub ledger_after : (rows new : List Row) (digests : List Digest) (d : Digest) (n : ℕ)
    → Grows rows new n → n ≡ length digests → n < MAX_LINEAGE_BLOCKS
    → IsLedger (rows ++ new) (digests ++ d ∷ [])
ledger_after rows new digests d n g count most =
    let long : length (digests ++ d ∷ []) ≡ n + 1 = length_push digests d
    ∙ ap (λ (k : ℕ). k + 1) (sym count) in
    record {
      lawful = g.lawful;
      within = All-from_recursion (λ (row : Row). row.block < length (digests ++ d ∷ []))
          (rows ++ new) (all_append (λ (row : Row). row.block < length (digests ++ d ∷ [])) rows new
          (all_weaker (λ (row : Row). row.block < n)
          (λ (row : Row). row.block < length (digests ++ d ∷ []))
          (λ row h. omega (arith, h, long)) rows (rows_before rows new n g))
          (all_weaker (λ (row : Row). row.block ≡ n)
          (λ (row : Row). row.block < length (digests ++ d ∷ []))
          (λ row h. omega (arith, h, long)) new (rows_now rows new n g)));
      few = omega (arith, long, most);
    }
