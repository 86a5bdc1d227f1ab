-- What is kept of the first blocks of a lineage belongs together as all of it does.
use Rattle.std.proofs.Common.{◌≡◌, ◌∙◌, ℕ, suc, ◌+◌, ◌<◌, ◌≤◌, true, false, nat_le, List, [], ◌∷◌}
use Rattle.std.proofs.Common.{Option, None, Some, IfSome, ◌++◌, length, take, drop, map, refl, sym}
use Rattle.std.proofs.Common.{ap, subst, arith, inl, inr}
use Rattle.std.specs.List.{All, AllPairs}
use Rattle.std.proofs.lemmas.Bool.{cases_lt, le-leb, lt-leb}
use Rattle.std.proofs.lemmas.List.{length-append, length-map, length-take-le, take-append-drop}
use Rattle.std.proofs.lemmas.List.{take-map}
use Rattle.std.proofs.lemmas.Option.{slice_get_within}
use Rattle.std.proofs.lemmas.List.Elements.{All-cons, All-nil, All-take, recursion_from_All}
use Rattle.lc_base.specs.declared.digest.Digest.{Digest}
use Rattle.lc_base.specs.declared.row.Row.{Row}
use Rattle.lc_base.specs.History.{StandsBefore, up_to}
use Rattle.lc_base.proofs.Lists.{get_take}
use Rattle.body_store.specs.Bodies.{KeptBody, BodiesState}
use Rattle.lineage_rewind.specs.root_laws.Root.{root_of}
use Rattle.lineage_rewind.proofs.root_laws.Lists.{all_weaker, keep_none}
use Rattle.lineage_rewind.proofs.root_laws.UpToBlock.{earlier_roots_stay}
use Rattle.lineage_rewind.proofs.plain_rows.LastPlace.{blocks_rise}
use Rattle.lineage_rewind.specs.root_laws.TypedLedger.{IsTypedRow}
use Rattle.lineage_rewind.proofs.root_laws.Parts.{rows_up_to}
use Rattle.lineage_rewind.specs.entry_store.Entries.{Entry}
use Rattle.lineage_rewind.specs.lineage_index.Entries.{entries_of}
use Rattle.lineage_rewind.proofs.lineage_index.StoreEntries.{as_many, earlier_entries}
use Rattle.lineage_rewind.specs.lineage_index.Index.{IsIndexOf}
use Rattle.lineage_rewind.specs.lineage_index.declared.index.LineageIndex.{LineageIndex}
use Rattle.merkle_dag.specs.Kept.{KeepsLineage}
use Rattle.merkle_dag.specs.Ledger.{AreRootsMade}

-- ---- rows

-- the rows after those of the blocks up to one are of later blocks
record AreParted (rows : List Row) (at : ℕ) : Type 0 where
  more : List Row
  parted : rows ≡ up_to rows at ++ more
  first : All (λ (row : Row). row.block < at + 1) (up_to rows at)
  later : All (λ (row : Row). suc at ≤ row.block) more

part : (rows : List Row) (at : ℕ) → AllPairs StandsBefore rows → AreParted rows at
part [] at ordered = record {
  more = [];
  parted = refl;
  first = All-nil (λ (row : Row). row.block < at + 1);
  later = All-nil
      (λ (row : Row). suc at ≤ row.block);
}
part (row ∷ rows) at ordered = elim (cases_lt at row.block) [
  | inl high ↦
      let all : All (λ (other : Row). suc at ≤ other.block) (row ∷ rows) = λ k d l. omega
      (arith, high, blocks_rise (row ∷ rows) ordered 0 k d (omega arith) l) in
      let none : up_to (row ∷ rows) at ≡ [] = keep_none (λ (other : Row). nat_le other.block at)
      (row ∷ rows)
      (all_weaker (λ (other : Row). suc at ≤ other.block)
      (λ (other : Row). nat_le other.block at ≡ false) (λ other h. lt-leb other.block at h)
      (row ∷ rows)
      (recursion_from_All (λ (other : Row). suc at ≤ other.block) (row ∷ rows) all)) in
      record {
        more = row ∷ rows;
        parted = ap (λ (rs : List Row). rs ++ row ∷ rows) (sym none);
        first = subst (All (λ (other : Row). other.block < at + 1)) (sym none)
            (All-nil (λ (other : Row). other.block < at + 1));
        later = all;
      }
  | inr low ↦
      let rest = part rows at (λ i j d l m. ordered (suc i) (suc j) d (omega (arith, l))
      (omega (arith, m))) in
      let here : nat_le row.block at ≡ true = le-leb row.block at low in
      let up : up_to (row ∷ rows) at ≡ row ∷ up_to rows at = rw here refl in
      record {
        more = rest.more;
        parted = ap (λ (rs : List Row). row ∷ rs) rest.parted
            ∙ ap (λ (rs : List Row). rs ++ rest.more) (sym up);
        first = subst (All (λ (other : Row). other.block < at + 1)) (sym up)
            (All-cons (λ (other : Row). other.block < at + 1) row (up_to rows at)
            (omega (arith, low)) rest.first);
        later = rest.later;
      }
]

-- the entries of these rows are the first ones
first_entries : (rows : List Row) (at : ℕ) → AllPairs StandsBefore rows
    → take (length (up_to rows at)) (entries_of rows rows) ≡ entries_of (up_to rows at)
    (up_to rows at)
first_entries rows at ordered =
    let p = part rows at ordered in
    ap (λ (rs : List Row). take (length (up_to rows at)) (entries_of rs rs)) p.parted
    ∙ earlier_entries (up_to rows at) p.more (at + 1) p.first
    (λ k d l. omega (arith, p.later k d l))

-- ---- roots

first_roots : (rows : List Row) (digests : List Digest) (roots : List (Option Digest)) (at : ℕ)
    → AllPairs StandsBefore rows → at < length digests → AreRootsMade rows digests roots
    → AreRootsMade (up_to rows at) (take (at + 1) digests) (take (at + 1) roots)
first_roots rows digests roots at ordered within made = record {
  many = length-take-le (at + 1) roots (omega (arith, within, made.many)) ∙ sym long;
  each = λ r one there.
      let low : r < at + 1 = omega (
        arith,
        slice_get_within (take (at + 1) roots) r one there,
        length-take-le (at + 1) roots (omega (arith, within, made.many)),
      ) in
      stays r one low (made.each r one (sym (get_take (at + 1) r roots low) ∙ there));
}
  where
    long : length (take (at + 1) digests) ≡ at + 1
    long = length-take-le (at + 1) digests (omega (arith, within))

    same : (r : ℕ) → r < at + 1
        → root_of rows digests r ≡ root_of (up_to rows at) (take (at + 1) digests) r
    same r l =
        let p = part rows at ordered in
        ap (λ (rs : List Row). root_of rs digests r) p.parted
        ∙ ap (λ (ds : List Digest). root_of (up_to rows at ++ p.more) ds r)
        (sym (take-append-drop (at + 1) digests))
        ∙ earlier_roots_stay (up_to rows at) p.more (take (at + 1) digests) (drop (at + 1) digests) r
        (λ k d m. omega (arith, l, p.later k d m)) (omega (arith, l, long))

    stays : (r : ℕ) (one : Option Digest) → r < at + 1
        → IfSome one (λ root. root.0 ≡ root_of rows digests r)
        → IfSome one (λ root. root.0 ≡ root_of (up_to rows at) (take (at + 1) digests) r)
    stays r None low is = tt
    stays r (Some root) low is = is ∙ same r low

-- ---- all that is kept

module _ (rows : List Row) (index first : LineageIndex)
    (bodies first_bodies : BodiesState) (digests : List Digest) (roots : List (Option Digest))
    (at count : ℕ)
    (keeps : KeepsLineage rows index bodies digests roots) (within : at < length digests)
    (is : IsIndexOf (up_to rows at) (at + 1) first)
    (count_is : count ≡ length (entries_of (up_to rows at) (up_to rows at))) where
  pub count_within : count ≤ length bodies.kept
  count_within =
      let p = part rows at keeps.ledger.lawful.ordered in
      omega (
        arith,
        count_is,
        as_many (up_to rows at) [] (up_to rows at),
        ap length p.parted,
        length-append (up_to rows at) p.more,
        ap length keeps.bodies_are,
        length-map bodies.kept (λ (one : KeptBody). one.body),
        length-map index.store (λ (entry : Entry). entry.body),
        ap length keeps.index_is.store.entries_are,
        as_many rows [] rows,
      )

  pub first_typed : All IsTypedRow (up_to rows at)
  first_typed = rows_up_to rows at keeps.typed

  pub first_keeps : first_bodies.kept ≡ take count bodies.kept
      → KeepsLineage (up_to rows at) first first_bodies (take (at + 1) digests)
      (take (at + 1) roots)
  first_keeps front =
      let long : length (take (at + 1) digests) ≡ at + 1 = length-take-le (at + 1) digests
      (omega (arith, within)) in
      let many : count ≡ length (up_to rows at) = count_is
      ∙ as_many (up_to rows at) [] (up_to rows at) in
      let body : Entry → List ℕ = λ (entry : Entry). entry.body in
      record {
        ledger = record {
          lawful = is.store.lawful;
          within = subst (λ (n : ℕ). All (λ (row : Row). row.block < n) (up_to rows at)) (sym long)
              is.within;
          few = omega (arith, long, within, keeps.ledger.few);
        };
        typed = first_typed;
        digests_fit = All-take (λ (digest : Digest). length digest.0 ≡ 32) (at + 1) digests
            keeps.digests_fit;
        index_is = subst (λ (n : ℕ). IsIndexOf (up_to rows at) n first) (sym long) is;
        bodies_are =
            ap (map (λ (one : KeptBody). one.body)) front
            ∙ sym (take-map (λ (one : KeptBody). one.body) count bodies.kept)
            ∙ ap (take count) keeps.bodies_are
            ∙ take-map body count index.store
            ∙ ap (λ (es : List Entry). map body (take count es))
            keeps.index_is.store.entries_are
            ∙ ap (λ (n : ℕ). map body (take n (entries_of rows rows))) many
            ∙ ap (map body) (first_entries rows at keeps.ledger.lawful.ordered)
            ∙ ap (map body) (sym is.store.entries_are);
        roots_are = first_roots rows digests roots at keeps.ledger.lawful.ordered within
            keeps.roots_are;
      }
