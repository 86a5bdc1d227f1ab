-- The range proof that is made of a ledger: of the rows up to a block, how it is written, and that
-- it can be spelled.
use Rattle.std.proofs.Common.{◌≡◌, ◌∙◌, ℕ, zero, suc, ◌+◌, ◌<◌, ◌≤◌, ◌^◌, Bool, true, nat_le}
use Rattle.std.proofs.Common.{List, [], ◌∷◌, ◌++◌}
use Rattle.std.proofs.Common.{length, map, take, drop, filter, Result, sym, ap, subst, arith}
use Rattle.std.proofs.Common.{slice_get, Some, inl, inr}
use Rattle.std.specs.Prelude.{IfOk}
use Rattle.std.specs.List.{AllByRecursion, concat, flat_map}
use Rattle.std.specs.Int.{w32, to_be_bytes}
use Rattle.std.proofs.lemmas.Bool.{cases_Bool}
use Rattle.std.proofs.lemmas.Option.{none-some, get_or_from_slice_get}
use Rattle.std.proofs.lemmas.List.{get_or-take, length-map, length-append}
use Rattle.std.proofs.lemmas.List.Concat.{flat_map-append}
use Rattle.std.proofs.lemmas.List.Elements.{All-from_recursion}
use Rattle.byte_fields.proofs.Laws.{concat-append}
use Rattle.lc_base.specs.KeyBytes.{IsKey}
use Rattle.lc_base.specs.declared.digest.Digest.{Digest}
use Rattle.lc_base.specs.declared.row.Row.{Row}
use Rattle.lc_base.specs.History.{IsLawful, up_to}
use Rattle.skip_links.specs.Paths.{path}
use Rattle.entry_store.specs.declared.entry.EntryId.{EntryId}
use Rattle.prov_query.specs.lineage_index.OnPath.{AreEntriesIn}
use Rattle.prov_entry.specs.declared.entry.Body.{Body}
use Rattle.prov_entry.specs.Spelling.{header_fields, body_fields}
use Rattle.root_laws.specs.Naming.{header_of, body_of}
use Rattle.root_laws.specs.Root.{digest_at}
use Rattle.root_laws.specs.TypedLedger.{IsTypedLedger}
use Rattle.root_laws.proofs.Lists.{keep_all}
use Rattle.proof_codec.specs.declared.proof.LeafProof.{LeafProof}
use Rattle.proof_codec.specs.Spelling.{leaf_proof_fields}
use Rattle.proof_codec.proofs.Proofs.{short_audit}
use Rattle.proof_codec.proofs.Written.{written_three}
use Rattle.proof_checks.specs.Making.{path_headers, made_leaf}
use Rattle.prov_query.specs.merkle_dag.Ledger.{Ledger}
use Rattle.proof_checks.specs.declared.range_proof.RangeProof.{RangeProof}
use Rattle.proof_checks.specs.RangeMaking.{rows_back, range_headers, range_of, made_range}
use Rattle.proof_checks.specs.RangeMaking.{MadeRangesAreProofs, MadeRangesAreAccepted}
use Rattle.proof_checks.specs.RangeTexts.{IsRangeProof}
use Rattle.proof_checks.specs.RangeSpelling.{front_fields, headers_fields, range_fields}
use Rattle.range_proof.specs.Finding.{AreRowsAt}
use Rattle.range_proof.specs.Parts.{AreWithin, AreEntriesWithin, header_fields_at, body_fields_at}
use Rattle.range_proof.specs.Parts.{AddsBodies}
use Rattle.range_proof.specs.Proving.{ShowsRange, IsButForBodies, fields_before_bodies}
use Rattle.range_proof.proofs.Found.{Below, are_within, are_on_path, as_many, but_first, fields_are}
use Rattle.range_proof.proofs.Found.{fields_of_each}

-- ---- the rows up to a block

all_kept : (p : Row → Bool) (rows : List Row)
    → AllByRecursion (λ (row : Row). p row ≡ true) (filter p rows)
all_kept p [] = tt
all_kept p (row ∷ rows) = let rest = all_kept p rows in elim (cases_Bool (p row)) [
  | inl t ↦ rw t (t, rest)
  | inr f ↦ rw f rest
]

up_to_twice : (rows : List Row) (block : ℕ) → up_to (up_to rows block) block ≡ up_to rows block
up_to_twice rows block =
    let early : Row → Bool = λ (row : Row). nat_le row.block block in
    keep_all early (up_to rows block) (all_kept early rows)

digest_stays : (digests : List Digest) (block : ℕ)
    → digest_at (take (block + 1) digests) block ≡ digest_at digests block
digest_stays digests block = ap (λ (d : Digest). d.0)
    (get_or-take (block + 1) digests block (record { 0 = [] }) (omega arith))

taken_at : {A : Type 0} (xs : List A) (n : ℕ) (x : A) → slice_get xs n ≡ Some x
    → slice_get (take (suc n) xs) n ≡ Some x
taken_at [] n x at = absurd (none-some x at)
taken_at (first ∷ xs) zero x at = at
taken_at (first ∷ xs) (suc n) x at = taken_at xs n x at

-- The last of the blocks up to one has its digest.
pub last_taken : (digests some : List Digest) (block : ℕ) (digest : Digest)
    → some ≡ take (block + 1) digests → slice_get digests block ≡ Some digest
    → slice_get some block ≡ Some digest
last_taken digests some block digest are at =
    let next : block + 1 ≡ suc block = omega arith in
    ap (λ (ds : List Digest). slice_get ds block)
    (are ∙ ap (λ (n : ℕ). take n digests) next)
    ∙ taken_at digests block digest at

-- The range proof made of a ledger at a block is that of the ledger up to the block.
pub made_again : (rows part : List Row) (digests some : List Digest) (block : ℕ) (key : List ℕ)
    (from to : ℕ) → part ≡ up_to rows block → some ≡ take (block + 1) digests
    → made_range part some block key from to ≡ made_range rows digests block key from to
unfolding made_range
made_again rows part digests some block key from to rows_are digests_are =
    ap (λ (rs : List Row). range_of (up_to rs block) block (digest_at some block) key from to)
    rows_are
    ∙ ap (λ (rs : List Row). range_of rs block (digest_at some block) key from to)
    (up_to_twice rows block)
    ∙ ap (λ (d : List ℕ). range_of (up_to rows block) block d key from to)
    (ap (λ (ds : List Digest). digest_at ds block) digests_are ∙ digest_stays digests block)

-- Where all rows are up to the block, it is made of these.
pub made_of_all : (rows : List Row) (digests : List Digest) (block : ℕ) (key : List ℕ)
    (from to : ℕ) → up_to rows block ≡ rows
    → range_of rows block (digest_at digests block) key from to
    ≡ made_range rows digests block key from to
unfolding made_range
made_of_all rows digests block key from to all =
    ap (λ (rs : List Row). range_of rs block (digest_at digests block) key from to) (sym all)

-- ---- what is written

module _ (rows : List Row) (digests : List Digest) (block : ℕ) (key : List ℕ) (from to : ℕ)
    (all : up_to rows block ≡ rows) where
  abbrev own : RangeProof
  own = range_of rows block (digest_at digests block) key from to

  abbrev made : RangeProof
  made = made_range rows digests block key from to

  own_is_made : own ≡ made
  own_is_made = made_of_all rows digests block key from to all

  -- The further headers are fewer than all, which four bytes count.
  pub few_written : (path_ids : List EntryId) (between further : List ℕ) → IsLawful rows
      → IsRangeProof made → AreEntriesIn rows key (path rows key to) path_ids
      → AreRowsAt rows between (rows_back rows key from to) → further ≡ drop 1 between
      → length path_ids + length further < 2 ^ 32
  few_written path_ids between further lawful is on_path are rest =
      let back = rows_back rows key from to in
      let few : length (range_headers rows key from to) < 2 ^ 32 =
      subst (λ (r : RangeProof). length r.headers < 2 ^ 32) (sym own_is_made) is.few_headers in
      let path_long = (are_on_path rows key (path rows key to) path_ids lawful on_path).long in
      let rest_long : length further ≡ length (drop 1 back) =
      ap length rest ∙ as_many rows (drop 1 between) (drop 1 back) (but_first rows between back are)
      in
      omega (
        arith,
        few,
        path_long,
        rest_long,
        length-append (path_headers rows key to) (map (header_of rows) (drop 1 back)),
        length-map (drop 1 back) (header_of rows),
      )

  -- The number of headers and the headers.
  headers_written : (path_ids : List EntryId) (between further : List ℕ) → IsLawful rows
      → AreEntriesIn rows key (path rows key to) path_ids
      → AreRowsAt rows between (rows_back rows key from to) → further ≡ drop 1 between
      → to_be_bytes w32 (length path_ids + length further)
      ++ (concat (flat_map (λ (id : EntryId). header_fields_at rows id.0) path_ids)
      ++ concat (flat_map (header_fields_at rows) further))
      ≡ concat (headers_fields (range_headers rows key from to))
  headers_written path_ids between further lawful on_path are rest =
      let back = rows_back rows key from to in
      let first = path_headers rows key to in
      let others = map (header_of rows) (drop 1 back) in
      let rest_are : AreRowsAt rows (drop 1 between) (drop 1 back) = but_first rows between back are
      in
      let on = are_on_path rows key (path rows key to) path_ids lawful on_path in
      let further_fields : flat_map (header_fields_at rows) further
      ≡ flat_map header_fields others =
      ap (flat_map (header_fields_at rows)) rest
      ∙ fields_are rows (λ (row : Row). header_fields (header_of rows row)) (drop 1 between)
      (drop 1 back) rest_are
      ∙ fields_of_each header_fields (header_of rows) (drop 1 back) in
      let long : length path_ids + length further ≡ length (range_headers rows key from to) =
      omega (
        arith,
        on.long,
        ap length rest ∙ as_many rows (drop 1 between) (drop 1 back) rest_are,
        length-append first others,
        length-map (drop 1 back) (header_of rows),
      ) in
      ap (λ (n : ℕ). to_be_bytes w32 n
      ++ (concat (flat_map (λ (id : EntryId). header_fields_at rows id.0) path_ids)
      ++ concat (flat_map (header_fields_at rows) further))) long
      ∙ ap (λ (t : List ℕ). to_be_bytes w32 (length (range_headers rows key from to)) ++ t)
      (ap (λ (fs : List (List ℕ)). concat fs ++ concat (flat_map (header_fields_at rows) further))
      on.fields
      ∙ ap (λ (fs : List (List ℕ)). concat (flat_map header_fields first) ++ concat fs)
      further_fields
      ∙ sym (concat-append (flat_map header_fields first) (flat_map header_fields others))
      ∙ ap concat (sym (flat_map-append header_fields first others)))

  -- A leaf proof with the digest that the root's block has is that of the range proof.
  own_leaf : (digest : Digest) (leaf_proof : LeafProof) → slice_get digests block ≡ Some digest
      → leaf_proof ≡ made_leaf rows block digest.0 key → leaf_proof ≡ own.leaf_proof
  own_leaf digest leaf_proof at leaf =
      leaf ∙ ap (λ (d : List ℕ). made_leaf rows block d key)
      (ap (λ (d : Digest). d.0)
      (sym (get_or_from_slice_get digests block digest (record { 0 = [] }) at)))

  -- One byte counts its audit path.
  pub audit_short : (digest : Digest) (leaf_proof : LeafProof) → IsRangeProof made
      → slice_get digests block ≡ Some digest → leaf_proof ≡ made_leaf rows block digest.0 key
      → length leaf_proof.audit < 2 ^ 8
  audit_short digest leaf_proof is at leaf =
      let same : made.leaf_proof ≡ leaf_proof =
      sym (own_leaf digest leaf_proof at leaf
      ∙ ap (λ (r : RangeProof). r.leaf_proof) own_is_made) in
      let short = short_audit made.leaf_proof.leaf_index made.leaf_proof.leaf_count in
      subst (λ (p : LeafProof). length p.audit < 2 ^ 8) same
      (omega (arith, short, is.leaf_proof_is.audit_counted))

  pub further_within : (between further : List ℕ)
      → AreRowsAt rows between (rows_back rows key from to) → further ≡ drop 1 between
      → AreWithin rows further
  further_within between further are rest =
      let back = rows_back rows key from to in
      subst (AreWithin rows) (sym rest)
      (All-from_recursion (Below rows) (drop 1 between)
      (are_within rows (drop 1 between) (drop 1 back) (but_first rows between back are)))

  pub path_within : (path_ids : List EntryId) → IsLawful rows
      → AreEntriesIn rows key (path rows key to) path_ids → AreEntriesWithin rows path_ids
  path_within path_ids lawful on_path =
      All-from_recursion (λ (id : EntryId). id.0 < length rows) path_ids
      (are_on_path rows key (path rows key to) path_ids lawful on_path).within

  -- All that comes before the bodies.
  pub before_bodies : (digest : Digest) (leaf_proof : LeafProof) (path_ids : List EntryId)
      (between further old a b c : List ℕ) → IsLawful rows
      → slice_get digests block ≡ Some digest
      → leaf_proof ≡ made_leaf rows block digest.0 key
      → AreEntriesIn rows key (path rows key to) path_ids
      → AreRowsAt rows between (rows_back rows key from to) → further ≡ drop 1 between
      → a ≡ old ++ concat (front_fields key from to)
      → b ≡ a ++ concat (leaf_proof_fields leaf_proof)
      → c ≡ b ++ (to_be_bytes w32 (length path_ids + length further)
      ++ (concat (flat_map (λ (id : EntryId). header_fields_at rows id.0) path_ids)
      ++ concat (flat_map (header_fields_at rows) further)))
      → c ≡ old ++ concat (fields_before_bodies made)
  before_bodies digest leaf_proof path_ids between further old a b c lawful at leaf on_path are rest
      a_is b_is c_is =
      written_three (front_fields key from to) (leaf_proof_fields own.leaf_proof)
      (headers_fields (range_headers rows key from to)) old a b c a_is
      (b_is ∙ ap (λ (p : LeafProof). a ++ concat (leaf_proof_fields p))
      (own_leaf digest leaf_proof at leaf))
      (c_is ∙ ap (λ (t : List ℕ). b ++ t)
      (headers_written path_ids between further lawful on_path are rest))
      ∙ ap (λ (r : RangeProof). old ++ concat (fields_before_bodies r)) own_is_made

  abbrev with_bodies : List Body → RangeProof
  with_bodies bodies = record made { bodies = bodies }

  -- The bodies come last.
  bodies_last : (a b : List ℕ) (bodies : List Body) → a ≡ concat (fields_before_bodies made)
      → b ≡ a ++ concat (flat_map body_fields bodies)
      → b ≡ concat (range_fields (with_bodies bodies))
  bodies_last a b bodies a_is b_is =
      b_is ∙ ap (λ (t : List ℕ). t ++ concat (flat_map body_fields bodies)) a_is
      ∙ sym (concat-append (fields_before_bodies made) (flat_map body_fields bodies))

  pub all_written : (between : List ℕ) (a b : List ℕ)
      → AreRowsAt rows between (rows_back rows key from to)
      → a ≡ concat (fields_before_bodies made)
      → b ≡ a ++ concat (flat_map (body_fields_at rows) between)
      → b ≡ concat (range_fields made)
  all_written between a b are a_is b_is =
      let back = rows_back rows key from to in
      let bodies : flat_map (body_fields_at rows) between ≡ flat_map body_fields made.bodies =
      fields_are rows (λ (row : Row). body_fields (body_of rows row)) between back are
      ∙ fields_of_each body_fields (body_of rows) back
      ∙ ap (λ (r : RangeProof). flat_map body_fields r.bodies) own_is_made in
      bodies_last a b made.bodies a_is
      (b_is ∙ ap (λ (fs : List (List ℕ)). a ++ concat fs) bodies)

  -- Other bodies in the place of its own can be spelled too.
  pub others_written : (between : List ℕ) (a b : List ℕ) → IsRangeProof made
      → AreRowsAt rows between (rows_back rows key from to)
      → a ≡ concat (fields_before_bodies made) → AddsBodies (length between) a b
      → IsButForBodies made b
  others_written between a b is are a_is (bodies, long, lawful, b_is) =
      let back = rows_back rows key from to in
      let as_long : length bodies ≡ length made.bodies =
      long ∙ as_many rows between back are ∙ sym (length-map back (body_of rows))
      ∙ ap (λ (r : RangeProof). length r.bodies) own_is_made in (
        bodies,
        record {
          lawful = record {
            key_is_key = is.key_is_key;
            in_order = is.in_order;
            leaf_proof_is = is.leaf_proof_is;
            few_headers = is.few_headers;
            headers_are_headers = is.headers_are_headers;
            bodies_counted = as_long ∙ is.bodies_counted;
            bodies_are_bodies = lawful;
          };
          spelled = bodies_last a b bodies a_is b_is;
        },
      )

-- ---- the range proof that is made

pub shows : (ledger : Ledger) (key : List ℕ) (from to root_at : ℕ) (bytes : List ℕ)
    → MadeRangesAreProofs → MadeRangesAreAccepted → IsTypedLedger ledger.rows ledger.digests
    → root_at < length ledger.digests → IsKey key → from ≤ to → to ≤ root_at
    → bytes ≡ concat (range_fields (made_range ledger.rows ledger.digests root_at key from to))
    → ShowsRange ledger key from to root_at bytes
shows ledger key from to root_at bytes spelled accepted typed within is_key in_order early are = (
  made_range ledger.rows ledger.digests root_at key from to,
  record {
    lawful =
        spelled ledger.rows ledger.digests root_at key from to typed within is_key in_order early;
    spelled = are;
  },
  accepted ledger.rows ledger.digests root_at key from to typed within is_key in_order early,
)

-- ---- the same bytes of two range proofs that are the same

pub bytes_of : {E : Type 0} (result : Result (List ℕ) E) (range other : RangeProof) → range ≡ other
    → IfOk result (λ bytes. bytes ≡ concat (range_fields range))
    → IfOk result (λ bytes. bytes ≡ concat (range_fields other))
bytes_of result range other same are =
    subst (λ (r : RangeProof). IfOk result (λ bytes. bytes ≡ concat (range_fields r))) same are

pub but_for_bodies_of : {E : Type 0} (result : Result (List ℕ) E) (range other : RangeProof)
    → range ≡ other → IfOk result (IsButForBodies range) → IfOk result (IsButForBodies other)
but_for_bodies_of result range other same are =
    subst (λ (r : RangeProof). IfOk result (IsButForBodies r)) same are
