-- The range proof that is made of a ledger can be spelled.
use Rattle.std.proofs.Common.{◌≡◌, ◌∙◌, ℕ, suc, ◌<◌, ◌^◌, List, [], ◌∷◌, length, map}
use Rattle.std.proofs.Common.{reverse, drop, refl, sym, ap, arith, length-append}
use Rattle.std.specs.List.{All, AllByRecursion, Contains}
use Rattle.std.proofs.lemmas.List.{length-reverse, length-map}
use Rattle.lc_base.specs.declared.row.Row.{Row}
use Rattle.lc_base.specs.History.{IsLawful, up_to}
use Rattle.root_laws.specs.prov_entry.declared.entry.Header.{Header}
use Rattle.root_laws.specs.prov_entry.Spelling.{IsHeader, IsBody}
use Rattle.root_laws.specs.Naming.{header_of, body_of}
use Rattle.root_laws.specs.Root.{digest_at, root_of}
use Rattle.root_laws.specs.TypedLedger.{IsTypedRow}
use Rattle.skip_links.specs.Paths.{path}
use Rattle.root_laws.proofs.Lists.{all_weaker, all_append, all_reverse, all_map}
use Rattle.root_laws.proofs.Headers.{kept_rows}
use Rattle.root_laws.proofs.Parts.{lawful_up_to, rows_up_to as typed_up_to}
use Rattle.root_laws.proofs.Spellings.{map_short, header_lawful, body_lawful}
use Rattle.proof_codec.specs.Spelling.{IsProof}
use Rattle.proof_checks.specs.Making.{header_in, path_headers, made_of, made_proof}
use Rattle.proof_checks.proofs.MadeThere.{made_is_made, made_is_there}
use Rattle.root_laws.specs.Ranges.{is_between, rows_between}
use Rattle.root_laws.specs.RangeSteps.{all_but_one}
use Rattle.root_laws.proofs.FewRangeSteps.{steps_of_rows}
use Rattle.proof_checks.specs.RangeMaking.{rows_back, range_headers, made_range}
use Rattle.proof_checks.specs.RangeMaking.{MadeRangesAreProofs}
use Rattle.proof_checks.proofs.RangeMade.{asked, goes, lookup_is}

-- ---- the number of headers

rest_of : (rows : List Row) (n : ℕ) → length rows ≡ suc n → length (drop 1 rows) ≡ n
rest_of [] n e = absurd (omega (arith, e))
rest_of (row ∷ rows) n e = omega (arith, e)

but_one : (rows : List Row) → length (drop 1 (reverse rows)) ≡ all_but_one rows
but_one [] = refl
but_one (row ∷ rows) = rest_of (reverse (row ∷ rows)) (length rows) (length-reverse (row ∷ rows))

few_headers : (rows : List Row) (key : List ℕ) (from to : ℕ) → IsLawful rows
    → length (range_headers rows key from to) < 2 ^ 32
few_headers rows key from to lawful =
    let others : List Row = drop 1 (rows_back rows key from to) in
    let short = map_short (header_in rows key) (path rows key to) in
    let steps = steps_of_rows rows key from to lawful in
    omega (
      arith,
      short,
      steps,
      lawful.few,
      but_one (rows_between rows key from to),
      length-map others (header_of rows),
      length-append (path_headers rows key to) (map (header_of rows) others),
    )

-- ---- headers and bodies

all_drop : (P : Row → Type 0) (rows : List Row) → AllByRecursion P rows
    → AllByRecursion P (drop 1 rows)
all_drop P [] all = tt
all_drop P (row ∷ rows) all = all.1

module _ (rows : List Row) (lawful : IsLawful rows) (are : All IsTypedRow rows) (key : List ℕ)
    (from to : ℕ) where
  back_there : AllByRecursion (Contains rows) (rows_back rows key from to)
  back_there =
      all_reverse (Contains rows) (rows_between rows key from to)
      (kept_rows rows (is_between key from to))

  further_lawful : AllByRecursion IsHeader
      (map (header_of rows) (drop 1 (rows_back rows key from to)))
  further_lawful =
      all_map IsHeader (header_of rows) (drop 1 (rows_back rows key from to))
      (all_weaker (Contains rows) (λ (row : Row). IsHeader (header_of rows row))
      (header_lawful rows lawful are) (drop 1 (rows_back rows key from to))
      (all_drop (Contains rows) (rows_back rows key from to) back_there))

  bodies_lawful : AllByRecursion IsBody (map (body_of rows) (rows_back rows key from to))
  bodies_lawful =
      all_map IsBody (body_of rows) (rows_back rows key from to)
      (all_weaker (Contains rows) (λ (row : Row). IsBody (body_of rows row))
      (body_lawful rows lawful are) (rows_back rows key from to) back_there)

pub made_range_is_proof : MadeRangesAreProofs
unfolding made_range made_proof
made_range_is_proof rows digests block key from to ledger within is_key in_order low =
    let own : List Row = up_to rows block in
    let digest : List ℕ = digest_at digests block in
    let lawful : IsLawful own = lawful_up_to rows block ledger.history.lawful in
    let are : All IsTypedRow own = typed_up_to rows block ledger.history.typed in
    let lookup : IsProof (made_of own block digest (asked key to)) =
    (made_is_there rows digests block (asked key to) ledger within is_key low).0 in
    let headers = goes (root_of rows digests block) own block digest key from to lawful are
    (lookup_is rows digests block key to ledger within is_key low)
    (made_is_made rows digests block (asked key to) ledger.history is_key).0 in
    let back : List Row = rows_back own key from to in
    record {
      key_is_key = is_key;
      in_order = in_order;
      leaf_proof_is = lookup.leaf_proof_is;
      few_headers = few_headers own key from to lawful;
      headers_are_headers =
          all_append IsHeader (path_headers own key to) (map (header_of own) (drop 1 back))
          lookup.headers_are_headers (further_lawful own lawful are key from to);
      bodies_counted =
          length-map back (body_of own) ∙ sym (length-map back (header_of own))
          ∙ sym (ap (λ (hs : List Header). length hs) headers.within);
      bodies_are_bodies = bodies_lawful own lawful are key from to;
    }
