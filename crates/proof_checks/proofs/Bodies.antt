-- The bodies of an accepted range proof are those of the rows whose headers it has.
use Rattle.std.proofs.Common.{◌≡◌, ℕ, suc, List, [], ◌∷◌, length, map, None, refl, ap₂, arith}
use Rattle.std.specs.List.{All, AllByRecursion, Contains, zip}
use Rattle.lc_base.specs.declared.row.Row.{Row}
use Rattle.lc_base.specs.declared.row.Version.{Version}
use Rattle.lc_base.specs.History.{IsLawful}
use Rattle.proof_codec.specs.merkle_tree.Clash.{Agree}
use Rattle.root_laws.specs.prov_entry.declared.entry.Body.{Body}
use Rattle.root_laws.specs.prov_entry.Spelling.{IsBody, body_text}
use Rattle.root_laws.specs.Naming.{header_of, body_of}
use Rattle.root_laws.specs.TypedLedger.{IsTypedRow}
use Rattle.proof_checks.proofs.Told.{body_told}
use Rattle.root_laws.specs.Ranges.{as_version}
use Rattle.proof_checks.specs.RangeChecks.{body_fault, bodies_fault, version_shown}
use Rattle.proof_checks.proofs.RangePassing.{neither, body_passed}

module _ (rows : List Row) (lawful : IsLawful rows) (are : All IsTypedRow rows)
    (given own : List (List ℕ)) (agree : Agree given own)
    (own_bodies : (row : Row) → Contains rows row
    → Contains own (body_text (body_of rows row))) where
  with_body : Row → Body → Version
  with_body row body = record { block = row.block; tx = row.tx; value = body.value }

  pub versions_are : (kept : List Row) (bodies : List Body) (item : ℕ)
      → AllByRecursion (Contains rows) kept → length bodies ≡ length (map (header_of rows) kept)
      → AllByRecursion IsBody bodies
      → ((text : List ℕ) → Contains (map body_text bodies) text → Contains given text)
      → bodies_fault item (map (header_of rows) kept) bodies ≡ None
      → map version_shown (zip (map (header_of rows) kept) bodies) ≡ map as_version kept
  unfolding with_body
  versions_are [] bodies item has counted all there e = refl
  versions_are (row ∷ kept) [] item has counted all there e = absurd (omega (arith, counted))
  versions_are (row ∷ kept) (body ∷ bodies) item has counted all there e =
      let faults = neither (body_fault item (header_of rows row) body)
      (bodies_fault (suc item) (map (header_of rows) kept) bodies) e in
      let is : body ≡ body_of rows row =
      body_told rows lawful are given own agree row has.0 body all.0
      (there (body_text body) (0, omega arith, refl)) (own_bodies row has.0)
      (body_passed item (header_of rows row) body faults.0) in
      ap₂ (λ (b : Body) (vs : List Version). with_body row b ∷ vs) is
      (versions_are kept bodies (suc item) has.1 (omega (arith, counted)) all.1
      (λ text has'. there text (suc has'.0, omega (arith, has'.1), has'.2)) faults.1)
