-- A header or a body that has the digest of a row's is the row's, unless two texts clash.
use Rattle.std.proofs.Common.{◌≡◌, ℕ, List, [], ◌∷◌, ◌++◌, drop, ap, inl, inr}
use Rattle.std.specs.List.{All, Contains}
use Rattle.sha2.specs.Sha256.{sha256}
use Rattle.lc_base.specs.declared.row.Row.{Row}
use Rattle.lc_base.specs.History.{IsLawful}
use Rattle.proof_codec.specs.merkle_tree.Clash.{Agree}
use Rattle.proof_codec.proofs.merkle_tree.Agreeing.{same_or_clash}
use Rattle.root_laws.specs.prov_entry.declared.entry.Header.{Header}
use Rattle.root_laws.specs.prov_entry.declared.entry.Body.{Body}
use Rattle.root_laws.specs.prov_entry.Spelling.{IsHeader, IsBody, header_text, body_text}
use Rattle.proof_codec.specs.entry_views.Headers.{header_field}
use Rattle.proof_codec.specs.entry_views.Bodies.{body_field}
use Rattle.proof_codec.proofs.entry_views.Determined.{determined}
use Rattle.root_laws.specs.Naming.{header_of, body_of}
use Rattle.root_laws.specs.TypedLedger.{IsTypedRow}
use Rattle.root_laws.proofs.Spellings.{header_lawful, body_lawful}
use Rattle.proof_checks.specs.Named.{NamedHeadersAreOfRows, NamedBodiesAreOfRows}
use Rattle.proof_checks.proofs.Parts.{alone}

module _ (rows : List Row) (lawful : IsLawful rows) (are : All IsTypedRow rows) (row : Row) (has : Contains rows row) where
  -- Equal texts are of equal headers, and of equal bodies.
  header_is : (header : Header) → IsHeader header
      → header_text header ≡ header_text (header_of rows row) → header ≡ header_of rows row
  header_is header is same = (determined header_field header (header_of rows row) [] [] is (header_lawful rows lawful are row has) (ap (λ (t : List ℕ). drop 1 t ++ []) same)).0

  body_is : (body : Body) → IsBody body → body_text body ≡ body_text (body_of rows row)
      → body ≡ body_of rows row
  body_is body is same = (determined body_field body (body_of rows row) [] [] is (body_lawful rows lawful are row has) (ap (λ (t : List ℕ). drop 1 t ++ []) same)).0

-- ---- among texts that agree

module _ (rows : List Row) (lawful : IsLawful rows) (are : All IsTypedRow rows) (given own : List (List ℕ)) (agree : Agree given own) (row : Row) (has : Contains rows row) where
  pub header_told : (header : Header) → IsHeader header → Contains given (header_text header)
      → Contains own (header_text (header_of rows row))
      → sha256 (header_text header) ≡ sha256 (header_text (header_of rows row))
      → header ≡ header_of rows row
  header_told header is in_given in_own e = header_is rows lawful are row has header is (agree.same (header_text header) (header_text (header_of rows row)) in_given in_own e)

  pub body_told : (body : Body) → IsBody body → Contains given (body_text body)
      → Contains own (body_text (body_of rows row))
      → sha256 (body_text body) ≡ sha256 (body_text (body_of rows row)) → body ≡ body_of rows row
  body_told body is in_given in_own e = body_is rows lawful are row has body is (agree.same (body_text body) (body_text (body_of rows row)) in_given in_own e)

-- ---- of two texts

pub named_header : NamedHeadersAreOfRows
named_header rows row header history has is e =
    elim (same_or_clash (header_text header ∷ []) (header_text (header_of rows row) ∷ []) (header_text header) (header_text (header_of rows row)) (alone (header_text header)) (alone (header_text (header_of rows row))) e) [
      | inl same ↦ inl (header_is rows history.lawful history.typed row has header is same)
      | inr clash ↦ inr clash
    ]

pub named_body : NamedBodiesAreOfRows
named_body rows row body history has is e =
    elim (same_or_clash (body_text body ∷ []) (body_text (body_of rows row) ∷ []) (body_text body) (body_text (body_of rows row)) (alone (body_text body)) (alone (body_text (body_of rows row))) e) [
      | inl same ↦ inl (body_is rows history.lawful history.typed row has body is same)
      | inr clash ↦ inr clash
    ]
