-- The digest by which a history names a version shows its header, and the digest in the header shows
-- its body, unless two different texts have one digest.
use Rattle.std.specs.Prelude.{◌≡◌, ◌⊎◌, List, [], ◌∷◌, Contains}
use Rattle.sha2.specs.Sha256.{sha256}
use Rattle.lc_base.specs.declared.row.Row.{Row}
use Rattle.proof_codec.specs.merkle_tree.Clash.{Clash}
use Rattle.root_laws.specs.prov_entry.declared.entry.Header.{Header}
use Rattle.root_laws.specs.prov_entry.declared.entry.Body.{Body}
use Rattle.root_laws.specs.prov_entry.Spelling.{IsHeader, IsBody, header_text, body_text}
use Rattle.root_laws.specs.Naming.{header_of, body_of}
use Rattle.root_laws.specs.NamingLaws.{digest_of_row}
use Rattle.root_laws.specs.TypedLedger.{IsTypedHistory}

-- A header whose text has the digest by which a row of a typed history is named is the row's header;
-- or the texts of the two headers differ and have one digest.
abbrev pub NamedHeadersAreOfRows : Type 0
NamedHeadersAreOfRows =
    (rows : List Row) (row : Row) (header : Header) → IsTypedHistory rows → Contains rows row → IsHeader header
    → sha256 (header_text header) ≡ (digest_of_row rows row).0
    → (header ≡ header_of rows row) ⊎ Clash (header_text header ∷ []) (header_text (header_of rows row) ∷ [])

-- A body whose text has the digest in the header of a row of a typed history is the row's body; or
-- the texts of the two bodies differ and have one digest.
abbrev pub NamedBodiesAreOfRows : Type 0
NamedBodiesAreOfRows =
    (rows : List Row) (row : Row) (body : Body) → IsTypedHistory rows → Contains rows row → IsBody body
    → sha256 (body_text body) ≡ (header_of rows row).body.0
    → (body ≡ body_of rows row) ⊎ Clash (body_text body ∷ []) (body_text (body_of rows row) ∷ [])
