-- What is written one after another is the spelling.
use Rattle.std.proofs.Common.{◌≡◌, ◌∙◌, ℕ, ◌+◌, ◌<◌, List, [], ◌∷◌, ◌++◌, length, Option, Some}
use Rattle.std.proofs.Common.{slice_get, refl, sym, ap, arith, append_assoc}
use Rattle.std.specs.List.{concat, flat_map}
use Rattle.std.proofs.lemmas.List.{append-nil, length-append}
use Rattle.std.proofs.lemmas.List.Concat.{flat_map-append}
use Rattle.std.proofs.lemmas.Option.{get_or_from_slice_get}
use Rattle.byte_fields.proofs.Laws.{concat-append}
use Rattle.lc_base.specs.declared.row.Row.{Row}
use Rattle.prov_entry.specs.declared.entry.Body.{Body}
use Rattle.prov_entry.specs.declared.entry.Header.{Header}
use Rattle.prov_entry.specs.Spelling.{IsHeader, IsBody, header_fields, body_fields}
use Rattle.root_laws.specs.Naming.{header_of, body_of}
use Rattle.root_laws.specs.TypedLedger.{IsTypedHistory}
use Rattle.root_laws.proofs.Lists.{all_append}
use Rattle.root_laws.proofs.Spellings.{header_lawful}
use Rattle.proof_codec.specs.Spelling.{fields_if_any}
use Rattle.range_proof.specs.Parts.{header_fields_at, body_fields_at, AddsBodies}
use Rattle.range_proof.proofs.Found.{row_there}

-- ---- one header

-- The header of a row can be spelled.
pub is_header : (rows : List Row) (index : ℕ) (header : Header) → IsTypedHistory rows
    → index < length rows
    → ((row : Row) → slice_get rows index ≡ Some row → header ≡ header_of rows row)
    → IsHeader header
is_header rows index header typed low is =
    let found = row_there rows index low in
    let row = found.0 in
    rw (is row found.1) (header_lawful rows typed.lawful typed.typed row
    (index, low, get_or_from_slice_get rows index row row found.1))

pub header_put : (rows : List Row) (index : ℕ) (header : Header) (old bytes new : List ℕ)
    → index < length rows
    → ((row : Row) → slice_get rows index ≡ Some row → header ≡ header_of rows row)
    → bytes ≡ concat (header_fields header) → new ≡ old ++ bytes
    → new ≡ old ++ concat (header_fields_at rows index)
header_put rows index header old bytes new low is spelled put =
    let found = row_there rows index low in
    put ∙ ap (λ (t : List ℕ). old ++ t)
    (spelled ∙ ap (λ (h : Header). concat (header_fields h)) (is found.0 found.1)
    ∙ sym (ap (λ (o : Option Row).
    concat (fields_if_any (λ (row : Row). header_fields (header_of rows row)) o)) found.1))

-- ---- bodies

pub body_put : (rows : List Row) (index : ℕ) (body : Body) (old bytes new : List ℕ)
    → index < length rows
    → ((row : Row) → slice_get rows index ≡ Some row → body ≡ body_of rows row)
    → bytes ≡ concat (body_fields body) → new ≡ old ++ bytes
    → new ≡ old ++ concat (body_fields_at rows index)
body_put rows index body old bytes new low is spelled put =
    let found = row_there rows index low in
    put ∙ ap (λ (t : List ℕ). old ++ t)
    (spelled ∙ ap (λ (b : Body). concat (body_fields b)) (is found.0 found.1)
    ∙ sym (ap (λ (o : Option Row).
    concat (fields_if_any (λ (row : Row). body_fields (body_of rows row)) o)) found.1))

pub one_body : (body : Body) (old bytes new : List ℕ) → IsBody body
    → bytes ≡ concat (body_fields body) → new ≡ old ++ bytes → AddsBodies 1 old new
one_body body old bytes new is spelled put = (
  body ∷ [],
  refl,
  (is, tt),
  put ∙ ap (λ (t : List ℕ). old ++ t)
      (spelled ∙ ap concat (sym (append-nil (body_fields body)))),
)

pub no_body : (old : List ℕ) → AddsBodies 0 old old
no_body old = ([], refl, tt, sym (append-nil old))

pub more_bodies : (m n : ℕ) (old with_some new : List ℕ) → AddsBodies m old with_some
    → AddsBodies n with_some new → AddsBodies (m + n) old new
more_bodies m n old with_some new (bodies, long, are, is) (others, long', are', is') = (
  bodies ++ others,
  length-append bodies others ∙ omega (arith, long, long'),
  all_append IsBody bodies others are are',
  is' ∙ ap (λ (t : List ℕ). t ++ concat (flat_map body_fields others)) is
      ∙ append_assoc old (concat (flat_map body_fields bodies))
      (concat (flat_map body_fields others))
      ∙ ap (λ (t : List ℕ). old ++ t)
      (sym (concat-append (flat_map body_fields bodies) (flat_map body_fields others))
      ∙ ap concat (sym (flat_map-append body_fields bodies others))),
)
