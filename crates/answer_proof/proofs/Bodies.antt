-- The bytes of a row's body are read as that body.
use Rattle.std.proofs.Common.{◌≡◌, ◌∙◌, ℕ, List, slice_get, Some, ap, subst}
use Rattle.std.specs.List.{concat}
use Rattle.std.proofs.lemmas.Option.{slice_get_within, get_or_from_slice_get}
use Rattle.lc_base.specs.declared.row.Row.{Row}
use Rattle.prov_entry.specs.declared.entry.Body.{Body}
use Rattle.prov_entry.specs.Spelling.{IsBody, body_fields}
use Rattle.entry_views.specs.Reading.{body_at}
use Rattle.entry_views.specs.RowBodies.{body_read}
use Rattle.entry_views.proofs.Bodies.{body_back}
use Rattle.root_laws.specs.Naming.{body_of}
use Rattle.root_laws.specs.TypedLedger.{IsTypedHistory}
use Rattle.root_laws.proofs.Spellings.{bodies_spelled}

pub row_body : (rows : List Row) (index : ℕ) (row : Row) (bytes : List ℕ) (body : Body) → IsTypedHistory rows → slice_get rows index ≡ Some row
    → bytes ≡ concat (body_fields (body_of rows row)) → body ≡ body_read (body_at bytes) → body ≡ body_of rows row
row_body rows index row bytes body history at spelled read =
    let own = bodies_spelled rows history index row (slice_get_within rows index row at) in
    let lawful : IsBody (body_of rows row) = subst (λ (r : Row). IsBody (body_of rows r)) (get_or_from_slice_get rows index row row at) own in
    read ∙ ap (λ (b : List ℕ). body_read (body_at b)) spelled ∙ body_back (body_of rows row) lawful
