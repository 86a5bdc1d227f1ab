-- The headers and the bodies of a lineage's rows can be spelled, so both have a text.
use Rattle.std.proofs.Common.{◌≡◌, ℕ, ◌<◌, ◌≤◌, List, length, slice_get, Some, sym, subst}
use Rattle.std.proofs.lemmas.Option.{get_or_from_slice_get}
use Rattle.lc_base.specs.declared.row.Row.{Row}
use Rattle.prov_entry.specs.declared.limits.TheConstants.{MAX_LINKS}
use Rattle.prov_entry.specs.declared.entry.Header.{Header}
use Rattle.prov_entry.specs.Spelling.{IsHeader}
use Rattle.root_laws.specs.Naming.{header_of}
use Rattle.root_laws.specs.TypedLedger.{IsTypedHistory}
use Rattle.root_laws.proofs.Spellings.{headers_spelled}
use Rattle.answer_exposing.proofs.OneMore.{item_at}

pub few_links : (rows : List Row) (index : ℕ) (header : Header) → IsTypedHistory rows
    → index < length rows → ((row : Row) → slice_get rows index ≡ Some row
    → header ≡ header_of rows row)
    → length header.links ≤ MAX_LINKS
few_links rows index header history low are =
    let row = item_at rows index low in
    let lawful : IsHeader (header_of rows row.0) = subst (λ (r : Row). IsHeader (header_of rows r))
    (get_or_from_slice_get rows index row.0 row.0 row.1)
    (headers_spelled rows history index row.0 low) in
    subst (λ (h : Header). length h.links ≤ MAX_LINKS) (sym (are row.0 row.1)) lawful.few_links
