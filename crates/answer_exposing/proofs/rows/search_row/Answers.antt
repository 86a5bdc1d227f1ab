use Rattle.std.proofs.Common.{◌∙◌, ◌∷◌, [], ℕ, List, ap, subst}
use Rattle.prov_entry.specs.Spelling.{header_text, body_text}
use Rattle.prov_entry.specs.declared.limits.TheConstants.{BODY}
use Rattle.root_laws.specs.Naming.{header_of, body_of}
use Rattle.text_clashes.specs.Searching.{Searches}
use Rattle.text_clashes.proofs.Searched.{searches_both}
use Rattle.answer_exposing.proofs.rows.search_row.Goals as goal

pub returns-clause-texts : goal.returns-clause-texts
returns-clause-texts g c told row at =
    let rows = c.args.lineage.now.rows in
    let old = c.args.search.now in
    let one = c.search_row_header.new.search in
    let new = c.add.new.self in
    searches_both (header_text (header_of rows row) ∷ []) (body_text (body_of rows row) ∷ []) old
    one new (c.in_ok-search_row_header.ensures row at)
    (subst (λ (text : List ℕ). Searches (text ∷ []) one new)
    (c.in_ok-tagged_text.ensures ∙ ap (λ (bytes : List ℕ). BODY ∷ bytes)
    (c.deref.ensures.value ∙ c.in_ok-bytes.ensures.body row at told)) c.add.ensures)
