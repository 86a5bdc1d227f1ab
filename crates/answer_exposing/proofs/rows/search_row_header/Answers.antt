use Rattle.std.proofs.Common.{◌∷◌, [], subst}
use Rattle.std.specs.Prelude.{OnOk}
use Rattle.prov_entry.specs.declared.entry.Header.{Header}
use Rattle.prov_entry.specs.Spelling.{header_text}
use Rattle.text_clashes.specs.Searching.{Searches}
use Rattle.answer_exposing.proofs.Spelled.{few_links}
use Rattle.answer_exposing.proofs.rows.search_row_header.Goals as goal

pub search_header-requires : goal.search_header-requires
search_header-requires c = few_links c.args.lineage.now.rows c.args.index c.in_ok-header.header
    c.row_count-typed.ensures.typed.history c.requires c.in_ok-header.ensures.row

pub returns : goal.returns
returns c row at =
    subst (λ (header : Header). OnOk c.search_header.result
    (Searches (header_text header ∷ []) c.args.search.now c.search_header.new.search))
    (c.in_ok-header.ensures.row row at) c.search_header.ensures
