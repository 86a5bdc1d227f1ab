use Rattle.std.proofs.Common.{◌∷◌, [], ℕ, List, subst}
use Rattle.std.specs.List.{flat_map}
use Rattle.std.proofs.lemmas.Result.{on_ok_weaker}
use Rattle.prov_entry.specs.ForwardLists.{start_text}
use Rattle.proof_checks.specs.LedgerTexts.{texts_of_row_uses}
use Rattle.text_clashes.specs.Searching.{Searches}
use Rattle.text_clashes.proofs.Searched.{searches_both}
use Rattle.answer_exposing.proofs.ledger.search_lists.Goals as goal

pub returns : goal.returns
returns c =
    let rows = c.args.lineage.now.rows in
    let old = c.args.search.now in
    let one = c.add.new.self in
    on_ok_weaker c.search_all_uses.result (λ uses.
    searches_both (start_text ∷ []) (flat_map (texts_of_row_uses rows) rows) old one
    c.search_all_uses.new.search
    (subst (λ (text : List ℕ). Searches (text ∷ []) old one) c.in_ok-tagged_text.ensures
    c.add.ensures) uses)
    c.search_all_uses.ensures
