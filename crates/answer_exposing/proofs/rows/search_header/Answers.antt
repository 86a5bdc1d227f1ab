use Rattle.std.proofs.Common.{◌∙◌, ◌∷◌, [], ℕ, List, ap, subst}
use Rattle.prov_entry.specs.declared.limits.TheConstants.{HEADER}
use Rattle.text_clashes.specs.Searching.{Searches}
use Rattle.answer_exposing.proofs.rows.search_header.Goals as goal

pub returns : goal.returns
returns c =
    subst (λ (text : List ℕ). Searches (text ∷ []) c.args.search.now c.add.new.self)
    (c.in_ok-tagged_text.ensures ∙ ap (λ (bytes : List ℕ). HEADER ∷ bytes)
    (c.as_bytes.ensures ∙ c.in_ok-bytes.ensures.spelled)) c.add.ensures
