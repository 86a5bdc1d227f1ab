use Rattle.std.proofs.Common.{◌∷◌, [], ℕ, List, subst}
use Rattle.text_clashes.specs.Searching.{Searches}
use Rattle.answer_exposing.proofs.nodes.search_parts.Goals as goal

pub returns-clause-texts : goal.returns-clause-texts
returns-clause-texts c =
    subst (λ (text : List ℕ). Searches (text ∷ []) c.args.search.now c.add.new.self)
    c.in_ok-node_text.ensures c.add.ensures
