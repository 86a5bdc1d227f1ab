use Rattle.std.proofs.Common.{◌≡◌, ◌∙◌, ℕ, List, length, ap, arith}
use Rattle.std.proofs.lemmas.List.{length-map}
use Rattle.prov_entry.specs.Spelling.{leaf_bytes}
use Rattle.answer_exposing.proofs.TreeTexts.{tree_added}
use Rattle.answer_exposing.proofs.ledger.search_tree.Goals as goal

pub search_nodes-requires-clause-some : goal.search_nodes-requires-clause-some
search_nodes-requires-clause-some c =
    let len : length c.as_slice-2.result.now ≡ length c.args.tree.now =
    ap (λ (list : List (List ℕ)). length list) (c.as_slice-2.ensures ∙ c.in_ok-leaves.ensures)
    ∙ length-map c.args.tree.now leaf_bytes in
    omega (arith, len, c.count-count.ensures.count, c.count-count.ensures.some)

pub returns : goal.returns
returns c =
    tree_added c.args.tree.now c.args.block c.count-count.result c.args.block_digest.now.0
    c.in_ok-top.top.0 c.in_ok-root_text.field-0 c.as_slice.result.now c.as_slice-2.result.now
    c.args.search.now c.search_leaves.new.search c.search_nodes.new.search c.add.new.self
    (c.as_slice.ensures ∙ c.in_ok-leaves.ensures) (c.as_slice-2.ensures ∙ c.in_ok-leaves.ensures)
    c.count-count.ensures.count
    c.in_ok-top.ensures.hash c.in_ok-root_text.ensures c.in_ok-search_leaves.ensures
    c.in_ok-top.ensures.texts c.add.ensures
