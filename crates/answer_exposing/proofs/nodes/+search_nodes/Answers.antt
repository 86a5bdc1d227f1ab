use Rattle.std.proofs.Common.{ℕ, List, ◌<◌, ◌∙◌, sym, ap, subst, arith}
use Rattle.std.specs.Prelude.{OnOk}
use Rattle.std.proofs.lemmas.List.{length-drop}
use Rattle.std.proofs.lemmas.Result.{on_ok_weaker}
use Rattle.sha2.specs.Sha256.{sha256}
use Rattle.merkle_tree.specs.Tree.{leaf_text}
use Rattle.merkle_tree.proofs.Steps.{one_leaf}
use Rattle.text_clashes.specs.Searching.{Searches}
use Rattle.text_clashes.proofs.Searched.{searches_none}
use Rattle.answer_exposing.proofs.TreeTexts.{nodes_none, nodes_low, parts_added}
use Rattle.answer_exposing.proofs.nodes.+search_nodes.Goals as goal

pub returns-then-height-eq0-clause-hash : goal.returns-then-height-eq0-clause-hash
returns-then-height-eq0-clause-hash t c =
    c.leaf_hash.ensures ∙ ap (λ (bytes : List ℕ). sha256 (leaf_text bytes)) c.as_bytes.ensures
    ∙ sym (one_leaf leaf_text c.args.height _ c.args.leaves.now (omega arith) c.requires.some
    c.index-leaves-0.is)

pub returns-then-height-eq0-clause-texts : goal.returns-then-height-eq0-clause-texts
returns-then-height-eq0-clause-texts t c =
    subst (λ (texts : List (List ℕ)). Searches texts c.args.search.now c.args.search.now)
    (sym (nodes_none leaf_text c.args.height c.args.leaves.now (omega arith)))
    (searches_none c.args.search.now)

pub search_nodes-requires-then-half-leaves : goal.search_nodes-requires-then-half-leaves
search_nodes-requires-then-half-leaves t c =
    let len = rw (← c.split_at.ensures.back) at
    (length-drop c.half_of-half.result c.args.leaves.now) in
    (omega arith, (omega (arith, len, c.if-half-leaves.true), (omega arith)))

pub returns-in_ok-right-clause-texts : goal.returns-in_ok-right-clause-texts
returns-in_ok-right-clause-texts t c =
    let pos : 0 < c.args.height = omega arith in
    on_ok_weaker c.search_parts.result (λ e.
    parts_added c.args.height c.half_of-half.result c.args.leaves.now c.split_at.result.0.now
    c.split_at.result.1.now c.in_ok-left.left.0 c.in_ok-right.right.0
    pos c.half_of-half.ensures c.if-half-leaves.true c.split_at.ensures.front
    c.split_at.ensures.back c.in_ok-left.ensures.hash c.in_ok-right.ensures.hash
    c.args.search.now c.search_nodes.new.search c.search_nodes-then-half-leaves.new.search
    c.search_parts.new.search c.in_ok-left.ensures.texts c.in_ok-right.ensures.texts e)
    c.search_parts.ensures.texts

pub returns-else-half-leaves-clause-texts : goal.returns-else-half-leaves-clause-texts
returns-else-half-leaves-clause-texts t c =
    let pos : 0 < c.args.height = omega arith in
    subst (λ (texts : List (List ℕ)). OnOk c.search_nodes-else-half-leaves.result
    (Searches texts c.args.search.now c.search_nodes-else-half-leaves.new.search))
    (sym (nodes_low leaf_text c.args.height c.half_of-half.result c.args.leaves.now pos
    c.half_of-half.ensures (omega (arith, c.if-half-leaves.false))))
    c.search_nodes-else-half-leaves.ensures.texts
