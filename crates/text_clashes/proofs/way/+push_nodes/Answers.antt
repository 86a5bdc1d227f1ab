use Rattle.std.proofs.Common.{◌++◌, ◌∷◌, [], ◌-◌, ◌∙◌, List, ℕ, sym, ap, arith, append-nil, append_assoc}
use Rattle.std.proofs.lemmas.Result.{IfOk-weaker, on_ok_weaker}
use Rattle.merkle_tree.specs.Tree.{Climb, one_higher, climb_texts_to, text_on_left, text_on_right}
use Rattle.merkle_tree.specs.Climbing.{start_at}
use Rattle.merkle_tree.proofs.Steps.{climb_to_right}
use Rattle.text_clashes.proofs.Ways.{texts_none, texts_to_left, texts_to_right}
use Rattle.text_clashes.proofs.way.+push_nodes.Goals as goal

pub returns-then-height-eq0-clause-texts : goal.returns-then-height-eq0-clause-texts
returns-then-height-eq0-clause-texts t c =
    sym (ap (λ (more : List (List ℕ)). c.args.texts.now ++ more) (texts_none c.args.height c.args.index c.args.count (start_at c.args.leaf c.args.path.now) (omega arith)) ∙ append-nil c.args.texts.now)

pub returns-in-Ok-clause-texts : goal.returns-in-Ok-clause-texts
returns-in-Ok-clause-texts t c =
    let all : List (List ℕ) = c.args.texts.now in
    let begun : Climb = start_at c.args.leaf c.args.path.now in
    let half : ℕ = c.half_of-half.result in
    let part : List (List ℕ) = climb_texts_to (c.args.height - 1) c.args.index half begun in
    on_ok_weaker c.push_above.result (λ e.
    e ∙ ap (λ (texts : List (List ℕ)). texts ++ text_on_left (start_at c.in-Ok.hash c.in-Ok.rest.now) ∷ []) c.in-Ok.ensures.texts
    ∙ append_assoc all part (text_on_left (start_at c.in-Ok.hash c.in-Ok.rest.now) ∷ [])
    ∙ ap (λ (climb : Climb). all ++ (part ++ text_on_left climb ∷ [])) (sym c.in-Ok.ensures.climbed)
    ∙ ap (λ (more : List (List ℕ)). all ++ more) (sym (texts_to_left c.args.height half c.args.index c.args.count begun (omega arith) c.half_of-half.ensures c.if-half-count.true c.if-index-half.true)))
    c.push_above.ensures.texts

pub returns-in-Ok-push_nodes-clause-climbed : goal.returns-in-Ok-push_nodes-clause-climbed
returns-in-Ok-push_nodes-clause-climbed t c =
    IfOk-weaker c.push_above-in-Ok-push_nodes.result _ _ (λ top e.
    climb_to_right c.args.height c.half_of-half.result c.args.index c.args.count (start_at c.args.leaf c.args.path.now) (omega arith) c.half_of-half.ensures c.if-half-count.true c.if-index-half.false
    ∙ ap (λ (climb : Climb). one_higher climb (text_on_right climb)) c.in-Ok-push_nodes.ensures.climbed ∙ sym e)
    c.push_above-in-Ok-push_nodes.ensures.climbed

pub returns-in-Ok-push_nodes-clause-texts : goal.returns-in-Ok-push_nodes-clause-texts
returns-in-Ok-push_nodes-clause-texts t c =
    let all : List (List ℕ) = c.args.texts.now in
    let begun : Climb = start_at c.args.leaf c.args.path.now in
    let half : ℕ = c.half_of-half.result in
    let part : List (List ℕ) = climb_texts_to (c.args.height - 1) (c.args.index - half) (c.args.count - half) begun in
    on_ok_weaker c.push_above-in-Ok-push_nodes.result (λ e.
    e ∙ ap (λ (texts : List (List ℕ)). texts ++ text_on_right (start_at c.in-Ok-push_nodes.hash c.in-Ok-push_nodes.rest.now) ∷ []) c.in-Ok-push_nodes.ensures.texts
    ∙ append_assoc all part (text_on_right (start_at c.in-Ok-push_nodes.hash c.in-Ok-push_nodes.rest.now) ∷ [])
    ∙ ap (λ (climb : Climb). all ++ (part ++ text_on_right climb ∷ [])) (sym c.in-Ok-push_nodes.ensures.climbed)
    ∙ ap (λ (more : List (List ℕ)). all ++ more) (sym (texts_to_right c.args.height half c.args.index c.args.count begun (omega arith) c.half_of-half.ensures c.if-half-count.true c.if-index-half.false)))
    c.push_above-in-Ok-push_nodes.ensures.texts
