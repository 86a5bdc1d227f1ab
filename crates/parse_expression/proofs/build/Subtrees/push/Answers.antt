use Rattle.std.proofs.Common.{◌≡◌, [], ◌∷◌, ◌++◌, map, sym, subst}
use Rattle.contract_tree.specs.Tree.{tree_of, trees, heights}
use Rattle.parse_expression.proofs.Heights.{heights_push}
use Rattle.parse_expression.proofs.build.Subtrees.push.Goals as goal

-- the greatest height after one more expression
pub invariant_of-self-2-clause-height_is : goal.invariant_of-self-2-clause-height_is
invariant_of-self-2-clause-height_is c =
    let old = c.args.self.now.items.items in
    let long = heights_push old c.args.item.expr in
    let items : c.push.new.self.items ≡ old ++ c.args.item.expr ∷ [] = c.in_ok-push.ensures.items in
    let before : c.max-height.result ≡ heights (trees (map tree_of (old ++ c.args.item.expr ∷ []))) = cc (long, c.args.self.now.height_is, c.args.item.height_is, c.max-height.ensures) in
    subst (λ l. c.max-height.result ≡ heights (trees (map tree_of l))) (sym items) before
