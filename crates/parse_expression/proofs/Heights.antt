-- Heights of lists of expressions: the greatest of all.
use Rattle.std.proofs.Common.{◌≡◌, max, List, [], ◌∷◌, ◌++◌, map, ap, ◌∙◌, arith}
use Rattle.std.proofs.lemmas.List.{map_push}
use Rattle.contract_tree.specs.declared.tree.Expr.{Expr}
use Rattle.contract_tree.specs.Tree.{Tree, tree_of, trees, height, heights}

heights_after : (xs : List Tree) (x : Tree) → heights (trees (xs ++ x ∷ [])) ≡ max (heights (trees xs)) (height x)
heights_after [] x = omega arith
heights_after (y ∷ xs) x = omega (arith, heights_after xs x)

-- one more expression
pub heights_push : (xs : List Expr) (x : Expr) → heights (trees (map tree_of (xs ++ x ∷ []))) ≡ max (heights (trees (map tree_of xs))) (height (tree_of x))
heights_push xs x = ap (λ l. heights (trees l)) (map_push tree_of xs x) ∙ heights_after (map tree_of xs) (tree_of x)
