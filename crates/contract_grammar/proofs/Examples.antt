-- Examples of expressions that are read: which operators bind tighter, and how they group.
use Rattle.std.proofs.Common.{◌≡◌, ℕ, ◌+◌, pos, codes, List, [], ◌∷◌, Ok, Err, refl}
use Rattle.contract_tokens.specs.declared.token.Token.{Token}
use Rattle.contract_tokens.specs.declared.token.Mark.TheVariants as m
use Rattle.contract_tokens.specs.declared.token.Word.{Word}
use Rattle.contract_tokens.specs.declared.token.Word.TheVariants as w
use Rattle.contract_tree.specs.Tree.{Tree, Int, Call, Prefix, Binary, trees}
use Rattle.contract_tree.specs.declared.tree.Sign.TheVariants as s
use Rattle.contract_grammar.specs.declared.Obstacle.TheVariants.{Unfit}
use Rattle.contract_grammar.specs.Reading.{level_of, operand, expression}
use Rattle.contract_grammar.specs.Rules.{turns}

-- Words with the offsets 0, 1, 2 and so on, then a semicolon.
tokens_from : ℕ → List Word → List Token
tokens_from at [] = record { at = at; word = w.Mark m.Semicolon } ∷ []
tokens_from at (word ∷ words) = record { at = at; word = word } ∷ tokens_from (at + 1) words

-- what is left after a whole expression was read
end_from : ℕ → List Token
end_from at = tokens_from at []

abbrev number : ℕ → Word
number n = w.Int (pos n)

abbrev int : ℕ → ℕ → Tree
int at n = Int at (pos n)

-- 1 - 2 * 3 - 4
grouped_to_the_left : expression (tokens_from 0 (number 1 ∷ w.Mark m.Minus ∷ number 2 ∷ w.Mark m.Star ∷ number 3 ∷ w.Mark m.Minus ∷ number 4 ∷ [])) ≡ (Ok (Binary 5 s.Minus (Binary 1 s.Minus (int 0 1) (Binary 3 s.Star (int 2 2) (int 4 3))) (int 6 4)), end_from 7)
unfolding tokens_from end_from expression level_of operand turns
grouped_to_the_left = refl

-- 1 || 2 && 3 == 4 ++ 5 + 6 * - 7
tighter_to_the_right : expression (tokens_from 0 (number 1 ∷ w.Mark m.Or ∷ number 2 ∷ w.Mark m.And ∷ number 3 ∷ w.Mark m.Equal ∷ number 4 ∷ w.Mark m.Concat ∷ number 5 ∷ w.Mark m.Plus ∷ number 6 ∷ w.Mark m.Star ∷ w.Mark m.Minus ∷ number 7 ∷ [])) ≡ (Ok (Binary 1 s.Or (int 0 1) (Binary 3 s.And (int 2 2) (Binary 5 s.Equal (int 4 3) (Binary 7 s.Concat (int 6 4) (Binary 9 s.Plus (int 8 5) (Binary 11 s.Star (int 10 6) (Prefix 12 s.Minus (int 13 7)))))))), end_from 14)
unfolding tokens_from end_from expression level_of operand turns
tighter_to_the_right = refl

-- ! 1 % 2 - 3 ++ 4 <= 5 && 6 || 7
looser_to_the_right : expression (tokens_from 0 (w.Mark m.Not ∷ number 1 ∷ w.Mark m.Percent ∷ number 2 ∷ w.Mark m.Minus ∷ number 3 ∷ w.Mark m.Concat ∷ number 4 ∷ w.Mark m.LessEqual ∷ number 5 ∷ w.Mark m.And ∷ number 6 ∷ w.Mark m.Or ∷ number 7 ∷ [])) ≡ (Ok (Binary 12 s.Or (Binary 10 s.And (Binary 8 s.LessEqual (Binary 6 s.Concat (Binary 4 s.Minus (Binary 2 s.Percent (Prefix 0 s.Not (int 1 1)) (int 3 2)) (int 5 3)) (int 7 4)) (int 9 5)) (int 11 6)) (int 13 7)), end_from 14)
unfolding tokens_from end_from expression level_of operand turns
looser_to_the_right = refl

-- 1 / (2 - 3)
grouped : expression (tokens_from 0 (number 1 ∷ w.Mark m.Slash ∷ w.Mark m.ParenOpen ∷ number 2 ∷ w.Mark m.Minus ∷ number 3 ∷ w.Mark m.ParenClose ∷ [])) ≡ (Ok (Binary 1 s.Slash (int 0 1) (Binary 4 s.Minus (int 3 2) (int 5 3))), end_from 7)
unfolding tokens_from end_from expression level_of operand turns
grouped = refl

-- 1 > 2, then another comparison is left
compared_once : expression (tokens_from 0 (number 1 ∷ w.Mark m.Greater ∷ number 2 ∷ w.Mark m.NotEqual ∷ number 3 ∷ [])) ≡ (Ok (Binary 1 s.Greater (int 0 1) (int 2 2)), tokens_from 3 (w.Mark m.NotEqual ∷ number 3 ∷ []))
unfolding tokens_from end_from expression level_of operand turns
compared_once = refl

-- text(x(), 1)
called : expression (tokens_from 0 (w.Mark m.Text ∷ w.Mark m.ParenOpen ∷ w.Name (codes "x") ∷ w.Mark m.ParenOpen ∷ w.Mark m.ParenClose ∷ w.Mark m.Comma ∷ number 1 ∷ w.Mark m.ParenClose ∷ [])) ≡ (Ok (Call 0 (codes "text") (trees (Call 2 (codes "x") (trees []) ∷ int 6 1 ∷ []))), end_from 8)
unfolding tokens_from end_from expression level_of operand turns
called = refl

-- text, without parentheses
not_called : expression (tokens_from 0 (w.Mark m.Text ∷ w.Mark m.Plus ∷ number 1 ∷ [])) ≡ (Err Unfit, tokens_from 1 (w.Mark m.Plus ∷ number 1 ∷ []))
unfolding tokens_from end_from expression level_of operand turns
not_called = refl
