-- The laws of statements and blocks.
use Rattle.std.proofs.Common.{◌≡◌, ℕ, suc, List, [], ◌∷◌, ◌++◌, Option, Some, None, inl, inr, sym, ap, ◌∙◌, subst}
use Rattle.std.proofs.lemmas.List.{append-nil}
use Rattle.contract_tokens.specs.declared.token.Token.{Token}
use Rattle.contract_tokens.specs.declared.token.Mark.{Mark}
use Rattle.contract_tokens.specs.declared.token.Mark.TheVariants as m
use Rattle.contract_tree.specs.Tree.{Tree, Trees, trees, height, StatementTree, StatementTrees, no_statement, statements, statement_list}
use Rattle.contract_tree.specs.Tree as tree
use Rattle.contract_grammar.specs.Grammar.{Limits, IsExpression, IsStatement, Lets, Assigns, Ifs, IfElses, Whiles, Puts, Removes, Fails, Returns, IsFrom, NoFrom, FromThese, IsBlock}
use Rattle.contract_grammar.specs.Marks.{the, name_of, declared_of}
use Rattle.contract_grammar.proofs.Laws.{IsRet, Ret, ret_is, IsOne, One}
use Rattle.contract_grammar.proofs.Sequence.{IsSeq, Seq}
use Rattle.contract_grammar.proofs.Choice.{IsEither}
use Rattle.contract_grammar.proofs.Parts.{IsMoreOfThem}
use Rattle.contract_grammar.proofs.Operands.{to_more, from_more}

module _ (l : Limits) where
  -- the end of a statement that assigns a value
  abbrev pub IsValue : (Tree → StatementTree) → List Token → StatementTree → Type 0
  IsValue f = IsSeq (IsOne (the m.Assign)) (λ p. IsSeq (IsExpression l) (λ x. IsSeq (IsOne (the m.Semicolon)) (λ end. IsRet (f x))))

  abbrev pub IsLet : List Token → StatementTree → Type 0
  IsLet = IsSeq (IsOne (the m.Let)) (λ at. IsSeq (IsOne declared_of) (λ n. IsValue (tree.Let at n.0 n.1)))

  abbrev pub IsAssign : List Token → StatementTree → Type 0
  IsAssign = IsSeq (IsOne name_of) (λ n. IsValue (tree.Assign n.0 n.1))

  abbrev pub IsElse : ℕ → ℕ → Tree → StatementTrees → List Token → StatementTree → Type 0
  IsElse d at x first = IsEither (IsSeq (IsOne (the m.Else)) (λ p. IsSeq (IsBlock l (suc d)) (λ second. IsRet (tree.IfElse at x first second)))) (IsRet (tree.If at x first))

  abbrev pub IsIf : ℕ → List Token → StatementTree → Type 0
  IsIf d = IsSeq (IsOne (the m.If)) (λ at. IsSeq (IsExpression l) (λ x. IsSeq (IsBlock l (suc d)) (IsElse d at x)))

  abbrev pub IsWhile : ℕ → List Token → StatementTree → Type 0
  IsWhile d = IsSeq (IsOne (the m.While)) (λ at. IsSeq (IsExpression l) (λ x. IsSeq (IsBlock l (suc d)) (λ body. IsRet (tree.While at x body))))

  abbrev pub IsFromParts : List Token → Option Trees → Type 0
  IsFromParts = IsSeq (IsOne (the m.From)) (λ p. IsSeq (IsExpression l) (λ x. IsSeq (IsMoreOfThem (IsExpression l) m.Semicolon x) (λ xs. IsRet (Some (trees xs)))))

  abbrev pub IsFromBy : List Token → Option Trees → Type 0
  IsFromBy = IsEither (IsSeq (IsOne (the m.Semicolon)) (λ end. IsRet None)) IsFromParts

  abbrev pub IsPut : List Token → StatementTree → Type 0
  IsPut = IsSeq (IsOne (the m.Put)) (λ at. IsSeq (IsExpression l) (λ key. IsSeq (IsOne (the m.Assign)) (λ p. IsSeq (IsExpression l) (λ value. IsSeq (IsFrom l) (λ parts. IsRet (tree.Put at key value parts))))))

  abbrev pub IsRemove : List Token → StatementTree → Type 0
  IsRemove = IsSeq (IsOne (the m.Drop)) (λ at. IsSeq (IsExpression l) (λ key. IsSeq (IsFrom l) (λ parts. IsRet (tree.Remove at key parts))))

  abbrev pub IsShort : Mark → (ℕ → StatementTree) → List Token → StatementTree → Type 0
  IsShort mark f =
      IsSeq (IsOne (the mark)) (λ at. IsSeq (IsOne (the m.Semicolon)) (λ end. IsRet (f at)))

  abbrev pub IsStatementBy : ℕ → List Token → StatementTree → Type 0
  IsStatementBy d = IsEither IsLet (IsEither (IsIf d) (IsEither (IsWhile d) (IsEither IsPut (IsEither IsRemove (IsEither (IsShort m.Fail tree.Fail) (IsEither (IsShort m.Return tree.Return) IsAssign))))))

-- the same with its parts by name
record IsValueOf (l : Limits) (f : Tree → StatementTree) (prefix : List Token) (s : StatementTree) : Type 0 where
  a : Token
  p : ℕ
  y : List Token
  x : Tree
  c : Token
  end : ℕ
  prefix_is : prefix ≡ a ∷ (y ++ c ∷ [])
  tree_is : s ≡ f x
  assigns : the m.Assign a ≡ Some p
  value : IsExpression l y x
  ends : the m.Semicolon c ≡ Some end

value_is : {l : Limits} (f : Tree → StatementTree) (prefix : List Token) (s : StatementTree)
    → IsValue l f prefix s → IsValueOf l f prefix s
value_is f prefix s (Seq _ _ p _ (One a _ e) (Seq y _ x _ i (Seq _ z end _ (One c _ h) r))) =
    let q = ret_is r in
    record { a = a; p = p; y = y; x = x; c = c; end = end; prefix_is = ap (λ v. a ∷ (y ++ c ∷ v)) q.0; tree_is = q.1; assigns = e; value = i; ends = h }

value_made : {l : Limits} (f : Tree → StatementTree) (a : Token) (p : ℕ) (y : List Token) (x : Tree) (c : Token) (end : ℕ) → the m.Assign a ≡ Some p → IsExpression l y x → the m.Semicolon c ≡ Some end → IsValue l f (a ∷ (y ++ c ∷ [])) (f x)
value_made f a p y x c end e i h = Seq (a ∷ []) (y ++ c ∷ []) p (f x) (One a p e) (Seq y (c ∷ []) x (f x) i (Seq (c ∷ []) [] end (f x) (One c end h) Ret))

-- a part of the grammar that is read, after which nothing is taken
pub nothing_after : {A B : Type 0} {P : List Token → A → Type 0} {f : A → B} {prefix : List Token} {b : B} → IsSeq P (λ a. IsRet (f a)) prefix b → (a : A) × (b ≡ f a) × P prefix a
nothing_after {P = P} (Seq y z a _ i r) =
    let q = ret_is r in
    (a, q.1, subst (λ v. P v a) (sym (ap (λ v. y ++ v) q.0 ∙ append-nil y)) i)

pub after_nothing : {A B : Type 0} {P : List Token → A → Type 0} (f : A → B) (prefix : List Token) (a : A) → P prefix a → IsSeq P (λ a. IsRet (f a)) prefix (f a)
after_nothing {P = P} f prefix a i = subst (λ v. IsSeq P (λ a. IsRet (f a)) v (f a)) (append-nil prefix) (Seq prefix [] a (f a) i Ret)

pub from_to : {l : Limits} (f : List Token) (parts : Option Trees) → IsFromBy l f parts
    → IsFrom l f parts
from_to {l} f parts (inl (Seq _ z end _ (One c _ h) r)) =
    let q = ret_is r in
    subst (λ v. IsFrom l (c ∷ v) parts) (sym q.0) (subst (λ v. IsFrom l (c ∷ []) v) (sym q.1) (NoFrom c end h))
from_to {l} f parts (inr (Seq _ _ p _ (One t _ e) (Seq y z x _ i j))) =
    let q = nothing_after j in
    let k = to_more m.Semicolon 0 x z q.0 q.2 in
    subst (λ v. IsFrom l (t ∷ (y ++ z)) v) (sym (q.1 ∙ ap (λ v. Some (trees v)) k.1)) (FromThese t p y x z k.0 e i k.2)

pub from_from : {l : Limits} (f : List Token) (parts : Option Trees) → IsFrom l f parts
    → IsFromBy l f parts
from_from f parts (NoFrom c end h) = inl (Seq (c ∷ []) [] end None (One c end h) Ret)
from_from f parts (FromThese t p y x z xs e i j) =
    inr (Seq (t ∷ []) (y ++ z) p (Some (trees (x ∷ xs))) (One t p e) (Seq y z x (Some (trees (x ∷ xs))) i (after_nothing (λ v. Some (trees v)) z (x ∷ xs) (from_more m.Semicolon 0 x z xs j))))

pub statement_to : {l : Limits} (d : ℕ) (f : List Token) (s : StatementTree) → IsStatementBy l d f s
    → IsStatement l d f s
statement_to {l} d f s (inl (Seq _ _ at _ (One t _ e) (Seq _ z n _ (One u _ g) j))) =
    let q = value_is (tree.Let at n.0 n.1) z s j in
    subst (λ v. IsStatement l d (t ∷ u ∷ v) s) (sym q.prefix_is) (subst (λ v. IsStatement l d (t ∷ u ∷ q.a ∷ (q.y ++ q.c ∷ [])) v) (sym q.tree_is) (Lets d t at u n q.a q.p q.y q.x q.c q.end e g q.assigns q.value q.ends))
statement_to {l} d f s (inr (inl (Seq _ _ at _ (One t _ e) (Seq y _ x _ i (Seq b _ first _ j (inl (Seq _ z p _ (One o _ g) k))))))) =
    let q = nothing_after k in
    subst (λ v. IsStatement l d (t ∷ (y ++ (b ++ o ∷ z))) v) (sym q.1) (IfElses d t at y x b first o p z q.0 e i j g q.2)
statement_to {l} d f s (inr (inl (Seq _ _ at _ (One t _ e) (Seq y _ x _ i (Seq b z first _ j (inr r)))))) =
    let q = ret_is r in
    subst (λ v. IsStatement l d (t ∷ (y ++ (b ++ v))) s) (sym q.0) (subst (λ v. IsStatement l d (t ∷ (y ++ v)) s) (sym (append-nil b)) (subst (λ v. IsStatement l d (t ∷ (y ++ b)) v) (sym q.1) (Ifs d t at y x b first e i j)))
statement_to {l} d f s (inr (inr (inl (Seq _ _ at _ (One t _ e) (Seq y z x _ i j))))) =
    let q = nothing_after j in
    subst (λ v. IsStatement l d (t ∷ (y ++ z)) v) (sym q.1) (Whiles d t at y x z q.0 e i q.2)
statement_to {l} d f s (inr (inr (inr (inl (Seq _ _ at _ (One t _ e) (Seq y _ key _ i (Seq _ _ p _ (One a _ g) (Seq z h value _ j k)))))))) =
    let q = nothing_after k in
    subst (λ v. IsStatement l d (t ∷ (y ++ a ∷ (z ++ h))) v) (sym q.1) (Puts d t at y key a p z value h q.0 e i g j q.2)
statement_to {l} d f s (inr (inr (inr (inr (inl (Seq _ _ at _ (One t _ e) (Seq y h key _ i k))))))) =
    let q = nothing_after k in
    subst (λ v. IsStatement l d (t ∷ (y ++ h)) v) (sym q.1) (Removes d t at y key h q.0 e i q.2)
statement_to {l} d f s (inr (inr (inr (inr (inr (inl (Seq _ _ at _ (One t _ e) (Seq _ z end _ (One c _ h) r)))))))) =
    let q = ret_is r in
    subst (λ v. IsStatement l d (t ∷ c ∷ v) s) (sym q.0) (subst (λ v. IsStatement l d (t ∷ c ∷ []) v) (sym q.1) (Fails d t at c end e h))
statement_to {l} d f s (inr (inr (inr (inr (inr (inr (inl (Seq _ _ at _ (One t _ e) (Seq _ z end _ (One c _ h) r))))))))) =
    let q = ret_is r in
    subst (λ v. IsStatement l d (t ∷ c ∷ v) s) (sym q.0) (subst (λ v. IsStatement l d (t ∷ c ∷ []) v) (sym q.1) (Returns d t at c end e h))
statement_to {l} d f s (inr (inr (inr (inr (inr (inr (inr (Seq _ z n _ (One u _ g) j)))))))) =
    let q = value_is (tree.Assign n.0 n.1) z s j in
    subst (λ v. IsStatement l d (u ∷ v) s) (sym q.prefix_is) (subst (λ v. IsStatement l d (u ∷ q.a ∷ (q.y ++ q.c ∷ [])) v) (sym q.tree_is) (Assigns d u n q.a q.p q.y q.x q.c q.end g q.assigns q.value q.ends))

pub statement_from : {l : Limits} (d : ℕ) (f : List Token) (s : StatementTree) → IsStatement l d f s
    → IsStatementBy l d f s
statement_from d f s (Lets _ t at n name a p y x c end e g h i j) = inl (Seq (t ∷ []) (n ∷ a ∷ (y ++ c ∷ [])) at s (One t at e) (Seq (n ∷ []) (a ∷ (y ++ c ∷ [])) name s (One n name g) (value_made (tree.Let at name.0 name.1) a p y x c end h i j)))
statement_from d f s (Assigns _ n name a p y x c end g h i j) = inr (inr (inr (inr (inr (inr (inr (Seq (n ∷ []) (a ∷ (y ++ c ∷ [])) name s (One n name g) (value_made (tree.Assign name.0 name.1) a p y x c end h i j))))))))
statement_from {l} d f s (Ifs _ t at y x b first e i j) =
    let made : IsSeq (IsBlock l (suc d)) (IsElse l d at x) (b ++ []) s = Seq b [] first s j (inr Ret) in
    let after : IsSeq (IsBlock l (suc d)) (IsElse l d at x) b s = subst (λ v. IsSeq (IsBlock l (suc d)) (IsElse l d at x) v s) (append-nil b) made in
    inr (inl (Seq (t ∷ []) (y ++ b) at s (One t at e) (Seq y b x s i after)))
statement_from d f s (IfElses _ t at y x b first o p c second e i j g k) =
    inr (inl (Seq (t ∷ []) (y ++ (b ++ o ∷ c)) at s (One t at e) (Seq y (b ++ o ∷ c) x s i (Seq b (o ∷ c) first s j (inl (Seq (o ∷ []) c p s (One o p g) (after_nothing (tree.IfElse at x first) c second k)))))))
statement_from d f s (Whiles _ t at y x b body e i j) = inr (inr (inl (Seq (t ∷ []) (y ++ b) at s (One t at e) (Seq y b x s i (after_nothing (tree.While at x) b body j)))))
statement_from d f s (Puts _ t at y key a p z value h parts e i g j k) =
    inr (inr (inr (inl (Seq (t ∷ []) (y ++ a ∷ (z ++ h)) at s (One t at e) (Seq y (a ∷ (z ++ h)) key s i (Seq (a ∷ []) (z ++ h) p s (One a p g) (Seq z h value s j (after_nothing (tree.Put at key value) h parts k))))))))
statement_from d f s (Removes _ t at y key h parts e i k) =
    inr (inr (inr (inr (inl (Seq (t ∷ []) (y ++ h) at s (One t at e) (Seq y h key s i (after_nothing (tree.Remove at key) h parts k)))))))
statement_from d f s (Fails _ t at c end e h) = inr (inr (inr (inr (inr (inl (Seq (t ∷ []) (c ∷ []) at s (One t at e) (Seq (c ∷ []) [] end s (One c end h) Ret)))))))
statement_from d f s (Returns _ t at c end e h) = inr (inr (inr (inr (inr (inr (inl (Seq (t ∷ []) (c ∷ []) at s (One t at e) (Seq (c ∷ []) [] end s (One c end h) Ret))))))))
