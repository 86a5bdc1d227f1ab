-- The laws of operands, and with them of whole expressions.
use Rattle.std.proofs.Common.{◌≡◌, ℕ, suc, Bool, true, List, [], ◌∷◌, ◌++◌, Some, is_some, inl, inr, refl, sym, ap, ◌∙◌, subst, arith, append_assoc}
use Rattle.std.proofs.lemmas.List.{append-nil}
use Rattle.contract_tokens.specs.declared.token.Token.{Token}
use Rattle.contract_tokens.specs.declared.token.Mark.{Mark}
use Rattle.contract_tokens.specs.declared.token.Mark.TheVariants as m
use Rattle.contract_tree.specs.Tree.{Tree, trees, height}
use Rattle.contract_tree.specs.Tree as tree
use Rattle.contract_tree.specs.declared.tree.Sign.{Sign}
use Rattle.contract_grammar.specs.Grammar.{Limits, Within, IsExpr, Number, Literal, Named, Called, Prefixed, Grouped, Tighter, Chained, Compared, IsArgs, NoArgs, Args, IsMore, Last, More}
use Rattle.contract_grammar.specs.Marks.{the, is, int_of, text_of, name_of, builtin_of, callee_of, prefix_of}
use Rattle.contract_grammar.specs.Reading.{args}
use Rattle.contract_grammar.specs.Rules.{head_is}
use Rattle.contract_grammar.proofs.Laws.{IsRet, Ret, ret_is, IsGuarded, Guarded, guarded_is, IsOne, One}
use Rattle.contract_grammar.proofs.MarkFacts.{begins, callee_begins, begins_with, name_callee, builtin_callee, callee_is}
use Rattle.contract_grammar.proofs.Sequence.{IsSeq, Seq}
use Rattle.contract_grammar.proofs.Choice.{Starts, head_lift, head_more, seq_starts, IsEither, IsEach, Nothing, Each}
use Rattle.contract_grammar.proofs.Parts.{the_is, is_one, IsMoreOfThem}
use Rattle.contract_grammar.specs.declared.limits.TheConstants.{WHOLE}

-- parts with commas between them, up to the closing sign
record IsClosed (l : Limits) (mark : Mark) (d n : ℕ) (z : List Token) (xs : List Tree) : Type 0 where
  y : List Token
  c : Token
  end : ℕ
  path : z ≡ y ++ c ∷ []
  items : IsEach (λ n. IsSeq (IsOne (the m.Comma)) (λ at. IsExpr l d WHOLE)) n y xs
  closes : the mark c ≡ Some end

-- what follows the first part
module _ {l : Limits} (mark : Mark) (d : ℕ) where
  pub close_args : (n : ℕ) (y : List Token) (xs : List Tree) → IsEach (λ n. IsSeq (IsOne (the m.Comma)) (λ at. IsExpr l d WHOLE)) n y xs → (c : Token) (end : ℕ) → the mark c ≡ Some end → IsMore l mark d (y ++ c ∷ []) xs
  close_args n y xs (Nothing _) c end h = Last mark d c end h
  close_args n y xs (Each _ a items _ z (Seq _ f at _ (One t _ e) i) more) c end h =
      subst (λ v. IsMore l mark d (t ∷ v) (a ∷ items)) (sym (append_assoc f z (c ∷ []))) (More mark d t at f a (z ++ c ∷ []) items e i (close_args (suc n) z items more c end h))

  pub to_more : (x : Tree) (z : List Token) (all : List Tree) → IsMoreOfThem (IsExpr l d WHOLE) mark x z all → (xs : List Tree) × (all ≡ x ∷ xs) × IsMore l mark d z xs
  to_more x z all (Seq y f had _ i (Seq _ g end _ (One c _ h) r)) =
      let q = ret_is r in
      (i.0, q.1 ∙ i.1, subst (λ v. IsMore l mark d (y ++ c ∷ v) i.0) (sym q.0) (close_args 1 y i.0 i.2 c end h))

  open_args : (n : ℕ) (z : List Token) (xs : List Tree) → IsMore l mark d z xs → IsClosed l mark d n z xs
  open_args n z xs (Last _ _ c end h) = record { y = []; c = c; end = end; path = refl; items = Nothing n; closes = h }
  open_args n z xs (More _ _ t at y x f more e i j) =
      let r = open_args (suc n) f more j in
      record { y = (t ∷ y) ++ r.y; c = r.c; end = r.end; path = ap (λ v. t ∷ (y ++ v)) r.path ∙ sym (append_assoc (t ∷ y) r.y (r.c ∷ [])); items = Each n x more (t ∷ y) r.y (Seq (t ∷ []) y at x (One t at e) i) r.items; closes = r.closes }

  pub from_more : (x : Tree) (z : List Token) (xs : List Tree) → IsMore l mark d z xs → IsMoreOfThem (IsExpr l d WHOLE) mark x z (x ∷ xs)
  from_more x z xs i =
      let r = open_args 1 z xs i in
      let end : IsSeq (IsOne (the mark)) (λ at. IsRet (x ∷ xs)) (r.c ∷ []) (x ∷ xs) = Seq (r.c ∷ []) [] r.end (x ∷ xs) (One r.c r.end r.closes) Ret in
      subst (λ v. IsMoreOfThem (IsExpr l d WHOLE) mark x v (x ∷ xs)) (sym r.path) (Seq r.y (r.c ∷ []) (x ∷ xs) (x ∷ xs) (xs, refl, r.items) end)

-- arguments, in terms of combined readers
abbrev pub IsArgsBy : Limits → ℕ → List Token → List Tree → Type 0
IsArgsBy l d = IsSeq (IsOne (the m.ParenOpen)) (λ at. IsEither (IsSeq (IsOne (the m.ParenClose)) (λ end. IsRet [])) (IsSeq (IsExpr l d WHOLE) (IsMoreOfThem (IsExpr l d WHOLE) m.ParenClose)))

pub args_to : {l : Limits} (d : ℕ) (f : List Token) (xs : List Tree) → IsArgsBy l d f xs → IsArgs l d f xs
args_to {l} d f xs (Seq _ _ at _ (One o _ e) (inl (Seq _ g end _ (One c _ h) r))) =
    let q = ret_is r in
    subst (λ v. IsArgs l d (o ∷ c ∷ v) xs) (sym q.0) (subst (λ v. IsArgs l d (o ∷ c ∷ []) v) (sym q.1) (NoArgs d o at c end e h))
args_to {l} d f xs (Seq _ _ at _ (One o _ e) (inr (Seq y z x _ i j))) =
    let q = to_more m.ParenClose d x z xs j in
    subst (λ v. IsArgs l d (o ∷ (y ++ z)) v) (sym q.1) (Args d o at y x z q.0 e i q.2)

pub args_from : {l : Limits} (d : ℕ) (f : List Token) (xs : List Tree) → IsArgs l d f xs → IsArgsBy l d f xs
args_from d f xs (NoArgs _ o at c end e h) = Seq (o ∷ []) (c ∷ []) at [] (One o at e) (inl (Seq (c ∷ []) [] end [] (One c end h) Ret))
args_from d f xs (Args _ o at y x z more e i j) = Seq (o ∷ []) (y ++ z) at (x ∷ more) (One o at e) (inr (Seq y z x (x ∷ more) i (from_more m.ParenClose d x z more j)))

-- what the grammar has there, if a limit allows it
abbrev pub IsAllowed : {A : Type 0} → Type 0 → (List Token → A → Type 0) → List Token → A → Type 0
IsAllowed W P prefix a = W × P prefix a

abbrev pub IsCall : Limits → ℕ → ℕ × List ℕ → List Token → Tree → Type 0
IsCall l d n = IsSeq (IsAllowed (Within l.pending (suc d)) (IsArgs l (suc d))) (λ args. IsGuarded (Within l.height (height (tree.Call n.0 n.1 (trees args)))) (tree.Call n.0 n.1 (trees args)))

abbrev pub IsNamed : Limits → ℕ → List Token → Tree → Type 0
IsNamed l d = IsSeq (IsOne name_of) (λ n. IsEither (IsCall l d n) (IsRet (tree.Name n.0 n.1)))

abbrev pub IsBuiltin : Limits → ℕ → List Token → Tree → Type 0
IsBuiltin l d = IsSeq (IsOne builtin_of) (IsCall l d)

abbrev pub IsPrefixedBy : Limits → ℕ → List Token → Tree → Type 0
IsPrefixedBy l d = IsSeq (IsOne prefix_of) (λ s. IsSeq (IsExpr l (suc d) 0) (λ x. IsGuarded (Within l.height (height (tree.Prefix s.0 s.1 x))) (tree.Prefix s.0 s.1 x)))

abbrev pub IsPrefixed : Limits → ℕ → List Token → Tree → Type 0
IsPrefixed l d = IsAllowed (Within l.pending (suc d)) (IsPrefixedBy l d)

abbrev pub IsGroupedBy : Limits → ℕ → List Token → Tree → Type 0
IsGroupedBy l d = IsSeq (IsOne (the m.ParenOpen)) (λ at. IsSeq (IsExpr l (suc d) WHOLE) (λ x. IsSeq (IsOne (the m.ParenClose)) (λ end. IsRet x)))

abbrev pub IsGrouped : Limits → ℕ → List Token → Tree → Type 0
IsGrouped l d = IsAllowed (Within l.pending (suc d)) (IsGroupedBy l d)

abbrev pub IsText : List Token → Tree → Type 0
IsText = IsSeq (IsOne text_of) (λ n. IsRet (tree.Text n.0 n.1))

abbrev pub IsInt : List Token → Tree → Type 0
IsInt = IsSeq (IsOne int_of) (λ n. IsRet (tree.Int n.0 n.1))

abbrev pub IsOperand : Limits → ℕ → List Token → Tree → Type 0
IsOperand l d = IsEither (IsNamed l d) (IsEither (IsBuiltin l d) (IsEither (IsPrefixed l d) (IsEither (IsGrouped l d) (IsEither IsText IsInt))))

call_to : {l : Limits} (d : ℕ) (t : Token) (n : ℕ × List ℕ) → callee_of t ≡ Some n → (z : List Token) (x : Tree) → IsCall l d n z x → IsExpr l d 0 (t ∷ z) x
call_to {l} d t n e z x (Seq y g args _ i j) =
    let q = guarded_is j in
    subst (λ v. IsExpr l d 0 (t ∷ (y ++ v)) x) (sym q.0) (subst (λ v. IsExpr l d 0 (t ∷ v) x) (sym (append-nil y)) (subst (λ v. IsExpr l d 0 (t ∷ y) v) (sym q.1) (Called d t n y args e i.0 i.1 q.2)))

prefix_to : {l : Limits} (d : ℕ) (t : Token) (s : ℕ × Sign) → prefix_of t ≡ Some s → Within l.pending (suc d) → (z : List Token) (x : Tree) → IsSeq (IsExpr l (suc d) 0) (λ x. IsGuarded (Within l.height (height (tree.Prefix s.0 s.1 x))) (tree.Prefix s.0 s.1 x)) z x → IsExpr l d 0 (t ∷ z) x
prefix_to {l} d t s e may z x (Seq y g a _ i j) =
    let q = guarded_is j in
    subst (λ v. IsExpr l d 0 (t ∷ (y ++ v)) x) (sym q.0) (subst (λ v. IsExpr l d 0 (t ∷ v) x) (sym (append-nil y)) (subst (λ v. IsExpr l d 0 (t ∷ y) v) (sym q.1) (Prefixed d t s y a e may i q.2)))

pub operand_to : {l : Limits} (d : ℕ) (f : List Token) (x : Tree) → IsOperand l d f x → IsExpr l d 0 f x
operand_to d f x (inl (Seq _ z n _ (One t _ e) (inl j))) = call_to d t n (name_callee t n e) z x j
operand_to {l} d f x (inl (Seq _ z n _ (One t _ e) (inr r))) =
    let q = ret_is r in
    subst (λ v. IsExpr l d 0 (t ∷ v) x) (sym q.0) (subst (λ v. IsExpr l d 0 (t ∷ []) v) (sym q.1) (Named d t n e))
operand_to d f x (inr (inl (Seq _ z n _ (One t _ e) j))) = call_to d t n (builtin_callee t n e) z x j
operand_to d f x (inr (inr (inl (may, Seq _ z s _ (One t _ e) j)))) = prefix_to d t s e may z x j
operand_to {l} d f x (inr (inr (inr (inl (may, Seq _ _ at _ (One o _ e) (Seq y _ a _ i (Seq _ g end _ (One c _ h) r))))))) =
    let q = ret_is r in
    subst (λ v. IsExpr l d 0 (o ∷ (y ++ c ∷ v)) x) (sym q.0) (subst (λ v. IsExpr l d 0 (o ∷ (y ++ c ∷ [])) v) (sym q.1) (Grouped d o at y a c end e may i h))
operand_to {l} d f x (inr (inr (inr (inr (inl (Seq _ z n _ (One t _ e) r)))))) =
    let q = ret_is r in
    subst (λ v. IsExpr l d 0 (t ∷ v) x) (sym q.0) (subst (λ v. IsExpr l d 0 (t ∷ []) v) (sym q.1) (Literal d t n e))
operand_to {l} d f x (inr (inr (inr (inr (inr (Seq _ z n _ (One t _ e) r)))))) =
    let q = ret_is r in
    subst (λ v. IsExpr l d 0 (t ∷ v) x) (sym q.0) (subst (λ v. IsExpr l d 0 (t ∷ []) v) (sym q.1) (Number d t n e))

pub operand_from : {l : Limits} (d k : ℕ) (f : List Token) (x : Tree) → IsExpr l d k f x → k ≡ 0 → IsOperand l d f x
operand_from d k f x (Number _ t n e) z = inr (inr (inr (inr (inr (Seq (t ∷ []) [] n x (One t n e) Ret)))))
operand_from d k f x (Literal _ t n e) z = inr (inr (inr (inr (inl (Seq (t ∷ []) [] n x (One t n e) Ret)))))
operand_from d k f x (Named _ t n e) z = inl (Seq (t ∷ []) [] n x (One t n e) (inr Ret))
operand_from {l} d k f x (Called _ t n y args e may i low) z =
    let made : IsCall l d n (y ++ []) x = Seq y [] args x (may, i) (Guarded low) in
    let call : IsCall l d n y x = subst (λ v. IsCall l d n v x) (append-nil y) made in
    elim (callee_is t n e) [ inl h ↦ inl (Seq (t ∷ []) y n x (One t n h) (inl call)) | inr h ↦ inr (inl (Seq (t ∷ []) y n x (One t n h) call)) ]
operand_from {l} d k f x (Prefixed _ t s y a e may i low) z =
    let made : IsPrefixedBy l d (t ∷ (y ++ [])) x = Seq (t ∷ []) (y ++ []) s x (One t s e) (Seq y [] a x i (Guarded low)) in
    inr (inr (inl (may, subst (λ v. IsPrefixedBy l d (t ∷ v) x) (append-nil y) made)))
operand_from d k f x (Grouped _ o at y a c end e may i h) z =
    inr (inr (inr (inl (may, Seq (o ∷ []) (y ++ c ∷ []) at x (One o at e) (Seq y (c ∷ []) a x i (Seq (c ∷ []) [] end x (One c end h) Ret))))))
operand_from d k f x (Tighter _ j y a i) z = absurd (omega (arith, z))
operand_from d k f x (Chained _ j y a t s w b c i e r low) z = absurd (omega (arith, z))
operand_from d k f x (Compared _ j y a t s w b c i e r low) z = absurd (omega (arith, z))

pub expression_begins : {l : Limits} (d k : ℕ) (f : List Token) (x : Tree) → IsExpr l d k f x → head_is begins f ≡ true
expression_begins d k f x (Number _ t n e) = begins_with t (inr (inr (inr (inr (inr (ap is_some e))))))
expression_begins d k f x (Literal _ t n e) = begins_with t (inr (inr (inr (inr (inl (ap is_some e))))))
expression_begins d k f x (Named _ t n e) = begins_with t (inl (ap is_some e))
expression_begins d k f x (Called _ t n y args e may i low) = callee_begins t n e
expression_begins d k f x (Prefixed _ t s y a e may i low) = begins_with t (inr (inr (inl (ap is_some e))))
expression_begins d k f x (Grouped _ o at y a c end e may i h) = begins_with o (inr (inr (inr (inl (the_is m.ParenOpen o at e)))))
expression_begins d k f x (Tighter _ j y a i) = expression_begins d j y a i
expression_begins d k f x (Chained _ j y a t s z b c i e r low) = head_more begins y (t ∷ z) (expression_begins d (suc j) y a i)
expression_begins d k f x (Compared _ j y a t s z b c i e r low) = head_more begins y (t ∷ z) (expression_begins d j y a i)

pub args_begin : {l : Limits} (d : ℕ) (f : List Token) (xs : List Tree) → IsArgs l d f xs → head_is (is m.ParenOpen) f ≡ true
args_begin d f xs (NoArgs _ o at c end e h) = the_is m.ParenOpen o at e
args_begin d f xs (Args _ o at y x z more e i j) = the_is m.ParenOpen o at e

-- what follows the first of several parts begins with a comma or the closing sign
pub more_stops : {P : List Token → Tree → Type 0} (g : Token → Bool) (mark : Mark) → ((t : Token) → is m.Comma t ≡ true → g t ≡ true) → ((t : Token) → is mark t ≡ true → g t ≡ true) → (x : Tree) → Starts g (IsMoreOfThem P mark x)
more_stops g mark comma close x f all (Seq _ z had _ (items, path, Nothing _) j) = head_lift (is mark) g close z (seq_starts (is mark) (is_one mark) z all j)
more_stops g mark comma close x f all (Seq _ c had _ (items, path, Each _ a rest y z i more) j) =
    head_more g (y ++ z) c (head_more g y z (head_lift (is m.Comma) g comma y (seq_starts (is m.Comma) (is_one m.Comma) y a i)))
