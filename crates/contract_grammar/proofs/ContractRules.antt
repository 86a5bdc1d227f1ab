-- The laws of readers of blocks, functions and contracts.
use Rattle.std.proofs.Common.{ltb, ◌≡◌, ◌||◌, ℕ, zero, suc, ◌+◌, Bool, true, false, List, [], ◌∷◌, ◌++◌, Some, is_some, ◌⊎◌, inl, inr, refl, sym, ap, ◌∙◌, subst, arith, append_assoc, codes}
use Rattle.std.proofs.lemmas.Bool.{ltb-true, ltb-false}
use Rattle.std.proofs.lemmas.List.{append-nil}
use Rattle.contract_tokens.specs.declared.token.Token.{Token}
use Rattle.contract_tokens.specs.declared.token.Mark.TheVariants as m
use Rattle.contract_tokens.specs.declared.token.Word.TheVariants as w
use Rattle.contract_tree.specs.Tree.{StatementTree, StatementTrees, no_statement, statements, statement_list, FunctionTree}
use Rattle.contract_tree.specs.declared.tree.Param.{Param}
use Rattle.contract_tree.specs.declared.tree.ValueKind.{ValueKind}
use Rattle.contract_tree.specs.declared.tree.ValueKind.TheVariants as k
use Rattle.contract_grammar.specs.declared.Obstacle.{Obstacle}
use Rattle.contract_grammar.specs.declared.Obstacle.TheVariants.{Nesting, Surplus}
use Rattle.contract_grammar.specs.Grammar.{Limits, Within, IsStatement, Lets, Assigns, Ifs, IfElses, Whiles, Puts, Removes, Fails, Returns, IsBlock, Block, IsStatements, Closes, Then, IsParam, IsOneParam, IsMoreParams, LastParam, MoreParams, IsParams, NoParams, Params, IsFunction, IsOneFunction, IsContract, LastFunction, MoreFunctions}
use Rattle.contract_grammar.specs.Marks.{the, is, is_not, is_no_end, has, any, is_end, name_of, declared_of, kind_of}
use Rattle.contract_grammar.specs.Reading.{block_of, block, a_param, param, params, a_function, function, contract}
use Rattle.contract_grammar.specs.Rules.{either_by, Rule, one, refuse}
use Rattle.contract_grammar.proofs.Laws.{IsRule, IsRet, Ret, ret_is, IsOne, One, ret_rule, one_rule}
use Rattle.contract_grammar.proofs.MarkFacts.{has_some}
use Rattle.contract_grammar.proofs.Sequence.{IsSeq, Seq, seq_rule}
use Rattle.contract_grammar.proofs.Choice.{Starts, seq_starts, renamed, IsEither, either_rule, IsEach, Nothing, Each, IsMoreOf, each_rule, closed_rule}
use Rattle.contract_grammar.proofs.Parts.{IsFair, token, the_is, has_one, is_one, leads_any, leads_start, differs_start, preceded_rule, terminated_rule}
use Rattle.contract_grammar.proofs.Operands.{IsAllowed}
use Rattle.contract_grammar.proofs.Expressions.{allowed_rule}
use Rattle.contract_grammar.proofs.Statements.{nothing_after, after_nothing}
use Rattle.contract_grammar.proofs.StatementRules.{is_other, declared_no_end, declared_is, statement_rule, block_begins}
use Rattle.contract_grammar.specs.declared.limits.TheConstants.{MAX_NESTING, MAX_PARAMETERS}
use Rattle.contract_grammar.proofs.Writable.{no_words, one_word, more_words, name_writable, mark_writable}
use Rattle.contract_grammar.specs.Faults.{AreWritable}

-- a token with which a statement begins
begins_statement : Token → Bool
begins_statement t = is m.Let t || is m.If t || is m.While t || is m.Put t || is m.Drop t || is m.Fail t || is m.Return t || has name_of t

mark_begins : (t : Token) → (is m.Let t ≡ true) ⊎ (is m.If t ≡ true) ⊎ (is m.While t ≡ true) ⊎ (is m.Put t ≡ true) ⊎ (is m.Drop t ≡ true) ⊎ (is m.Fail t ≡ true) ⊎ (is m.Return t ≡ true) ⊎ (has name_of t ≡ true) → begins_statement t ≡ true
unfolding begins_statement
mark_begins t h = grind arith

begins_no_brace : (t : Token) → begins_statement t ≡ true → is_not m.BraceClose t ≡ true
unfolding begins_statement
begins_no_brace t h = grind arith

begins_no_else : (t : Token) → begins_statement t ≡ true → is_not m.Else t ≡ true
unfolding begins_statement
begins_no_else t h = grind arith

close_no_else : (t : Token) → is m.BraceClose t ≡ true → is_not m.Else t ≡ true
close_no_else t h = grind arith

close_leaves : (t : Token) → is m.BraceClose t ≡ true → is_not m.BraceClose t ≡ false
close_leaves t h = grind arith

statement_begins : {l : Limits} (d : ℕ) → Starts begins_statement (IsStatement l d)
statement_begins d f s (Lets _ t at n name a p y x c end e g h i j) =
    mark_begins t (inl (the_is m.Let t at e))
statement_begins d f s (Assigns _ n name a p y x c end g h i j) =
    mark_begins n (inr (inr (inr (inr (inr (inr (inr (ap is_some g))))))))
statement_begins d f s (Ifs _ t at y x b first e i j) =
    mark_begins t (inr (inl (the_is m.If t at e)))
statement_begins d f s (IfElses _ t at y x b first o p c second e i j g k) =
    mark_begins t (inr (inl (the_is m.If t at e)))
statement_begins d f s (Whiles _ t at y x b body e i j) =
    mark_begins t (inr (inr (inl (the_is m.While t at e))))
statement_begins d f s (Puts _ t at y key a p z value h parts e i g j k) =
    mark_begins t (inr (inr (inr (inl (the_is m.Put t at e)))))
statement_begins d f s (Removes _ t at y key h parts e i k) =
    mark_begins t (inr (inr (inr (inr (inl (the_is m.Drop t at e))))))
statement_begins d f s (Fails _ t at c end e h) =
    mark_begins t (inr (inr (inr (inr (inr (inl (the_is m.Fail t at e)))))))
statement_begins d f s (Returns _ t at c end e h) =
    mark_begins t (inr (inr (inr (inr (inr (inr (inl (the_is m.Return t at e))))))))

-- statements in braces, in terms of combined readers
abbrev pub IsBlockBy : Limits → ℕ → List Token → StatementTrees → Type 0
IsBlockBy l d = IsSeq (IsOne (the m.BraceOpen)) (λ at. IsSeq (IsMoreOf (λ n. IsStatement l d) []) (λ all. IsSeq (IsOne (the m.BraceClose)) (λ end. IsRet (statement_list all))))

pub close_statements : {l : Limits} (d n : ℕ) (y : List Token) (items : List StatementTree)
    → IsEach (λ n. IsStatement l d) n y items → (c : Token) (end : ℕ)
    → the m.BraceClose c ≡ Some end → IsStatements l d (y ++ c ∷ []) (statement_list items)
close_statements d n y items (Nothing _) c end h = Closes d c end h
close_statements {l} d n f items (Each _ s more y z i j) c end h = subst (λ v. IsStatements l d v (statements s (statement_list more))) (sym (append_assoc y z (c ∷ []))) (Then d y s (z ++ c ∷ []) (statement_list more) i (close_statements d (suc n) z more j c end h))

record IsClosedBlock (l : Limits) (d n : ℕ) (z : List Token) (ss : StatementTrees) : Type 0 where
  y : List Token
  c : Token
  end : ℕ
  items : List StatementTree
  path : z ≡ y ++ c ∷ []
  tree_is : ss ≡ statement_list items
  all : IsEach (λ n. IsStatement l d) n y items
  closes : the m.BraceClose c ≡ Some end

open_statements : {l : Limits} (d n : ℕ) (z : List Token) (ss : StatementTrees)
    → IsStatements l d z ss → IsClosedBlock l d n z ss
open_statements d n z ss (Closes _ c end h) = record { y = []; c = c; end = end; items = []; path = refl; tree_is = refl; all = Nothing n; closes = h }
open_statements d n f ss (Then _ y s z more i j) =
    let r = open_statements d (suc n) z more j in
    record { y = y ++ r.y; c = r.c; end = r.end; items = s ∷ r.items; path = ap (λ v. y ++ v) r.path ∙ sym (append_assoc y r.y (r.c ∷ [])); tree_is = ap (λ v. statements s v) r.tree_is; all = Each n s r.items y r.y i r.all; closes = r.closes }

pub block_to : {l : Limits} (d : ℕ) (f : List Token) (ss : StatementTrees)
    → IsAllowed (Within l.nesting d) (IsBlockBy l d) f ss → IsBlock l d f ss
block_to {l} d f ss (may, Seq _ _ at _ (One o _ e) (Seq y _ had _ i (Seq _ z end _ (One c _ h) r))) =
    let q = ret_is r in
    let listed : IsStatements l d (y ++ c ∷ []) (statement_list i.0) = close_statements d 0 y i.0 i.2 c end h in
    subst (λ v. IsBlock l d (o ∷ (y ++ c ∷ v)) ss) (sym q.0) (subst (λ v. IsBlock l d (o ∷ (y ++ c ∷ [])) v) (sym (q.1 ∙ ap statement_list i.1)) (Block d o at (y ++ c ∷ []) (statement_list i.0) e may listed))

block_from : {l : Limits} (d : ℕ) (f : List Token) (ss : StatementTrees) → IsBlock l d f ss
    → IsAllowed (Within l.nesting d) (IsBlockBy l d) f ss
block_from {l} d f ss (Block _ o at z _ e may i) =
    let r = open_statements d 0 z ss i in
    let refuse : IsSeq (IsOne (the m.BraceClose)) (λ end. IsRet (statement_list r.items)) (r.c ∷ []) (statement_list r.items) = Seq (r.c ∷ []) [] r.end (statement_list r.items) (One r.c r.end r.closes) Ret in
    let made : IsBlockBy l d (o ∷ (r.y ++ r.c ∷ [])) (statement_list r.items) = Seq (o ∷ []) (r.y ++ r.c ∷ []) at (statement_list r.items) (One o at e) (Seq r.y (r.c ∷ []) r.items (statement_list r.items) (r.items, refl, r.all) refuse) in
    (may, subst (λ v. IsBlockBy l d (o ∷ v) ss) (sym r.path) (subst (λ v. IsBlockBy l d (o ∷ (r.y ++ r.c ∷ [])) v) (sym r.tree_is) made))

pub brace_token : Token
brace_token = token (w.Mark m.BraceClose)

pub brace_is : the m.BraceClose brace_token ≡ Some 0
unfolding brace_token
brace_is = refl

pub brace_written : AreWritable (brace_token ∷ [])
unfolding brace_token
brace_written = one_word (token (w.Mark m.BraceClose)) (mark_writable m.BraceClose)

brace_told : (t : Token) → is m.BraceOpen t ≡ true → is m.BraceOpen t ≡ true
brace_told t h = h

brace_at : (t : Token) → is m.BraceOpen t ≡ true → the m.BraceOpen t ≡ Some t.at
brace_at t h = grind arith

block_may : {l : Limits} (d : ℕ) (f : List Token) (ss : StatementTrees) → IsBlock l d f ss
    → Within l.nesting d
block_may d f ss (Block _ o at z _ e may i) = may

module _ {l : Limits} {E : Obstacle → Type 0} {U : Type 0} (fair : IsFair l E U) where
  closed_block : (d : ℕ) → d ≡ suc MAX_NESTING
      → IsRule E U (refuse Nesting (is m.BraceOpen)) (IsBlock l d) any
  closed_block d full =
      closed_rule Nesting (is m.BraceOpen) refl brace_told
      (λ u. (token (w.Mark m.BraceOpen) ∷ brace_token ∷ [], no_statement, more_words (token (w.Mark m.BraceOpen)) (brace_token ∷ []) (mark_writable m.BraceOpen) brace_written, Block d (token (w.Mark m.BraceOpen)) 0 (brace_token ∷ []) no_statement refl (fair.nesting_free u d) (Closes d brace_token 0 brace_is)))
      (λ u t h. (brace_token ∷ [], no_statement, brace_written, Block d t t.at (brace_token ∷ []) no_statement (brace_at t h) (fair.nesting_free u d) (Closes d brace_token 0 brace_is)))
      (block_begins d)
      (λ f ss i. elim (fair.nesting_fair d (block_may d f ss i)) [ inl k ↦ absurd (omega (arith, k, full)) | inr x ↦ x ])

  block_of_rule : (d : ℕ) {inner : Rule StatementTrees} → IsRule E U inner (IsBlock l (suc d)) any
      → IsRule E U (block_of inner) (IsBlockBy l d) any
  block_of_rule d h =
      let items = each_rule {T = is m.BraceClose} (is_not m.BraceClose) begins_statement (λ n. statement_rule fair d h) (λ n. statement_begins d) begins_no_brace begins_no_else close_no_else close_leaves [] in
      preceded_rule m.BraceOpen (seq_rule items (λ all. terminated_rule m.BraceClose (statement_list all)) (leads_start (is m.BraceClose) (is m.BraceClose) any (λ all. IsSeq (IsOne (the m.BraceClose)) (λ end. IsRet (statement_list all))) (λ all. seq_starts (is m.BraceClose) (is_one m.BraceClose)) (λ t e. e)))

  pub block_rule : (n d : ℕ) → n + d ≡ suc MAX_NESTING → IsRule E U (block n) (IsBlock l d) any
  unfolding block
  block_rule zero d e = closed_block d (omega (arith, e))
  block_rule (suc n) d e =
      let inner = block_rule n (suc d) (omega (arith, e)) in
      let may : Within l.nesting d = fair.nesting_kept d (omega (arith, e)) in
      renamed (allowed_rule may (block_of_rule d inner)) (block_to d) (block_from d)

abbrev pub IsParamBy : Limits → ℕ → List Token → Param → Type 0
IsParamBy l n = IsSeq (IsAllowed (Within l.parameters (suc n)) (IsOne declared_of)) (λ name. IsSeq (IsOne (the m.Colon)) (λ p. IsSeq (IsOne kind_of) (λ kind. IsRet (a_param name kind))))

pub param_to : {l : Limits} (n : ℕ) (f : List Token) (x : Param) → IsParamBy l n f x
    → IsParam l n f x
param_to {l} n f x (Seq _ _ name _ (may, One t _ e) (Seq _ _ p _ (One c _ g) (Seq _ z kind _ (One o _ h) r))) =
    let q = ret_is r in
    subst (λ v. IsParam l n (t ∷ c ∷ o ∷ v) x) (sym q.0) (subst (λ v. IsParam l n (t ∷ c ∷ o ∷ []) v) (sym q.1) (IsOneParam n t name c p o kind e may g h))

param_from : {l : Limits} (n : ℕ) (f : List Token) (x : Param) → IsParam l n f x → IsParamBy l n f x
param_from n f x (IsOneParam _ t name c p o kind e may g h) = Seq (t ∷ []) (c ∷ o ∷ []) name x (may, One t name e) (Seq (c ∷ []) (o ∷ []) p x (One c p g) (Seq (o ∷ []) [] kind x (One o kind h) Ret))

-- parameters after the first, in terms of combined readers
abbrev pub IsMoreParamsBy : Limits → Param → List Token → List Param → Type 0
IsMoreParamsBy l x = IsSeq (IsMoreOf (λ n. IsSeq (IsOne (the m.Comma)) (λ at. IsParam l n)) (x ∷ [])) (λ all. IsSeq (IsOne (the m.ParenClose)) (λ end. IsRet all))

abbrev pub IsParamsBy : Limits → List Token → List Param → Type 0
IsParamsBy l = IsSeq (IsOne (the m.ParenOpen)) (λ at. IsEither (IsSeq (IsOne (the m.ParenClose)) (λ end. IsRet [])) (IsSeq (IsParam l 0) (IsMoreParamsBy l)))

pub close_params : {l : Limits} (n : ℕ) (y : List Token) (items : List Param)
    → IsEach (λ n. IsSeq (IsOne (the m.Comma)) (λ at. IsParam l n)) n y items
    → (c : Token) (end : ℕ) → the m.ParenClose c ≡ Some end → IsMoreParams l n (y ++ c ∷ []) items
close_params n y items (Nothing _) c end h = LastParam n c end h
close_params {l} n y items (Each _ a more _ z (Seq _ f at _ (One t _ e) i) j) c end h =
    subst (λ v. IsMoreParams l n (t ∷ v) (a ∷ more)) (sym (append_assoc f z (c ∷ []))) (MoreParams n t at f a (z ++ c ∷ []) more e i (close_params (suc n) z more j c end h))

record IsClosedParams (l : Limits) (n : ℕ) (z : List Token) (xs : List Param) : Type 0 where
  y : List Token
  c : Token
  end : ℕ
  path : z ≡ y ++ c ∷ []
  items : IsEach (λ n. IsSeq (IsOne (the m.Comma)) (λ at. IsParam l n)) n y xs
  closes : the m.ParenClose c ≡ Some end

open_params : {l : Limits} (n : ℕ) (z : List Token) (xs : List Param) → IsMoreParams l n z xs
    → IsClosedParams l n z xs
open_params n z xs (LastParam _ c end h) =
    record { y = []; c = c; end = end; path = refl; items = Nothing n; closes = h }
open_params n z xs (MoreParams _ t at y x f more e i j) =
    let r = open_params (suc n) f more j in
    record { y = (t ∷ y) ++ r.y; c = r.c; end = r.end; path = ap (λ v. t ∷ (y ++ v)) r.path ∙ sym (append_assoc (t ∷ y) r.y (r.c ∷ [])); items = Each n x more (t ∷ y) r.y (Seq (t ∷ []) y at x (One t at e) i) r.items; closes = r.closes }

pub params_to : {l : Limits} (f : List Token) (xs : List Param) → IsParamsBy l f xs
    → IsParams l f xs
params_to {l} f xs (Seq _ _ at _ (One o _ e) (inl (Seq _ g end _ (One c _ h) r))) =
    let q = ret_is r in
    subst (λ v. IsParams l (o ∷ c ∷ v) xs) (sym q.0) (subst (λ v. IsParams l (o ∷ c ∷ []) v) (sym q.1) (NoParams o at c end e h))
params_to {l} f xs (Seq _ _ at _ (One o _ e) (inr (Seq y _ x _ i (Seq g _ had _ items (Seq _ z end _ (One c _ h) r))))) =
    let q = ret_is r in
    let listed : IsMoreParams l 1 (g ++ c ∷ []) items.0 = close_params 1 g items.0 items.2 c end h in
    subst (λ v. IsParams l (o ∷ (y ++ (g ++ c ∷ v))) xs) (sym q.0) (subst (λ v. IsParams l (o ∷ (y ++ (g ++ c ∷ []))) v) (sym (q.1 ∙ items.1)) (Params o at y x (g ++ c ∷ []) items.0 e i listed))

params_from : {l : Limits} (f : List Token) (xs : List Param) → IsParams l f xs → IsParamsBy l f xs
params_from f xs (NoParams o at c end e h) =
    Seq (o ∷ []) (c ∷ []) at [] (One o at e) (inl (Seq (c ∷ []) [] end [] (One c end h) Ret))
params_from {l} f xs (Params o at y x z more e i j) =
    let r = open_params 1 z more j in
    let refuse : IsSeq (IsOne (the m.ParenClose)) (λ end. IsRet (x ∷ more)) (r.c ∷ []) (x ∷ more) = Seq (r.c ∷ []) [] r.end (x ∷ more) (One r.c r.end r.closes) Ret in
    let made : IsMoreParamsBy l x (r.y ++ r.c ∷ []) (x ∷ more) = Seq r.y (r.c ∷ []) (x ∷ more) (x ∷ more) (more, refl, r.items) refuse in
    Seq (o ∷ []) (y ++ z) at (x ∷ more) (One o at e) (inr (Seq y z x (x ∷ more) i (subst (λ v. IsMoreParamsBy l x v (x ∷ more)) (sym r.path) made)))

declared_name : (t : Token) → has declared_of t ≡ true → has name_of t ≡ true
declared_name t h = grind arith

declared_no_close : (t : Token) → has declared_of t ≡ true → is m.ParenClose t ≡ false
declared_no_close t h = grind arith

kind_no_end : (t : Token) (kind : ValueKind) → kind_of t ≡ Some kind → is_end t ≡ false
kind_no_end t kind e = grind arith

function_goes : (t : Token) → is m.Fn t ≡ true → is_no_end t ≡ true
function_goes t h = grind arith

end_leaves : (t : Token) → is_end t ≡ true → is_no_end t ≡ false
end_leaves t h = grind arith

abbrev pub IsFunctionBy : Limits → List Token → FunctionTree → Type 0
IsFunctionBy l = IsSeq (IsOne (the m.Fn)) (λ at. IsSeq (IsOne declared_of) (λ name. IsSeq (IsParams l) (λ ps. IsSeq (IsBlock l 1) (λ body. IsRet (a_function name ps body)))))

pub function_to : {l : Limits} (f : List Token) (x : FunctionTree) → IsFunctionBy l f x
    → IsFunction l f x
function_to {l} f x (Seq _ _ at _ (One t _ e) (Seq _ _ name _ (One n _ g) (Seq y z ps _ i j))) =
    let q = nothing_after j in
    subst (λ v. IsFunction l (t ∷ n ∷ (y ++ z)) v) (sym q.1) (IsOneFunction t at n name y ps z q.0 e g i q.2)

function_from : {l : Limits} (f : List Token) (x : FunctionTree) → IsFunction l f x
    → IsFunctionBy l f x
function_from f x (IsOneFunction t at n name y ps z body e g i j) = Seq (t ∷ []) (n ∷ (y ++ z)) at x (One t at e) (Seq (n ∷ []) (y ++ z) name x (One n name g) (Seq y z ps x i (after_nothing (a_function name ps) z body j)))

abbrev pub IsContractBy : Limits → List Token → List FunctionTree → Type 0
IsContractBy l = IsSeq (IsFunction l) (λ f. IsMoreOf (λ n. IsFunction l) (f ∷ []))

pub functions_to : {l : Limits} (n : ℕ) (y : List Token) (f : FunctionTree) → IsFunction l y f
    → (z : List Token) (items : List FunctionTree) → IsEach (λ n. IsFunction l) n z items
    → IsContract l (y ++ z) (f ∷ items)
functions_to {l} n y f i z items (Nothing _) =
    subst (λ v. IsContract l v (f ∷ [])) (sym (append-nil y)) (LastFunction y f i)
functions_to n y f i z items (Each _ g more b c j k) =
    MoreFunctions y f (b ++ c) (g ∷ more) i (functions_to (suc n) b g j c more k)

pub contract_to : {l : Limits} (f : List Token) (all : List FunctionTree) → IsContractBy l f all
    → IsContract l f all
contract_to {l} f all (Seq y z x _ i (items, path, j)) =
    subst (λ v. IsContract l (y ++ z) v) (sym path) (functions_to 1 y x i z items j)

functions_from : {l : Limits} (n : ℕ) (y : List Token) (all : List FunctionTree)
    → IsContract l y all → IsEach (λ n. IsFunction l) n y all
functions_from {l} n y all (LastFunction _ f i) = subst (λ v. IsEach (λ n. IsFunction l) n v (f ∷ [])) (append-nil y) (Each n f [] y [] i (Nothing (suc n)))
functions_from n y all (MoreFunctions b f c more i j) =
    Each n f more b c i (functions_from (suc n) c more j)

contract_from : {l : Limits} (f : List Token) (all : List FunctionTree) → IsContract l f all
    → IsContractBy l f all
contract_from {l} f all (LastFunction y x i) = subst (λ v. IsContractBy l v (x ∷ [])) (append-nil y) (Seq y [] x (x ∷ []) i ([], refl, Nothing 1))
contract_from f all (MoreFunctions y x z more i j) =
    Seq y z x (x ∷ more) i (more, refl, functions_from 1 z more j)

params_begin : {l : Limits} → Starts (is m.ParenOpen) (IsParams l)
params_begin f xs (NoParams o at c end e h) = the_is m.ParenOpen o at e
params_begin f xs (Params o at y x z more e i j) = the_is m.ParenOpen o at e

function_begins : {l : Limits} → Starts (is m.Fn) (IsFunction l)
function_begins f x (IsOneFunction t at n name y ps z body e g i j) = the_is m.Fn t at e

param_begins : {l : Limits} (n : ℕ) → Starts (has declared_of) (IsParam l n)
param_begins n f x (IsOneParam _ t name c p o kind e may g h) = ap is_some e

one_begins : {W : Type 0} → Starts (has declared_of) (IsAllowed W (IsOne declared_of))
one_begins f x i = has_one declared_of f x i.1

module _ {l : Limits} {E : Obstacle → Type 0} {U : Type 0} (fair : IsFair l E U) where
  name_rule : (n : ℕ) (b : Bool) → ltb n MAX_PARAMETERS ≡ b → IsRule E U (either_by b (one declared_of) (refuse Surplus (has declared_of))) (IsAllowed (Within l.parameters (suc n)) (IsOne declared_of)) any
  name_rule n true e = allowed_rule (fair.parameters_kept (suc n) (ltb-true n MAX_PARAMETERS e)) (one_rule declared_of (token (w.Name (codes "x"))) (0, codes "x") declared_is name_writable declared_no_end)
  name_rule n false e =
      closed_rule Surplus (has declared_of) refl declared_name
      (λ u. (token (w.Name (codes "x")) ∷ [], (0, codes "x"), one_word (token (w.Name (codes "x"))) name_writable, (fair.parameters_free u (suc n), One (token (w.Name (codes "x"))) (0, codes "x") declared_is)))
      (λ u t h. let q = has_some (declared_of t) h in ([], q.0, no_words, (fair.parameters_free u (suc n), One t q.0 q.1)))
      one_begins
      (λ f x i. elim (fair.parameters_fair (suc n) i.0) [ inl k ↦ absurd (omega (arith, ltb-false n MAX_PARAMETERS e, k)) | inr y ↦ y ])

  param_rule : (n : ℕ) → IsRule E U (param n) (IsParam l n) any
  param_rule n =
      let kinds = λ (name : ℕ × List ℕ). seq_rule (one_rule {S = any} kind_of (token (w.Mark m.Int)) k.Int refl (mark_writable m.Int) kind_no_end) (λ kind. ret_rule (a_param name kind)) (leads_any (λ kind. IsRet (a_param name kind)) any) in
      let made = seq_rule (name_rule n (ltb n MAX_PARAMETERS) refl) (λ name. preceded_rule m.Colon (kinds name)) (leads_any (λ name. IsSeq (IsOne (the m.Colon)) (λ p. IsSeq (IsOne kind_of) (λ kind. IsRet (a_param name kind)))) any) in
      renamed made (param_to n) (param_from n)

  params_rule : IsRule E U params (IsParams l) any
  params_rule =
      let items = λ (x : Param). each_rule {T = is m.ParenClose} (is m.Comma) (is m.Comma) (λ n. preceded_rule m.Comma (param_rule n)) (λ n. seq_starts (is m.Comma) (is_one m.Comma)) (λ t e. e) (λ t e. refl) (λ t e. refl) (is_other m.Comma m.ParenClose refl) (x ∷ []) in
      let more = λ (x : Param). seq_rule (items x) (λ all. terminated_rule {S = any} m.ParenClose all) (leads_start (is m.ParenClose) (is m.ParenClose) any (λ all. IsSeq (IsOne (the m.ParenClose)) (λ end. IsRet all)) (λ all. seq_starts (is m.ParenClose) (is_one m.ParenClose)) (λ t e. e)) in
      let listed = seq_rule (param_rule 0) more (leads_any (IsMoreParamsBy l) any) in
      let chosen = either_rule (is m.ParenClose) (terminated_rule m.ParenClose []) listed (seq_starts (is m.ParenClose) (is_one m.ParenClose)) (differs_start (is m.ParenClose) (has declared_of) any (IsSeq (IsParam l 0) (IsMoreParamsBy l)) (seq_starts (has declared_of) (param_begins 0)) declared_no_close) in
      renamed (preceded_rule m.ParenOpen chosen) params_to params_from

  function_rule : IsRule E U function (IsFunction l) any
  unfolding function
  function_rule =
      let bodies = λ (name : ℕ × List ℕ) (ps : List Param). seq_rule (block_rule fair MAX_NESTING 1 refl) (λ body. ret_rule (a_function name ps body)) (leads_any (λ body. IsRet (a_function name ps body)) any) in
      let heads = λ (name : ℕ × List ℕ). seq_rule params_rule (bodies name) (leads_any (λ ps. IsSeq (IsBlock l 1) (λ body. IsRet (a_function name ps body))) any) in
      let names = seq_rule (one_rule {S = any} declared_of (token (w.Name (codes "x"))) (0, codes "x") declared_is name_writable declared_no_end) heads (leads_any (λ name. IsSeq (IsParams l) (λ ps. IsSeq (IsBlock l 1) (λ body. IsRet (a_function name ps body)))) any) in
      renamed (preceded_rule m.Fn names) function_to function_from

  pub contract_rule : IsRule E U contract (IsContract l) is_end
  unfolding contract
  contract_rule =
      let items = λ (f : FunctionTree). each_rule {T = is_end} is_no_end (is m.Fn) (λ n. function_rule) (λ n. function_begins) function_goes (λ t e. refl) (λ t e. refl) end_leaves (f ∷ []) in
      renamed (seq_rule function_rule items (leads_any (λ f. IsMoreOf (λ n. IsFunction l) (f ∷ [])) is_end)) contract_to contract_from
