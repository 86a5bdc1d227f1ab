-- The laws of operands and of whole expressions.
use Rattle.std.proofs.Common.{codes, ◌≡◌, ℕ, ℤ, pos, zero, suc, ◌+◌, Bool, true, false, List, [], ◌∷◌, Some, inl, inr, refl, arith}
use Rattle.contract_tokens.specs.declared.token.Token.{Token}
use Rattle.contract_tokens.specs.declared.token.Mark.TheVariants as m
use Rattle.contract_tokens.specs.declared.token.Word.TheVariants as w
use Rattle.contract_tree.specs.Tree.{Tree, trees, height}
use Rattle.contract_tree.specs.Tree as tree
use Rattle.contract_tree.specs.declared.tree.Sign.{Sign}
use Rattle.contract_tree.specs.declared.tree.Sign.TheVariants as s
use Rattle.contract_grammar.specs.declared.Obstacle.{Obstacle}
use Rattle.contract_grammar.specs.declared.Obstacle.TheVariants.{Pending}
use Rattle.contract_grammar.specs.Grammar.{Limits, Within, IsExpr, Number, Tighter, IsArgs, NoArgs}
use Rattle.contract_grammar.specs.Marks.{the, is, has, any, stops, int_of, text_of, name_of, builtin_of, prefix_of}
use Rattle.contract_grammar.specs.Reading.{after_mark, before_mark, args, literal, name_or_call, builtin_call, operand_of, operand, call_of, prefix_node}
use Rattle.contract_grammar.specs.Rules.{Rule, one, refuse, seq}
use Rattle.contract_grammar.proofs.Laws.{IsRule, IsRet, Ret, IsGuarded, Guarded, IsOne, One, ret_rule, one_rule}
use Rattle.contract_grammar.proofs.MarkFacts.{begins, begins_no_close, comma_stops, close_stops, close_no_comma, stops_no_paren, builtin_no_name, prefix_no_name, paren_no_name, text_no_name, int_no_name, prefix_no_builtin, paren_no_builtin, text_no_builtin, int_no_builtin, paren_no_prefix, text_no_prefix, int_no_prefix, text_no_paren, int_no_paren, int_no_text, name_no_end, builtin_no_end, prefix_no_end, text_no_end, int_no_end, paren_opens, prefix_opens, has_the, has_some}
use Rattle.contract_grammar.proofs.Sequence.{IsSeq, Seq, seq_rule}
use Rattle.contract_grammar.proofs.Choice.{Starts, Differs, head_not, seq_starts, ret_differs, renamed, IsEither, either_rule, closed_rule}
use Rattle.contract_grammar.proofs.Parts.{IsFair, token, has_one, is_one, leads_any, leads_start, leads_guarded, differs_start, differs_either, preceded_rule, terminated_rule, node_rule, more_rule, IsMoreOfThem}
use Rattle.contract_grammar.proofs.Levels.{level_rule}
use Rattle.contract_grammar.proofs.Operands.{args_to, args_from, args_begin, IsAllowed, IsCall, IsNamed, IsBuiltin, IsPrefixedBy, IsPrefixed, IsGroupedBy, IsGrouped, IsText, IsInt, operand_to, operand_from, expression_begins, more_stops}
use Rattle.contract_grammar.specs.declared.limits.TheConstants.{MAX_PENDING, WHOLE}
use Rattle.contract_grammar.proofs.Writable.{one_word, more_words, name_writable, mark_writable, empty_text, zero_fits}
use Rattle.contract_grammar.specs.Faults.{AreWritable}

pub number_token : Token
number_token = token (w.Int (pos 0))

pub a_number : Tree
a_number = tree.Int 0 (pos 0)

pub number_is : {l : Limits} (d : ℕ) → IsExpr l d 0 (number_token ∷ []) a_number
unfolding number_token a_number
number_is d = Number d (token (w.Int (pos 0))) (0, pos 0) refl

pub expression_is : {l : Limits} {d : ℕ} {y : List Token} {x : Tree} → IsExpr l d 0 y x → IsExpr l d WHOLE y x
expression_is {l} {d} {y} {x} i = Tighter d 5 y x (Tighter d 4 y x (Tighter d 3 y x (Tighter d 2 y x (Tighter d 1 y x (Tighter d 0 y x i)))))

pub close_token : Token
close_token = token (w.Mark m.ParenClose)

pub close_is : the m.ParenClose close_token ≡ Some 0
unfolding close_token
close_is = refl

pub close_written : AreWritable (close_token ∷ [])
unfolding close_token
close_written = one_word (token (w.Mark m.ParenClose)) (mark_writable m.ParenClose)

pub number_written : AreWritable (number_token ∷ [])
unfolding number_token
number_written = one_word (token (w.Int (pos 0))) zero_fits

pub group_written : AreWritable (number_token ∷ close_token ∷ [])
unfolding number_token
group_written = more_words (token (w.Int (pos 0))) (close_token ∷ []) zero_fits close_written

module _ {l : Limits} {E : Obstacle → Type 0} {U : Type 0} (fair : IsFair l E U) (d : ℕ) where
  pub args_rule : {expression : Rule Tree} → IsRule E U expression (IsExpr l d WHOLE) (stops WHOLE) → IsRule E U (after_mark m.ParenOpen (args expression)) (IsArgs l d) (stops 0)
  args_rule h =
      let more = more_rule fair {T = stops 0} m.ParenClose h comma_stops close_stops close_no_comma in
      let more_leads = leads_start (stops WHOLE) (stops WHOLE) (stops 0) (IsMoreOfThem (IsExpr l d WHOLE) m.ParenClose) (more_stops (stops WHOLE) m.ParenClose comma_stops close_stops) (λ t e. e) in
      let listed = seq_rule h more more_leads in
      let starts = λ (f : List Token) (xs : List Tree). seq_starts {Q = IsMoreOfThem (IsExpr l d WHOLE) m.ParenClose} begins (expression_begins d WHOLE) f xs in
      let chosen = either_rule (is m.ParenClose) (terminated_rule m.ParenClose []) listed (seq_starts (is m.ParenClose) (is_one m.ParenClose)) (differs_start (is m.ParenClose) begins (stops 0) (IsSeq (IsExpr l d WHOLE) (IsMoreOfThem (IsExpr l d WHOLE) m.ParenClose)) starts begins_no_close) in
      renamed (preceded_rule m.ParenOpen chosen) (args_to d) (args_from d)

  call_rule : {arguments : Rule (List Tree)} → IsRule E U arguments (IsAllowed (Within l.pending (suc d)) (IsArgs l (suc d))) (stops 0) → (n : ℕ × List ℕ) → IsRule E U (seq arguments (call_of n)) (IsCall l d n) (stops 0)
  call_rule h n = seq_rule h (λ xs. node_rule fair {S = stops 0} n.0 (tree.Call n.0 n.1 (trees xs))) (leads_guarded (stops 0) (stops 0) (λ xs. Within l.height (height (tree.Call n.0 n.1 (trees xs)))) (λ xs. tree.Call n.0 n.1 (trees xs)) (λ t e. e))

  call_begins : (n : ℕ × List ℕ) → Starts (is m.ParenOpen) (IsCall l d n)
  call_begins n = seq_starts (is m.ParenOpen) (λ f xs i. args_begin (suc d) f xs i.1)

  named_rule : {arguments : Rule (List Tree)} → IsRule E U arguments (IsAllowed (Within l.pending (suc d)) (IsArgs l (suc d))) (stops 0) → IsRule E U (name_or_call arguments) (IsNamed l d) (stops 0)
  named_rule h =
      let after = λ (n : ℕ × List ℕ). either_rule (is m.ParenOpen) (call_rule h n) (ret_rule (tree.Name n.0 n.1)) (call_begins n) (ret_differs (is m.ParenOpen) (tree.Name n.0 n.1) (head_not (stops 0) (is m.ParenOpen) stops_no_paren)) in
      seq_rule (one_rule {S = any} name_of (token (w.Name (codes "x"))) (0, codes "x") refl name_writable name_no_end) after (leads_any (λ n. IsEither (IsCall l d n) (IsRet (tree.Name n.0 n.1))) (stops 0))

  builtin_rule : {arguments : Rule (List Tree)} → IsRule E U arguments (IsAllowed (Within l.pending (suc d)) (IsArgs l (suc d))) (stops 0) → IsRule E U (builtin_call arguments) (IsBuiltin l d) (stops 0)
  builtin_rule h = seq_rule (one_rule {S = any} builtin_of (token (w.Mark m.Text)) (0, codes "text") refl (mark_writable m.Text) builtin_no_end) (call_rule h) (leads_any (IsCall l d) (stops 0))

  literal_rule : IsRule E U literal (IsEither IsText IsInt) (stops 0)
  literal_rule =
      let texts = seq_rule (one_rule {S = any} text_of (token (w.Text [])) (0, []) refl empty_text text_no_end) (λ n. ret_rule (tree.Text n.0 n.1)) (leads_any (λ (n : ℕ × List ℕ). IsRet (tree.Text n.0 n.1)) (stops 0)) in
      let ints = seq_rule (one_rule {S = any} int_of (token (w.Int (pos 0))) (0, pos 0) refl zero_fits int_no_end) (λ n. ret_rule (tree.Int n.0 n.1)) (leads_any (λ (n : ℕ × ℤ). IsRet (tree.Int n.0 n.1)) (stops 0)) in
      either_rule (has text_of) texts ints (seq_starts (has text_of) (has_one text_of)) (differs_start (has text_of) (has int_of) (stops 0) IsInt (seq_starts (has int_of) (has_one int_of)) int_no_text)

  builtin_differs : (f : Token → Bool) → ((t : Token) → has builtin_of t ≡ true → f t ≡ false) → Differs f (IsBuiltin l d) (stops 0)
  builtin_differs f other = differs_start f (has builtin_of) (stops 0) (IsBuiltin l d) (seq_starts (has builtin_of) (has_one builtin_of)) other

  prefix_begins : Starts (has prefix_of) (IsPrefixed l d)
  prefix_begins f x i = seq_starts (has prefix_of) (has_one prefix_of) f x i.1

  group_begins : Starts (is m.ParenOpen) (IsGrouped l d)
  group_begins f x i = seq_starts (is m.ParenOpen) (is_one m.ParenOpen) f x i.1

  literal_differs : (f : Token → Bool) → ((t : Token) → has text_of t ≡ true → f t ≡ false) → ((t : Token) → has int_of t ≡ true → f t ≡ false) → Differs f (IsEither IsText IsInt) (stops 0)
  literal_differs f texts ints = differs_either f (stops 0) IsText IsInt (differs_start f (has text_of) (stops 0) IsText (seq_starts (has text_of) (has_one text_of)) texts) (differs_start f (has int_of) (stops 0) IsInt (seq_starts (has int_of) (has_one int_of)) ints)

  group_differs : (f : Token → Bool) → ((t : Token) → is m.ParenOpen t ≡ true → f t ≡ false) → Differs f (IsGrouped l d) (stops 0)
  group_differs f other = differs_start f (is m.ParenOpen) (stops 0) (IsGrouped l d) group_begins other

  prefix_differs : (f : Token → Bool) → ((t : Token) → has prefix_of t ≡ true → f t ≡ false) → Differs f (IsPrefixed l d) (stops 0)
  prefix_differs f other = differs_start f (has prefix_of) (stops 0) (IsPrefixed l d) prefix_begins other

  operand_of_rule : {arguments : Rule (List Tree)} {prefixed grouped : Rule Tree} → IsRule E U arguments (IsAllowed (Within l.pending (suc d)) (IsArgs l (suc d))) (stops 0) → IsRule E U prefixed (IsPrefixed l d) (stops 0) → IsRule E U grouped (IsGrouped l d) (stops 0) → IsRule E U (operand_of arguments prefixed grouped) (IsExpr l d 0) (stops 0)
  operand_of_rule ha hp hg =
      let groups = either_rule (is m.ParenOpen) hg literal_rule group_begins (literal_differs (is m.ParenOpen) text_no_paren int_no_paren) in
      let prefixes = either_rule (has prefix_of) hp groups prefix_begins (differs_either (has prefix_of) (stops 0) (IsGrouped l d) (IsEither IsText IsInt) (group_differs (has prefix_of) paren_no_prefix) (literal_differs (has prefix_of) text_no_prefix int_no_prefix)) in
      let from_prefix = λ (f : Token → Bool) (p : (t : Token) → has prefix_of t ≡ true → f t ≡ false) (g : (t : Token) → is m.ParenOpen t ≡ true → f t ≡ false) (s : (t : Token) → has text_of t ≡ true → f t ≡ false) (n : (t : Token) → has int_of t ≡ true → f t ≡ false). differs_either f (stops 0) (IsPrefixed l d) (IsEither (IsGrouped l d) (IsEither IsText IsInt)) (prefix_differs f p) (differs_either f (stops 0) (IsGrouped l d) (IsEither IsText IsInt) (group_differs f g) (literal_differs f s n)) in
      let builtins = either_rule (has builtin_of) (builtin_rule ha) prefixes (seq_starts (has builtin_of) (has_one builtin_of)) (from_prefix (has builtin_of) prefix_no_builtin paren_no_builtin text_no_builtin int_no_builtin) in
      let names = either_rule (has name_of) (named_rule ha) builtins (seq_starts (has name_of) (has_one name_of)) (differs_either (has name_of) (stops 0) (IsBuiltin l d) (IsEither (IsPrefixed l d) (IsEither (IsGrouped l d) (IsEither IsText IsInt))) (builtin_differs (has name_of) builtin_no_name) (from_prefix (has name_of) prefix_no_name paren_no_name text_no_name int_no_name)) in
      renamed names (operand_to d) (λ f x i. operand_from d 0 f x i refl)

  no_room : d ≡ MAX_PENDING → Within l.pending (suc d) → E Pending
  no_room e may = elim (fair.pending_fair (suc d) may) [ inl k ↦ absurd (omega (arith, k, e)) | inr x ↦ x ]

  -- if no more may be pending
  closed_args : d ≡ MAX_PENDING → IsRule E U (refuse Pending (is m.ParenOpen)) (IsAllowed (Within l.pending (suc d)) (IsArgs l (suc d))) (stops 0)
  closed_args e =
      closed_rule Pending (is m.ParenOpen) refl paren_opens
      (λ u. (token (w.Mark m.ParenOpen) ∷ close_token ∷ [], [], more_words (token (w.Mark m.ParenOpen)) (close_token ∷ []) (mark_writable m.ParenOpen) close_written, (fair.pending_free u (suc d), NoArgs (suc d) (token (w.Mark m.ParenOpen)) 0 close_token 0 refl close_is)))
      (λ u t h. (close_token ∷ [], [], close_written, (fair.pending_free u (suc d), NoArgs (suc d) t t.at close_token 0 (has_the t h) close_is)))
      (λ f xs i. args_begin (suc d) f xs i.1)
      (λ f xs i. no_room e i.0)

  a_prefix : U → (t : Token) (s : ℕ × Sign) → prefix_of t ≡ Some s → IsPrefixed l d (t ∷ number_token ∷ []) (tree.Prefix s.0 s.1 a_number)
  a_prefix u t s e = (fair.pending_free u (suc d), Seq (t ∷ []) (number_token ∷ []) s (tree.Prefix s.0 s.1 a_number) (One t s e) (Seq (number_token ∷ []) [] a_number (tree.Prefix s.0 s.1 a_number) (number_is (suc d)) (Guarded (fair.height_free u (height (tree.Prefix s.0 s.1 a_number))))))

  closed_prefix : d ≡ MAX_PENDING → IsRule E U (refuse Pending (has prefix_of)) (IsPrefixed l d) (stops 0)
  closed_prefix e =
      closed_rule Pending (has prefix_of) refl prefix_opens
      (λ u. (token (w.Mark m.Minus) ∷ number_token ∷ [], tree.Prefix 0 s.Minus a_number, more_words (token (w.Mark m.Minus)) (number_token ∷ []) (mark_writable m.Minus) number_written, a_prefix u (token (w.Mark m.Minus)) (0, s.Minus) refl))
      (λ u t h. let q = has_some (prefix_of t) h in (number_token ∷ [], tree.Prefix q.0.0 q.0.1 a_number, number_written, a_prefix u t q.0 q.1))
      prefix_begins
      (λ f x i. no_room e i.0)

  a_group : U → (t : Token) (at : ℕ) → the m.ParenOpen t ≡ Some at → IsGrouped l d (t ∷ number_token ∷ close_token ∷ []) a_number
  a_group u t at e = (fair.pending_free u (suc d), Seq (t ∷ []) (number_token ∷ close_token ∷ []) at a_number (One t at e) (Seq (number_token ∷ []) (close_token ∷ []) a_number a_number (expression_is (number_is (suc d))) (Seq (close_token ∷ []) [] 0 a_number (One close_token 0 close_is) Ret)))

  closed_group : d ≡ MAX_PENDING → IsRule E U (refuse Pending (is m.ParenOpen)) (IsGrouped l d) (stops 0)
  closed_group e =
      closed_rule Pending (is m.ParenOpen) refl paren_opens
      (λ u. (token (w.Mark m.ParenOpen) ∷ number_token ∷ close_token ∷ [], a_number, more_words (token (w.Mark m.ParenOpen)) (number_token ∷ close_token ∷ []) (mark_writable m.ParenOpen) group_written, a_group u (token (w.Mark m.ParenOpen)) 0 refl))
      (λ u t h. (number_token ∷ close_token ∷ [], a_number, group_written, a_group u t t.at (has_the t h)))
      group_begins
      (λ f x i. no_room e i.0)

pub allowed_rule : {E : Obstacle → Type 0} {U : Type 0} {A : Type 0} {p : Rule A} {P : List Token → A → Type 0} {S : Token → Bool} {W : Type 0} → W → IsRule E U p P S → IsRule E U p (IsAllowed W P) S
allowed_rule may h = renamed h (λ f a i. (may, i)) (λ f a i. i.1)

module _ {l : Limits} {E : Obstacle → Type 0} {U : Type 0} (fair : IsFair l E U) where
  prefixed_rule : (d : ℕ) {inner : Rule Tree} → IsRule E U inner (IsExpr l (suc d) 0) (stops 0) → IsRule E U (seq (one prefix_of) (λ s. seq inner (prefix_node s))) (IsPrefixedBy l d) (stops 0)
  prefixed_rule d h =
      let made = λ (s : ℕ × Sign). seq_rule h (λ x. node_rule fair {S = stops 0} s.0 (tree.Prefix s.0 s.1 x)) (leads_guarded (stops 0) (stops 0) (λ x. Within l.height (height (tree.Prefix s.0 s.1 x))) (λ x. tree.Prefix s.0 s.1 x) (λ t e. e)) in
      seq_rule (one_rule {S = any} prefix_of (token (w.Mark m.Minus)) (0, s.Minus) refl (mark_writable m.Minus) prefix_no_end) made (leads_any (λ s. IsSeq (IsExpr l (suc d) 0) (λ x. IsGuarded (Within l.height (height (tree.Prefix s.0 s.1 x))) (tree.Prefix s.0 s.1 x))) (stops 0))

  grouped_rule : (d : ℕ) {inner : Rule Tree} → IsRule E U inner (IsExpr l (suc d) WHOLE) (stops WHOLE) → IsRule E U (after_mark m.ParenOpen (seq inner (before_mark m.ParenClose))) (IsGroupedBy l d) (stops 0)
  grouped_rule d h = preceded_rule m.ParenOpen (seq_rule h (λ x. terminated_rule m.ParenClose x) (leads_start (stops WHOLE) (is m.ParenClose) (stops 0) (λ (x : Tree). IsSeq (IsOne (the m.ParenClose)) (λ end. IsRet x)) (λ x. seq_starts (is m.ParenClose) (is_one m.ParenClose)) close_stops))

  pub operand_rule : (n d : ℕ) → n + d ≡ MAX_PENDING → IsRule E U (operand n) (IsExpr l d 0) (stops 0)
  unfolding operand
  operand_rule zero d e =
      let full : d ≡ MAX_PENDING = omega (arith, e) in
      operand_of_rule fair d (closed_args fair d full) (closed_prefix fair d full) (closed_group fair d full)
  operand_rule (suc n) d e =
      let inner = operand_rule n (suc d) (omega (arith, e)) in
      let whole = level_rule fair (suc d) inner WHOLE (omega arith) in
      let may : Within l.pending (suc d) = fair.pending_kept (suc d) (omega (arith, e)) in
      operand_of_rule fair d (allowed_rule may (args_rule fair (suc d) whole)) (allowed_rule may (prefixed_rule d inner)) (allowed_rule may (grouped_rule d whole))
