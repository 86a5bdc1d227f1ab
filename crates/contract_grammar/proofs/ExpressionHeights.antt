-- What a reader of expressions has read if one is too high: that expression is read last.
use Rattle.std.proofs.Common.{◌≡◌, ℕ, zero, suc, ◌+◌, ◌<◌, ◌≤◌, Bool, true, false, List, [], ◌∷◌, ◌++◌, length, Ok, Err, ◌⊎◌, inl, inr, refl, sym, ap, ◌∙◌, subst, arith, append_assoc}
use Rattle.std.proofs.lemmas.List.{append-nil}
use Rattle.contract_tokens.specs.declared.token.Token.{Token}
use Rattle.contract_tokens.specs.declared.token.Mark.{Mark}
use Rattle.contract_tokens.specs.declared.token.Mark.TheVariants as m
use Rattle.contract_tokens.specs.declared.token.Word.TheVariants as w
use Rattle.contract_tree.specs.Tree.{Tree, Trees, trees, height, heights}
use Rattle.contract_tree.specs.Tree as tree
use Rattle.contract_grammar.specs.declared.Obstacle.{Obstacle}
use Rattle.contract_grammar.specs.declared.Obstacle.TheVariants.{Unfit, Pending, Height}
use Rattle.contract_grammar.specs.Grammar.{no_limits, is_chained, IsExpr, Number, Literal, Named, Called, Prefixed, Grouped, Tighter, Chained, Compared, IsArgs, NoArgs, Args, IsMore, Last, More}
use Rattle.contract_grammar.specs.Marks.{is, has, stops, name_of, builtin_of, prefix_of, sign_of}
use Rattle.contract_grammar.specs.Reading.{after_mark, args, literal, name_or_call, builtin_call, operand_of, call_of, prefix_node, binary, rest_of_level, level_of, operand}
use Rattle.contract_grammar.specs.Rules.{Read, Rule, head_is, ret, one, refuse, next, seq, either_by, turns_below, turns}
use Rattle.contract_grammar.proofs.Laws.{IsRule, Ret, Guarded, err_is, no_ok, no_err, as_err, Begins, IsRet}
use Rattle.contract_grammar.specs.Faults.{heights_only}
use Rattle.contract_grammar.proofs.Sequence.{IsSeq, Seq}
use Rattle.contract_grammar.proofs.Choice.{IsEither, IsTurns, Over, Turn, turns_are}
use Rattle.contract_grammar.proofs.Parts.{IsFair, token}
use Rattle.contract_grammar.proofs.Levels.{level_rule, binary_rule, IsBinary, binary_is, IsRest, level_to}
use Rattle.contract_grammar.proofs.Operands.{IsAllowed, IsCall, IsNamed, IsBuiltin, IsPrefixedBy, IsPrefixed, IsGrouped, IsText, IsInt, IsOperand, operand_to}
use Rattle.contract_grammar.proofs.Expressions.{number_token, a_number, number_is, close_token, close_is, args_rule, operand_rule, number_written, close_written}
use Rattle.contract_grammar.proofs.Heights.{IsHole, IsItself, IsHigh, IsHighOr, hole_as, hole_after, hole_before, closed_high, high_or, ret_high, refused_high, seq_or, one_then, or_as, either_or, node_or}
use Rattle.contract_grammar.proofs.Completions.{IsSeen, seen_by, completes_as, closed_completes}
use Rattle.contract_grammar.proofs.ExpressionCompletions.{args_some, literal_full, args_full, grouped_full}
use Rattle.contract_grammar.specs.declared.limits.TheConstants.{MAX_HEIGHT, MAX_PENDING, WHOLE}
use Rattle.contract_grammar.proofs.Writable.{no_words, more_words, all_words, mark_writable}

-- an expression that keeps the limit is not too high
pub expression_low : (d k : ℕ) (f : List Token) (x : Tree) → IsExpr heights_only d k f x → height x ≤ MAX_HEIGHT
expression_low d k f x (Number _ t n e) = omega arith
expression_low d k f x (Literal _ t n e) = omega arith
expression_low d k f x (Named _ t n e) = omega arith
expression_low d k f x (Called _ t n y args e may i low) = low
expression_low d k f x (Prefixed _ t s y a e may i low) = low
expression_low d k f x (Grouped _ o at y _ c end e may i h) = expression_low (suc d) WHOLE y x i
expression_low d k f x (Tighter _ j y _ i) = expression_low d j y x i
expression_low d k f x (Chained _ j y a t s z b c i e r low) = low
expression_low d k f x (Compared _ j y a t s z b c i e r low) = low

more_low : (mark : Mark) (d : ℕ) (z : List Token) (xs : List Tree) → IsMore heights_only mark d z xs → heights (trees xs) ≤ MAX_HEIGHT
more_low mark d z xs (Last _ _ c end h) = omega arith
more_low mark d z xs (More _ _ t at y x f more e i j) = omega (arith, expression_low d WHOLE y x i, more_low mark d f more j)

args_low : (d : ℕ) (f : List Token) (xs : List Tree) → IsArgs heights_only d f xs → heights (trees xs) ≤ MAX_HEIGHT
args_low d f xs (NoArgs _ o at c end e h) = omega arith
args_low d f xs (Args _ o at y x z more e i j) = omega (arith, expression_low d WHOLE y x i, more_low m.ParenClose d z more j)

-- the parts of an operand around which `d` parentheses and prefixes are pending
module _ (d : ℕ) where
  call_or : {arguments : Rule (List Tree)} → IsSeen arguments (IsAllowed (Unit {0}) (IsArgs no_limits (suc d))) → ((ts rest : List Token) (xs : List Tree) → arguments ts ≡ (Ok xs, rest) → heights (trees xs) ≤ MAX_HEIGHT) → (n : ℕ × List ℕ) → IsHighOr (seq arguments (call_of n)) (IsCall no_limits d n)
  call_or {arguments} h low n =
      seq_or {Good = λ xs. heights (trees xs) ≤ MAX_HEIGHT} h.takes low (λ xs. ([], tree.Call n.0 n.1 (trees xs), no_words, Guarded tt)) (h.high tt) (λ xs g. node_or n.0 (tree.Call n.0 n.1 (trees xs)) refl (omega (arith, g)) tt)

  call_has : (n : ℕ × List ℕ) → Begins (IsCall no_limits d n) []
  call_has n = (token (w.Mark m.ParenOpen) ∷ close_token ∷ [], tree.Call n.0 n.1 (trees []), more_words (token (w.Mark m.ParenOpen)) (close_token ∷ []) (mark_writable m.ParenOpen) close_written, Seq (token (w.Mark m.ParenOpen) ∷ close_token ∷ []) [] [] (tree.Call n.0 n.1 (trees [])) (tt, NoArgs (suc d) (token (w.Mark m.ParenOpen)) 0 close_token 0 refl close_is) (Guarded tt))

  named_or : {arguments : Rule (List Tree)} → IsSeen arguments (IsAllowed (Unit {0}) (IsArgs no_limits (suc d))) → ((ts rest : List Token) (xs : List Tree) → arguments ts ≡ (Ok xs, rest) → heights (trees xs) ≤ MAX_HEIGHT) → IsHighOr (name_or_call arguments) (IsNamed no_limits d)
  named_or h low = one_then name_of (λ n. let k = call_has n in (k.0, k.1, k.2, inl k.3)) (λ n. either_or (call_or h low n) (high_or (ret_high (tree.Name n.0 n.1) (IsRet (tree.Name n.0 n.1)))) (is m.ParenOpen))

  builtin_or : {arguments : Rule (List Tree)} → IsSeen arguments (IsAllowed (Unit {0}) (IsArgs no_limits (suc d))) → ((ts rest : List Token) (xs : List Tree) → arguments ts ≡ (Ok xs, rest) → heights (trees xs) ≤ MAX_HEIGHT) → IsHighOr (builtin_call arguments) (IsBuiltin no_limits d)
  builtin_or h low = one_then builtin_of call_has (call_or h low)

  prefixed_or : {inner : Rule Tree} → IsSeen inner (IsExpr no_limits (suc d) 0) → ((ts rest : List Token) (x : Tree) → inner ts ≡ (Ok x, rest) → height x ≤ MAX_HEIGHT) → IsHighOr (seq (one prefix_of) (λ s. seq inner (prefix_node s))) (IsPrefixedBy no_limits d)
  prefixed_or h low =
      one_then prefix_of
      (λ s. (number_token ∷ [], tree.Prefix s.0 s.1 a_number, number_written, Seq (number_token ∷ []) [] a_number (tree.Prefix s.0 s.1 a_number) (number_is (suc d)) (Guarded tt)))
      (λ s. seq_or {Good = λ x. height x ≤ MAX_HEIGHT} h.takes low (λ x. ([], tree.Prefix s.0 s.1 x, no_words, Guarded tt)) (h.high tt) (λ x g. node_or s.0 (tree.Prefix s.0 s.1 x) refl (omega (arith, g)) tt))

  operand_or : {arguments : Rule (List Tree)} {prefixed grouped : Rule Tree} → IsSeen arguments (IsAllowed (Unit {0}) (IsArgs no_limits (suc d))) → ((ts rest : List Token) (xs : List Tree) → arguments ts ≡ (Ok xs, rest) → heights (trees xs) ≤ MAX_HEIGHT) → IsHighOr prefixed (IsPrefixed no_limits d) → IsHighOr grouped (IsGrouped no_limits d) → IsHighOr (operand_of arguments prefixed grouped) (IsOperand no_limits d)
  operand_or ha low hp hg =
      let literal : IsSeen literal (IsEither IsText IsInt) = literal_full in
      either_or (named_or ha low) (either_or (builtin_or ha low) (either_or hp (either_or hg (high_or (literal.high tt)) (is m.ParenOpen)) (has prefix_of)) (has builtin_of)) (has name_of)

-- ---- levels

unfit_not_height : (at : ℕ) → ◌≡◌ {A = Obstacle} Unfit (Height at) → ⊥
unfit_not_height at e = cc

module _ {E F : Obstacle → Type 0} {U V : Type 0} (free : IsFair no_limits E U) (u : U) (tall : IsFair heights_only F V) (d : ℕ) {operand : Rule Tree} (ho : IsRule E U operand (IsExpr no_limits d 0) (stops 0)) (hl : IsRule F V operand (IsExpr heights_only d 0) (stops 0)) (high : IsHigh operand (IsExpr no_limits d 0)) where
  pub level_low : (k : ℕ) → k ≤ WHOLE → (ts rest : List Token) (x : Tree) → level_of operand k ts ≡ (Ok x, rest) → height x ≤ MAX_HEIGHT
  level_low k few ts rest x e = let f = (level_rule tall d hl k few).takes ts rest x e in expression_low d k f.0 x f.2

  binary_low : (k : ℕ) → k < WHOLE → (x b : Tree) (ts rest : List Token) → binary (suc k) (level_of operand k) x ts ≡ (Ok b, rest) → height b ≤ MAX_HEIGHT
  binary_low k few x b ts rest e =
      let f = (binary_rule tall d k few (level_rule tall d hl k (omega (arith, few))) x).takes ts rest b e in
      let q = binary_is f.2 in
      subst (λ v. height v ≤ MAX_HEIGHT) (sym q.tree_is) q.low

  binary_has : (k : ℕ) → k < WHOLE → (x : Tree) → Begins (IsBinary no_limits d k x) []
  binary_has k few x = (binary_rule free d k few (level_rule free d ho k (omega (arith, few))) x).some u

  binary_or : (k : ℕ) → k < WHOLE → IsHigh (level_of operand k) (IsExpr no_limits d k) → (x : Tree) → height x ≤ MAX_HEIGHT → IsHighOr (binary (suc k) (level_of operand k) x) (IsBinary no_limits d k x)
  binary_or k few hk x low =
      let below = level_rule free d ho k (omega (arith, few)) in
      one_then (sign_of (suc k))
      (λ s. let g = below.some u in (g.0 ++ [], tree.Binary s.0 s.1 x g.1, all_words g.0 [] g.2 no_words, Seq g.0 [] g.1 (tree.Binary s.0 s.1 x g.1) g.3 (Guarded tt)))
      (λ s. seq_or {Good = λ w. height w ≤ MAX_HEIGHT} below.takes (level_low k (omega (arith, few))) (λ w. ([], tree.Binary s.0 s.1 x w, no_words, Guarded tt)) hk (λ w g. node_or s.0 (tree.Binary s.0 s.1 x w) refl (omega (arith, low, g)) tt))

  turned : (k : ℕ) (x : Tree) (prefix : List Token) (c : Tree) → IsSeq (IsBinary no_limits d k x) (IsTurns (IsBinary no_limits d k)) prefix c → IsTurns (IsBinary no_limits d k) x prefix c
  turned k x prefix c (Seq y z b _ i j) = Turn x b c y z i j

  turned_itself : (k : ℕ) (x b : Tree) (ts y mid rest : List Token) (at : ℕ) → ts ≡ y ++ mid → IsBinary no_limits d k x y b → IsItself (IsTurns (IsBinary no_limits d k) b) mid rest at → IsItself (IsTurns (IsBinary no_limits d k) x) ts rest at
  turned_itself k x b ts y mid rest at path i q = record { used = y ++ q.used; path = path ∙ ap (λ v. y ++ v) q.path ∙ sym (append_assoc y q.used rest); tree = q.tree; is_tree = Turn x b q.tree y q.used i q.is_tree; offset_is = q.offset_is; height_is = q.height_is }

  last_itself : (k : ℕ) (x : Tree) (ts rest : List Token) (at : ℕ) → IsItself (IsBinary no_limits d k x) ts rest at → IsItself (IsTurns (IsBinary no_limits d k) x) ts rest at
  last_itself k x ts rest at q = record { used = q.used; path = q.path; tree = q.tree; is_tree = subst (λ v. IsTurns (IsBinary no_limits d k) x v q.tree) (append-nil q.used) (Turn x q.tree q.tree q.used [] q.is_tree (Over q.tree)); offset_is = q.offset_is; height_is = q.height_is }

  turns_step : (n k : ℕ) → k < WHOLE → IsHigh (level_of operand k) (IsExpr no_limits d k) → ((x : Tree) → height x ≤ MAX_HEIGHT → IsHighOr (turns_below n (has (sign_of (suc k))) (binary (suc k) (level_of operand k)) x) (IsTurns (IsBinary no_limits d k) x)) → (x : Tree) → height x ≤ MAX_HEIGHT → (ts rest : List Token) (at : ℕ) (r : Read Tree) → binary (suc k) (level_of operand k) x ts ≡ r → next (turns_below n (has (sign_of (suc k))) (binary (suc k) (level_of operand k))) r ≡ (Err (Height at), rest) → IsHole (IsTurns (IsBinary no_limits d k) x) ts rest at ⊎ IsItself (IsTurns (IsBinary no_limits d k) x) ts rest at
  turns_step n k few hk go x low ts rest at (Ok b, mid) e h =
      let f = (binary_rule free d k few (level_rule free d ho k (omega (arith, few))) x).takes ts mid b e in
      elim (go b (binary_low k few x b ts mid e) mid rest at h) [
        | inl q ↦ inl (hole_as (turned k x) (hole_after ts f.0 mid rest b at f.1 f.2 q))
        | inr q ↦ inr (turned_itself k x b ts f.0 mid rest at f.1 f.2 q)
      ]
  turns_step n k few hk go x low ts rest at (Err why, mid) e h =
      elim (binary_or k few hk x low ts rest at (as_err e h)) [
        | inl q ↦ inl (hole_as (turned k x) (hole_before ts rest at (λ b. ([], b, no_words, Over b)) q))
        | inr q ↦ inr (last_itself k x ts rest at q)
      ]

  turns_by : (n k : ℕ) → k < WHOLE → IsHigh (level_of operand k) (IsExpr no_limits d k) → ((x : Tree) → height x ≤ MAX_HEIGHT → IsHighOr (turns_below n (has (sign_of (suc k))) (binary (suc k) (level_of operand k)) x) (IsTurns (IsBinary no_limits d k) x)) → (x : Tree) → height x ≤ MAX_HEIGHT → (ts rest : List Token) (at : ℕ) (b : Bool) → either_by b (seq (binary (suc k) (level_of operand k) x) (turns_below n (has (sign_of (suc k))) (binary (suc k) (level_of operand k)))) (ret x) ts ≡ (Err (Height at), rest) → IsHole (IsTurns (IsBinary no_limits d k) x) ts rest at ⊎ IsItself (IsTurns (IsBinary no_limits d k) x) ts rest at
  turns_by n k few hk go x low ts rest at true e = turns_step n k few hk go x low ts rest at (binary (suc k) (level_of operand k) x ts) refl e
  turns_by n k few hk go x low ts rest at false e = absurd (no_err e)

  below_or : (n k : ℕ) → k < WHOLE → IsHigh (level_of operand k) (IsExpr no_limits d k) → (x : Tree) → height x ≤ MAX_HEIGHT → IsHighOr (turns_below n (has (sign_of (suc k))) (binary (suc k) (level_of operand k)) x) (IsTurns (IsBinary no_limits d k) x)
  below_or zero k few hk x low ts rest at e = absurd (unfit_not_height at (err_is e).0)
  below_or (suc n) k few hk x low ts rest at e = turns_by n k few hk (below_or n k few hk) x low ts rest at (head_is (has (sign_of (suc k))) ts) e

  turns_or : (k : ℕ) → k < WHOLE → IsHigh (level_of operand k) (IsExpr no_limits d k) → (x : Tree) → height x ≤ MAX_HEIGHT → IsHighOr (turns (has (sign_of (suc k))) (binary (suc k) (level_of operand k)) x) (IsTurns (IsBinary no_limits d k) x)
  turns_or k few hk x low ts rest at e = below_or (suc (length ts)) k few hk x low ts rest at (sym (turns_are (has (sign_of (suc k))) (binary (suc k) (level_of operand k)) x ts) ∙ e)

  rest_or : (b : Bool) (k : ℕ) → k < WHOLE → IsHigh (level_of operand k) (IsExpr no_limits d k) → (x : Tree) → height x ≤ MAX_HEIGHT → IsHighOr (rest_of_level b (suc k) (level_of operand k) x) (IsRest no_limits d k b x)
  rest_or true k few hk x low = turns_or k few hk x low
  rest_or false k few hk x low = either_or (binary_or k few hk x low) (high_or (ret_high x (IsRet x))) (has (sign_of (suc k)))

  rest_has : (b : Bool) (k : ℕ) (x : Tree) → Begins (IsRest no_limits d k b x) []
  rest_has true k x = ([], x, no_words, Over x)
  rest_has false k x = ([], x, no_words, inr Ret)

  level_high : (k : ℕ) → k ≤ WHOLE → IsHigh (level_of operand k) (IsExpr no_limits d k)
  unfolding level_of
  level_high zero few = high
  level_high (suc k) few =
      let less : k < WHOLE = omega (arith, few) in
      let below = level_rule free d ho k (omega (arith, few)) in
      let hk = level_high k (omega (arith, few)) in
      closed_high d (suc k) (level_to (is_chained (suc k)) refl) (seq_or {Good = λ x. height x ≤ MAX_HEIGHT} below.takes (level_low k (omega (arith, few))) (rest_has (is_chained (suc k)) k) hk (rest_or (is_chained (suc k)) k less hk))

  pub level_seen : (k : ℕ) → k ≤ WHOLE → IsSeen (level_of operand k) (IsExpr no_limits d k)
  level_seen k few = seen_by u (level_rule free d ho k few) (level_high k few)

-- ---- operands, given how many more may be pending

module _ {E F : Obstacle → Type 0} {U V : Type 0} (free : IsFair no_limits E U) (u : U) (tall : IsFair heights_only F V) where
  closed_args : (d : ℕ) → IsSeen (refuse Pending (is m.ParenOpen)) (IsAllowed (Unit {0}) (IsArgs no_limits (suc d)))
  closed_args d = closed_completes Pending (is m.ParenOpen) refl (args_some (suc d))

  closed_low : (ts rest : List Token) (xs : List Tree) → refuse Pending (is m.ParenOpen) ts ≡ (Ok xs, rest) → heights (trees xs) ≤ MAX_HEIGHT
  closed_low ts rest xs e = absurd (no_ok e)

  pub operand_high : (n d : ℕ) → n + d ≡ MAX_PENDING → IsHigh (operand n) (IsExpr no_limits d 0)
  unfolding operand level_of
  operand_high zero d e = closed_high d 0 (operand_to d) (operand_or d (closed_args d) closed_low (high_or (refused_high Pending (has prefix_of) (IsPrefixed no_limits d) refl)) (high_or (refused_high Pending (is m.ParenOpen) (IsGrouped no_limits d) refl)))
  operand_high (suc n) d e =
      let deeper : n + suc d ≡ MAX_PENDING = omega (arith, e) in
      let ho = operand_rule free n (suc d) deeper in
      let hl = operand_rule tall n (suc d) deeper in
      let inner = seen_by u ho (operand_high n (suc d) deeper) in
      let whole = level_seen free u tall (suc d) ho hl (inner.high tt) WHOLE (omega arith) in
      let low = λ (ts rest : List Token) (xs : List Tree) (h : after_mark m.ParenOpen (args (level_of (operand n) WHOLE)) ts ≡ (Ok xs, rest)). (let f = (args_rule tall (suc d) (level_rule tall (suc d) hl WHOLE (omega arith))).takes ts rest xs h in args_low (suc d) f.0 xs f.2) in
      let prefixed = λ (ts rest : List Token) (at : ℕ) (h : seq (one prefix_of) (λ s. seq (operand n) (prefix_node s)) ts ≡ (Err (Height at), rest)). or_as {Q = IsPrefixed no_limits d} (λ f x i. (tt, i)) (prefixed_or d inner (level_low free u tall (suc d) ho hl (inner.high tt) 0 (omega arith)) ts rest at h) in
      let grouped = completes_as {Q = IsGrouped no_limits d} (grouped_full d whole) (λ f x i. (tt, i)) in
      let arguments = completes_as {Q = IsAllowed (Unit {0}) (IsArgs no_limits (suc d))} (args_full (suc d) whole) (λ f xs i. (tt, i)) in
      closed_high d 0 (operand_to d) (operand_or d arguments low prefixed (high_or (grouped.high tt)))

  pub expression_seen : IsSeen (level_of (operand MAX_PENDING) WHOLE) (IsExpr no_limits 0 WHOLE)
  expression_seen = level_seen free u tall 0 (operand_rule free MAX_PENDING 0 refl) (operand_rule tall MAX_PENDING 0 refl) (operand_high MAX_PENDING 0 refl) WHOLE (omega arith)
