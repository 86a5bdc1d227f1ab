-- What a stopped reader of expressions has taken can be completed within limits.
use Rattle.std.proofs.Common.{leb, codes, ◌≡◌, ℕ, pos, zero, suc, ◌+◌, ◌<◌, ◌≤◌, Bool, true, false, List, [], ◌∷◌, is_some, refl, ap, arith}
use Rattle.contract_tokens.specs.declared.token.Token.{Token}
use Rattle.contract_tokens.specs.declared.token.Mark.{Mark}
use Rattle.contract_tokens.specs.declared.token.Mark.TheVariants as m
use Rattle.contract_tokens.specs.declared.token.Word.TheVariants as w
use Rattle.contract_tree.specs.Tree.{Tree, trees, height}
use Rattle.contract_tree.specs.Tree as tree
use Rattle.contract_tree.specs.declared.tree.Sign.TheVariants as s
use Rattle.contract_grammar.specs.declared.Obstacle.TheVariants.{Pending, Height}
use Rattle.contract_grammar.specs.Grammar.{Limits, Within, is_chained, IsExpr, Tighter, IsArgs, NoArgs, IsExpression}
use Rattle.contract_grammar.specs.Marks.{is, has, int_of, text_of, name_of, builtin_of, prefix_of, sign_of}
use Rattle.contract_grammar.specs.Reading.{node, after_mark, before_mark, more_of, args, literal, name_or_call, builtin_call, operand_of, call_of, prefix_node, binary, rest_of_level, level_of, operand, expression}
use Rattle.contract_grammar.specs.Rules.{Rule, one, seq}
use Rattle.contract_grammar.proofs.Laws.{IsGuarded, Begins}
use Rattle.contract_grammar.proofs.Choice.{IsEither}
use Rattle.contract_grammar.proofs.Parts.{token, IsMoreOfThem}
use Rattle.contract_grammar.proofs.Levels.{sample, sample_sign, sample_is, sample_written, IsBinary, IsRest, level_to}
use Rattle.contract_grammar.proofs.Operands.{args_to, IsAllowed, IsCall, IsNamed, IsBuiltin, IsPrefixedBy, IsPrefixed, IsGroupedBy, IsGrouped, IsText, IsInt, operand_to}
use Rattle.contract_grammar.proofs.Expressions.{number_token, a_number, number_is, close_token, close_is, close_written}
use Rattle.contract_grammar.proofs.Completions.{Completes, IsFull, completes_as, full_completes, ret_completes, guard_completes, one_completes, closed_completes, seq_full, one_then_completes, preceded_full, terminated_full, either_first, either_second, turns_full, each_full}
use Rattle.contract_grammar.proofs.Writable.{more_words, name_writable, mark_writable, empty_text, zero_fits}
use Rattle.contract_grammar.specs.declared.limits.TheConstants.{MAX_PENDING, MAX_NESTING, MAX_HEIGHT, MAX_PARAMETERS, WHOLE}

-- The limits of readers are kept, and heights are not limited. The limits are about the tokens that
-- pass the test: after such a token they allow what the grammar needs to continue.
pub record IsAbout (l : Limits) (test : Token → Bool) : Type 0 where
  pub pending_kept : (n : ℕ) → n ≤ MAX_PENDING → Within l.pending n
  pub nesting_kept : (n : ℕ) → n ≤ MAX_NESTING → Within l.nesting n
  pub parameters_kept : (n : ℕ) → n ≤ MAX_PARAMETERS → Within l.parameters n
  pub height_free : (n : ℕ) → Within l.height n
  -- a parenthesis must follow the keyword that names a builtin
  pub after_builtin : (t : Token) → has builtin_of t ≡ true → test t ≡ true → (n : ℕ) → Within l.pending n
  -- a block may have to follow
  pub after_no_brace : (t : Token) → is m.BraceOpen t ≡ false → test t ≡ true → (n : ℕ) → Within l.nesting n
  -- a parameter may have to follow
  pub after_comma : (t : Token) → is m.Comma t ≡ true → test t ≡ true → (n : ℕ) → Within l.parameters n

pub number_at : {l : Limits} (d k : ℕ) → IsExpr l d k (number_token ∷ []) a_number
number_at d zero = number_is d
number_at d (suc k) = Tighter d k (number_token ∷ []) a_number (number_at d k)

pub args_some : {l : Limits} (d : ℕ) → Within l.pending d → Begins (IsAllowed (Within l.pending d) (IsArgs l d)) []
args_some d may =
    let o = token (w.Mark m.ParenOpen) in
    (o ∷ close_token ∷ [], [], more_words o (close_token ∷ []) (mark_writable m.ParenOpen) close_written, (may, NoArgs d o 0 close_token 0 refl close_is))

module _ {test : Token → Bool} {Free : Type 0} where
  -- the parts after the first, each after a comma
  pub more_full : {expression : Rule Tree} {P : List Token → Tree → Type 0} (mark : Mark) → IsFull test Free expression P → (x : Tree) → IsFull test Free (more_of expression mark x) (IsMoreOfThem P mark x)
  more_full mark h x = seq_full (each_full (is m.Comma) (λ n. preceded_full m.Comma h) (x ∷ [])) (λ all. terminated_full mark all)

  pub literal_full : IsFull test Free literal (IsEither IsText IsInt)
  literal_full =
      let texts = seq_full (one_completes text_of (token (w.Text [])) (0, []) refl empty_text) (λ n. ret_completes (tree.Text n.0 n.1)) in
      let ints = seq_full (one_completes int_of (token (w.Int (pos 0))) (0, pos 0) refl zero_fits) (λ n. ret_completes (tree.Int n.0 n.1)) in
      either_first texts ints (has text_of)

  pub args_full : {l : Limits} (d : ℕ) {expression : Rule Tree} → IsFull test Free expression (IsExpr l d WHOLE) → IsFull test Free (after_mark m.ParenOpen (args expression)) (IsArgs l d)
  args_full d h = completes_as (preceded_full m.ParenOpen (either_first (terminated_full m.ParenClose []) (seq_full h (more_full m.ParenClose h)) (is m.ParenClose))) (args_to d)

  pub grouped_full : {l : Limits} (d : ℕ) {inner : Rule Tree} → IsFull test Free inner (IsExpr l (suc d) WHOLE) → IsFull test Free (after_mark m.ParenOpen (seq inner (before_mark m.ParenClose))) (IsGroupedBy l d)
  grouped_full d h = preceded_full m.ParenOpen (seq_full h (λ x. terminated_full m.ParenClose x))

module _ {l : Limits} {test : Token → Bool} (about : IsAbout l test) where
  node_full : (at : ℕ) (x : Tree) → IsFull test ⊥ (node at x) (IsGuarded (Within l.height (height x)) x)
  node_full at x = guard_completes (λ none. none) (leb (height x) MAX_HEIGHT) (Height at) x (about.height_free (height x))

  -- the parts of an operand around which `d` parentheses and prefixes are pending
  module _ (d : ℕ) {arguments : Rule (List Tree)} (ha : Completes test ⊥ (Within l.pending (suc d)) arguments (IsAllowed (Within l.pending (suc d)) (IsArgs l (suc d)))) where
    call_completes : (n : ℕ × List ℕ) → Completes test ⊥ (Within l.pending (suc d)) (seq arguments (call_of n)) (IsCall l d n)
    call_completes n = seq_full ha (λ xs. node_full n.0 (tree.Call n.0 n.1 (trees xs)))

    named_full : IsFull test ⊥ (name_or_call arguments) (IsNamed l d)
    named_full = seq_full (one_completes name_of (token (w.Name (codes "x"))) (0, codes "x") refl name_writable) (λ n. either_second (call_completes n) (ret_completes (tree.Name n.0 n.1)) (is m.ParenOpen))

    builtin_completes : Completes test ⊥ (Within l.pending (suc d)) (builtin_call arguments) (IsBuiltin l d)
    builtin_completes = one_then_completes builtin_of (token (w.Mark m.Text)) (0, codes "text") refl (mark_writable m.Text) call_completes (λ t n e passes. about.after_builtin t (ap is_some e) passes (suc d)) (λ none. absurd none)

    operand_full : {P Q : Type 0} {prefixed grouped : Rule Tree} → Completes test ⊥ P prefixed (IsPrefixed l d) → Completes test ⊥ Q grouped (IsGrouped l d) → IsFull test ⊥ (operand_of arguments prefixed grouped) (IsExpr l d 0)
    operand_full hp hg = completes_as (either_first named_full (either_first builtin_completes (either_first hp (either_first hg literal_full (is m.ParenOpen)) (has prefix_of)) (has builtin_of)) (has name_of)) (operand_to d)

  prefixed_full : (d : ℕ) {inner : Rule Tree} → IsFull test ⊥ inner (IsExpr l (suc d) 0) → IsFull test ⊥ (seq (one prefix_of) (λ s. seq inner (prefix_node s))) (IsPrefixedBy l d)
  prefixed_full d h = seq_full (one_completes prefix_of (token (w.Mark m.Minus)) (0, s.Minus) refl (mark_writable m.Minus)) (λ s. seq_full h (λ x. node_full s.0 (tree.Prefix s.0 s.1 x)))

  -- ---- levels

  binary_full : (d k : ℕ) → k < WHOLE → {tighter : Rule Tree} → IsFull test ⊥ tighter (IsExpr l d k) → (x : Tree) → IsFull test ⊥ (binary (suc k) tighter x) (IsBinary l d k x)
  binary_full d k low h x = seq_full (one_completes (sign_of (suc k)) (token (sample k)) (0, sample_sign k) (sample_is k low) (sample_written k)) (λ s. seq_full h (λ w. node_full s.0 (tree.Binary s.0 s.1 x w)))

  rest_full : (b : Bool) (d k : ℕ) → k < WHOLE → {tighter : Rule Tree} → IsFull test ⊥ tighter (IsExpr l d k) → (x : Tree) → IsFull test ⊥ (rest_of_level b (suc k) tighter x) (IsRest l d k b x)
  rest_full true d k low h x = turns_full (has (sign_of (suc k))) (binary_full d k low h) x
  rest_full false d k low h x = either_second (binary_full d k low h x) (ret_completes x) (has (sign_of (suc k)))

  level_full : (d : ℕ) {operand : Rule Tree} → IsFull test ⊥ operand (IsExpr l d 0) → (k : ℕ) → k ≤ WHOLE → IsFull test ⊥ (level_of operand k) (IsExpr l d k)
  unfolding level_of
  level_full d h zero low = h
  level_full d h (suc k) low =
      let below = level_full d h k (omega arith) in
      let b = is_chained (suc k) in
      completes_as (seq_full below (rest_full b d k (omega arith) below)) (level_to b refl)

  -- ---- operands, given how many more may be pending

  operand_completes : (n d : ℕ) → n + d ≡ MAX_PENDING → IsFull test ⊥ (operand n) (IsExpr l d 0)
  unfolding operand
  operand_completes zero d e =
      let prefixed = closed_completes {Is = IsPrefixed l d} Pending (has prefix_of) refl (λ (none : ⊥). absurd none) in
      let grouped = closed_completes {Is = IsGrouped l d} Pending (is m.ParenOpen) refl (λ (none : ⊥). absurd none) in
      operand_full d (closed_completes Pending (is m.ParenOpen) refl (args_some (suc d))) prefixed grouped
  operand_completes (suc n) d e =
      let inner = operand_completes n (suc d) (omega (arith, e)) in
      let whole = level_full (suc d) inner WHOLE (omega arith) in
      let may : Within l.pending (suc d) = about.pending_kept (suc d) (omega (arith, e)) in
      let arguments = full_completes (completes_as (args_full (suc d) whole) (λ f xs i. (may, i))) in
      operand_full d arguments (completes_as {Q = IsPrefixed l d} (prefixed_full d inner) (λ f x i. (may, i))) (completes_as {Q = IsGrouped l d} (grouped_full d whole) (λ f x i. (may, i)))

  pub expression_full : IsFull test ⊥ expression (IsExpression l)
  unfolding expression
  expression_full = level_full 0 (operand_completes MAX_PENDING 0 refl) WHOLE (omega arith)
