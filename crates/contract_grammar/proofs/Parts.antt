-- The laws of the parts that several rules of the grammar share.
use Rattle.std.proofs.Common.{◌≡◌, ℕ, ◌≤◌, leb, Bool, true, false, List, [], ◌∷◌, ◌++◌, Option, Some, is_some, ◌⊎◌, inl, inr, refl, ap, arith}
use Rattle.std.proofs.lemmas.Bool.{leb-true, le-leb}
use Rattle.contract_tokens.specs.declared.token.Token.{Token}
use Rattle.contract_tokens.specs.declared.token.Word.{Word}
use Rattle.contract_tokens.specs.declared.token.Mark.{Mark}
use Rattle.contract_tokens.specs.declared.token.Mark.TheVariants as m
use Rattle.contract_tokens.specs.declared.token.Word.TheVariants as w
use Rattle.contract_tree.specs.Tree.{Tree, height}
use Rattle.contract_grammar.specs.declared.Obstacle.{Obstacle}
use Rattle.contract_grammar.specs.declared.Obstacle.TheVariants.{Surplus, Pending, Nesting, Height}
use Rattle.contract_grammar.specs.Grammar.{Limits, Within}
use Rattle.contract_grammar.specs.Marks.{the, is, has, any, is_end}
use Rattle.contract_grammar.specs.Reading.{node, after_mark, before_mark, more_of}
use Rattle.contract_grammar.specs.Rules.{Rule, head_is, one}
use Rattle.contract_grammar.proofs.Laws.{no_false, IsRule, IsRet, Ret, IsGuarded, Guarded, IsOne, One, ret_rule, guard_rule, one_rule}
use Rattle.contract_grammar.proofs.Sequence.{IsSeq, Leads, seq_rule}
use Rattle.contract_grammar.proofs.Choice.{Starts, Differs, head_more, head_lift, head_not, seq_starts, each_rule, IsMoreOf, IsEither}
use Rattle.contract_grammar.specs.declared.limits.TheConstants.{MAX_PENDING, MAX_NESTING, MAX_HEIGHT, MAX_PARAMETERS}
use Rattle.contract_grammar.proofs.Writable.{mark_writable}

-- How the limits of the grammar relate to those of its readers. E: the obstacles that are excused,
-- since the grammar has no such limit; U: the grammar has no limit.
pub record IsFair (l : Limits) (E : Obstacle → Type 0) (U : Type 0) : Type 0 where
  pub pending_kept : (n : ℕ) → n ≤ MAX_PENDING → Within l.pending n
  pub pending_fair : (n : ℕ) → Within l.pending n → (n ≤ MAX_PENDING) ⊎ E Pending
  pub pending_free : U → (n : ℕ) → Within l.pending n
  pub nesting_kept : (n : ℕ) → n ≤ MAX_NESTING → Within l.nesting n
  pub nesting_fair : (n : ℕ) → Within l.nesting n → (n ≤ MAX_NESTING) ⊎ E Nesting
  pub nesting_free : U → (n : ℕ) → Within l.nesting n
  pub height_kept : (n : ℕ) → n ≤ MAX_HEIGHT → Within l.height n
  pub height_fair : (n at : ℕ) → Within l.height n → (n ≤ MAX_HEIGHT) ⊎ E (Height at)
  pub height_free : U → (n : ℕ) → Within l.height n
  pub parameters_kept : (n : ℕ) → n ≤ MAX_PARAMETERS → Within l.parameters n
  pub parameters_fair : (n : ℕ) → Within l.parameters n → (n ≤ MAX_PARAMETERS) ⊎ E Surplus
  pub parameters_free : U → (n : ℕ) → Within l.parameters n

-- a token with this word
abbrev pub token : Word → Token
token word = record { at = 0; word = word }

pub the_token : (mark : Mark) → the mark (token (w.Mark mark)) ≡ Some 0
the_token mark = grind arith

pub the_is : (mark : Mark) (t : Token) (at : ℕ) → the mark t ≡ Some at → is mark t ≡ true
the_is mark t at e = grind arith

pub the_no_end : (mark : Mark) (t : Token) (at : ℕ) → the mark t ≡ Some at → is_end t ≡ false
the_no_end mark t at e = grind arith

pub has_one : {A : Type 0} (f : Token → Option A) → Starts (has f) (IsOne f)
has_one f prefix a (One t _ e) = ap is_some e

pub is_one : (mark : Mark) → Starts (is mark) (IsOne (the mark))
is_one mark prefix a (One t _ e) = the_is mark t a e

pub head_any : (S T : Token → Bool) → ((t : Token) → S t ≡ true) → (z rest : List Token) → head_is T rest ≡ true → head_is S (z ++ rest) ≡ true
head_any S T all [] [] h = absurd (no_false refl h)
head_any S T all [] (t ∷ rest) h = all t
head_any S T all (t ∷ z) rest h = all t

-- a reader that ends before any token may precede anything
pub leads_any : {A B : Type 0} (Q : A → List Token → B → Type 0) (T : Token → Bool) → Leads any Q T
leads_any Q T a z rest b q h = head_any any T (λ t. refl) z rest h

-- what follows begins with a token before which the first reader ends
pub leads_start : {A B : Type 0} (S g T : Token → Bool) (Q : A → List Token → B → Type 0) → ((a : A) → Starts g (Q a)) → ((t : Token) → g t ≡ true → S t ≡ true) → Leads S Q T
leads_start S g T Q starts passes a z rest b q h = head_lift g S passes (z ++ rest) (head_more g z rest (starts a z b q))

-- what follows takes nothing
pub leads_ret : {A B : Type 0} (S T : Token → Bool) (f : A → B) → ((t : Token) → T t ≡ true → S t ≡ true) → Leads S (λ a. IsRet (f a)) T
leads_ret S T f fewer a z rest b Ret h = head_lift T S fewer rest h

-- what follows takes nothing, and may be too high
pub leads_guarded : {A B : Type 0} (S T : Token → Bool) (L : A → Type 0) (f : A → B) → ((t : Token) → T t ≡ true → S t ≡ true) → Leads S (λ a. IsGuarded (L a) (f a)) T
leads_guarded S T L f fewer a z rest b (Guarded _) h = head_lift T S fewer rest h

pub leads_either : {A B : Type 0} (S T : Token → Bool) (P Q : A → List Token → B → Type 0) → Leads S P T → Leads S Q T → Leads S (λ a. IsEither (P a) (Q a)) T
leads_either S T P Q p q a z rest b (inl i) h = p a z rest b i h
leads_either S T P Q p q a z rest b (inr i) h = q a z rest b i h

pub differs_start : {A : Type 0} (f g S : Token → Bool) (Q : List Token → A → Type 0) → Starts g Q → ((t : Token) → g t ≡ true → f t ≡ false) → Differs f Q S
differs_start f g S Q starts other prefix rest a q h = head_not g f other (prefix ++ rest) (head_more g prefix rest (starts prefix a q))

pub differs_either : {A : Type 0} (f S : Token → Bool) (P Q : List Token → A → Type 0) → Differs f P S → Differs f Q S → Differs f (IsEither P Q) S
differs_either f S P Q p q prefix rest a (inl i) h = p prefix rest a i h
differs_either f S P Q p q prefix rest a (inr i) h = q prefix rest a i h

module _ {E : Obstacle → Type 0} {U : Type 0} where
  pub mark_rule : {S : Token → Bool} (mark : Mark) → IsRule E U (one (the mark)) (IsOne (the mark)) S
  mark_rule mark = one_rule (the mark) (token (w.Mark mark)) 0 (the_token mark) (mark_writable mark) (the_no_end mark)

  pub preceded_rule : {A : Type 0} {p : Rule A} {P : List Token → A → Type 0} {S : Token → Bool} (mark : Mark) → IsRule E U p P S → IsRule E U (after_mark mark p) (IsSeq (IsOne (the mark)) (λ at. P)) S
  preceded_rule {P = P} {S = S} mark h = seq_rule (mark_rule {S = any} mark) (λ at. h) (leads_any (λ at. P) S)

  pub terminated_rule : {A : Type 0} {S : Token → Bool} (mark : Mark) (a : A) → IsRule E U (before_mark mark a) (IsSeq (IsOne (the mark)) (λ at. IsRet a)) S
  terminated_rule {S = S} mark a = seq_rule (mark_rule {S = any} mark) (λ at. ret_rule a) (leads_any (λ (at : ℕ). IsRet a) S)

-- the parts after the first, each after a comma, and the closing sign
abbrev pub IsMoreOfThem : (List Token → Tree → Type 0) → Mark → Tree → List Token → List Tree → Type 0
IsMoreOfThem P mark x = IsSeq (IsMoreOf (λ n. IsSeq (IsOne (the m.Comma)) (λ at. P)) (x ∷ [])) (λ all. IsSeq (IsOne (the mark)) (λ at. IsRet all))

module _ {l : Limits} {E : Obstacle → Type 0} {U : Type 0} (fair : IsFair l E U) where
  pub node_rule : {S : Token → Bool} (at : ℕ) (x : Tree) → IsRule E U (node at x) (IsGuarded (Within l.height (height x)) x) S
  node_rule at x = guard_rule (Within l.height (height x)) (leb (height x) MAX_HEIGHT) (Height at) x (λ h. fair.height_kept (height x) (leb-true (height x) MAX_HEIGHT h)) (λ h. elim (fair.height_fair (height x) at h) [ inl k ↦ inl (le-leb (height x) MAX_HEIGHT k) | inr e ↦ inr e ]) (λ u. fair.height_free u (height x)) refl

  pub more_rule : {expression : Rule Tree} {P : List Token → Tree → Type 0} {S T : Token → Bool} (mark : Mark) → IsRule E U expression P S → ((t : Token) → is m.Comma t ≡ true → S t ≡ true) → ((t : Token) → is mark t ≡ true → S t ≡ true) → ((t : Token) → is mark t ≡ true → is m.Comma t ≡ false) → (x : Tree) → IsRule E U (more_of expression mark x) (IsMoreOfThem P mark x) T
  more_rule {P = P} {T = T} mark h passes ends leaves x =
      let items = each_rule {T = is mark} (is m.Comma) (is m.Comma) (λ n. preceded_rule m.Comma h) (λ n. seq_starts (is m.Comma) (is_one m.Comma)) (λ t e. e) passes ends leaves (x ∷ []) in
      seq_rule items (λ all. terminated_rule mark all) (leads_start (is mark) (is mark) T (λ all. IsSeq (IsOne (the mark)) (λ at. IsRet all)) (λ all. seq_starts (is mark) (is_one mark)) (λ t e. e))
