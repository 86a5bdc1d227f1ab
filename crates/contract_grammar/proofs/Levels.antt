-- The laws of the levels of expressions, given those of operands.
use Rattle.std.proofs.Common.{◌≡◌, ℕ, zero, suc, ◌<◌, ◌≤◌, Bool, true, false, List, [], ◌∷◌, ◌++◌, Some, inl, inr, refl, sym, ap, ◌∙◌, subst, arith, append_assoc}
use Rattle.std.proofs.lemmas.List.{append-nil}
use Rattle.contract_tokens.specs.declared.token.Token.{Token}
use Rattle.contract_tokens.specs.declared.token.Word.{Word}
use Rattle.contract_tokens.specs.declared.token.Mark.TheVariants as m
use Rattle.contract_tokens.specs.declared.token.Word.TheVariants as w
use Rattle.contract_tree.specs.Tree.{Tree, height}
use Rattle.contract_tree.specs.Tree as tree
use Rattle.contract_tree.specs.declared.tree.Sign.{Sign}
use Rattle.contract_tree.specs.declared.tree.Sign.TheVariants as s
use Rattle.contract_grammar.specs.declared.Obstacle.{Obstacle}
use Rattle.contract_grammar.specs.Grammar.{Limits, Within, is_chained, IsExpr, Number, Literal, Named, Called, Prefixed, Grouped, Tighter, Chained, Compared}
use Rattle.contract_grammar.specs.Marks.{has, any, is_end, stops, sign_of}
use Rattle.contract_grammar.specs.Reading.{level_of, rest_of_level, binary}
use Rattle.contract_grammar.specs.Rules.{Rule, turns}
use Rattle.contract_grammar.proofs.Laws.{no_false, IsRule, IsRet, Ret, ret_is, IsGuarded, Guarded, guarded_is, IsOne, One, ret_rule, one_rule}
use Rattle.contract_grammar.proofs.Sequence.{IsSeq, Seq, Leads, seq_rule}
use Rattle.contract_grammar.proofs.Choice.{Starts, head_lift, head_not, seq_starts, ret_differs, renamed, with_stops, IsEither, either_rule, IsTurns, Over, Turn, turns_leads, turns_rule}
use Rattle.contract_grammar.proofs.Parts.{IsFair, token, has_one, leads_any, leads_start, leads_ret, leads_guarded, leads_either, node_rule}
use Rattle.contract_grammar.specs.declared.limits.TheConstants.{WHOLE}
use Rattle.contract_grammar.specs.Faults.{IsWritable}
use Rattle.contract_grammar.proofs.Writable.{mark_writable}

pub sign_passes : (k : ℕ) (t : Token) → has (sign_of (suc k)) t ≡ true → stops k t ≡ true
sign_passes k t h = grind arith

pub stops_less : (k : ℕ) (t : Token) → stops (suc k) t ≡ true → stops k t ≡ true
stops_less k t h = grind arith

stops_no_sign : (k : ℕ) (t : Token) → stops k t ≡ true → has (sign_of k) t ≡ false
stops_no_sign k t h = grind arith

sign_no_end : (n : ℕ) (t : Token) (s : ℕ × Sign) → sign_of n t ≡ Some s → is_end t ≡ false
sign_no_end n t s h = grind arith

-- an operator of each level
pub sample : ℕ → Word
sample zero = w.Mark m.Star
sample (suc zero) = w.Mark m.Plus
sample (suc (suc zero)) = w.Mark m.Concat
sample (suc (suc (suc zero))) = w.Mark m.Equal
sample (suc (suc (suc (suc zero)))) = w.Mark m.And
sample _ = w.Mark m.Or

pub sample_sign : ℕ → Sign
sample_sign zero = s.Star
sample_sign (suc zero) = s.Plus
sample_sign (suc (suc zero)) = s.Concat
sample_sign (suc (suc (suc zero))) = s.Equal
sample_sign (suc (suc (suc (suc zero)))) = s.And
sample_sign _ = s.Or

pub sample_is : (k : ℕ) → k < WHOLE → sign_of (suc k) (token (sample k)) ≡ Some (0, sample_sign k)
unfolding sample sample_sign
sample_is zero h = refl
sample_is (suc zero) h = refl
sample_is (suc (suc zero)) h = refl
sample_is (suc (suc (suc zero))) h = refl
sample_is (suc (suc (suc (suc zero)))) h = refl
sample_is (suc (suc (suc (suc (suc zero))))) h = refl
sample_is (suc (suc (suc (suc (suc (suc k)))))) h = absurd (omega arith)

pub sample_written : (k : ℕ) → IsWritable (sample k)
unfolding sample
sample_written zero = mark_writable m.Star
sample_written (suc zero) = mark_writable m.Plus
sample_written (suc (suc zero)) = mark_writable m.Concat
sample_written (suc (suc (suc zero))) = mark_writable m.Equal
sample_written (suc (suc (suc (suc zero)))) = mark_writable m.And
sample_written (suc (suc (suc (suc (suc k))))) = mark_writable m.Or

-- what an operator of a level makes of its left operand
abbrev pub IsBinary : Limits → ℕ → ℕ → Tree → List Token → Tree → Type 0
IsBinary l d k x = IsSeq (IsOne (sign_of (suc k))) (λ s. IsSeq (IsExpr l d k) (λ w. IsGuarded (Within l.height (height (tree.Binary s.0 s.1 x w))) (tree.Binary s.0 s.1 x w)))

-- the same with its parts by name
pub record IsBinaryOf (l : Limits) (d k : ℕ) (x : Tree) (prefix : List Token) (b : Tree) : Type 0 where
  pub t : Token
  pub s : ℕ × Sign
  pub z : List Token
  pub right : Tree
  pub prefix_is : prefix ≡ t ∷ z
  pub tree_is : b ≡ tree.Binary s.0 s.1 x right
  pub sign_is : sign_of (suc k) t ≡ Some s
  pub right_is : IsExpr l d k z right
  pub low : Within l.height (height (tree.Binary s.0 s.1 x right))

binary_is_in : {l : Limits} {d k : ℕ} {x : Tree} (t : Token) (s : ℕ × Sign) (e : sign_of (suc k) t ≡ Some s) (y : List Token) (b : Tree) → IsSeq (IsExpr l d k) (λ w. IsGuarded (Within l.height (height (tree.Binary s.0 s.1 x w))) (tree.Binary s.0 s.1 x w)) y b → IsBinaryOf l d k x (t ∷ y) b
binary_is_in t s e y b (Seq z n w _ j g) =
    let q = guarded_is g in
    record { t = t; s = s; z = z; right = w; prefix_is = ap (λ v. t ∷ v) (ap (λ v. z ++ v) q.0 ∙ append-nil z); tree_is = q.1; sign_is = e; right_is = j; low = q.2 }

pub binary_is : {l : Limits} {d k : ℕ} {x : Tree} {prefix : List Token} {b : Tree} → IsBinary l d k x prefix b → IsBinaryOf l d k x prefix b
binary_is (Seq y z s b (One t _ e) i) = binary_is_in t s e z b i

module _ {l : Limits} {d k : ℕ} where
  chained_to : is_chained (suc k) ≡ true → (y : List Token) (x : Tree) → IsExpr l d (suc k) y x → (z : List Token) (b : Tree) → IsBinary l d k x z b → IsExpr l d (suc k) (y ++ z) b
  chained_to c y x i z b j =
      let q = binary_is j in
      let made = Chained d k y x q.t q.s q.z q.right c i q.sign_is q.right_is q.low in
      subst (λ v. IsExpr l d (suc k) (y ++ v) b) (sym q.prefix_is) (subst (λ v. IsExpr l d (suc k) (y ++ q.t ∷ q.z) v) (sym q.tree_is) made)

  chain_to : is_chained (suc k) ≡ true → (y : List Token) (x : Tree) → IsExpr l d (suc k) y x → (z : List Token) (b : Tree) → IsTurns (IsBinary l d k) x z b → IsExpr l d (suc k) (y ++ z) b
  chain_to c y x i z b (Over _) = subst (λ v. IsExpr l d (suc k) v b) (sym (append-nil y)) i
  chain_to c y x i z b (Turn _ a _ f g j more) = subst (λ v. IsExpr l d (suc k) v b) (append_assoc y f g) (chain_to c (y ++ f) a (chained_to c y x i f a j) g b more)

  turns_snoc : (a : Tree) (z : List Token) (b : Tree) → IsTurns (IsBinary l d k) a z b → (y : List Token) (c : Tree) → IsBinary l d k b y c → IsTurns (IsBinary l d k) a (z ++ y) c
  turns_snoc a z b (Over _) y c i = subst (λ v. IsTurns (IsBinary l d k) a v c) (append-nil y) (Turn a c c y [] i (Over c))
  turns_snoc a z b (Turn _ e _ f g j more) y c i = subst (λ v. IsTurns (IsBinary l d k) a v c) (sym (append_assoc f g y)) (Turn a e c f (g ++ y) j (turns_snoc e g b more y c i))

  is_binary : (x : Tree) (t : Token) (s : ℕ × Sign) (z : List Token) (w : Tree) → sign_of (suc k) t ≡ Some s → IsExpr l d k z w → Within l.height (height (tree.Binary s.0 s.1 x w)) → IsBinary l d k x (t ∷ z) (tree.Binary s.0 s.1 x w)
  is_binary x t s z w e j h =
      let b = tree.Binary s.0 s.1 x w in
      let inner : IsSeq (IsExpr l d k) (λ w. IsGuarded (Within l.height (height (tree.Binary s.0 s.1 x w))) (tree.Binary s.0 s.1 x w)) (z ++ []) b = Seq z [] w b j (Guarded h) in
      let outer : IsBinary l d k x (t ∷ (z ++ [])) b = Seq (t ∷ []) (z ++ []) s b (One t s e) inner in
      subst (λ v. IsBinary l d k x (t ∷ v) b) (append-nil z) outer

  snoc_in : (y : List Token) (x : Tree) → IsSeq (IsExpr l d k) (IsTurns (IsBinary l d k)) y x → (z : List Token) (b : Tree) → IsBinary l d k x z b → IsSeq (IsExpr l d k) (IsTurns (IsBinary l d k)) (y ++ z) b
  snoc_in y x (Seq f g a _ i turns) z b j = subst (λ v. IsSeq (IsExpr l d k) (IsTurns (IsBinary l d k)) v b) (sym (append_assoc f g z)) (Seq f (g ++ z) a b i (turns_snoc a g x turns z b j))

-- an expression of a chained level is one of the level below, then operators
split : {l : Limits} {d : ℕ} (n : ℕ) (y : List Token) (x : Tree) → IsExpr l d n y x → (k : ℕ) → n ≡ suc k → is_chained (suc k) ≡ true → IsSeq (IsExpr l d k) (IsTurns (IsBinary l d k)) y x
split {l} {d} n y x (Tighter _ j _ _ i) k e c =
    let same : j ≡ k = omega (arith, e) in
    subst (λ v. IsSeq (IsExpr l d k) (IsTurns (IsBinary l d k)) v x) (append-nil y) (Seq y [] x x (subst (λ v. IsExpr l d v y x) same i) (Over x))
split {l} {d} n f b (Chained _ j y x t s z w h i g r low) k e c =
    let same : j ≡ k = omega (arith, e) in
    let left = split (suc j) y x i k e c in
    snoc_in y x left (t ∷ z) (tree.Binary s.0 s.1 x w) (is_binary x t s z w (subst (λ v. sign_of (suc v) t ≡ Some s) same g) (subst (λ v. IsExpr l d v z w) same r) low)
split n f b (Compared _ j y x t s z w h i g r low) k e c = absurd (no_false h (ap is_chained e ∙ c))
split n y x (Number _ _ _ _) k e c = absurd (omega (arith, e))
split n y x (Literal _ _ _ _) k e c = absurd (omega (arith, e))
split n y x (Named _ _ _ _) k e c = absurd (omega (arith, e))
split n y x (Called _ _ _ _ _ _ _ _ _) k e c = absurd (omega (arith, e))
split n y x (Prefixed _ _ _ _ _ _ _ _ _) k e c = absurd (omega (arith, e))
split n y x (Grouped _ _ _ _ _ _ _ _ _ _ _) k e c = absurd (omega (arith, e))

-- an expression of the level of comparisons is one of the level below, then at most one comparison
split_once : {l : Limits} {d : ℕ} (n : ℕ) (y : List Token) (x : Tree) → IsExpr l d n y x → (k : ℕ) → n ≡ suc k → is_chained (suc k) ≡ false → IsSeq (IsExpr l d k) (λ a. IsEither (IsBinary l d k a) (IsRet a)) y x
split_once {l} {d} n y x (Tighter _ j _ _ i) k e c =
    let same : j ≡ k = omega (arith, e) in
    subst (λ v. IsSeq (IsExpr l d k) (λ a. IsEither (IsBinary l d k a) (IsRet a)) v x) (append-nil y) (Seq y [] x x (subst (λ v. IsExpr l d v y x) same i) (inr Ret))
split_once {l} {d} n f b (Compared _ j y x t s z w h i g r low) k e c =
    let same : j ≡ k = omega (arith, e) in
    Seq y (t ∷ z) x (tree.Binary s.0 s.1 x w) (subst (λ v. IsExpr l d v y x) same i) (inl (is_binary x t s z w (subst (λ v. sign_of (suc v) t ≡ Some s) same g) (subst (λ v. IsExpr l d v z w) same r) low))
split_once n f b (Chained _ j y x t s z w h i g r low) k e c = absurd (no_false c (ap is_chained (sym e) ∙ h))
split_once n y x (Number _ _ _ _) k e c = absurd (omega (arith, e))
split_once n y x (Literal _ _ _ _) k e c = absurd (omega (arith, e))
split_once n y x (Named _ _ _ _) k e c = absurd (omega (arith, e))
split_once n y x (Called _ _ _ _ _ _ _ _ _) k e c = absurd (omega (arith, e))
split_once n y x (Prefixed _ _ _ _ _ _ _ _ _) k e c = absurd (omega (arith, e))
split_once n y x (Grouped _ _ _ _ _ _ _ _ _ _ _) k e c = absurd (omega (arith, e))

-- what may follow an expression of the level below
abbrev pub IsRest : Limits → ℕ → ℕ → Bool → Tree → List Token → Tree → Type 0
IsRest l d k true x = IsTurns (IsBinary l d k) x
IsRest l d k false x = IsEither (IsBinary l d k x) (IsRet x)

pub level_to : {l : Limits} {d k : ℕ} (b : Bool) → is_chained (suc k) ≡ b → (prefix : List Token) (x : Tree) → IsSeq (IsExpr l d k) (IsRest l d k b) prefix x → IsExpr l d (suc k) prefix x
level_to {l} {d} {k} true c prefix x (Seq y z a _ i j) = chain_to c y a (Tighter d k y a i) z x j
level_to {l} {d} {k} false c prefix x (Seq y z a _ i (inl j)) =
    let q = binary_is j in
    let made = Compared d k y a q.t q.s q.z q.right c i q.sign_is q.right_is q.low in
    subst (λ v. IsExpr l d (suc k) (y ++ v) x) (sym q.prefix_is) (subst (λ v. IsExpr l d (suc k) (y ++ q.t ∷ q.z) v) (sym q.tree_is) made)
level_to {l} {d} {k} false c prefix x (Seq y z a _ i (inr j)) =
    let q = ret_is j in
    subst (λ v. IsExpr l d (suc k) v x) (sym (ap (λ v. y ++ v) q.0 ∙ append-nil y)) (subst (λ v. IsExpr l d (suc k) y v) (sym q.1) (Tighter d k y a i))

level_from : {l : Limits} {d k : ℕ} (b : Bool) → is_chained (suc k) ≡ b → (prefix : List Token) (x : Tree) → IsExpr l d (suc k) prefix x → IsSeq (IsExpr l d k) (IsRest l d k b) prefix x
level_from {l} {d} {k} true c prefix x i = split (suc k) prefix x i k refl c
level_from {l} {d} {k} false c prefix x i = split_once (suc k) prefix x i k refl c

module _ {l : Limits} {E : Obstacle → Type 0} {U : Type 0} (fair : IsFair l E U) (d : ℕ) where
  pub binary_rule : (k : ℕ) → k < WHOLE → {tighter : Rule Tree} → IsRule E U tighter (IsExpr l d k) (stops k) → (x : Tree) → IsRule E U (binary (suc k) tighter x) (IsBinary l d k x) (stops k)
  binary_rule k low h x =
      let made = λ (s : ℕ × Sign). seq_rule h (λ w. node_rule fair {S = stops k} s.0 (tree.Binary s.0 s.1 x w)) (leads_guarded (stops k) (stops k) (λ w. Within l.height (height (tree.Binary s.0 s.1 x w))) (λ w. tree.Binary s.0 s.1 x w) (λ t e. e)) in
      seq_rule (one_rule {S = any} (sign_of (suc k)) (token (sample k)) (0, sample_sign k) (sample_is k low) (sample_written k) (sign_no_end (suc k))) made (leads_any (λ s. IsSeq (IsExpr l d k) (λ w. IsGuarded (Within l.height (height (tree.Binary s.0 s.1 x w))) (tree.Binary s.0 s.1 x w))) (stops k))

  binary_starts : (k : ℕ) (x : Tree) → Starts (has (sign_of (suc k))) (IsBinary l d k x)
  binary_starts k x = seq_starts (has (sign_of (suc k))) (has_one (sign_of (suc k)))

  rest_rule : (b : Bool) (k : ℕ) → k < WHOLE → {tighter : Rule Tree} → IsRule E U tighter (IsExpr l d k) (stops k) → (x : Tree) → IsRule E U (rest_of_level b (suc k) tighter x) (IsRest l d k b x) (stops (suc k))
  rest_rule true k low h x = turns_rule (has (sign_of (suc k))) (has (sign_of (suc k))) (binary_rule k low h) (binary_starts k) (λ t e. e) (sign_passes k) (stops_less k) (stops_no_sign (suc k)) x
  rest_rule false k low h x = either_rule (has (sign_of (suc k))) (with_stops (binary_rule k low h x) (head_lift (stops (suc k)) (stops k) (stops_less k))) (ret_rule x) (binary_starts k x) (ret_differs (has (sign_of (suc k))) x (head_not (stops (suc k)) (has (sign_of (suc k))) (stops_no_sign (suc k))))

  rest_leads : (b : Bool) (k : ℕ) → k < WHOLE → {tighter : Rule Tree} → IsRule E U tighter (IsExpr l d k) (stops k) → Leads (stops k) (IsRest l d k b) (stops (suc k))
  rest_leads true k low h = turns_leads (has (sign_of (suc k))) (has (sign_of (suc k))) (binary_rule k low h) (binary_starts k) (λ t e. e) (sign_passes k) (stops_less k) (stops_no_sign (suc k))
  rest_leads false k low h = leads_either (stops k) (stops (suc k)) (IsBinary l d k) (λ x. IsRet x) (leads_start (stops k) (has (sign_of (suc k))) (stops (suc k)) (IsBinary l d k) (binary_starts k) (sign_passes k)) (leads_ret (stops k) (stops (suc k)) (λ x. x) (stops_less k))

  pub level_rule : {operand : Rule Tree} → IsRule E U operand (IsExpr l d 0) (stops 0) → (k : ℕ) → k ≤ WHOLE → IsRule E U (level_of operand k) (IsExpr l d k) (stops k)
  unfolding level_of
  level_rule h zero low = h
  level_rule h (suc k) low =
      let below = level_rule h k (omega arith) in
      let less : k < WHOLE = omega arith in
      let b = is_chained (suc k) in
      renamed (seq_rule below (rest_rule b k less below) (rest_leads b k less below)) (level_to b refl) (level_from b refl)
