-- What a reader has read if an expression is too high, for each way to combine readers.
use Rattle.std.proofs.Common.{◌≡◌, ℕ, suc, ◌≤◌, leb, Bool, true, false, List, [], ◌++◌, Option, Ok, Err, ◌⊎◌, inl, inr, refl, sym, ap, ◌∙◌, subst, arith, append_assoc}
use Rattle.std.proofs.lemmas.Bool.{leb-false}
use Rattle.std.proofs.lemmas.List.{append-nil}
use Rattle.contract_tokens.specs.declared.token.Token.{Token}
use Rattle.contract_tree.specs.Tree.{Tree, offset_of, height}
use Rattle.contract_grammar.specs.declared.Obstacle.{Obstacle}
use Rattle.contract_grammar.specs.declared.Obstacle.TheVariants.{Unfit, Height}
use Rattle.contract_grammar.specs.Grammar.{no_limits, IsExpr}
use Rattle.contract_grammar.specs.Reading.{node}
use Rattle.contract_grammar.specs.Rules.{Read, Rule, head_is, ret, guard, one, refusal, refuse, next, seq, either_by, either}
use Rattle.contract_grammar.proofs.Laws.{IsGuarded, Guarded, IsOne, err_is, no_err, as_err, one_takes_all, one_stops, Takes, Begins}
use Rattle.contract_grammar.proofs.Sequence.{IsSeq, Seq}
use Rattle.contract_grammar.proofs.Choice.{IsEither}
use Rattle.contract_grammar.specs.Faults.{is_height, AreWritable}
use Rattle.contract_grammar.specs.declared.limits.TheConstants.{MAX_HEIGHT}
use Rattle.contract_grammar.proofs.Writable.{no_words, all_words}

-- the last tokens read are an expression that is too high, and other tokens of the same expression
-- can take their place
pub record IsHole {A : Type 0} (Is : List Token → A → Type 0) (ts rest : List Token) (at : ℕ) : Type 0 where
  pub prefix : List Token
  pub tokens : List Token
  pub more : List Token
  pub path : ts ≡ prefix ++ (tokens ++ rest)
  pub pending : ℕ
  pub level : ℕ
  pub tree : Tree
  pub is_expression : IsExpr no_limits pending level tokens tree
  pub offset_is : offset_of tree ≡ at
  pub height_is : height tree ≡ suc MAX_HEIGHT
  pub made : A
  pub more_is : AreWritable more
  pub stands : (other : List Token) → IsExpr no_limits pending level other tree → Is (prefix ++ (other ++ more)) made

-- all tokens read are an expression that is too high
pub record IsItself (Is : List Token → Tree → Type 0) (ts rest : List Token) (at : ℕ) : Type 0 where
  pub used : List Token
  pub path : ts ≡ used ++ rest
  pub tree : Tree
  pub is_tree : Is used tree
  pub offset_is : offset_of tree ≡ at
  pub height_is : height tree ≡ suc MAX_HEIGHT

abbrev pub IsHigh : {A : Type 0} → Rule A → (List Token → A → Type 0) → Type 0
IsHigh read Is = (ts rest : List Token) (at : ℕ) → read ts ≡ (Err (Height at), rest) → IsHole Is ts rest at

abbrev pub IsHighOr : Rule Tree → (List Token → Tree → Type 0) → Type 0
IsHighOr read Is = (ts rest : List Token) (at : ℕ) → read ts ≡ (Err (Height at), rest) → IsHole Is ts rest at ⊎ IsItself Is ts rest at

-- ---- holes in parts

pub hole_as : {A : Type 0} {P Q : List Token → A → Type 0} {ts rest : List Token} {at : ℕ} → ((prefix : List Token) (a : A) → P prefix a → Q prefix a) → IsHole P ts rest at → IsHole Q ts rest at
hole_as to k = record { prefix = k.prefix; tokens = k.tokens; more = k.more; path = k.path; pending = k.pending; level = k.level; tree = k.tree; is_expression = k.is_expression; offset_is = k.offset_is; height_is = k.height_is; made = k.made; more_is = k.more_is; stands = λ other i. to (k.prefix ++ (other ++ k.more)) k.made (k.stands other i) }

-- what was read before it is what the grammar has
pub hole_after : {A B : Type 0} {P : List Token → A → Type 0} {Q : A → List Token → B → Type 0} (ts y mid rest : List Token) (a : A) (at : ℕ) → ts ≡ y ++ mid → P y a → IsHole (Q a) mid rest at → IsHole (IsSeq P Q) ts rest at
hole_after {P = P} {Q = Q} ts y mid rest a at path i k = record {
  prefix = y ++ k.prefix;
  tokens = k.tokens;
  more = k.more;
  path = path ∙ ap (λ v. y ++ v) k.path ∙ sym (append_assoc y k.prefix (k.tokens ++ rest));
  pending = k.pending;
  level = k.level;
  tree = k.tree;
  is_expression = k.is_expression;
  offset_is = k.offset_is;
  height_is = k.height_is;
  made = k.made;
  more_is = k.more_is;
  stands = λ other j. subst (λ v. IsSeq P Q v k.made) (sym (append_assoc y k.prefix (other ++ k.more))) (Seq y (k.prefix ++ (other ++ k.more)) a k.made i (k.stands other j));
}

outward : (a b c d : List Token) → (a ++ (b ++ c)) ++ d ≡ a ++ (b ++ (c ++ d))
outward a b c d = append_assoc a (b ++ c) d ∙ ap (λ v. a ++ v) (append_assoc b c d)

-- the grammar has something after it
pub hole_before : {A B : Type 0} {P : List Token → A → Type 0} {Q : A → List Token → B → Type 0} (ts rest : List Token) (at : ℕ) → ((a : A) → Begins (Q a) []) → IsHole P ts rest at → IsHole (IsSeq P Q) ts rest at
hole_before {P = P} {Q = Q} ts rest at some k =
    let g = some k.made in
    record {
      prefix = k.prefix;
      tokens = k.tokens;
      more = k.more ++ g.0;
      path = k.path;
      pending = k.pending;
      level = k.level;
      tree = k.tree;
      is_expression = k.is_expression;
      offset_is = k.offset_is;
      height_is = k.height_is;
      made = g.1;
      more_is = all_words k.more g.0 k.more_is g.2;
      stands = λ other j. subst (λ v. IsSeq P Q v g.1) (outward k.prefix other k.more g.0) (Seq (k.prefix ++ (other ++ k.more)) g.0 k.made g.1 (k.stands other j) g.3);
    }

-- an expression can take its own place
pub hole_of : {Is : List Token → Tree → Type 0} (pending level : ℕ) (ts rest : List Token) (at : ℕ) → ((prefix : List Token) (x : Tree) → Is prefix x → IsExpr no_limits pending level prefix x) → IsItself Is ts rest at → IsHole (IsExpr no_limits pending level) ts rest at
hole_of pending level ts rest at to k = record {
  prefix = [];
  tokens = k.used;
  more = [];
  path = k.path;
  pending = pending;
  level = level;
  tree = k.tree;
  is_expression = to k.used k.tree k.is_tree;
  offset_is = k.offset_is;
  height_is = k.height_is;
  made = k.tree;
  more_is = no_words;
  stands = λ other i. subst (λ v. IsExpr no_limits pending level v k.tree) (sym (append-nil other)) i;
}

pub closed_high : {read : Rule Tree} {Is : List Token → Tree → Type 0} (pending level : ℕ) → ((prefix : List Token) (x : Tree) → Is prefix x → IsExpr no_limits pending level prefix x) → IsHighOr read Is → IsHigh read (IsExpr no_limits pending level)
closed_high pending level to h ts rest at e = elim (h ts rest at e) [ inl k ↦ hole_as to k | inr k ↦ hole_of pending level ts rest at to k ]

pub high_or : {read : Rule Tree} {Is : List Token → Tree → Type 0} → IsHigh read Is → IsHighOr read Is
high_or h ts rest at e = inl (h ts rest at e)

-- ---- readers that meet no height

pub no_height : {why : Obstacle} {at : ℕ} → is_height why ≡ false → why ≡ Height at → ⊥
no_height {why} {at} e h = let k = ap is_height h in cc

pub one_high : {A : Type 0} (f : Token → Option A) (Is : List Token → A → Type 0) → IsHigh (one f) Is
one_high f Is ts rest at e = absurd (no_height {why = Unfit} refl (sym (one_stops f ts rest (Height at) e).0))

pub ret_high : {A : Type 0} (a : A) (Is : List Token → A → Type 0) → IsHigh (ret a) Is
ret_high a Is ts rest at e = absurd (no_err e)

refused_height : (why : Obstacle) (b : Bool) (at : ℕ) → is_height why ≡ false → refusal why b ≡ Height at → ⊥
refused_height why true at soft e = no_height soft e
refused_height why false at soft e = no_height {why = Unfit} refl e

pub refused_high : {A : Type 0} (why : Obstacle) (test : Token → Bool) (Is : List Token → A → Type 0) → is_height why ≡ false → IsHigh (refuse why test) Is
refused_high why test Is soft ts rest at e = absurd (refused_height why (head_is test ts) at soft (err_is e).0)

-- ---- one after another

module _ {A B : Type 0} {p : Rule A} {q : A → Rule B} {P : List Token → A → Type 0} {Q : A → List Token → B → Type 0} (takes : Takes p P) (some : (a : A) → Begins (Q a) []) (hp : IsHigh p P) (hq : (a : A) → IsHigh (q a) (Q a)) where
  seq_high_by : (ts rest : List Token) (at : ℕ) (r : Read A) → p ts ≡ r → next q r ≡ (Err (Height at), rest) → IsHole (IsSeq P Q) ts rest at
  seq_high_by ts rest at (Ok a, mid) e h = let f = takes ts mid a e in hole_after ts f.0 mid rest a at f.1 f.2 (hq a mid rest at h)
  seq_high_by ts rest at (Err why, mid) e h = hole_before ts rest at some (hp ts rest at (as_err e h))

  pub seq_high : IsHigh (seq p q) (IsSeq P Q)
  seq_high ts rest at e = seq_high_by ts rest at (p ts) refl e

itself_after : {A : Type 0} {P : List Token → A → Type 0} {Q : A → List Token → Tree → Type 0} (ts y mid rest : List Token) (a : A) (at : ℕ) → ts ≡ y ++ mid → P y a → IsItself (Q a) mid rest at → IsItself (IsSeq P Q) ts rest at
itself_after ts y mid rest a at path i k = record { used = y ++ k.used; path = path ∙ ap (λ v. y ++ v) k.path ∙ sym (append_assoc y k.used rest); tree = k.tree; is_tree = Seq y k.used a k.tree i k.is_tree; offset_is = k.offset_is; height_is = k.height_is }

-- the same if the second makes an expression, and more may be known about what the first returned
module _ {A : Type 0} {p : Rule A} {q : A → Rule Tree} {P : List Token → A → Type 0} {Q : A → List Token → Tree → Type 0} {Good : A → Type 0} (takes : Takes p P) (good : (ts rest : List Token) (a : A) → p ts ≡ (Ok a, rest) → Good a) where
  seq_or_by : ((a : A) → Begins (Q a) []) → IsHigh p P → ((a : A) → Good a → IsHighOr (q a) (Q a)) → (ts rest : List Token) (at : ℕ) (r : Read A) → p ts ≡ r → next q r ≡ (Err (Height at), rest) → IsHole (IsSeq P Q) ts rest at ⊎ IsItself (IsSeq P Q) ts rest at
  seq_or_by some hp hq ts rest at (Ok a, mid) e h =
      let f = takes ts mid a e in
      elim (hq a (good ts mid a e) mid rest at h) [ inl k ↦ inl (hole_after ts f.0 mid rest a at f.1 f.2 k) | inr k ↦ inr (itself_after ts f.0 mid rest a at f.1 f.2 k) ]
  seq_or_by some hp hq ts rest at (Err why, mid) e h = inl (hole_before ts rest at some (hp ts rest at (as_err e h)))

  pub seq_or : ((a : A) → Begins (Q a) []) → IsHigh p P → ((a : A) → Good a → IsHighOr (q a) (Q a)) → IsHighOr (seq p q) (IsSeq P Q)
  seq_or some hp hq ts rest at e = seq_or_by some hp hq ts rest at (p ts) refl e

-- nothing is known about what the first returned
abbrev pub Any : {A : Type 0} → A → Type 0
Any a = Unit {0}

pub one_then : {A : Type 0} {q : A → Rule Tree} {Q : A → List Token → Tree → Type 0} (f : Token → Option A) → ((a : A) → Begins (Q a) []) → ((a : A) → IsHighOr (q a) (Q a)) → IsHighOr (seq (one f) q) (IsSeq (IsOne f) Q)
one_then f some hq = seq_or {Good = Any} (one_takes_all f) (λ ts rest a e. tt) some (one_high f (IsOne f)) (λ a g. hq a)

-- ---- a choice

module _ {A : Type 0} {p q : Rule A} {P Q : List Token → A → Type 0} (hp : IsHigh p P) (hq : IsHigh q Q) where
  either_high_by : (b : Bool) (ts rest : List Token) (at : ℕ) → either_by b p q ts ≡ (Err (Height at), rest) → IsHole (IsEither P Q) ts rest at
  either_high_by true ts rest at e = hole_as (λ f a i. inl i) (hp ts rest at e)
  either_high_by false ts rest at e = hole_as (λ f a i. inr i) (hq ts rest at e)

  pub either_high : (test : Token → Bool) → IsHigh (either test p q) (IsEither P Q)
  either_high test ts rest at e = either_high_by (head_is test ts) ts rest at e

itself_as : {P Q : List Token → Tree → Type 0} {ts rest : List Token} {at : ℕ} → ((prefix : List Token) (a : Tree) → P prefix a → Q prefix a) → IsItself P ts rest at → IsItself Q ts rest at
itself_as to k = record { used = k.used; path = k.path; tree = k.tree; is_tree = to k.used k.tree k.is_tree; offset_is = k.offset_is; height_is = k.height_is }

pub or_as : {P Q : List Token → Tree → Type 0} {ts rest : List Token} {at : ℕ} → ((prefix : List Token) (a : Tree) → P prefix a → Q prefix a) → IsHole P ts rest at ⊎ IsItself P ts rest at → IsHole Q ts rest at ⊎ IsItself Q ts rest at
or_as to (inl k) = inl (hole_as to k)
or_as to (inr k) = inr (itself_as to k)

module _ {p q : Rule Tree} {P Q : List Token → Tree → Type 0} (hp : IsHighOr p P) (hq : IsHighOr q Q) where
  either_or_by : (b : Bool) (ts rest : List Token) (at : ℕ) → either_by b p q ts ≡ (Err (Height at), rest) → IsHole (IsEither P Q) ts rest at ⊎ IsItself (IsEither P Q) ts rest at
  either_or_by true ts rest at e = or_as (λ f a i. inl i) (hp ts rest at e)
  either_or_by false ts rest at e = or_as (λ f a i. inr i) (hq ts rest at e)

  pub either_or : (test : Token → Bool) → IsHighOr (either test p q) (IsEither P Q)
  either_or test ts rest at e = either_or_by (head_is test ts) ts rest at e

-- ---- where it is found

node_by : (x : Tree) (at other : ℕ) (ts rest : List Token) → offset_of x ≡ at → height x ≤ suc MAX_HEIGHT → {L : Type 0} → L → (b : Bool) → leb (height x) MAX_HEIGHT ≡ b → guard b (Height at) x ts ≡ (Err (Height other), rest) → IsItself (IsGuarded L x) ts rest other
node_by x at other ts rest p low may true h e = absurd (no_err e)
node_by x at other ts rest p low may false h e =
    let k = err_is e in
    let same : at ≡ other = cc (k.0) in
    record { used = []; path = k.1; tree = x; is_tree = Guarded may; offset_is = p ∙ same; height_is = omega (arith, low, leb-false (height x) MAX_HEIGHT h) }

-- a node whose parts are not too high
pub node_or : {L : Type 0} (at : ℕ) (x : Tree) → offset_of x ≡ at → height x ≤ suc MAX_HEIGHT → L → IsHighOr (node at x) (IsGuarded L x)
node_or at x p low may ts rest other e = inr (node_by x at other ts rest p low may (leb (height x) MAX_HEIGHT) refl e)
