-- An expression has no fault exactly if it has a kind.
use Rattle.std.proofs.Common.{◌≡◌, ℕ, Bool, true, false, cond, ◌==◌, List, [], ◌∷◌, length, map, Option, Some, None, Result, Ok, Err, sym, ap, subst, refl, ◌∙◌, inl, inr, arith}
use Rattle.std.specs.Prelude.{find}
use Rattle.std.specs.Option.{option_or}
use Rattle.std.proofs.lemmas.Bool.{cases_Bool, eqb-true, eq-eqb}
use Rattle.std.proofs.lemmas.List.{length-map}
use Rattle.std.proofs.lemmas.Slice.Eq.{bytes_eq-Decides}
use Rattle.contract_tree.specs.declared.tree.ValueKind.{ValueKind}
use Rattle.contract_tree.specs.declared.tree.ValueKind.TheVariants.{Int, Text}
use Rattle.contract_tree.specs.declared.tree.Sign.{Sign}
use Rattle.contract_tree.specs.Tree.{Tree, Trees, none, more}
use Rattle.contract_tree.specs.Tree as tree
use Rattle.contract_tree.specs.declared.builtin.Builtin.{Builtin}
use Rattle.contract_tree.specs.declared.builtin.Builtin.TheVariants as b
use Rattle.contract_check.specs.declared.fault.Fault.{Fault}
use Rattle.contract_check.specs.declared.expression.KindAt.{KindAt}
use Rattle.contract_tree.specs.Builtins.{builtin_name, params_of, kind_given, builtins, is_named, builtin_of}
use Rattle.contract_check.specs.Names.{Names, kind_in}
use Rattle.contract_check.specs.WellKinded.{Operands, Numbers, Texts, Alike, operands_of, IsKinded, Number, Literal, Named, Called, Prefixed, OfNumbers, OfTexts, OfAlike, AreKinded, NoneLeft, OneMore}
use Rattle.contract_check.specs.Faults.{and_then, kind_at, is_same_kind, require_kind, name_kind, first_wrong_argument, unless_wrong_argument, call_kind, prefix_kind, operation_kind, equality_kind, binary_kind, expression_kind, expression_kinds}
use Rattle.contract_check.proofs.Scopes.{and_then_ok}

-- ---- kinds and builtins

pub same_kind_is : (a c : ValueKind) → is_same_kind a c ≡ true → a ≡ c
same_kind_is Int Int e = refl
same_kind_is Int Text e = cc
same_kind_is Text Int e = cc
same_kind_is Text Text e = refl

pub same_kind_same : (a : ValueKind) → is_same_kind a a ≡ true
same_kind_same Int = refl
same_kind_same Text = refl

-- a choice in which no fault was found
pub cond_ok : {A : Type 0} (t : Bool) (x : Result A Fault) (fault : Fault) (a : A) → cond t x (Err fault) ≡ Ok a → (t ≡ true) × (x ≡ Ok a)
cond_ok true x fault a e = (refl, e)
cond_ok false x fault a e = cc

pub require_kind_is : (wanted : ValueKind) (f g : KindAt) → require_kind wanted f ≡ Ok g → (f.kind ≡ wanted) × (g ≡ f)
require_kind_is wanted f g e =
    let p = cond_ok (is_same_kind f.kind wanted) (Ok f) _ g e in
    (same_kind_is f.kind wanted p.0, (let k : Ok f ≡ Ok g = p.1 in let m : f ≡ g = cc in sym m))

pub require_kind_good : (wanted : ValueKind) (f : KindAt) → f.kind ≡ wanted → require_kind wanted f ≡ Ok f
require_kind_good wanted f e = rw e (rw (same_kind_same wanted) refl)

find_passes : {X : Type 0} (p : X → Bool) (xs : List X) (x : X) → find p xs ≡ Some x → p x ≡ true
find_passes p [] x e = cc
find_passes p (y ∷ ys) x e =
    elim (cases_Bool (p y)) [
      | inl h ↦ (let g : Some y ≡ Some x = subst (λ t. cond t (Some y) (find p ys) ≡ Some x) h e in let k : y ≡ x = cc in subst (λ z. p z ≡ true) k h)
      | inr h ↦ find_passes p ys x (subst (λ t. cond t (Some y) (find p ys) ≡ Some x) h e)
    ]

pub builtin_is : (name : List ℕ) (builtin : Builtin) → builtin_of name ≡ Some builtin → builtin_name builtin ≡ name
unfolding builtin_of
builtin_is name builtin e = (bytes_eq-Decides (builtin_name builtin) name).0 (find_passes (is_named name) builtins builtin e)

pub builtin_again : (builtin : Builtin) → builtin_of (builtin_name builtin) ≡ Some builtin
unfolding builtin_of
builtin_again b.GetInt = refl
builtin_again _ = refl

abbrev pub kinds_of : List KindAt → List ValueKind
kinds_of args = map (λ arg. arg.kind) args

none_wrong : (args : List KindAt) (kinds : List ValueKind) → length args ≡ length kinds → first_wrong_argument args kinds ≡ None → kinds_of args ≡ kinds
none_wrong [] [] l w = refl
none_wrong [] (kind ∷ kinds) l w = absurd (omega arith)
none_wrong (arg ∷ args) [] l w = absurd (omega arith)
none_wrong (arg ∷ args) (kind ∷ kinds) l w =
    elim (cases_Bool (is_same_kind arg.kind kind)) [
      | inl h ↦ (
          let same = same_kind_is arg.kind kind h in
          let rest = none_wrong args kinds (omega arith) (subst (λ t. option_or (cond t None (Some arg.at)) (first_wrong_argument args kinds) ≡ None) h w) in
          cc)
      | inr h ↦ absurd (let k = subst (λ t. option_or (cond t None (Some arg.at)) (first_wrong_argument args kinds) ≡ None) h w in cc)
    ]

right_kinds : (args : List KindAt) → first_wrong_argument args (kinds_of args) ≡ None
right_kinds [] = refl
right_kinds (arg ∷ args) = rw (same_kind_same arg.kind) (right_kinds args)

unless_wrong_is : (w : Option ℕ) (f g : KindAt) → unless_wrong_argument w f ≡ Ok g → (w ≡ None) × (g ≡ f)
unless_wrong_is None f g e = (refl, (let k : f ≡ g = cc in sym k))
unless_wrong_is (Some place) f g e = cc

-- what a call without a fault says
record IsCall (at : ℕ) (name : List ℕ) (args : List KindAt) (f : KindAt) : Type 0 where
  builtin : Builtin
  called : builtin_name builtin ≡ name
  kinds : kinds_of args ≡ params_of builtin
  gives : f.kind ≡ kind_given builtin

call_is : (at : ℕ) (name : List ℕ) (args : List KindAt) (f : KindAt) (o : Option Builtin) → builtin_of name ≡ o → call_kind at o args ≡ Ok f → IsCall at name args f
call_is at name args f None is e = cc
call_is at name args f (Some builtin) is e =
    let p = cond_ok (length args == length (params_of builtin)) (unless_wrong_argument (first_wrong_argument args (params_of builtin)) (kind_at at (kind_given builtin))) _ f e in
    let u = unless_wrong_is (first_wrong_argument args (params_of builtin)) (kind_at at (kind_given builtin)) f p.1 in
    record { builtin = builtin; called = builtin_is name builtin is; kinds = none_wrong args (params_of builtin) (eqb-true _ _ p.0) u.0; gives = ap (λ g. g.kind) u.1 }

call_good : (at : ℕ) (builtin : Builtin) (args : List KindAt) → kinds_of args ≡ params_of builtin → call_kind at (Some builtin) args ≡ Ok (kind_at at (kind_given builtin))
call_good at builtin args e =
    let counted : length args ≡ length (params_of builtin) = sym (length-map args (λ arg. arg.kind)) ∙ ap length e in
    let right : first_wrong_argument args (params_of builtin) ≡ None = subst (λ kinds. first_wrong_argument args kinds ≡ None) e (right_kinds args) in
    rw (eq-eqb _ _ counted) (rw right refl)

-- ---- operators

prefix_is : (at : ℕ) (x f : KindAt) → prefix_kind at x ≡ Ok f → (x.kind ≡ Int) × (f ≡ kind_at at Int)
prefix_is at x f e =
    let p = and_then_ok (require_kind Int x) (λ _. Ok (kind_at at Int)) f e in
    ((require_kind_is Int x p.value p.first).0, (let k : Ok (kind_at at Int) ≡ Ok f = p.second in let m : kind_at at Int ≡ f = cc in sym m))

both_is : (wanted : ValueKind) (at : ℕ) (x y f : KindAt) → operation_kind wanted at x y ≡ Ok f → (x.kind ≡ wanted) × (y.kind ≡ wanted) × (f ≡ kind_at at wanted)
both_is wanted at x y f e =
    let p = and_then_ok (require_kind wanted x) (λ _. and_then (require_kind wanted y) (λ _. Ok (kind_at at wanted))) f e in
    let q = and_then_ok (require_kind wanted y) (λ _. Ok (kind_at at wanted)) f p.second in
    ((require_kind_is wanted x p.value p.first).0, (require_kind_is wanted y q.value q.first).0, (let k : Ok (kind_at at wanted) ≡ Ok f = q.second in let m : kind_at at wanted ≡ f = cc in sym m))

alike_is : (at : ℕ) (x y f : KindAt) → equality_kind at x y ≡ Ok f → (y.kind ≡ x.kind) × (f ≡ kind_at at Int)
alike_is at x y f e =
    let p = and_then_ok (require_kind x.kind y) (λ _. Ok (kind_at at Int)) f e in
    ((require_kind_is x.kind y p.value p.first).0, (let k : Ok (kind_at at Int) ≡ Ok f = p.second in let m : kind_at at Int ≡ f = cc in sym m))

-- ---- both ways

pair_sound : (names : Names) (at : ℕ) (sign : Sign) (left right : Tree) (x y f : KindAt) → IsKinded names left x.kind → IsKinded names right y.kind
    → (t : Operands) → operands_of sign ≡ t → binary_kind at t x y ≡ Ok f → IsKinded names (tree.Binary at sign left right) f.kind
pair_sound names at sign left right x y f h k Numbers is e =
    let p = both_is Int at x y f e in
    let P : Tree → ValueKind → Type 0 = λ w kind. IsKinded names w kind in
    subst (P (tree.Binary at sign left right)) (sym (ap (λ g. g.kind) p.2)) (OfNumbers at sign left right is (subst (P left) p.0 h) (subst (P right) p.1 k))
pair_sound names at sign left right x y f h k Texts is e =
    let p = both_is Text at x y f e in
    let P : Tree → ValueKind → Type 0 = λ w kind. IsKinded names w kind in
    subst (P (tree.Binary at sign left right)) (sym (ap (λ g. g.kind) p.2)) (OfTexts at sign left right is (subst (P left) p.0 h) (subst (P right) p.1 k))
pair_sound names at sign left right x y f h k Alike is e =
    let p = alike_is at x y f e in
    let P : Tree → ValueKind → Type 0 = λ w kind. IsKinded names w kind in
    subst (P (tree.Binary at sign left right)) (sym (ap (λ g. g.kind) p.1)) (OfAlike at sign left right x.kind is h (subst (P right) p.0 k))

name_sound : (names : Names) (at : ℕ) (name : List ℕ) (f : KindAt) (o : Option ValueKind) → kind_in names name ≡ o → name_kind at o ≡ Ok f → IsKinded names (tree.Name at name) f.kind
name_sound names at name f None is e = cc
name_sound names at name f (Some kind) is e =
    let P : ValueKind → Type 0 = λ k. IsKinded names (tree.Name at name) k in
    let same : kind_at at kind ≡ f = cc in
    subst P (ap (λ g. g.kind) same) (Named at name kind is)

mutual
  pub expression_kind_sound : (names : Names) (x : Tree) (f : KindAt) → expression_kind names x ≡ Ok f → IsKinded names x f.kind
  expression_kind_sound names (tree.Int at value) f e = (let same : kind_at at Int ≡ f = cc in let P : ValueKind → Type 0 = λ k. IsKinded names (tree.Int at value) k in subst P (ap (λ g. g.kind) same) (Number at value))
  expression_kind_sound names (tree.Text at text) f e = (let same : kind_at at Text ≡ f = cc in let P : ValueKind → Type 0 = λ k. IsKinded names (tree.Text at text) k in subst P (ap (λ g. g.kind) same) (Literal at text))
  expression_kind_sound names (tree.Name at name) f e = name_sound names at name f (kind_in names name) refl e
  expression_kind_sound names (tree.Call at name args) f e =
      let p = and_then_ok (expression_kinds names args) (call_kind at (builtin_of name)) f e in
      let c = call_is at name p.value f (builtin_of name) refl p.second in
      let kinded : AreKinded names args (params_of c.builtin) = subst (λ kinds. AreKinded names args kinds) c.kinds (all_sound names args p.value p.first) in
      subst (λ n. IsKinded names (tree.Call at n args) f.kind) c.called (subst (λ kind. IsKinded names (tree.Call at (builtin_name c.builtin) args) kind) (sym c.gives) (Called at c.builtin args kinded))
  expression_kind_sound names (tree.Prefix at sign operand) f e =
      let p = and_then_ok (expression_kind names operand) (prefix_kind at) f e in
      let q = prefix_is at p.value f p.second in
      let P : Tree → ValueKind → Type 0 = λ w kind. IsKinded names w kind in
      subst (P (tree.Prefix at sign operand)) (sym (ap (λ g. g.kind) q.1)) (Prefixed at sign operand (subst (P operand) q.0 (expression_kind_sound names operand p.value p.first)))
  expression_kind_sound names (tree.Binary at sign left right) f e =
      let p = and_then_ok (expression_kind names left) (λ left. and_then (expression_kind names right) (λ right. binary_kind at (operands_of sign) left right)) f e in
      let q = and_then_ok (expression_kind names right) (λ right. binary_kind at (operands_of sign) p.value right) f p.second in
      pair_sound names at sign left right p.value q.value f (expression_kind_sound names left p.value p.first) (expression_kind_sound names right q.value q.first) (operands_of sign) refl q.second

  all_sound : (names : Names) (xs : Trees) (fs : List KindAt) → expression_kinds names xs ≡ Ok fs → AreKinded names xs (kinds_of fs)
  all_sound names none fs e = (let same : [] ≡ fs = cc in subst (λ l. AreKinded names none (kinds_of l)) same NoneLeft)
  all_sound names (more x xs) fs e =
      let p = and_then_ok (expression_kind names x) (λ kind. and_then (expression_kinds names xs) (λ kinds. Ok (kind ∷ kinds))) fs e in
      let q = and_then_ok (expression_kinds names xs) (λ kinds. Ok (p.value ∷ kinds)) fs p.second in
      let same : p.value ∷ q.value ≡ fs = (let k : Ok (p.value ∷ q.value) ≡ Ok fs = q.second in cc) in
      subst (λ l. AreKinded names (more x xs) (kinds_of l)) same (OneMore x xs p.value.kind (kinds_of q.value) (expression_kind_sound names x p.value p.first) (all_sound names xs q.value q.first))

-- the kind of an expression is found, at its offset
pub record IsFoundAs (names : Names) (x : Tree) (kind : ValueKind) : Type 0 where
  pub at : ℕ
  pub is : expression_kind names x ≡ Ok (kind_at at kind)

record AreFoundAs (names : Names) (xs : Trees) (kinds : List ValueKind) : Type 0 where
  args : List KindAt
  are : expression_kinds names xs ≡ Ok args
  kinds_are : kinds_of args ≡ kinds

mutual
  pub expression_kind_complete : (names : Names) (x : Tree) (kind : ValueKind) → IsKinded names x kind → IsFoundAs names x kind
  expression_kind_complete names _ _ (Number at value) = record { at = at; is = refl }
  expression_kind_complete names _ _ (Literal at text) = record { at = at; is = refl }
  expression_kind_complete names _ _ (Named at name kind e) = record { at = at; is = ap (name_kind at) e }
  expression_kind_complete names _ _ (Called at builtin args h) =
      let a = all_complete names args (params_of builtin) h in
      record { at = at; is = ap (λ r. and_then r (call_kind at (builtin_of (builtin_name builtin)))) a.are ∙ ap (λ o. call_kind at o a.args) (builtin_again builtin) ∙ call_good at builtin a.args a.kinds_are }
  expression_kind_complete names _ _ (Prefixed at sign operand h) =
      let x = expression_kind_complete names operand Int h in
      record { at = at; is = ap (λ r. and_then r (prefix_kind at)) x.is }
  expression_kind_complete names _ _ (OfNumbers at sign left right e h k) =
      let x = expression_kind_complete names left Int h in
      let y = expression_kind_complete names right Int k in
      record { at = at; is = ap (λ r. and_then r (λ left. and_then (expression_kind names right) (λ right. binary_kind at (operands_of sign) left right))) x.is ∙ ap (λ r. and_then r (λ right. binary_kind at (operands_of sign) (kind_at x.at Int) right)) y.is ∙ ap (λ t. binary_kind at t (kind_at x.at Int) (kind_at y.at Int)) e }
  expression_kind_complete names _ _ (OfTexts at sign left right e h k) =
      let x = expression_kind_complete names left Text h in
      let y = expression_kind_complete names right Text k in
      record { at = at; is = ap (λ r. and_then r (λ left. and_then (expression_kind names right) (λ right. binary_kind at (operands_of sign) left right))) x.is ∙ ap (λ r. and_then r (λ right. binary_kind at (operands_of sign) (kind_at x.at Text) right)) y.is ∙ ap (λ t. binary_kind at t (kind_at x.at Text) (kind_at y.at Text)) e }
  expression_kind_complete names _ _ (OfAlike at sign left right kind e h k) =
      let x = expression_kind_complete names left kind h in
      let y = expression_kind_complete names right kind k in
      let same : equality_kind at (kind_at x.at kind) (kind_at y.at kind) ≡ Ok (kind_at at Int) = ap (λ r. and_then r (λ _. Ok (kind_at at Int))) (require_kind_good kind (kind_at y.at kind) refl) in
      record { at = at; is = ap (λ r. and_then r (λ left. and_then (expression_kind names right) (λ right. binary_kind at (operands_of sign) left right))) x.is ∙ ap (λ r. and_then r (λ right. binary_kind at (operands_of sign) (kind_at x.at kind) right)) y.is ∙ ap (λ t. binary_kind at t (kind_at x.at kind) (kind_at y.at kind)) e ∙ same }

  all_complete : (names : Names) (xs : Trees) (kinds : List ValueKind) → AreKinded names xs kinds → AreFoundAs names xs kinds
  all_complete names _ _ NoneLeft = record { args = []; are = refl; kinds_are = refl }
  all_complete names _ _ (OneMore x xs kind kinds h k) =
      let f = expression_kind_complete names x kind h in
      let rest = all_complete names xs kinds k in
      record {
        args = kind_at f.at kind ∷ rest.args;
        are = ap (λ r. and_then r (λ kind. and_then (expression_kinds names xs) (λ kinds. Ok (kind ∷ kinds)))) f.is ∙ ap (λ r. and_then r (λ kinds. Ok (kind_at f.at kind ∷ kinds))) rest.are;
        kinds_are = ap (λ l. kind ∷ l) rest.kinds_are;
      }
