-- The laws of a choice between two readers, of a repeated step, and of lists.
use Rattle.std.proofs.Common.{◌≡◌, ℕ, zero, suc, ◌+◌, ◌<◌, Bool, true, false, List, [], ◌∷◌, ◌++◌, length, Result, Ok, Err, ◌⊎◌, inl, inr, refl, sym, ap, ◌∙◌, subst, append_assoc, arith, length-append}
use Rattle.std.proofs.lemmas.List.{append-nil, length_push}
use Rattle.contract_tokens.specs.declared.token.Token.{Token}
use Rattle.contract_grammar.specs.declared.Obstacle.{Obstacle}
use Rattle.contract_grammar.specs.declared.Obstacle.TheVariants.{Unfit}
use Rattle.contract_grammar.specs.Rules.{Read, Rule, head_is, ret, refusal, refuse, next, seq, either_by, either, turns_below, turns, each, is_limit, IsLimitAt}
use Rattle.contract_grammar.proofs.Laws.{has_end, IsRet, Ret, ret_is, ret_rule, soft_goes, Agrees, GoesOn, IsRule, ok_is, err_is, no_ok, here_same, no_false, GoesBy, Takes, Begins}
use Rattle.contract_grammar.proofs.Sequence.{IsSeq, Seq, Leads, seq_rule}
use Rattle.contract_grammar.proofs.Writable.{no_words}

-- the same for the same relation under another name
pub takes_as : {A : Type 0} {p : Rule A} {P Q : List Token → A → Type 0} → ((prefix : List Token) (a : A) → P prefix a → Q prefix a) → Takes p P → Takes p Q
takes_as to h ts rest a e = let k = h ts rest a e in (k.0, k.1, to k.0 a k.2)

pub begins_as : {A : Type 0} (P Q : List Token → A → Type 0) → ((prefix : List Token) (a : A) → P prefix a → Q prefix a) → (used : List Token) → Begins P used → Begins Q used
begins_as P Q to used k = (k.0, k.1, k.2, to (used ++ k.0) k.1 k.3)

-- the same laws for the same relation under another name
pub renamed : {E : Obstacle → Type 0} {U : Type 0} {A : Type 0} {p : Rule A} {P Q : List Token → A → Type 0} {S : Token → Bool} → IsRule E U p P S → ((prefix : List Token) (a : A) → P prefix a → Q prefix a) → ((prefix : List Token) (a : A) → Q prefix a → P prefix a) → IsRule E U p Q S
renamed {P = P} {Q = Q} h to from = record {
  takes = takes_as to h.takes;
  leaves = h.leaves;
  viable = λ u ts rest why e. let k = h.viable u ts rest why e in (k.0, k.1, k.2, k.3, to (k.0 ++ k.1) k.2 k.4, k.5);
  again = λ prefix rest a q s. h.again prefix rest a (from prefix a q) s;
  same = h.same;
  some = λ u. begins_as P Q to [] (h.some u);
  stays = h.stays;
}

-- the same laws if each obstacle is excused
excused : {E : Obstacle → Type 0} {U : Type 0} {A : Type 0} {p : Rule A} {P : List Token → A → Type 0} {S : Token → Bool} → IsRule E U p P S → IsRule (λ why. Unit {0}) U p P S
excused h = record {
  takes = h.takes;
  leaves = h.leaves;
  viable = h.viable;
  again = λ prefix rest a i s. elim (h.again prefix rest a i s) [ inl e ↦ inl e | inr k ↦ inr (k.0, k.1, k.2, tt) ];
  same = h.same;
  some = h.some;
  stays = h.stays;
}

-- the same laws, with fewer tokens before which the reader ends
pub with_stops : {E : Obstacle → Type 0} {U : Type 0} {A : Type 0} {p : Rule A} {P : List Token → A → Type 0} {S T : Token → Bool} → IsRule E U p P S → ((ts : List Token) → head_is T ts ≡ true → head_is S ts ≡ true) → IsRule E U p P T
with_stops h fewer = record {
  takes = h.takes;
  leaves = h.leaves;
  viable = h.viable;
  again = λ prefix rest a i s. h.again prefix rest a i (fewer rest s);
  same = h.same;
  some = h.some;
  stays = h.stays;
}

-- what the grammar has begins with such a token
abbrev pub Starts : {A : Type 0} → (Token → Bool) → (List Token → A → Type 0) → Type 0
Starts {A} test P = (prefix : List Token) (a : A) → P prefix a → head_is test prefix ≡ true

-- what the grammar has begins with no such token, and if it takes nothing, neither does what
-- follows
abbrev pub Differs : {A : Type 0} → (Token → Bool) → (List Token → A → Type 0) → (Token → Bool) → Type 0
Differs {A} test Q S = (prefix rest : List Token) (a : A) → Q prefix a → head_is S rest ≡ true → head_is test (prefix ++ rest) ≡ false

pub head_more : (f : Token → Bool) (y z : List Token) → head_is f y ≡ true → head_is f (y ++ z) ≡ true
head_more f [] z e = absurd (no_false refl e)
head_more f (t ∷ y) z e = e

head_long : (f : Token → Bool) (ts : List Token) → head_is f ts ≡ true → 0 < length ts
head_long f [] e = absurd (no_false refl e)
head_long f (t ∷ ts) e = omega arith

pub head_lift : (f g : Token → Bool) → ((t : Token) → f t ≡ true → g t ≡ true) → (ts : List Token) → head_is f ts ≡ true → head_is g ts ≡ true
head_lift f g h [] e = absurd (no_false refl e)
head_lift f g h (t ∷ ts) e = h t e

pub head_not : (f g : Token → Bool) → ((t : Token) → f t ≡ true → g t ≡ false) → (ts : List Token) → head_is f ts ≡ true → head_is g ts ≡ false
head_not f g h [] e = refl
head_not f g h (t ∷ ts) e = h t e

head_same : (f : Token → Bool) (u y z : List Token) (t : Token) → head_is f (u ++ t ∷ y) ≡ head_is f (u ++ t ∷ z)
head_same f [] y z t = refl
head_same f (s ∷ u) y z t = refl

-- one or the other
abbrev pub IsEither : {A : Type 0} → (List Token → A → Type 0) → (List Token → A → Type 0) → List Token → A → Type 0
IsEither P Q prefix a = P prefix a ⊎ Q prefix a

module _ {A : Type 0} {p q : Rule A} {P Q : List Token → A → Type 0} where
  pub either_by_takes : Takes p P → Takes q Q → (b : Bool) → Takes (either_by b p q) (IsEither P Q)
  either_by_takes hp hq true ts rest a e = let k = hp ts rest a e in (k.0, k.1, inl k.2)
  either_by_takes hp hq false ts rest a e = let k = hq ts rest a e in (k.0, k.1, inr k.2)

  pub either_takes : (test : Token → Bool) → Takes p P → Takes q Q → Takes (either test p q) (IsEither P Q)
  either_takes test hp hq ts rest a e = either_by_takes hp hq (head_is test ts) ts rest a e

module _ {E : Obstacle → Type 0} {U : Type 0} {A : Type 0} {p q : Rule A} {P Q : List Token → A → Type 0} {S : Token → Bool} (test : Token → Bool) (hp : IsRule E U p P S) (hq : IsRule E U q Q S) where
  either_leaves : (b : Bool) (ts rest : List Token) (why : Obstacle) → either_by b p q ts ≡ (Err why, rest) → (used : List Token) × (ts ≡ used ++ rest)
  either_leaves true ts rest why e = hp.leaves ts rest why e
  either_leaves false ts rest why e = hq.leaves ts rest why e

  either_viable : U → (b : Bool) (ts rest : List Token) (why : Obstacle) → either_by b p q ts ≡ (Err why, rest) → (used : List Token) × (more : List Token) × (a : A) × (ts ≡ used ++ rest) × IsEither P Q (used ++ more) a × GoesOn why rest more
  either_viable u true ts rest why e = let k = hp.viable u ts rest why e in (k.0, k.1, k.2, k.3, inl k.4, k.5)
  either_viable u false ts rest why e = let k = hq.viable u ts rest why e in (k.0, k.1, k.2, k.3, inr k.4, k.5)

  either_same : (b : Bool) (u v y z : List Token) (t : Token) (r : Result A Obstacle) → either_by b p q (u ++ t ∷ y) ≡ (r, v ++ t ∷ y) → either_by b p q (u ++ t ∷ z) ≡ (r, v ++ t ∷ z)
  either_same true = hp.same
  either_same false = hq.same

  either_stays : (b : Bool) (ts : List Token) → has_end ts ≡ true → has_end (either_by b p q ts).1 ≡ true
  either_stays true = hp.stays
  either_stays false = hq.stays

  either_again : Starts test P → Differs test Q S → (prefix rest : List Token) (a : A) → IsEither P Q prefix a → head_is S rest ≡ true → Agrees E a rest (either test p q (prefix ++ rest))
  either_again starts differs prefix rest a (inl i) h =
      let b : head_is test (prefix ++ rest) ≡ true = head_more test prefix rest (starts prefix a i) in
      subst (λ v. Agrees E a rest (either_by v p q (prefix ++ rest))) (sym b) (hp.again prefix rest a i h)
  either_again starts differs prefix rest a (inr i) h =
      let b : head_is test (prefix ++ rest) ≡ false = differs prefix rest a i h in
      subst (λ v. Agrees E a rest (either_by v p q (prefix ++ rest))) (sym b) (hq.again prefix rest a i h)

  pub either_rule : Starts test P → Differs test Q S → IsRule E U (either test p q) (IsEither P Q) S
  either_rule starts differs = record {
    takes = either_takes test hp.takes hq.takes;
    leaves = λ ts rest why e. either_leaves (head_is test ts) ts rest why e;
    viable = λ u ts rest why e. either_viable u (head_is test ts) ts rest why e;
    again = either_again starts differs;
    same = λ u v y z t r e. ap (λ b. either_by b p q (u ++ t ∷ z)) (sym (head_same test u y z t)) ∙ either_same (head_is test (u ++ t ∷ y)) u v y z t r e;
    some = λ u. begins_as P (IsEither P Q) (λ f a i. inl i) [] (hp.some u);
    stays = λ ts h. either_stays (head_is test ts) ts h;
  }

-- a reader that is always stopped at the first token, by a limit if the grammar allows that token
module _ (why : Obstacle) (test : Token → Bool) where
  refusal_is : (b : Bool) (w : Obstacle) → refusal why b ≡ w → (w ≡ Unfit) ⊎ ((w ≡ why) × (b ≡ true))
  refusal_is true w e = inr (sym e, refl)
  refusal_is false w e = inl (sym e)

  refusal_first : (u y z : List Token) (t : Token) → refusal why (head_is test (u ++ t ∷ y)) ≡ refusal why (head_is test (u ++ t ∷ z))
  refusal_first u y z t = ap (refusal why) (head_same test u y z t)

  closed_viable : is_limit why ≡ true → {B : Type 0} (Is : List Token → B → Type 0) → ((t : Token) → test t ≡ true → IsLimitAt why t) → Begins Is [] → ((t : Token) → test t ≡ true → Begins Is (t ∷ [])) → (ts rest : List Token) (w : Obstacle) → ts ≡ rest → (w ≡ Unfit) ⊎ ((w ≡ why) × (head_is test ts ≡ true)) → (used : List Token) × (more : List Token) × (b : B) × (ts ≡ used ++ rest) × Is (used ++ more) b × GoesOn w rest more
  closed_viable limit Is told some with_it ts rest w path (inl i) = ([], some.0, some.1, path, some.3, soft_goes w rest some.0 (ap is_limit i) some.2)
  closed_viable limit Is told some with_it [] rest w path (inr (e, h)) = absurd (no_false refl h)
  closed_viable limit Is told some with_it (t ∷ ts) rest w path (inr (e, h)) =
      let k = with_it t h in
      let goes : GoesOn why rest (t ∷ k.0) = subst (λ b. GoesBy b why rest (t ∷ k.0)) (sym limit) (t, ts, k.0, sym path, refl, k.2, told t h) in
      ([], t ∷ k.0, k.1, path, k.3, subst (λ v. GoesOn v rest (t ∷ k.0)) (sym e) goes)

pub closed_rule : {E : Obstacle → Type 0} {U : Type 0} {B : Type 0} {Is : List Token → B → Type 0} {S : Token → Bool} (why : Obstacle) (test : Token → Bool) → is_limit why ≡ true → ((t : Token) → test t ≡ true → IsLimitAt why t) → (U → Begins Is []) → (U → (t : Token) → test t ≡ true → Begins Is (t ∷ [])) → Starts test Is → ((prefix : List Token) (b : B) → Is prefix b → E why) → IsRule E U (refuse why test) Is S
closed_rule {B = B} {Is = Is} why test limit told some with_it starts excused = record {
  takes = λ ts rest b e. absurd (no_ok e);
  leaves = λ ts rest w e. ([], (err_is e).1);
  viable = λ u ts rest w e. let k = err_is e in closed_viable why test limit Is told (some u) (with_it u) ts rest w k.1 (refusal_is why test (head_is test ts) w k.0);
  again = λ prefix rest b i h. inr (why, prefix ++ rest, ap (λ v. (Err (refusal why v), prefix ++ rest)) (head_more test prefix rest (starts prefix b i)), excused prefix b i);
  same = λ u v y z t r e. ap (λ w. (Err w, u ++ t ∷ z)) (sym (refusal_first why test u y z t)) ∙ here_same (Err (refusal why (head_is test (u ++ t ∷ y)))) r u v y z t e;
  some = some;
  stays = λ ts h. h;
}

-- a step, repeated any number of times
pub data IsTurns {A : Type 0} (IsStep : A → List Token → A → Type 0) : A → List Token → A → Type 0 where
  Over : (a : A) → IsTurns IsStep a [] a
  Turn : (a b c : A) (y z : List Token) → IsStep a y b → IsTurns IsStep b z c → IsTurns IsStep a (y ++ z) c

-- if the first part begins with such a token, so does the whole
pub seq_starts : {A B : Type 0} {P : List Token → A → Type 0} {Q : A → List Token → B → Type 0} (test : Token → Bool) → Starts test P → Starts test (IsSeq P Q)
seq_starts test starts prefix b (Seq y z a _ i j) = head_more test y z (starts y a i)

pub ret_differs : {A : Type 0} {S : Token → Bool} (test : Token → Bool) (a : A) → ((ts : List Token) → head_is S ts ≡ true → head_is test ts ≡ false) → Differs test (IsRet a) S
ret_differs test a ends prefix rest b Ret h = ends rest h

-- a step takes at least one token
abbrev pub IsStrict : {A : Type 0} → (A → Rule A) → Type 0
IsStrict {A} step = (a : A) (ts rest : List Token) (b : A) → step a ts ≡ (Ok b, rest) → length rest < length ts

pub turns_are : {A : Type 0} (test : Token → Bool) (step : A → Rule A) (a : A) (ts : List Token) → turns test step a ts ≡ turns_below (suc (length ts)) test step a ts
unfolding turns
turns_are test step a ts = refl

-- more turns than tokens change nothing
module _ {A : Type 0} (test : Token → Bool) (step : A → Rule A) (strict : IsStrict step) where
  below_step : (n m : ℕ) → ((a : A) (ts : List Token) → length ts < n → length ts < m → turns_below n test step a ts ≡ turns_below m test step a ts) → (a : A) (ts : List Token) → length ts < suc n → length ts < suc m → (r : Read A) → step a ts ≡ r → next (turns_below n test step) r ≡ next (turns_below m test step) r
  below_step n m go a ts low few (Ok b, rest) e =
      let shorter = strict a ts rest b e in
      go b rest (omega (arith, low, shorter)) (omega (arith, few, shorter))
  below_step n m go a ts low few (Err why, rest) e = refl

  below_by : (n m : ℕ) → ((a : A) (ts : List Token) → length ts < n → length ts < m → turns_below n test step a ts ≡ turns_below m test step a ts) → (a : A) (ts : List Token) → length ts < suc n → length ts < suc m → (b : Bool) → either_by b (seq (step a) (turns_below n test step)) (ret a) ts ≡ either_by b (seq (step a) (turns_below m test step)) (ret a) ts
  below_by n m go a ts low few true = below_step n m go a ts low few (step a ts) refl
  below_by n m go a ts low few false = refl

  pub below_same : (n m : ℕ) (a : A) (ts : List Token) → length ts < n → length ts < m → turns_below n test step a ts ≡ turns_below m test step a ts
  below_same zero m a ts low few = absurd (omega (arith, low))
  below_same (suc n) zero a ts low few = absurd (omega (arith, few))
  below_same (suc n) (suc m) a ts low few = below_by n m (below_same n m) a ts low few (head_is test ts)

  once_step : (a : A) (ts : List Token) (r : Read A) → step a ts ≡ r → next (turns_below (length ts) test step) r ≡ next (turns test step) r
  once_step a ts (Ok b, rest) e = below_same (length ts) (suc (length rest)) b rest (strict a ts rest b e) (omega arith) ∙ sym (turns_are test step b rest)
  once_step a ts (Err why, rest) e = refl

  once_by : (a : A) (ts : List Token) (b : Bool) → either_by b (seq (step a) (turns_below (length ts) test step)) (ret a) ts ≡ either_by b (seq (step a) (turns test step)) (ret a) ts
  once_by a ts true = once_step a ts (step a ts) refl
  once_by a ts false = refl

  -- the first turn, then the others
  pub turns_once : (a : A) (ts : List Token) → turns test step a ts ≡ either test (seq (step a) (turns test step)) (ret a) ts
  turns_once a ts = turns_are test step a ts ∙ once_by a ts (head_is test ts)

module _ {E : Obstacle → Type 0} {U : Type 0} {A : Type 0} {step : A → Rule A} {IsStep : A → List Token → A → Type 0} {S T : Token → Bool} (test g : Token → Bool) (hs : (a : A) → IsRule E U (step a) (IsStep a) S) (starts : (a : A) → Starts g (IsStep a)) (tested : (t : Token) → g t ≡ true → test t ≡ true) (passes : (t : Token) → g t ≡ true → S t ≡ true) (ends : (t : Token) → T t ≡ true → S t ≡ true) (leaves : (t : Token) → T t ≡ true → test t ≡ false) where
  pub turns_leads : Leads S (IsTurns IsStep) T
  turns_leads a prefix rest c (Over _) h = head_lift T S ends rest h
  turns_leads a prefix rest c (Turn _ b _ y z i j) h =
      let k : head_is g ((y ++ z) ++ rest) ≡ true = head_more g (y ++ z) rest (head_more g y z (starts a y b i)) in
      head_lift g S passes ((y ++ z) ++ rest) k

  strict : IsStrict step
  strict a ts rest b e =
      let k = (hs a).takes ts rest b e in
      let filled : 0 < length k.0 = head_long g k.0 (starts a k.0 b k.2) in
      omega (arith, filled, ap length k.1, length-append k.0 rest)

  below_none : (a : A) → IsRule (λ why. Unit {0}) U (turns_below 0 test step a) (IsTurns IsStep a) T
  below_none a = record {
    takes = λ ts rest b e. absurd (no_ok e);
    leaves = λ ts rest why e. ([], (err_is e).1);
    viable = λ u ts rest why e. let k = err_is e in ([], [], a, k.1, Over a, soft_goes why rest [] (ap is_limit (sym k.0)) no_words);
    again = λ prefix rest b i h. inr (Unfit, prefix ++ rest, refl, tt);
    same = λ u v y z t r e. here_same (Err Unfit) r u v y z t e;
    some = λ u. ([], a, no_words, Over a);
    stays = λ ts h. h;
  }

  to_turns : (a : A) (prefix : List Token) (c : A) → IsEither (IsSeq (IsStep a) (IsTurns IsStep)) (IsRet a) prefix c → IsTurns IsStep a prefix c
  to_turns a prefix c (inl (Seq y z b _ i j)) = Turn a b c y z i j
  to_turns a prefix c (inr Ret) = Over a

  from_turns : (a : A) (prefix : List Token) (c : A) → IsTurns IsStep a prefix c → IsEither (IsSeq (IsStep a) (IsTurns IsStep)) (IsRet a) prefix c
  from_turns a prefix c (Over _) = inr Ret
  from_turns a prefix c (Turn _ b _ y z i j) = inl (Seq y z b c i j)

  -- a limited number of turns; that none is left is excused as an obstacle
  below_rule : (n : ℕ) (a : A) → IsRule (λ why. Unit {0}) U (turns_below n test step a) (IsTurns IsStep a) T
  below_rule zero a = below_none a
  below_rule (suc n) a =
      let chosen = either_rule test (seq_rule (excused (hs a)) (below_rule n) turns_leads) (ret_rule a) (seq_starts test (λ f b i. head_lift g test tested f (starts a f b i))) (ret_differs test a (head_not T test leaves)) in
      renamed chosen (to_turns a) (from_turns a)

  turns_again : (a : A) (prefix rest : List Token) (c : A) → IsTurns IsStep a prefix c → head_is T rest ≡ true → Agrees E c rest (turns test step a (prefix ++ rest))
  turns_again a prefix rest c (Over _) h =
      inl (turns_once test step strict a rest ∙ ap (λ v. either_by v (seq (step a) (turns test step)) (ret a) rest) (head_not T test leaves rest h))
  turns_again a prefix rest c (Turn _ b _ y z i j) h =
      let on : head_is test ((y ++ z) ++ rest) ≡ true = head_more test (y ++ z) rest (head_more test y z (head_lift g test tested y (starts a y b i))) in
      let path : step a ((y ++ z) ++ rest) ≡ step a (y ++ (z ++ rest)) = ap (step a) (append_assoc y z rest) in
      let once : turns test step a ((y ++ z) ++ rest) ≡ next (turns test step) (step a (y ++ (z ++ rest))) = turns_once test step strict a ((y ++ z) ++ rest) ∙ ap (λ v. either_by v (seq (step a) (turns test step)) (ret a) ((y ++ z) ++ rest)) on ∙ ap (λ r. next (turns test step) r) path in
      elim ((hs a).again y (z ++ rest) b i (turns_leads b z rest c j h)) [
        | inl first ↦
            let start : turns test step a ((y ++ z) ++ rest) ≡ turns test step b (z ++ rest) = once ∙ ap (λ r. next (turns test step) r) first in
            elim (turns_again b z rest c j h) [
              | inl others ↦ inl (start ∙ others)
              | inr others ↦ inr (others.0, others.1, start ∙ others.2, others.3)
            ]
        | inr first ↦ inr (first.0, first.1, once ∙ ap (λ r. next (turns test step) r) first.2, first.3)
      ]

  turns_same : (a : A) (u v y z : List Token) (t : Token) (r : Result A Obstacle) → turns test step a (u ++ t ∷ y) ≡ (r, v ++ t ∷ y) → turns test step a (u ++ t ∷ z) ≡ (r, v ++ t ∷ z)
  turns_same a u v y z t r e =
      let n = length (u ++ t ∷ y) in
      let m = length (u ++ t ∷ z) in
      let one = below_same test step strict (suc (n + m)) (suc n) a (u ++ t ∷ y) (omega arith) (omega arith) ∙ sym (turns_are test step a (u ++ t ∷ y)) ∙ e in
      turns_are test step a (u ++ t ∷ z) ∙ below_same test step strict (suc m) (suc (n + m)) a (u ++ t ∷ z) (omega arith) (omega arith) ∙ (below_rule (suc (n + m)) a).same u v y z t r one

  pub turns_rule : (a : A) → IsRule E U (turns test step a) (IsTurns IsStep a) T
  turns_rule a = record {
    takes = λ ts rest b e. (below_rule (suc (length ts)) a).takes ts rest b (sym (turns_are test step a ts) ∙ e);
    leaves = λ ts rest why e. (below_rule (suc (length ts)) a).leaves ts rest why (sym (turns_are test step a ts) ∙ e);
    viable = λ u ts rest why e. (below_rule (suc (length ts)) a).viable u ts rest why (sym (turns_are test step a ts) ∙ e);
    again = turns_again a;
    same = turns_same a;
    some = λ u. ([], a, no_words, Over a);
    stays = λ ts h. ap (λ r. has_end r.1) (turns_are test step a ts) ∙ (below_rule (suc (length ts)) a).stays ts h;
  }

-- items one after another, the first of them at this index
pub data IsEach {A : Type 0} (IsItem : ℕ → List Token → A → Type 0) : ℕ → List Token → List A → Type 0 where
  Nothing : (n : ℕ) → IsEach IsItem n [] []
  Each : (n : ℕ) (a : A) (items : List A) (y z : List Token) → IsItem n y a → IsEach IsItem (suc n) z items → IsEach IsItem n (y ++ z) (a ∷ items)

-- the earlier items, then those that are read
abbrev pub IsMoreOf : {A : Type 0} → (ℕ → List Token → A → Type 0) → List A → List Token → List A → Type 0
IsMoreOf {A} IsItem had prefix all = (items : List A) × (all ≡ had ++ items) × IsEach IsItem (length had) prefix items

put_is : {A : Type 0} (IsItem : ℕ → List Token → A → Type 0) (had : List A) (y : List Token) (b : List A) → IsSeq (IsItem (length had)) (λ a. IsRet (had ++ a ∷ [])) y b → (a : A) × (b ≡ had ++ a ∷ []) × IsItem (length had) y a
put_is IsItem had y b (Seq y1 z a _ i r) =
    let k = ret_is r in
    (a, k.1, subst (λ m. IsItem (length had) m a) (sym (ap (λ m. y1 ++ m) k.0 ∙ append-nil y1)) i)

module _ {A : Type 0} (IsItem : ℕ → List Token → A → Type 0) where
  pub to_each : (had : List A) (prefix : List Token) (all : List A) → IsTurns (λ all. IsSeq (IsItem (length all)) (λ a. IsRet (all ++ a ∷ []))) had prefix all → IsMoreOf IsItem had prefix all
  to_each had prefix all (Over _) = ([], sym (append-nil had), Nothing (length had))
  to_each had prefix all (Turn _ b _ y z i j) =
      let k = put_is IsItem had y b i in
      let r = to_each b z all j in
      let long : length b ≡ suc (length had) = ap length k.1 ∙ omega (arith, length_push had k.0) in
      (k.0 ∷ r.0, r.1 ∙ ap (λ m. m ++ r.0) k.1 ∙ append_assoc had (k.0 ∷ []) r.0, Each (length had) k.0 r.0 y z k.2 (subst (λ m. IsEach IsItem m z r.0) long r.2))

  from_each : (had : List A) (n : ℕ) → n ≡ length had → (prefix : List Token) (items : List A) → IsEach IsItem n prefix items → IsTurns (λ all. IsSeq (IsItem (length all)) (λ a. IsRet (all ++ a ∷ []))) had prefix (had ++ items)
  from_each had n p prefix all (Nothing _) = subst (λ m. IsTurns (λ all. IsSeq (IsItem (length all)) (λ a. IsRet (all ++ a ∷ []))) had [] m) (sym (append-nil had)) (Over had)
  from_each had n p prefix all (Each _ a items y z i j) =
      let long : suc n ≡ length (had ++ a ∷ []) = omega (arith, p, length_push had a) in
      let k = from_each (had ++ a ∷ []) (suc n) long z items j in
      Turn had (had ++ a ∷ []) (had ++ a ∷ items) y z (subst (λ m. IsSeq (IsItem (length had)) (λ a. IsRet (had ++ a ∷ [])) m (had ++ a ∷ [])) (append-nil y) (Seq y [] a (had ++ a ∷ []) (subst (λ m. IsItem m y a) p i) Ret)) (subst (λ m. IsTurns (λ all. IsSeq (IsItem (length all)) (λ a. IsRet (all ++ a ∷ []))) (had ++ a ∷ []) z m) (append_assoc had (a ∷ []) items) k)

ret_leads : {A B : Type 0} {S T : Token → Bool} (f : A → B) → ((t : Token) → T t ≡ true → S t ≡ true) → Leads S (λ a. IsRet (f a)) T
ret_leads {S = S} {T = T} f fewer a z rest b Ret h = head_lift T S fewer rest h

pub each_rule : {E : Obstacle → Type 0} {U : Type 0} {A : Type 0} {item : ℕ → Rule A} {IsItem : ℕ → List Token → A → Type 0} {S T : Token → Bool} (test g : Token → Bool) → ((n : ℕ) → IsRule E U (item n) (IsItem n) S) → ((n : ℕ) → Starts g (IsItem n)) → ((t : Token) → g t ≡ true → test t ≡ true) → ((t : Token) → g t ≡ true → S t ≡ true) → ((t : Token) → T t ≡ true → S t ≡ true) → ((t : Token) → T t ≡ true → test t ≡ false) → (had : List A) → IsRule E U (each test item had) (IsMoreOf IsItem had) T
each_rule {A = A} {IsItem = IsItem} {S = S} test g items starts tested passes ends leaves had =
    let steps = λ (all : List A). seq_rule (items (length all)) (λ a. ret_rule (all ++ a ∷ [])) (ret_leads {S = S} {T = S} (λ a. all ++ a ∷ []) (λ t h. h)) in
    renamed (turns_rule test g steps (λ all. seq_starts g (starts (length all))) tested passes ends leaves had) (to_each IsItem had) (λ prefix all i. subst (λ m. IsTurns (λ all. IsSeq (IsItem (length all)) (λ a. IsRet (all ++ a ∷ []))) had prefix m) (sym i.1) (from_each IsItem had (length had) refl prefix i.0 i.2))

turns_end_at : {A : Type 0} (q : A → Rule A) (test : Token → Bool) → ((a : A) (ts rest : List Token) (c : A) → q a ts ≡ (Ok c, rest) → head_is test rest ≡ false) → (r : Read A) (rest : List Token) (c : A) → next q r ≡ (Ok c, rest) → head_is test rest ≡ false
turns_end_at q test go (Ok b, mid) rest c e = go b mid rest c e
turns_end_at q test go (Err w, mid) rest c e = absurd (no_ok e)

turns_end_by : {A : Type 0} (n : ℕ) (test : Token → Bool) (step : A → Rule A) → ((a : A) (ts rest : List Token) (c : A) → turns_below n test step a ts ≡ (Ok c, rest) → head_is test rest ≡ false) → (a : A) (ts rest : List Token) (c : A) (b : Bool) → head_is test ts ≡ b → either_by b (seq (step a) (turns_below n test step)) (ret a) ts ≡ (Ok c, rest) → head_is test rest ≡ false
turns_end_by n test step go a ts rest c false h e = ap (head_is test) (sym (ok_is e).1) ∙ h
turns_end_by n test step go a ts rest c true h e = turns_end_at (turns_below n test step) test go (step a ts) rest c e

below_end : {A : Type 0} (n : ℕ) (test : Token → Bool) (step : A → Rule A) (a : A) (ts rest : List Token) (c : A) → turns_below n test step a ts ≡ (Ok c, rest) → head_is test rest ≡ false
below_end zero test step a ts rest c e = absurd (no_ok e)
below_end (suc n) test step a ts rest c e = turns_end_by n test step (below_end n test step) a ts rest c (head_is test ts) refl e

-- when a step is no longer repeated, the next token fails the test
pub turns_end : {A : Type 0} (test : Token → Bool) (step : A → Rule A) (a : A) (ts rest : List Token) (c : A) → turns test step a ts ≡ (Ok c, rest) → head_is test rest ≡ false
turns_end test step a ts rest c e = below_end (suc (length ts)) test step a ts rest c (sym (turns_are test step a ts) ∙ e)
