-- What holds of a reader and what it reads, for each way to combine readers.
use Rattle.std.proofs.Common.{◌≡◌, ◌||◌, Bool, true, false, List, [], ◌∷◌, ◌++◌, length, Option, Some, None, Result, Ok, Err, ◌⊎◌, inl, inr, refl, sym, ap, ◌∙◌, subst, arith, length-append}
use Rattle.std.proofs.lemmas.List.{append_cancel_right}
use Rattle.contract_tokens.specs.declared.token.Token.{Token}
use Rattle.contract_grammar.specs.declared.Obstacle.{Obstacle}
use Rattle.contract_grammar.specs.declared.Obstacle.TheVariants.{Unfit}
use Rattle.contract_grammar.specs.Marks.{is_end}
use Rattle.contract_grammar.specs.Rules.{Read, Rule, head_is, ret, guard, one_by, one, is_limit, IsLimitAt}
use Rattle.contract_grammar.proofs.Writable.{no_words, one_word}
use Rattle.contract_grammar.specs.Faults.{AreWritable, IsWritable}

-- what a reader may return for what the grammar has: that, or an obstacle that is excused
abbrev pub Agrees : (Obstacle → Type 0) → {A : Type 0} → A → List Token → Read A → Type 0
Agrees E a rest r = (r ≡ (Ok a, rest)) ⊎ ((why : Obstacle) × (left : List Token) × (r ≡ (Err why, left)) × E why)

abbrev pub GoesBy : Bool → Obstacle → List Token → List Token → Type 0
GoesBy true why rest more =
    (t : Token) × (y : List Token) × (m : List Token) × (rest ≡ t ∷ y) × (more ≡ t ∷ m) × AreWritable m × IsLimitAt why t
GoesBy false why rest more = AreWritable more

-- what follows can be written; if a limit was met, it begins with the token that was refused
abbrev pub GoesOn : Obstacle → List Token → List Token → Type 0
GoesOn why rest more = GoesBy (is_limit why) why rest more

-- the end of the source is still to come
abbrev pub has_end : List Token → Bool
has_end [] = false
has_end (t ∷ ts) = is_end t || has_end ts

-- what a reader reads is what the grammar has
abbrev pub Takes : {A : Type 0} → Rule A → (List Token → A → Type 0) → Type 0
Takes {A} read Is = (ts rest : List Token) (a : A) → read ts ≡ (Ok a, rest) → (prefix : List Token) × (ts ≡ prefix ++ rest) × Is prefix a

-- something that the grammar has begins with the tokens, and continues with tokens that can be
-- written
abbrev pub Begins : {A : Type 0} → (List Token → A → Type 0) → List Token → Type 0
Begins {A} Is used = (more : List Token) × (a : A) × AreWritable more × Is (used ++ more) a

-- A reader and what the grammar has there. E: the obstacles that are excused; U: nothing is
-- limited.
pub record IsRule (E : Obstacle → Type 0) (U : Type 0) {A : Type 0} (read : Rule A) (Is : List Token → A → Type 0) (Stops : Token → Bool) : Type 0 where
  -- what is read is what the grammar has
  pub takes : Takes read Is
  -- a reader that stops has taken the tokens before its next one
  pub leaves : (ts rest : List Token) (why : Obstacle) → read ts ≡ (Err why, rest) → (used : List Token) × (ts ≡ used ++ rest)
  -- what it took can be completed, also with the next token if only a limit refused that
  pub viable : U → (ts rest : List Token) (why : Obstacle) → read ts ≡ (Err why, rest) → (used : List Token) × (more : List Token) × (a : A) × (ts ≡ used ++ rest) × Is (used ++ more) a × GoesOn why rest more
  -- what the grammar has is read, whatever follows, if the next token ends it
  pub again : (prefix rest : List Token) (a : A) → Is prefix a → head_is Stops rest ≡ true → Agrees E a rest (read (prefix ++ rest))
  -- what follows the next token does not matter
  pub same : (u v y z : List Token) (t : Token) (r : Result A Obstacle) → read (u ++ t ∷ y) ≡ (r, v ++ t ∷ y) → read (u ++ t ∷ z) ≡ (r, v ++ t ∷ z)
  -- the grammar has something there
  pub some : U → Begins Is []
  -- the end of the source is not taken
  pub stays : (ts : List Token) → has_end ts ≡ true → has_end (read ts).1 ≡ true

-- the parts of equal results
pub ok_is : {A : Type 0} {a b : A} {m n : List Token} → ◌≡◌ {A = Read A} (Ok a, m) (Ok b, n) → (a ≡ b) × (m ≡ n)
ok_is {A} {a} {b} e = let h : ◌≡◌ {A = Result A Obstacle} (Ok a) (Ok b) = ap (λ r. r.0) e in (cc, ap (λ r. r.1) e)

pub err_is : {A : Type 0} {v w : Obstacle} {m n : List Token} → ◌≡◌ {A = Read A} (Err v, m) (Err w, n) → (v ≡ w) × (m ≡ n)
err_is {A} {v} {w} e = let h : ◌≡◌ {A = Result A Obstacle} (Err v) (Err w) = ap (λ r. r.0) e in (cc, ap (λ r. r.1) e)

pub no_ok : {A : Type 0} {b : A} {v : Obstacle} {m n : List Token} → ◌≡◌ {A = Read A} (Err v, m) (Ok b, n) → ⊥
no_ok {A} {b} {v} e = let h : ◌≡◌ {A = Result A Obstacle} (Err v) (Ok b) = ap (λ r. r.0) e in cc

pub no_err : {A : Type 0} {b : A} {v : Obstacle} {m n : List Token} → ◌≡◌ {A = Read A} (Ok b, m) (Err v, n) → ⊥
no_err {A} {b} {v} e = let h : ◌≡◌ {A = Result A Obstacle} (Ok b) (Err v) = ap (λ r. r.0) e in cc

pub err_made : {A : Type 0} {v w : Obstacle} {m n : List Token} → v ≡ w → m ≡ n → ◌≡◌ {A = Read A} (Err v, m) (Err w, n)
err_made e h = cc

-- the result of a reader that failed, as one of another type
pub as_err : {A B : Type 0} {r : Read A} {v w : Obstacle} {m n : List Token} → r ≡ (Err v, m) → ◌≡◌ {A = Read B} (Err v, m) (Err w, n) → r ≡ (Err w, n)
as_err e h = let k = err_is h in e ∙ err_made k.0 k.1

-- a result that takes nothing is the same whatever follows
pub here_same : {A : Type 0} (q r : Result A Obstacle) (u v y z : List Token) (t : Token) → ◌≡◌ {A = Read A} (q, u ++ t ∷ y) (r, v ++ t ∷ y) → ◌≡◌ {A = Read A} (q, u ++ t ∷ z) (r, v ++ t ∷ z)
here_same q r u v y z t e =
    let k : q ≡ r = ap (λ p. p.0) e in
    let h : u ++ t ∷ y ≡ v ++ t ∷ y = ap (λ p. p.1) e in
    let g : u ≡ v = append_cancel_right u v (t ∷ y) h in
    cc

-- nothing is taken, and this is the value
pub data IsRet {A : Type 0} (a : A) : List Token → A → Type 0 where
  Ret : IsRet a [] a

pub ret_is : {A : Type 0} {a : A} {prefix : List Token} {b : A} → IsRet a prefix b → (prefix ≡ []) × (b ≡ a)
ret_is Ret = (refl, refl)

ret_again : {E : Obstacle → Type 0} {A : Type 0} (a : A) (prefix rest : List Token) (b : A) → IsRet a prefix b → Agrees E b rest (ret a (prefix ++ rest))
ret_again a prefix rest b Ret = inl refl

pub ret_takes : {A : Type 0} (a : A) → Takes (ret a) (IsRet a)
ret_takes a ts rest b e = let k = ok_is e in ([], k.1, subst (λ c. IsRet a [] c) k.0 Ret)

pub ret_rule : {E : Obstacle → Type 0} {U : Type 0} {A : Type 0} (a : A) {S : Token → Bool} → IsRule E U (ret a) (IsRet a) S
ret_rule a = record {
  takes = ret_takes a;
  leaves = λ ts rest why e. absurd (no_err e);
  viable = λ u ts rest why e. absurd (no_err e);
  again = λ prefix rest b i h. ret_again a prefix rest b i;
  same = λ u v y z t r e. here_same (Ok a) r u v y z t e;
  some = λ u. ([], a, no_words, Ret);
  stays = λ ts h. h;
}

-- nothing is taken, and this is the value, if it may be
pub data IsGuarded {A : Type 0} (L : Type 0) (a : A) : List Token → A → Type 0 where
  Guarded : L → IsGuarded L a [] a

pub no_false : {b : Bool} → b ≡ false → b ≡ true → ⊥
no_false e h = cc

-- if no limit was met, what follows can be written
pub soft_goes : (why : Obstacle) (rest more : List Token) → is_limit why ≡ false → AreWritable more → GoesOn why rest more
soft_goes why rest more e h = subst (λ b. GoesBy b why rest more) (sym e) h

pub guarded_is : {A : Type 0} {L : Type 0} {a : A} {prefix : List Token} {b : A} → IsGuarded L a prefix b → (prefix ≡ []) × (b ≡ a) × L
guarded_is (Guarded h) = (refl, refl, h)

guard_again : {E : Obstacle → Type 0} {A : Type 0} (L : Type 0) (a : A) (prefix rest : List Token) (b : A) → IsGuarded L a prefix b → Agrees E b rest (ret a (prefix ++ rest))
guard_again L a prefix rest b (Guarded _) = inl refl

guard_may : {A : Type 0} (L : Type 0) (a : A) (prefix : List Token) (b : A) → IsGuarded L a prefix b → L
guard_may L a prefix b (Guarded may) = may

pub guard_rule : {E : Obstacle → Type 0} {U : Type 0} {A : Type 0} {S : Token → Bool} (L : Type 0) (may : Bool) (why : Obstacle) (a : A) → (may ≡ true → L) → (L → (may ≡ true) ⊎ E why) → (U → L) → is_limit why ≡ false → IsRule E U (guard may why a) (IsGuarded L a) S
guard_rule L true why a kept fair free soft = record {
  takes = λ ts rest b e. let k = ok_is e in ([], k.1, subst (λ c. IsGuarded L a [] c) k.0 (Guarded (kept refl)));
  leaves = λ ts rest w e. absurd (no_err e);
  viable = λ u ts rest w e. absurd (no_err e);
  again = λ prefix rest b i h. guard_again L a prefix rest b i;
  same = λ u v y z t r e. here_same (Ok a) r u v y z t e;
  some = λ u. ([], a, no_words, Guarded (free u));
  stays = λ ts h. h;
}
guard_rule L false why a kept fair free soft = record {
  takes = λ ts rest b e. absurd (no_ok e);
  leaves = λ ts rest w e. ([], (err_is e).1);
  viable = λ u ts rest w e. let k = err_is e in ([], [], a, k.1, Guarded (free u), soft_goes w rest [] (ap is_limit (sym k.0) ∙ soft) no_words);
  again = λ prefix rest b i h. elim (fair (guard_may L a prefix b i)) [ inl e ↦ absurd (no_false refl e) | inr x ↦ inr (why, prefix ++ rest, refl, x) ];
  same = λ u v y z t r e. here_same (Err why) r u v y z t e;
  some = λ u. ([], a, no_words, Guarded (free u));
  stays = λ ts h. h;
}

-- one token, of which the function makes this
pub data IsOne {A : Type 0} (f : Token → Option A) : List Token → A → Type 0 where
  One : (t : Token) (a : A) → f t ≡ Some a → IsOne f (t ∷ []) a

one_takes : {A : Type 0} (f : Token → Option A) (o : Option A) (t : Token) (ts rest : List Token) (a : A) → f t ≡ o → one_by o t ts ≡ (Ok a, rest) → (prefix : List Token) × (t ∷ ts ≡ prefix ++ rest) × IsOne f prefix a
one_takes f None t ts rest a h e = absurd (no_ok e)
one_takes f (Some b) t ts rest a h e = let k = ok_is e in (t ∷ [], ap (λ r. t ∷ r) k.1, One t a (h ∙ ap (λ x. Some x) k.0))

one_leaves : {A : Type 0} (o : Option A) (t : Token) (ts rest : List Token) (why : Obstacle) → one_by o t ts ≡ (Err why, rest) → (why ≡ Unfit) × (t ∷ ts ≡ rest)
one_leaves None t ts rest why e = let k = err_is e in (sym k.0, k.1)
one_leaves (Some b) t ts rest why e = absurd (no_err e)

pub one_stops : {A : Type 0} (f : Token → Option A) (ts rest : List Token) (why : Obstacle) → one f ts ≡ (Err why, rest) → (why ≡ Unfit) × (ts ≡ rest)
one_stops f [] rest why e = let k = err_is e in (sym k.0, k.1)
one_stops f (t ∷ ts) rest why e = one_leaves (f t) t ts rest why e

one_same : {A : Type 0} (o : Option A) (r : Result A Obstacle) (s : Token) (u v y z : List Token) (t : Token) → one_by o s (u ++ t ∷ y) ≡ (r, v ++ t ∷ y) → one_by o s (u ++ t ∷ z) ≡ (r, v ++ t ∷ z)
one_same None r s u v y z t e = here_same (Err Unfit) r (s ∷ u) v y z t e
one_same (Some a) r s u v y z t e = here_same (Ok a) r u v y z t e

-- a list is not as long as itself with a token before it
pub no_longer : (v y : List Token) (t : Token) → y ≡ v ++ t ∷ y → ⊥
no_longer v y t e = omega (arith, ap length e, length-append v (t ∷ y))

one_first : {A : Type 0} (o : Option A) (r : Result A Obstacle) (v y z : List Token) (t : Token) → one_by o t y ≡ (r, v ++ t ∷ y) → one_by o t z ≡ (r, v ++ t ∷ z)
one_first None r v y z t e = here_same (Err Unfit) r [] v y z t e
one_first (Some a) r v y z t e = absurd (no_longer v y t (ap (λ p. p.1) e))

one_same_all : {A : Type 0} (f : Token → Option A) (u v y z : List Token) (t : Token) (r : Result A Obstacle) → one f (u ++ t ∷ y) ≡ (r, v ++ t ∷ y) → one f (u ++ t ∷ z) ≡ (r, v ++ t ∷ z)
one_same_all f [] v y z t r e = one_first (f t) r v y z t e
one_same_all f (s ∷ u) v y z t r e = one_same (f s) r s u v y z t e

pub one_takes_all : {A : Type 0} (f : Token → Option A) (ts rest : List Token) (a : A) → one f ts ≡ (Ok a, rest) → (prefix : List Token) × (ts ≡ prefix ++ rest) × IsOne f prefix a
one_takes_all f [] rest a e = absurd (no_ok e)
one_takes_all f (t ∷ ts) rest a e = one_takes f (f t) t ts rest a refl e

one_again : {A : Type 0} (f : Token → Option A) (prefix rest : List Token) (a : A) → IsOne f prefix a → one f (prefix ++ rest) ≡ (Ok a, rest)
one_again f prefix rest a (One t _ e) = ap (λ o. one_by o t rest) e

pub unfit_soft : {why : Obstacle} → why ≡ Unfit → is_limit why ≡ false
unfit_soft e = ap is_limit e

one_stays_by : {A : Type 0} (f : Token → Option A) → ((t : Token) (a : A) → f t ≡ Some a → is_end t ≡ false) → (o : Option A) (t : Token) (ts : List Token) → f t ≡ o → has_end (t ∷ ts) ≡ true → has_end (one_by o t ts).1 ≡ true
one_stays_by f plain None t ts e h = h
one_stays_by f plain (Some a) t ts e h = let k : is_end t ≡ false = plain t a e in ap (λ b. b || has_end ts) (sym k) ∙ h

one_stays : {A : Type 0} (f : Token → Option A) → ((t : Token) (a : A) → f t ≡ Some a → is_end t ≡ false) → (ts : List Token) → has_end ts ≡ true → has_end (one f ts).1 ≡ true
one_stays f plain [] h = h
one_stays f plain (t ∷ ts) h = one_stays_by f plain (f t) t ts refl h

pub one_rule : {E : Obstacle → Type 0} {U : Type 0} {A : Type 0} {S : Token → Bool} (f : Token → Option A) (sample : Token) (made : A) → f sample ≡ Some made → IsWritable sample.word → ((t : Token) (a : A) → f t ≡ Some a → is_end t ≡ false) → IsRule E U (one f) (IsOne f) S
one_rule f sample made is written plain = record {
  takes = one_takes_all f;
  leaves = λ ts rest why e. ([], (one_stops f ts rest why e).1);
  viable = λ u ts rest why e. let k = one_stops f ts rest why e in ([], sample ∷ [], made, k.1, One sample made is, soft_goes why rest (sample ∷ []) (unfit_soft k.0) (one_word sample written));
  again = λ prefix rest a i h. inl (one_again f prefix rest a i);
  same = one_same_all f;
  some = λ u. (sample ∷ [], made, one_word sample written, One sample made is);
  stays = one_stays f plain;
}
