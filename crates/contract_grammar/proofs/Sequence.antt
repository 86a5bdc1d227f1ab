-- The laws of one reader after another, and of a choice between two.
use Rattle.std.proofs.Common.{◌≡◌, Bool, true, List, ◌∷◌, ◌++◌, Result, Ok, Err, inl, inr, refl, sym, ap, ◌∙◌, subst, append_assoc, false, []}
use Rattle.contract_tokens.specs.declared.token.Token.{Token}
use Rattle.contract_grammar.specs.declared.Obstacle.{Obstacle}
use Rattle.contract_grammar.specs.Rules.{Read, Rule, head_is, next, seq, is_limit}
use Rattle.contract_grammar.proofs.Laws.{has_end, Agrees, GoesOn, IsRule, no_ok, as_err, GoesBy, Takes, Begins}
use Rattle.contract_grammar.proofs.Writable.{all_words}
use Rattle.contract_grammar.specs.Faults.{AreWritable}

-- one after another
pub data IsSeq {A B : Type 0} (P : List Token → A → Type 0) (Q : A → List Token → B → Type 0) : List Token → B → Type 0 where
  Seq : (y z : List Token) (a : A) (b : B) → P y a → Q a z b → IsSeq P Q (y ++ z) b

-- the first reader ends where the second begins or, if that takes nothing, before what follows
abbrev pub Leads : {A B : Type 0} → (Token → Bool) → (A → List Token → B → Type 0) → (Token → Bool) → Type 0
Leads {A} {B} S Q T = (a : A) (z rest : List Token) (b : B) → Q a z b → head_is T rest ≡ true → head_is S (z ++ rest) ≡ true

-- what a reader that succeeded has taken
pub left_is : {E : Obstacle → Type 0} {U : Type 0} {A : Type 0} {p : Rule A} {P : List Token → A → Type 0} {S : Token → Bool} → IsRule E U p P S → (ts rest : List Token) (r : Result A Obstacle) → p ts ≡ (r, rest) → (used : List Token) × (ts ≡ used ++ rest)
left_is p ts rest (Ok a) e = let k = p.takes ts rest a e in (k.0, k.1)
left_is p ts rest (Err why) e = p.leaves ts rest why e

goes_by : (b : Bool) (why : Obstacle) (rest more then : List Token) → GoesBy b why rest more → AreWritable then → GoesBy b why rest (more ++ then)
goes_by true why rest more then k h = (k.0, k.1, k.2 ++ then, k.3, ap (λ m. m ++ then) k.4, all_words k.2 then k.5 h, k.6)
goes_by false why rest more then k h = all_words more then k h

goes_more : (why : Obstacle) (rest more then : List Token) → GoesOn why rest more → AreWritable then → GoesOn why rest (more ++ then)
goes_more why rest more then k h = goes_by (is_limit why) why rest more then k h

module _ {A B : Type 0} {p : Rule A} {q : A → Rule B} {P : List Token → A → Type 0} {Q : A → List Token → B → Type 0} where
  seq_takes_by : Takes p P → ((a : A) → Takes (q a) (Q a)) → (ts rest : List Token) (b : B) (r : Read A) → p ts ≡ r → next q r ≡ (Ok b, rest) → (prefix : List Token) × (ts ≡ prefix ++ rest) × IsSeq P Q prefix b
  seq_takes_by hp hq ts rest b (Ok a, mid) e h =
      let f = hp ts mid a e in
      let g = hq a mid rest b h in
      (f.0 ++ g.0, f.1 ∙ ap (λ m. f.0 ++ m) g.1 ∙ sym (append_assoc f.0 g.0 rest), Seq f.0 g.0 a b f.2 g.2)
  seq_takes_by hp hq ts rest b (Err w, mid) e h = absurd (no_ok h)

  pub seq_takes : Takes p P → ((a : A) → Takes (q a) (Q a)) → Takes (seq p q) (IsSeq P Q)
  seq_takes hp hq ts rest b e = seq_takes_by hp hq ts rest b (p ts) refl e

-- something of the second, after what begins something of the first
pub seq_begins : {A B : Type 0} (P : List Token → A → Type 0) (Q : A → List Token → B → Type 0) → ((a : A) → Begins (Q a) []) → (used : List Token) → Begins P used → Begins (IsSeq P Q) used
seq_begins P Q some used f =
    let g = some f.1 in
    (f.0 ++ g.0, g.1, all_words f.0 g.0 f.2 g.2, subst (λ m. IsSeq P Q m g.1) (append_assoc used f.0 g.0) (Seq (used ++ f.0) g.0 f.1 g.1 f.3 g.3))

module _ {E : Obstacle → Type 0} {U : Type 0} {A B : Type 0} {p : Rule A} {q : A → Rule B} {P : List Token → A → Type 0} {Q : A → List Token → B → Type 0} {S T : Token → Bool} (hp : IsRule E U p P S) (hq : (a : A) → IsRule E U (q a) (Q a) T) where
  seq_leaves : (ts rest : List Token) (why : Obstacle) (r : Read A) → p ts ≡ r → next q r ≡ (Err why, rest) → (used : List Token) × (ts ≡ used ++ rest)
  seq_leaves ts rest why (Ok a, mid) e h =
      let f = hp.takes ts mid a e in
      let g = (hq a).leaves mid rest why h in
      (f.0 ++ g.0, f.1 ∙ ap (λ m. f.0 ++ m) g.1 ∙ sym (append_assoc f.0 g.0 rest))
  seq_leaves ts rest why (Err w, mid) e h = hp.leaves ts rest why (as_err e h)

  seq_viable : U → (ts rest : List Token) (why : Obstacle) (r : Read A) → p ts ≡ r → next q r ≡ (Err why, rest) → (used : List Token) × (more : List Token) × (b : B) × (ts ≡ used ++ rest) × IsSeq P Q (used ++ more) b × GoesOn why rest more
  seq_viable u ts rest why (Ok a, mid) e h =
      let f = hp.takes ts mid a e in
      let g = (hq a).viable u mid rest why h in
      (f.0 ++ g.0, g.1, g.2, f.1 ∙ ap (λ m. f.0 ++ m) g.3 ∙ sym (append_assoc f.0 g.0 rest), subst (λ m. IsSeq P Q m g.2) (sym (append_assoc f.0 g.0 g.1)) (Seq f.0 (g.0 ++ g.1) a g.2 f.2 g.4), g.5)
  seq_viable u ts rest why (Err w, mid) e h =
      let f = hp.viable u ts rest why (as_err e h) in
      let g = (hq f.2).some u in
      (f.0, f.1 ++ g.0, g.1, f.3, subst (λ m. IsSeq P Q m g.1) (append_assoc f.0 f.1 g.0) (Seq (f.0 ++ f.1) g.0 f.2 g.1 f.4 g.3), goes_more why rest f.1 g.0 f.5 g.2)

  seq_same : (u v y z : List Token) (t : Token) (r : Result B Obstacle) (m : Read A) → p (u ++ t ∷ y) ≡ m → next q m ≡ (r, v ++ t ∷ y) → next q (p (u ++ t ∷ z)) ≡ (r, v ++ t ∷ z)
  seq_same u v y z t r (Ok a, mid) e h =
      let g = left_is (hq a) mid (v ++ t ∷ y) r h in
      let mid_is : mid ≡ (g.0 ++ v) ++ t ∷ y = g.1 ∙ sym (append_assoc g.0 v (t ∷ y)) in
      let first : p (u ++ t ∷ z) ≡ (Ok a, (g.0 ++ v) ++ t ∷ z) = hp.same u (g.0 ++ v) y z t (Ok a) (e ∙ ap (λ m. (Ok a, m)) mid_is) in
      let second : q a ((g.0 ++ v) ++ t ∷ z) ≡ (r, v ++ t ∷ z) = (hq a).same (g.0 ++ v) v y z t r (ap (λ m. q a m) (sym mid_is) ∙ h) in
      ap (λ m. next q m) first ∙ second
  seq_same u v y z t r (Err w, mid) e h =
      let mid_is : mid ≡ v ++ t ∷ y = ap (λ m. m.1) h in
      let r_is : Err w ≡ r = ap (λ m. m.0) h in
      let first : p (u ++ t ∷ z) ≡ (Err w, v ++ t ∷ z) = hp.same u v y z t (Err w) (e ∙ ap (λ m. (Err w, m)) mid_is) in
      ap (λ m. next q m) first ∙ ap (λ m. (m, v ++ t ∷ z)) r_is

  seq_again : Leads S Q T → (prefix rest : List Token) (b : B) → IsSeq P Q prefix b → head_is T rest ≡ true → Agrees E b rest (next q (p (prefix ++ rest)))
  seq_again leads prefix rest b (Seq y z a _ py qz) h =
      let path : p ((y ++ z) ++ rest) ≡ p (y ++ (z ++ rest)) = ap p (append_assoc y z rest) in
      elim (hp.again y (z ++ rest) a py (leads a z rest b qz h)) [
        | inl first ↦
            let start : next q (p ((y ++ z) ++ rest)) ≡ q a (z ++ rest) = ap (λ m. next q m) (path ∙ first) in
            elim ((hq a).again z rest b qz h) [
              | inl second ↦ inl (start ∙ second)
              | inr second ↦ inr (second.0, second.1, start ∙ second.2, second.3)
            ]
        | inr first ↦ inr (first.0, first.1, ap (λ m. next q m) (path ∙ first.2), first.3)
      ]

  seq_stays : (ts : List Token) → has_end ts ≡ true → (r : Read A) → p ts ≡ r → has_end (next q r).1 ≡ true
  seq_stays ts h (Ok a, mid) e = (hq a).stays mid (ap (λ m. has_end m.1) (sym e) ∙ hp.stays ts h)
  seq_stays ts h (Err w, mid) e = ap (λ m. has_end m.1) (sym e) ∙ hp.stays ts h

  pub seq_rule : Leads S Q T → IsRule E U (seq p q) (IsSeq P Q) T
  seq_rule leads = record {
    takes = seq_takes hp.takes (λ a. (hq a).takes);
    leaves = λ ts rest why e. seq_leaves ts rest why (p ts) refl e;
    viable = λ u ts rest why e. seq_viable u ts rest why (p ts) refl e;
    again = seq_again leads;
    same = λ u v y z t r e. seq_same u v y z t r (p (u ++ t ∷ y)) refl e;
    some = λ u. seq_begins P Q (λ a. (hq a).some u) [] (hp.some u);
    stays = λ ts h. seq_stays ts h (p ts) refl;
  }
