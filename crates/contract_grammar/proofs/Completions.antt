-- What a stopped reader has taken can be completed within limits, for each way to combine readers.
use Rattle.std.proofs.Common.{◌≡◌, ℕ, zero, suc, Bool, true, false, List, [], ◌∷◌, ◌++◌, length, Option, Some, Result, Ok, Err, ◌⊎◌, inl, inr, refl, sym, ap, ◌∙◌, subst, append_assoc}
use Rattle.std.proofs.lemmas.List.{append-nil, append_cancel_right}
use Rattle.contract_tokens.specs.declared.token.Token.{Token}
use Rattle.contract_tokens.specs.declared.token.Mark.{Mark}
use Rattle.contract_tokens.specs.declared.token.Word.TheVariants as w
use Rattle.contract_grammar.specs.declared.Obstacle.{Obstacle}
use Rattle.contract_grammar.specs.Faults.{IsWritable, is_height}
use Rattle.contract_grammar.specs.Marks.{the}
use Rattle.contract_grammar.specs.Reading.{after_mark, before_mark}
use Rattle.contract_grammar.specs.Rules.{Read, Rule, head_is, ret, guard, one, refuse, next, seq, either_by, either, turns_below, turns, each}
use Rattle.contract_grammar.proofs.Laws.{IsRet, Ret, IsGuarded, Guarded, IsOne, One, ok_is, err_is, no_ok, no_err, as_err, no_false, one_takes_all, one_stops, Takes, Begins, ret_takes, IsRule}
use Rattle.contract_grammar.proofs.Sequence.{IsSeq, Seq, seq_takes, seq_begins}
use Rattle.contract_grammar.proofs.Choice.{IsEither, IsTurns, Over, Turn, turns_are, IsMoreOf, to_each, takes_as, begins_as, either_takes}
use Rattle.contract_grammar.proofs.Parts.{token, the_token}
use Rattle.contract_grammar.proofs.Writable.{no_words, one_word, mark_writable}
use Rattle.contract_grammar.proofs.Heights.{IsHigh, hole_as, no_height, one_high, ret_high, refused_high, seq_high, either_high}
use Rattle.contract_grammar.specs.declared.Obstacle.TheVariants.{Unfit}

-- whether the tokens end with one that passes
abbrev pub ends_in : (Token → Bool) → List Token → Bool
ends_in test [] = false
ends_in test (t ∷ []) = test t
ends_in test (t ∷ s ∷ ts) = ends_in test (s ∷ ts)

ends_more : (test : Token → Bool) (y ts : List Token) (t : Token) → ends_in test (y ++ t ∷ ts) ≡ true → ends_in test (t ∷ ts) ≡ true
ends_more test [] ts t e = e
ends_more test (s ∷ []) ts t e = e
ends_more test (s ∷ r ∷ y) ts t e = ends_more test (r ∷ y) ts t e

ends_after : (test : Token → Bool) (y z : List Token) → ends_in test (y ++ z) ≡ true → (ends_in test z ≡ true) ⊎ ((z ≡ []) × (ends_in test y ≡ true))
ends_after test y [] e = inr (refl, ap (ends_in test) (sym (append-nil y)) ∙ e)
ends_after test y (t ∷ z) e = inl (ends_more test y z t e)

-- a reader takes these tokens
abbrev pub Taken : {A : Type 0} → Rule A → List Token → Type 0
Taken {A} read used = (ts : List Token) × (rest : List Token) × (r : Result A Obstacle) × (read ts ≡ (r, rest)) × (ts ≡ used ++ rest)

-- A reader and what the grammar has there, within limits that are about the tokens that pass the
-- test. Free: there are no limits; Room: they allow something here.
pub record Completes (test : Token → Bool) (Free Room : Type 0) {A : Type 0} (read : Rule A) (Is : List Token → A → Type 0) : Type 0 where
  -- what is read is what the grammar has
  pub takes : Takes read Is
  -- if a reader stops after a token that passes, what it took can be completed
  pub stops : (ts rest : List Token) (why : Obstacle) → read ts ≡ (Err why, rest) → (used : List Token) × (ts ≡ used ++ rest) × (ends_in test used ≡ true → Begins Is used)
  -- the grammar has something there
  pub some : Room → Begins Is []
  -- if an expression is too high, it is the last tokens that were taken
  pub high : Free → IsHigh read Is

-- the limit allows something in any case
abbrev pub IsFull : (test : Token → Bool) (Free : Type 0) {A : Type 0} → Rule A → (List Token → A → Type 0) → Type 0
IsFull test Free read Is = Completes test Free (Unit {0}) read Is

module _ {test : Token → Bool} where
  stopped_here : {A : Type 0} (Is : List Token → A → Type 0) {ts rest : List Token} → ts ≡ rest → (used : List Token) × (ts ≡ used ++ rest) × (ends_in test used ≡ true → Begins Is used)
  stopped_here Is e = ([], e, λ i. absurd (no_false refl i))

  one_room : {More : Type 0} {A : Type 0} (f : Token → Option A) → ((t : Token) (a : A) → f t ≡ Some a → test t ≡ true → More) → (used : List Token) (a : A) → IsOne f used a → ends_in test used ≡ true → More
  one_room f room used a (One t _ e) ends = room t a e ends

  room_after_one : {More : Type 0} {A : Type 0} (f : Token → Option A) → ((t : Token) (a : A) → f t ≡ Some a → test t ≡ true → More) → (used : List Token) → Taken (one f) used → ends_in test used ≡ true → More
  room_after_one f room used (ts, rest, Ok a, e, path) ends =
      let k = one_takes_all f ts rest a e in
      let same : k.0 ≡ used = append_cancel_right k.0 used rest (sym k.1 ∙ path) in
      one_room f room used a (subst (λ m. IsOne f m a) same k.2) ends
  room_after_one f room used (ts, rest, Err why, e, path) ends =
      let k = one_stops f ts rest why e in
      let same : used ≡ [] = append_cancel_right used [] rest (sym path ∙ k.1) in
      absurd (no_false refl (sym (ap (ends_in test) same) ∙ ends))

module _ {test : Token → Bool} {Free : Type 0} where
  pub completes_as : {Room : Type 0} {A : Type 0} {read : Rule A} {P Q : List Token → A → Type 0} → Completes test Free Room read P → ((prefix : List Token) (a : A) → P prefix a → Q prefix a) → Completes test Free Room read Q
  completes_as {P = P} {Q = Q} h to = record {
    takes = takes_as to h.takes;
    stops = λ ts rest why e. let k = h.stops ts rest why e in (k.0, k.1, λ ends. begins_as P Q to k.0 (k.2 ends));
    some = λ room. begins_as P Q to [] (h.some room);
    high = λ free ts rest at e. hole_as to (h.high free ts rest at e);
  }

  pub with_room : {Room Less : Type 0} {A : Type 0} {read : Rule A} {Is : List Token → A → Type 0} → Completes test Free Room read Is → (Less → Begins Is []) → Completes test Free Less read Is
  with_room h some = record { takes = h.takes; stops = h.stops; some = some; high = h.high }

  pub full_completes : {Room : Type 0} {A : Type 0} {read : Rule A} {Is : List Token → A → Type 0} → IsFull test Free read Is → Completes test Free Room read Is
  full_completes h = with_room h (λ room. h.some tt)

  -- ---- readers that stop at the first token

  pub ret_completes : {A : Type 0} (a : A) → IsFull test Free (ret a) (IsRet a)
  ret_completes a = record {
    takes = ret_takes a;
    stops = λ ts rest why e. absurd (no_err e);
    some = λ room. ([], a, no_words, Ret);
    high = λ free. ret_high a (IsRet a);
  }

  pub guard_completes : {A : Type 0} {L : Type 0} → (Free → ⊥) → (b : Bool) (why : Obstacle) (a : A) → L → IsFull test Free (guard b why a) (IsGuarded L a)
  guard_completes {L = L} limited true why a may = record {
    takes = λ ts rest c e. let k = ok_is e in ([], k.1, subst (λ d. IsGuarded L a [] d) k.0 (Guarded may));
    stops = λ ts rest v e. absurd (no_err e);
    some = λ room. ([], a, no_words, Guarded may);
    high = λ free. absurd (limited free);
  }
  guard_completes {L = L} limited false why a may = record {
    takes = λ ts rest c e. absurd (no_ok e);
    stops = λ ts rest v e. stopped_here (IsGuarded L a) (err_is e).1;
    some = λ room. ([], a, no_words, Guarded may);
    high = λ free. absurd (limited free);
  }

  pub one_completes : {A : Type 0} (f : Token → Option A) (sample : Token) (made : A) → f sample ≡ Some made → IsWritable sample.word → IsFull test Free (one f) (IsOne f)
  one_completes f sample made is written = record {
    takes = one_takes_all f;
    stops = λ ts rest why e. stopped_here (IsOne f) (one_stops f ts rest why e).1;
    some = λ room. (sample ∷ [], made, one_word sample written, One sample made is);
    high = λ free. one_high f (IsOne f);
  }

  pub mark_completes : (mark : Mark) → IsFull test Free (one (the mark)) (IsOne (the mark))
  mark_completes mark = one_completes (the mark) (token (w.Mark mark)) 0 (the_token mark) (mark_writable mark)

  pub closed_completes : {Room : Type 0} {B : Type 0} {Is : List Token → B → Type 0} (why : Obstacle) (first : Token → Bool) → is_height why ≡ false → (Room → Begins Is []) → Completes test Free Room (refuse why first) Is
  closed_completes {Is = Is} why first soft some = record { takes = λ ts rest b e. absurd (no_ok e); stops = λ ts rest v e. stopped_here Is (err_is e).1; some = some; high = λ free. refused_high why first Is soft }

  -- ---- one after another

  module _ {Room More : Type 0} {A B : Type 0} {p : Rule A} {q : A → Rule B} {P : List Token → A → Type 0} {Q : A → List Token → B → Type 0} (hp : Completes test Free Room p P) (hq : (a : A) → Completes test Free More (q a) (Q a)) where
    seq_ends : ((used : List Token) → Taken p used → ends_in test used ≡ true → More) → (ts mid y z : List Token) (a : A) → p ts ≡ (Ok a, mid) → ts ≡ y ++ mid → P y a → (ends_in test z ≡ true → Begins (Q a) z) → ends_in test (y ++ z) ≡ true → Begins (IsSeq P Q) (y ++ z)
    seq_ends room ts mid y z a e path i goes ends =
        elim (ends_after test y z ends) [
          | inl k ↦ (let g = goes k in (g.0, g.1, g.2, subst (λ m. IsSeq P Q m g.1) (sym (append_assoc y z g.0)) (Seq y (z ++ g.0) a g.1 i g.3)))
          | inr k ↦
              let first : Begins P y = ([], a, no_words, subst (λ m. P m a) (sym (append-nil y)) i) in
              let all = seq_begins P Q (λ made. (hq made).some (room y (ts, mid, Ok a, e, path) k.1)) y first in
              let same : y ≡ y ++ z = sym (append-nil y) ∙ ap (λ m. y ++ m) (sym k.0) in
              subst (λ m. Begins (IsSeq P Q) m) same all
        ]

    seq_stops_by : ((used : List Token) → Taken p used → ends_in test used ≡ true → More) → (ts rest : List Token) (why : Obstacle) (r : Read A) → p ts ≡ r → next q r ≡ (Err why, rest) → (used : List Token) × (ts ≡ used ++ rest) × (ends_in test used ≡ true → Begins (IsSeq P Q) used)
    seq_stops_by room ts rest why (Ok a, mid) e h =
        let f = hp.takes ts mid a e in
        let g = (hq a).stops mid rest why h in
        (f.0 ++ g.0, f.1 ∙ ap (λ m. f.0 ++ m) g.1 ∙ sym (append_assoc f.0 g.0 rest), seq_ends room ts mid f.0 g.0 a e f.1 f.2 g.2)
    seq_stops_by room ts rest why (Err v, mid) e h =
        let k = as_err e h in
        let f = hp.stops ts rest why k in
        (f.0, f.1, λ ends. seq_begins P Q (λ a. (hq a).some (room f.0 (ts, rest, Err why, k, f.1) ends)) f.0 (f.2 ends))

    -- the second has something, at least if the first ends with a token that passes
    pub seq_completes : ((used : List Token) → Taken p used → ends_in test used ≡ true → More) → (Room → More) → (Free → More) → Completes test Free Room (seq p q) (IsSeq P Q)
    seq_completes room both more = record {
      takes = seq_takes hp.takes (λ a. (hq a).takes);
      stops = λ ts rest why e. seq_stops_by room ts rest why (p ts) refl e;
      some = λ r. seq_begins P Q (λ a. (hq a).some (both r)) [] (hp.some r);
      high = λ free. seq_high hp.takes (λ a. (hq a).some (more free)) (hp.high free) (λ a. (hq a).high free);
    }

  -- the second has something in any case
  pub seq_full : {Room : Type 0} {A B : Type 0} {p : Rule A} {q : A → Rule B} {P : List Token → A → Type 0} {Q : A → List Token → B → Type 0} → Completes test Free Room p P → ((a : A) → IsFull test Free (q a) (Q a)) → Completes test Free Room (seq p q) (IsSeq P Q)
  seq_full hp hq = seq_completes hp hq (λ used taken ends. tt) (λ room. tt) (λ free. tt)

  -- after a token that passes, the second has something
  pub one_then_completes : {More : Type 0} {A B : Type 0} {q : A → Rule B} {Q : A → List Token → B → Type 0} (f : Token → Option A) (sample : Token) (made : A) → f sample ≡ Some made → IsWritable sample.word → ((a : A) → Completes test Free More (q a) (Q a)) → ((t : Token) (a : A) → f t ≡ Some a → test t ≡ true → More) → (Free → More) → Completes test Free More (seq (one f) q) (IsSeq (IsOne f) Q)
  one_then_completes {More = More} f sample made is written hq room more =
      let first = one_completes f sample made is written in
      seq_completes (with_room first (λ (here : More). first.some tt)) hq (room_after_one f room) (λ here. here) more

  pub preceded_completes : {Room : Type 0} {A : Type 0} {p : Rule A} {P : List Token → A → Type 0} (mark : Mark) → Completes test Free Room p P → ((t : Token) (at : ℕ) → the mark t ≡ Some at → test t ≡ true → Room) → (Free → Room) → Completes test Free Room (after_mark mark p) (IsSeq (IsOne (the mark)) (λ at. P))
  preceded_completes mark h room more = one_then_completes (the mark) (token (w.Mark mark)) 0 (the_token mark) (mark_writable mark) (λ at. h) room more

  pub preceded_full : {A : Type 0} {p : Rule A} {P : List Token → A → Type 0} (mark : Mark) → IsFull test Free p P → IsFull test Free (after_mark mark p) (IsSeq (IsOne (the mark)) (λ at. P))
  preceded_full mark h = preceded_completes mark h (λ t at e i. tt) (λ free. tt)

  pub terminated_full : {A : Type 0} (mark : Mark) (a : A) → IsFull test Free (before_mark mark a) (IsSeq (IsOne (the mark)) (λ at. IsRet a))
  terminated_full mark a = seq_full (mark_completes mark) (λ at. ret_completes a)

  -- ---- a choice

  module _ {First Second : Type 0} {A : Type 0} {p q : Rule A} {P Q : List Token → A → Type 0} (hp : Completes test Free First p P) (hq : Completes test Free Second q Q) where
    either_stops_by : (b : Bool) (ts rest : List Token) (why : Obstacle) → either_by b p q ts ≡ (Err why, rest) → (used : List Token) × (ts ≡ used ++ rest) × (ends_in test used ≡ true → Begins (IsEither P Q) used)
    either_stops_by true ts rest why e = let k = hp.stops ts rest why e in (k.0, k.1, λ ends. begins_as P (IsEither P Q) (λ f a i. inl i) k.0 (k.2 ends))
    either_stops_by false ts rest why e = let k = hq.stops ts rest why e in (k.0, k.1, λ ends. begins_as Q (IsEither P Q) (λ f a i. inr i) k.0 (k.2 ends))

    -- the first of the two has something, or the second has
    pub either_first : (first : Token → Bool) → Completes test Free First (either first p q) (IsEither P Q)
    either_first first = record {
      takes = either_takes first hp.takes hq.takes;
      stops = λ ts rest why e. either_stops_by (head_is first ts) ts rest why e;
      some = λ room. begins_as P (IsEither P Q) (λ f a i. inl i) [] (hp.some room);
      high = λ free. either_high (hp.high free) (hq.high free) first;
    }

    pub either_second : (first : Token → Bool) → Completes test Free Second (either first p q) (IsEither P Q)
    either_second first = record {
      takes = either_takes first hp.takes hq.takes;
      stops = λ ts rest why e. either_stops_by (head_is first ts) ts rest why e;
      some = λ room. begins_as Q (IsEither P Q) (λ f a i. inr i) [] (hq.some room);
      high = λ free. either_high (hp.high free) (hq.high free) first;
    }

  -- ---- repeated steps

  module _ {Room : Type 0} {A : Type 0} {step : A → Rule A} {IsStep : A → List Token → A → Type 0} (first : Token → Bool) (hs : (a : A) → Completes test Free Room (step a) (IsStep a)) where
    turned : (a : A) (prefix : List Token) (c : A) → IsEither (IsSeq (IsStep a) (IsTurns IsStep)) (IsRet a) prefix c → IsTurns IsStep a prefix c
    turned a prefix c (inl (Seq y z b _ i j)) = Turn a b c y z i j
    turned a prefix c (inr Ret) = Over a

    below_full : (n : ℕ) (a : A) → IsFull test Free (turns_below n first step a) (IsTurns IsStep a)
    below_full zero a = record { takes = λ ts rest b e. absurd (no_ok e); stops = λ ts rest why e. stopped_here (IsTurns IsStep a) (err_is e).1; some = λ room. ([], a, no_words, Over a); high = λ free ts rest at e. absurd (no_height {why = Unfit} refl (err_is e).0) }
    below_full (suc n) a = completes_as (either_second (seq_full (hs a) (below_full n)) (ret_completes a) first) (turned a)

    pub turns_full : (a : A) → IsFull test Free (turns first step a) (IsTurns IsStep a)
    turns_full a = record {
      takes = λ ts rest b e. (below_full (suc (length ts)) a).takes ts rest b (sym (turns_are first step a ts) ∙ e);
      stops = λ ts rest why e. (below_full (suc (length ts)) a).stops ts rest why (sym (turns_are first step a ts) ∙ e);
      some = λ room. ([], a, no_words, Over a);
      high = λ free ts rest at e. (below_full (suc (length ts)) a).high free ts rest at (sym (turns_are first step a ts) ∙ e);
    }

  pub each_full : {Room : ℕ → Type 0} {A : Type 0} {item : ℕ → Rule A} {IsItem : ℕ → List Token → A → Type 0} (first : Token → Bool) → ((n : ℕ) → Completes test Free (Room n) (item n) (IsItem n)) → (had : List A) → IsFull test Free (each first item had) (IsMoreOf IsItem had)
  each_full {A = A} {IsItem = IsItem} first items had = completes_as (turns_full first (λ (all : List A). with_room (seq_full (items (length all)) (λ a. ret_completes (all ++ a ∷ []))) (λ none. absurd none)) had) (to_each IsItem had)

-- the same reader, also if there are no limits
pub with_high : {test : Token → Bool} {Free Room : Type 0} {A : Type 0} {read : Rule A} {Is : List Token → A → Type 0} → Completes test ⊥ Room read Is → (Free → IsHigh read Is) → Completes test Free Room read Is
with_high h high = record { takes = h.takes; stops = h.stops; some = h.some; high = high }

-- no limit is about a token
abbrev pub none : Token → Bool
none t = false

none_ends : (used : List Token) → ends_in none used ≡ true → ⊥
none_ends [] e = no_false refl e
none_ends (t ∷ []) e = no_false refl e
none_ends (t ∷ s ∷ used) e = none_ends (s ∷ used) e

-- if there are no limits
abbrev pub IsSeen : {A : Type 0} → Rule A → (List Token → A → Type 0) → Type 0
IsSeen read Is = IsFull none (Unit {0}) read Is

pub seen_by : {E : Obstacle → Type 0} {U : Type 0} {A : Type 0} {read : Rule A} {Is : List Token → A → Type 0} {S : Token → Bool} → U → IsRule E U read Is S → IsHigh read Is → IsSeen read Is
seen_by u h high = record {
  takes = h.takes;
  stops = λ ts rest why e. let k = h.leaves ts rest why e in (k.0, k.1, λ ends. absurd (none_ends k.0 ends));
  some = λ room. h.some u;
  high = λ free. high;
}
