-- Tokens have at most one fault, if heights are ignored.
use Rattle.std.proofs.Common.{◌≡◌, length, length-append, true, false, List, [], ◌∷◌, ◌++◌, ◌⊎◌, inl, inr, if◌then◌else◌, refl, sym, ap, ◌∙◌, subst, arith, append_assoc}
use Rattle.contract_tokens.specs.declared.token.Token.{Token}
use Rattle.contract_tokens.specs.declared.token.Mark.TheVariants as m
use Rattle.contract_grammar.specs.declared.Obstacle.{Obstacle}
use Rattle.contract_grammar.specs.declared.Obstacle.TheVariants.{Unfit, Surplus, Pending, Nesting, Height}
use Rattle.contract_grammar.specs.Faults.{AreWritable, Fits, Allows, AllowsBy, is_height, IsObstacle, KeepsLimits, IsFault, HasOneFault, IsWritable}
use Rattle.contract_grammar.specs.Grammar.{Limits, no_limits, IsContract}
use Rattle.contract_grammar.specs.Marks.{is, has, is_end, name_of, opens}
use Rattle.contract_grammar.proofs.Laws.{no_false}
use Rattle.contract_grammar.proofs.Writable.{one_word, all_words, first_words, last_words, word_here, written_no_end}
use Rattle.contract_grammar.proofs.MarkFacts.{named_no_end, open_no_end, brace_no_end}
use Rattle.contract_grammar.proofs.Splits.{two_splits}
use Rattle.contract_grammar.proofs.Answers.{IsEnded}

-- ---- tokens that can be written, then the end

record IsWritten (before : List Token) (t : Token) : Type 0 where
  prefix : AreWritable before
  token : is_end t ≡ false → IsWritable t.word

is_written : (words before after : List Token) (end t : Token) → AreWritable words → is_end end ≡ true → words ++ end ∷ [] ≡ before ++ t ∷ after → IsWritten before t
is_written words before after end t h ends e =
    elim (two_splits words before [] after end t e) [
      | inl k ↦ record { prefix = subst (λ v. AreWritable v) k.0 h; token = λ n. absurd (no_false n (ap is_end (sym k.1) ∙ ends)) }
      | inr k ↦ elim k [
        | inl j ↦ absurd (omega (arith, ap length e, length-append words (end ∷ []), length-append before (t ∷ after), ap length j.1, length-append words (end ∷ j.0)))
        | inr j ↦
            let all : AreWritable (before ++ t ∷ j.0) = subst (λ v. AreWritable v) j.1 h in
            record { prefix = first_words before (t ∷ j.0) all; token = λ n. word_here before j.0 t all }
      ]
    ]

-- a contract that begins with more tokens begins with fewer
fits_fewer : {l : Limits} (before w : List Token) → AreWritable w → Fits l (before ++ w) → Fits l before
fits_fewer {l = l} before w h (more, all, i, c) = (w ++ more, all, all_words w more h i, subst (λ v. IsContract l v all) (append_assoc before w more) c)

allows_from : {l : Limits} (before : List Token) (t : Token) → is_end t ≡ false → Fits l (before ++ t ∷ []) → Allows l before t
allows_from {l = l} before t n h = subst (λ b. AllowsBy b l before t) (sym n) h

fits_from : {l : Limits} (before : List Token) (t : Token) → is_end t ≡ false → Allows l before t → Fits l (before ++ t ∷ [])
fits_from {l = l} before t n h = subst (λ b. AllowsBy b l before t) n h

-- ---- an obstacle is of one kind

-- the limit that is about the token
limit_at : Token → Obstacle
limit_at t = if has name_of t then Surplus else if opens t then Pending else Nesting

opens_here : (t : Token) → opens t ≡ true → has name_of t ≡ false
opens_here t h = grind arith

brace_here : (t : Token) → is m.BraceOpen t ≡ true → (has name_of t ≡ false) × (opens t ≡ false)
brace_here t h = grind arith

surplus_at : (t : Token) → has name_of t ≡ true → limit_at t ≡ Surplus
unfolding limit_at
surplus_at t h = ap (λ b. if b then Surplus else if opens t then Pending else Nesting) h

pending_at : (t : Token) → opens t ≡ true → limit_at t ≡ Pending
unfolding limit_at
pending_at t h = ap (λ b. if b then Surplus else if opens t then Pending else Nesting) (opens_here t h) ∙ ap (λ b. if b then Pending else Nesting) h

nesting_at : (t : Token) → is m.BraceOpen t ≡ true → limit_at t ≡ Nesting
unfolding limit_at
nesting_at t h =
    let k = brace_here t h in
    ap (λ b. if b then Surplus else if opens t then Pending else Nesting) k.0 ∙ ap (λ b. if b then Pending else Nesting) k.1

-- no contract continues with the token
record IsUnfit (why : Obstacle) (before : List Token) (t : Token) : Type 0 where
  same : why ≡ Unfit
  fits : Fits no_limits before
  refused : Allows no_limits before t → ⊥

-- only a limit refuses the token, and later tokens do not mend that
record IsLimited (why : Obstacle) (before : List Token) (t : Token) : Type 0 where
  same : why ≡ limit_at t
  plain : is_end t ≡ false
  allowed : Allows no_limits before t
  refused : (w : List Token) → KeepsLimits (before ++ t ∷ w) → ⊥

module _ (before : List Token) (t : Token) where
  either_is : (why : Obstacle) → is_height why ≡ false → IsObstacle why before t → IsUnfit why before t ⊎ IsLimited why before t
  either_is Unfit low o = inl (record { same = refl; fits = o.0; refused = o.1 })
  either_is Surplus low o = inr (record { same = sym (surplus_at t o.0); plain = named_no_end t o.0; allowed = o.1; refused = λ w k. o.2 (k.parameters before w t refl o.0) })
  either_is Pending low o = inr (record { same = sym (pending_at t o.0); plain = open_no_end t o.0; allowed = o.1; refused = λ w k. o.2 (k.pending before w t refl o.0) })
  either_is Nesting low o = inr (record { same = sym (nesting_at t o.0); plain = brace_no_end t o.0; allowed = o.1; refused = λ w k. o.2 (k.nesting before w t refl o.0) })
  either_is (Height at) low o = absurd (no_false low refl)

module _ (why why' : Obstacle) (low : is_height why ≡ false) (low' : is_height why' ≡ false) where
  -- one thing is wrong at a token
  same_obstacle : (before : List Token) (t : Token) → IsObstacle why before t → IsObstacle why' before t → why ≡ why'
  same_obstacle before t o o' =
      elim (either_is before t why low o) [
        | inl k ↦ elim (either_is before t why' low' o') [ inl j ↦ k.same ∙ sym j.same | inr j ↦ absurd (k.refused j.allowed) ]
        | inr k ↦ elim (either_is before t why' low' o') [ inl j ↦ absurd (j.refused k.allowed) | inr j ↦ k.same ∙ sym j.same ]
      ]

  fits_before : (before : List Token) (t : Token) → IsWritten before t → IsObstacle why' before t → Fits no_limits before
  fits_before before t h o =
      elim (either_is before t why' low' o) [
        | inl k ↦ k.fits
        | inr k ↦ fits_fewer before (t ∷ []) (one_word t (h.token k.plain)) (fits_from before t k.plain k.allowed)
      ]

  -- after a fault there is no other
  none_later : (before w : List Token) (t t' : Token) → IsWritten (before ++ t ∷ w) t' → IsFault why before t → IsFault why' (before ++ t ∷ w) t' → ⊥
  none_later before w t t' h f f' =
      elim (either_is before t why low f.0) [
        | inl k ↦
            let fits : Fits no_limits ((before ++ t ∷ []) ++ w) = subst (λ v. Fits no_limits v) (sym (append_assoc before (t ∷ []) w)) (fits_before (before ++ t ∷ w) t' h f'.0) in
            let rest : AreWritable (t ∷ w) = last_words before (t ∷ w) h.prefix in
            let first : Fits no_limits (before ++ t ∷ []) = fits_fewer (before ++ t ∷ []) w (last_words (t ∷ []) w rest) fits in
            k.refused (allows_from before t (written_no_end t (word_here before w t h.prefix)) first)
        | inr k ↦ k.refused w f'.1
      ]

one_of_words : (words : List Token) (end : Token) → AreWritable words → is_end end ≡ true → HasOneFault (words ++ end ∷ [])
one_of_words words end h ends why why' before after before' after' t t' e e' low low' f f' =
    elim (two_splits before before' after after' t t' (sym e ∙ e')) [
      | inl k ↦
          let there : IsObstacle why' before t = subst (λ v. IsObstacle why' before v) (sym k.1) (subst (λ v. IsObstacle why' v t') (sym k.0) f'.0) in
          (k.0, same_obstacle why why' low low' before t f.0 there)
      | inr k ↦ elim k [
        | inl j ↦
            let later : IsWritten (before ++ t ∷ j.0) t' = subst (λ v. IsWritten v t') j.1 (is_written words before' after' end t' h ends e') in
            absurd (none_later why why' low low' before j.0 t t' later f (subst (λ v. IsFault why' v t') j.1 f'))
        | inr j ↦
            let later : IsWritten (before' ++ t' ∷ j.0) t = subst (λ v. IsWritten v t) j.1 (is_written words before after end t h ends e) in
            absurd (none_later why' why low' low before' j.0 t' t later f' (subst (λ v. IsFault why v t) j.1 f))
      ]
    ]

-- the tokens of a source have at most one fault
pub one_fault : {tokens : List Token} → IsEnded tokens → HasOneFault tokens
one_fault i = subst (λ v. HasOneFault v) (sym i.tokens_are) (one_of_words i.before i.end i.words i.ends)
