-- A token that the reader has passed is allowed by the limit that is about it.
use Rattle.std.proofs.Common.{◌≡◌, Bool, true, List, [], ◌∷◌, ◌++◌, length, drop, Result, Ok, Err, ◌⊎◌, inl, inr, refl, sym, ap, ◌∙◌, subst, arith, append_assoc, length-append}
use Rattle.std.proofs.lemmas.Bool.{or_right}
use Rattle.std.proofs.lemmas.List.{append-nil}
use Rattle.contract_tokens.specs.declared.token.Token.{Token}
use Rattle.contract_tokens.specs.declared.token.Word.TheVariants as w
use Rattle.contract_tree.specs.Tree.{FunctionTree}
use Rattle.contract_grammar.specs.declared.Obstacle.{Obstacle}
use Rattle.contract_grammar.specs.Faults.{Fits}
use Rattle.contract_grammar.specs.Grammar.{Limits, IsContract}
use Rattle.contract_grammar.specs.Marks.{is_end}
use Rattle.contract_grammar.specs.Reading.{contract}
use Rattle.contract_grammar.specs.Rules.{Read}
use Rattle.contract_grammar.proofs.Laws.{IsRule, has_end, no_false}
use Rattle.contract_grammar.proofs.Parts.{token}
use Rattle.contract_grammar.proofs.Completions.{ends_in, IsFull}
use Rattle.contract_grammar.proofs.Writable.{no_words}

pub end_token : Token
end_token = token w.End

pub end_is : is_end end_token ≡ true
unfolding end_token
end_is = refl

ends_last : (test : Token → Bool) (b : List Token) (s : Token) → test s ≡ true → ends_in test (b ++ s ∷ []) ≡ true
ends_last test [] s h = h
ends_last test (t ∷ []) s h = h
ends_last test (t ∷ r ∷ b) s h = ends_last test (r ∷ b) s h

ends_ended : (b : List Token) (s : Token) → has_end (b ++ s ∷ end_token ∷ []) ≡ true
unfolding end_token
ends_ended [] s = or_right (is_end s) true refl
ends_ended (t ∷ b) s = or_right (is_end t) (has_end (b ++ s ∷ end_token ∷ [])) (ends_ended b s)

-- the last two of these tokens are left, or the last one alone, or more
where_left : (b used rest : List Token) (s e : Token) → b ++ s ∷ e ∷ [] ≡ used ++ rest → has_end rest ≡ true → ((v : List Token) × (rest ≡ v ++ s ∷ e ∷ [])) ⊎ ((b ++ s ∷ [] ≡ used) × (rest ≡ e ∷ []))
where_left b [] rest s e path h = inl (b, sym path)
where_left [] (u ∷ []) rest s e path h = let same : s ≡ u = cc (path) in inr (ap (λ v. v ∷ []) same, sym (ap (drop 1) path))
where_left [] (u ∷ r ∷ []) rest s e path h = let none : [] ≡ rest = ap (drop 2) path in absurd (no_false refl (ap has_end none ∙ h))
where_left [] (u ∷ r ∷ q ∷ used) rest s e path h = absurd (omega (arith, ap length path))
where_left (x ∷ b) (u ∷ used) rest s e path h =
    let same : x ≡ u = cc (path) in
    elim (where_left b used rest s e (ap (drop 1) path) h) [ inl k ↦ inl k | inr k ↦ inr (cc (same, k.0), k.1) ]

module _ {l : Limits} {test : Token → Bool} {E : Obstacle → Type 0} {U : Type 0} (rule : IsRule E U contract (IsContract l) is_end) (full : IsFull test ⊥ contract (IsContract l)) (b a y : List Token) (s t : Token) (why : Obstacle) (passes : test s ≡ true) (e : contract ((b ++ s ∷ a) ++ t ∷ y) ≡ (Err why, t ∷ y)) where
  not_before : (v : List Token) (q : Result (List FunctionTree) Obstacle) → contract (b ++ s ∷ end_token ∷ []) ≡ (q, v ++ s ∷ end_token ∷ []) → ⊥
  not_before v q h =
      let long : contract (b ++ s ∷ (a ++ t ∷ y)) ≡ (q, v ++ s ∷ (a ++ t ∷ y)) = rule.same b v (end_token ∷ []) (a ++ t ∷ y) s q h in
      let short : contract (b ++ s ∷ (a ++ t ∷ y)) ≡ (Err why, t ∷ y) = ap contract (sym (append_assoc b (s ∷ a) (t ∷ y))) ∙ e in
      let left : v ++ s ∷ (a ++ t ∷ y) ≡ t ∷ y = ap (λ r. r.1) (sym long ∙ short) in
      omega (arith, ap length left, length-append v (s ∷ (a ++ t ∷ y)), length-append a (t ∷ y))

  still_ended : (r : Read (List FunctionTree)) → contract (b ++ s ∷ end_token ∷ []) ≡ r → has_end r.1 ≡ true
  still_ended r h = ap (λ v. has_end v.1) (sym h) ∙ rule.stays (b ++ s ∷ end_token ∷ []) (ends_ended b s)

  fits_by : (r : Read (List FunctionTree)) → contract (b ++ s ∷ end_token ∷ []) ≡ r → Fits l (b ++ s ∷ [])
  fits_by (Ok all, rest) h =
      let k = rule.takes (b ++ s ∷ end_token ∷ []) rest all h in
      elim (where_left b k.0 rest s end_token k.1 (still_ended (Ok all, rest) h)) [
        | inl q ↦ absurd (not_before q.0 (Ok all) (h ∙ ap (λ v. (Ok all, v)) q.1))
        | inr q ↦ ([], all, no_words, subst (λ v. IsContract l v all) (sym q.0 ∙ sym (append-nil (b ++ s ∷ []))) k.2)
      ]
  fits_by (Err w, rest) h =
      let k = full.stops (b ++ s ∷ end_token ∷ []) rest w h in
      elim (where_left b k.0 rest s end_token k.1 (still_ended (Err w, rest) h)) [
        | inl q ↦ absurd (not_before q.0 (Err w) (h ∙ ap (λ v. (Err w, v)) q.1))
        | inr q ↦ subst (λ v. Fits l v) (sym q.0) (k.2 (ap (ends_in test) (sym q.0) ∙ ends_last test b s passes))
      ]

  -- what the reader has passed begins a contract within the limit
  pub passed_fits : Fits l (b ++ s ∷ [])
  passed_fits = fits_by (contract (b ++ s ∷ end_token ∷ [])) refl
