-- A source has one outcome, and the scan of its pieces finds it.
use Rattle.std.proofs.Common.{◌≡◌, ℕ, zero, suc, ◌+◌, ◌-◌, ◌≤◌, ◌<◌, List, [], ◌∷◌, ◌++◌, length, drop, Ok, Err, sym, ap, subst, refl, ◌∙◌, arith, append_assoc}
use Rattle.std.proofs.lemmas.List.{drop_at, drop-drop, length-append, length-drop}
use Rattle.contract_tokens.specs.declared.token.Token.{Token}
use Rattle.contract_tokens.specs.declared.token.Word.{Word}
use Rattle.contract_tokens.specs.declared.token.Word.TheVariants as words
use Rattle.contract_tokens.specs.declared.token.TokenKind.{TokenKind}
use Rattle.contract_tokens.specs.declared.piece.Piece.{Piece}
use Rattle.contract_tokens.specs.declared.piece.Piece.TheVariants as pieces
use Rattle.contract_tokens.specs.Lexemes.{IsGap, IsLongest, IsSpelled, Blank, Comment}
use Rattle.contract_tokens.specs.Tokens.{Outcome, prepend_token, IsTokenized, Ends, Skips, Takes, Refuses}
use Rattle.contract_tokens.specs.Pieces.{next_piece}
use Rattle.contract_tokens.proofs.Words.{lexeme_nonempty}
use Rattle.contract_tokens.proofs.Pieces.{IsPieceOf, next_piece_is}
use Rattle.contract_tokens.proofs.Once.{next_piece_only}

module _ (edition : ℕ) where
  -- what an outcome is, given the piece at the start
  abbrev IsOutcomeBy : ℕ → List ℕ → Outcome → Piece → Type 0
  IsOutcomeBy at bytes outcome pieces.End = outcome ≡ Ok (record { at = at; word = words.End } ∷ [])
  IsOutcomeBy at bytes outcome (pieces.Skip n) = IsTokenized edition (at + n) (drop n bytes) outcome
  IsOutcomeBy at bytes outcome (pieces.Take n word) = (rest : Outcome) × IsTokenized edition (at + n) (drop n bytes) rest × (outcome ≡ prepend_token (record { at = at; word = word }) rest)
  IsOutcomeBy at bytes outcome (pieces.Bad kind) = outcome ≡ Err (at, kind)

  pub skip_piece : (gap rest : List ℕ) → IsGap gap rest
      → next_piece edition (gap ++ rest) ≡ pieces.Skip (length gap)
  skip_piece gap rest g =
      next_piece_only edition (gap ++ rest) (pieces.Skip (length gap)) (gap, rest, refl, refl, g)

  pub take_piece : (prefix rest : List ℕ) (word : Word) → IsLongest prefix rest
      → IsSpelled edition prefix word
      → next_piece edition (prefix ++ rest) ≡ pieces.Take (length prefix) word
  take_piece prefix rest word l s = next_piece_only edition (prefix ++ rest) (pieces.Take (length prefix) word) (prefix, rest, refl, refl, l, s)

  -- what follows the prefix
  pub dropped_rest : (prefix rest : List ℕ) → rest ≡ drop (length prefix) (prefix ++ rest)
  dropped_rest prefix rest = sym (drop_at prefix rest (length prefix) refl)

  outcome_by : (at : ℕ) (bytes : List ℕ) (outcome : Outcome) → IsTokenized edition at bytes outcome
      → IsOutcomeBy at bytes outcome (next_piece edition bytes)
  outcome_by _ _ _ (Ends at) = rw (next_piece_only edition [] pieces.End refl) refl
  outcome_by _ _ _ (Skips at gap rest outcome g h) =
      let P : List ℕ → Type 0 = λ l. IsTokenized edition (at + length gap) l outcome in
      rw (skip_piece gap rest g) (subst P (dropped_rest gap rest) h)
  outcome_by _ _ _ (Takes at prefix rest word outcome l s h) =
      let P : List ℕ → Type 0 = λ x. IsTokenized edition (at + length prefix) x outcome in
      rw (take_piece prefix rest word l s) (outcome, subst P (dropped_rest prefix rest) h, refl)
  outcome_by _ _ _ (Refuses at bytes kind r) =
      rw (next_piece_only edition bytes (pieces.Bad kind) r) refl

  pub tokenized_once : (at : ℕ) (bytes : List ℕ) (a b : Outcome) → IsTokenized edition at bytes a
      → IsTokenized edition at bytes b → a ≡ b
  tokenized_once _ _ _ b (Ends at) k =
      let P : Piece → Type 0 = IsOutcomeBy at [] b in
      sym (subst P (next_piece_only edition [] pieces.End refl) (outcome_by at [] b k))
  tokenized_once _ _ _ b (Skips at gap rest outcome g h) k =
      let P : Piece → Type 0 = IsOutcomeBy at (gap ++ rest) b in
      let Q : List ℕ → Type 0 = λ l. IsTokenized edition (at + length gap) l b in
      tokenized_once (at + length gap) rest outcome b h (subst Q (sym (dropped_rest gap rest)) (subst P (skip_piece gap rest g) (outcome_by at (gap ++ rest) b k)))
  tokenized_once _ _ _ b (Takes at prefix rest word outcome l s h) k =
      let P : Piece → Type 0 = IsOutcomeBy at (prefix ++ rest) b in
      let Q : Outcome → List ℕ → Type 0 = λ o x. IsTokenized edition (at + length prefix) x o in
      let c = subst P (take_piece prefix rest word l s) (outcome_by at (prefix ++ rest) b k) in
      let same = tokenized_once (at + length prefix) rest outcome c.0 h (subst (Q c.0) (sym (dropped_rest prefix rest)) c.1) in
      ap (prepend_token (record { at = at; word = word })) same ∙ sym c.2
  tokenized_once _ _ _ b (Refuses at bytes kind r) k =
      let P : Piece → Type 0 = IsOutcomeBy at bytes b in
      sym (subst P (next_piece_only edition bytes (pieces.Bad kind) r) (outcome_by at bytes b k))

  -- ---- the scan

  -- the tokens found so far, before the outcome of the rest
  abbrev pub after_all : List Token → Outcome → Outcome
  after_all found (Ok list) = Ok (found ++ list)
  after_all found (Err fault) = Err fault

  -- the outcome of what is left decides that of the whole
  pub record IsSoFar (source : List ℕ) (at : ℕ) (found : List Token) : Type 0 where
    pub within : at ≤ length source
    pub whole : (outcome : Outcome) → IsTokenized edition at (drop at source) outcome
        → IsTokenized edition 0 source (after_all found outcome)

  -- after a piece that is neither a fault nor the end, the scan continues within the source
  abbrev pub GoesOn : ℕ → Piece → Type 0
  GoesOn left pieces.End = Unit {0}
  GoesOn left (pieces.Skip n) = (0 < n) × (n ≤ left)
  GoesOn left (pieces.Take n word) = (0 < n) × (n ≤ left)
  GoesOn left (pieces.Bad kind) = Unit {0}

  prefix_counts : (prefix rest bytes : List ℕ) (n : ℕ) → (prefix ≡ [] → ⊥) → bytes ≡ prefix ++ rest
      → length prefix ≡ n → (0 < n) × (n ≤ length bytes)
  prefix_counts [] rest bytes n some e l = absurd (some refl)
  prefix_counts (byte ∷ prefix) rest bytes n some e l =
      (omega arith, omega (arith, simp length-append at (ap length e)))

  gap_some : (gap rest : List ℕ) → IsGap gap rest → gap ≡ [] → ⊥
  gap_some _ _ (Blank byte rest b) e = cc
  gap_some _ _ (Comment text rest h l) e = cc

  piece_goes_on : (bytes : List ℕ) (p : Piece) → IsPieceOf edition bytes p → GoesOn (length bytes) p
  piece_goes_on bytes pieces.End h = tt
  piece_goes_on bytes (pieces.Skip n) (gap, rest, e, l, g) =
      prefix_counts gap rest bytes n (gap_some gap rest g) e l
  piece_goes_on bytes (pieces.Take n word) (prefix, rest, e, l, longest, spelled) =
      prefix_counts prefix rest bytes n (lexeme_nonempty prefix longest.lexeme) e l
  piece_goes_on bytes (pieces.Bad kind) h = tt

  pub next_piece_goes_on : (bytes : List ℕ) → GoesOn (length bytes) (next_piece edition bytes)
  next_piece_goes_on bytes =
      piece_goes_on bytes (next_piece edition bytes) (next_piece_is edition bytes)

  pub at_start : (source : List ℕ) → IsSoFar source 0 []
  at_start source = record { within = omega arith; whole = λ outcome h. none_before outcome h }
    where
      none_before : (outcome : Outcome) → IsTokenized edition 0 source outcome
          → IsTokenized edition 0 source (after_all [] outcome)
      none_before (Ok list) h = h
      none_before (Err fault) h = h

  -- the outcome, derived from the piece at the start
  tokenized_by_piece : (at : ℕ) (bytes : List ℕ) (outcome : Outcome) (p : Piece)
      → IsPieceOf edition bytes p → IsOutcomeBy at bytes outcome p
      → IsTokenized edition at bytes outcome
  tokenized_by_piece at bytes outcome pieces.End h c =
      let P : List ℕ → Outcome → Type 0 = λ l o. IsTokenized edition at l o in
      subst (λ l. P l outcome) (sym h) (subst (P []) (sym c) (Ends at))
  tokenized_by_piece at bytes outcome (pieces.Skip n) (gap, rest, e, l, g) c =
      let P : ℕ → List ℕ → Type 0 = λ m x. IsTokenized edition (at + m) x outcome in
      let Q : List ℕ → Type 0 = λ x. IsTokenized edition at x outcome in
      let dropped : drop n bytes ≡ rest = ap (drop n) e ∙ drop_at gap rest n l in
      subst Q (sym e) (Skips at gap rest outcome g (subst (P (length gap)) dropped (subst (λ m. P m (drop n bytes)) (sym l) c)))
  tokenized_by_piece at bytes outcome (pieces.Take n word) (prefix, rest, e, l, longest, spelled) (after_it, c, o) =
      (let P : ℕ → List ℕ → Type 0 = λ m x. IsTokenized edition (at + m) x after_it in
      let Q : List ℕ → Outcome → Type 0 = λ x y. IsTokenized edition at x y in
      let dropped : drop n bytes ≡ rest = ap (drop n) e ∙ drop_at prefix rest n l in
      subst (λ x. Q x outcome) (sym e) (subst (Q (prefix ++ rest)) (sym o) (Takes at prefix rest word after_it longest spelled (subst (P (length prefix)) dropped (subst (λ m. P m (drop n bytes)) (sym l) c)))))
  tokenized_by_piece at bytes outcome (pieces.Bad kind) h c =
      let P : Outcome → Type 0 = λ o. IsTokenized edition at bytes o in
      subst P (sym c) (Refuses at bytes kind h)

  tokenized_by_next : (at : ℕ) (bytes : List ℕ) (outcome : Outcome) (p : Piece)
      → p ≡ next_piece edition bytes → IsOutcomeBy at bytes outcome p
      → IsTokenized edition at bytes outcome
  tokenized_by_next at bytes outcome p e c =
      let P : Piece → Type 0 = IsPieceOf edition bytes in
      tokenized_by_piece at bytes outcome p (subst P (sym e) (next_piece_is edition bytes)) c

  -- ---- each source has an outcome

  some_outcome : (n at : ℕ) (bytes : List ℕ) (p : Piece) → p ≡ next_piece edition bytes → GoesOn (length bytes) p → length bytes < suc n → ((offset : ℕ) (rest : List ℕ) → length rest < n → (outcome : Outcome) × IsTokenized edition offset rest outcome) → (outcome : Outcome) × IsTokenized edition at bytes outcome
  some_outcome n at bytes pieces.End e on low next = (Ok (record { at = at; word = words.End } ∷ []), tokenized_by_next at bytes _ pieces.End e refl)
  some_outcome n at bytes (pieces.Skip k) e on low next =
      let l = length-drop k bytes in
      let inner = next (at + k) (drop k bytes) (omega (arith, low, on, l)) in
      (inner.0, tokenized_by_next at bytes inner.0 (pieces.Skip k) e inner.1)
  some_outcome n at bytes (pieces.Take k word) e on low next =
      let l = length-drop k bytes in
      let inner = next (at + k) (drop k bytes) (omega (arith, low, on, l)) in
      (prepend_token (record { at = at; word = word }) inner.0, tokenized_by_next at bytes _ (pieces.Take k word) e (inner.0, inner.1, refl))
  some_outcome n at bytes (pieces.Bad kind) e on low next =
      (Err (at, kind), tokenized_by_next at bytes _ (pieces.Bad kind) e refl)

  tokenized_up_to : (n at : ℕ) (bytes : List ℕ) → length bytes < n
      → (outcome : Outcome) × IsTokenized edition at bytes outcome
  tokenized_up_to zero at bytes low = absurd (omega (arith, low))
  tokenized_up_to (suc n) at bytes low = some_outcome n at bytes (next_piece edition bytes) refl (next_piece_goes_on bytes) low (λ offset rest l. tokenized_up_to n offset rest l)

  pub tokenized : (at : ℕ) (bytes : List ℕ)
      → (outcome : Outcome) × IsTokenized edition at bytes outcome
  tokenized at bytes = tokenized_up_to (suc (length bytes)) at bytes (omega arith)

  -- ---- offsets within a source

  pub within_piece : (source : List ℕ) (at : ℕ) (p : Piece) → at ≤ length source
      → p ≡ next_piece edition (drop at source) → GoesOn (length source - at) p
  within_piece source at p h e =
      let P : Piece → Type 0 = λ q. GoesOn (length source - at) q in
      let Q : ℕ → Type 0 = λ n. GoesOn n (next_piece edition (drop at source)) in
      subst P (sym e) (subst Q (length-drop at source) (next_piece_goes_on (drop at source)))

  pub after_skip : (source : List ℕ) (at n : ℕ) (found : List Token) → IsSoFar source at found
      → pieces.Skip n ≡ next_piece edition (drop at source) → IsSoFar source (at + n) found
  after_skip source at n found s e =
      let w = within_piece source at (pieces.Skip n) s.within e in
      let h = s.within in
      record {
        within = omega (arith, w);
        whole = λ outcome c. s.whole outcome (tokenized_by_next at (drop at source) outcome (pieces.Skip n) e (rw drop-drop c));
      }

  joined : (found : List Token) (token : Token) (outcome : Outcome)
      → after_all found (prepend_token token outcome) ≡ after_all (found ++ token ∷ []) outcome
  joined found token (Ok list) = ap Ok (simp append_assoc)
  joined found token (Err fault) = refl

  pub after_take : (source : List ℕ) (at n : ℕ) (word : Word) (found : List Token)
      → IsSoFar source at found → pieces.Take n word ≡ next_piece edition (drop at source)
      → IsSoFar source (at + n) (found ++ record { at = at; word = word } ∷ [])
  after_take source at n word found s e =
      let w = within_piece source at (pieces.Take n word) s.within e in
      let h = s.within in
      record {
        within = omega (arith, w);
        whole = λ outcome c.
            let P : Outcome → Type 0 = IsTokenized edition 0 source in
            subst P (joined found (record { at = at; word = word }) outcome)
            (s.whole (prepend_token (record { at = at; word = word }) outcome) (tokenized_by_next at (drop at source) _ (pieces.Take n word) e (outcome, rw drop-drop c, refl)));
      }

  pub at_end : (source : List ℕ) (at : ℕ) (found : List Token) → IsSoFar source at found
      → pieces.End ≡ next_piece edition (drop at source)
      → IsTokenized edition 0 source (Ok (found ++ record { at = at; word = words.End } ∷ []))
  at_end source at found s e = s.whole (Ok (record { at = at; word = words.End } ∷ [])) (tokenized_by_next at (drop at source) _ pieces.End e refl)

  pub at_fault : (source : List ℕ) (at : ℕ) (kind : TokenKind) (found : List Token)
      → IsSoFar source at found → pieces.Bad kind ≡ next_piece edition (drop at source)
      → IsTokenized edition 0 source (Err (at, kind))
  at_fault source at kind found s e =
      s.whole (Err (at, kind)) (tokenized_by_next at (drop at source) _ (pieces.Bad kind) e refl)
