-- The list that the code takes piece by piece is the list of the tokens.
use Rattle.std.proofs.Common.{◌≡◌, ℕ, zero, suc, ◌+◌, ◌≤◌, ◌<◌, List, [], ◌∷◌, ◌++◌, length, drop, Option, Some, None, Result, Ok, Err, IfSome, sym, ap, subst, refl, ◌∙◌, arith}
use Rattle.std.proofs.lemmas.List.{drop-drop, length-drop}
use Rattle.contract_tokens.specs.declared.token.Token.{Token}
use Rattle.contract_tokens.specs.declared.token.Word.{Word}
use Rattle.contract_tokens.specs.declared.piece.Piece.{Piece}
use Rattle.contract_tokens.specs.declared.piece.Piece.TheVariants as pieces
use Rattle.contract_tokens.specs.declared.token.TokenKind.{TokenKind}
use Rattle.contract_tokens.specs.declared.token.TokenError.{TokenError}
use Rattle.contract_tokens.specs.declared.token.TokenError.TheVariants.{Refused, Memory}
use Rattle.contract_tokens.specs.Tokens.{Outcome, prepend_token, IsTokenized, Ends, Skips, Takes, Refuses, IsTokens, IsTokenFault, fault_of}
use Rattle.contract_tokens.specs.Pieces.{next_piece}
use Rattle.contract_tokens.specs.Listing.{tokens_by_piece, tokens_within, tokens_from, offset_after}
use Rattle.contract_tokens.proofs.Outcomes.{GoesOn, next_piece_goes_on, skip_piece, take_piece, dropped_rest, tokenized, IsSoFar, at_start, after_skip, after_take, at_end, at_fault, within_piece}
use Rattle.contract_tokens.proofs.Once.{next_piece_only}

module _ (edition : ℕ) where
  -- ---- more pieces than bytes are enough

  enough_by : (n m at : ℕ) (bytes : List ℕ) (p : Piece) → length bytes < suc n → length bytes < suc m → GoesOn edition (length bytes) p → ((place : ℕ) (rest : List ℕ) → length rest < n → length rest < m → tokens_within edition n place rest ≡ tokens_within edition m place rest) → tokens_by_piece p at bytes (tokens_within edition n) ≡ tokens_by_piece p at bytes (tokens_within edition m)
  enough_by n m at bytes pieces.End low few on same = refl
  enough_by n m at bytes (pieces.Skip k) low few on same =
      let l = length-drop k bytes in
      same (at + k) (drop k bytes) (omega (arith, low, on, l)) (omega (arith, few, on, l))
  enough_by n m at bytes (pieces.Take k word) low few on same =
      let l = length-drop k bytes in
      ap (λ list. record { at = at; word = word } ∷ list) (same (at + k) (drop k bytes) (omega (arith, low, on, l)) (omega (arith, few, on, l)))
  enough_by n m at bytes (pieces.Bad kind) low few on same = refl

  enough : (n m at : ℕ) (bytes : List ℕ) → length bytes < n → length bytes < m
      → tokens_within edition n at bytes ≡ tokens_within edition m at bytes
  unfolding tokens_within
  enough zero m at bytes low few = absurd (omega (arith, low))
  enough (suc n) zero at bytes low few = absurd (omega (arith, few))
  enough (suc n) (suc m) at bytes low few = enough_by n m at bytes (next_piece edition bytes) low few (next_piece_goes_on edition bytes) (λ place rest l f. enough n m place rest l f)

  same_pieces : (n at : ℕ) (bytes : List ℕ) (p : Piece) → length bytes < suc n → GoesOn edition (length bytes) p → tokens_by_piece p at bytes (tokens_within edition n) ≡ tokens_by_piece p at bytes (tokens_from edition)
  unfolding tokens_from
  same_pieces n at bytes pieces.End low on = refl
  same_pieces n at bytes (pieces.Skip k) low on =
      let l = length-drop k bytes in
      enough n (suc (length (drop k bytes))) (at + k) (drop k bytes) (omega (arith, low, on, l)) (omega arith)
  same_pieces n at bytes (pieces.Take k word) low on =
      let l = length-drop k bytes in
      ap (λ list. record { at = at; word = word } ∷ list) (enough n (suc (length (drop k bytes))) (at + k) (drop k bytes) (omega (arith, low, on, l)) (omega arith))
  same_pieces n at bytes (pieces.Bad kind) low on = refl

  unrolled : (at : ℕ) (bytes : List ℕ) → tokens_from edition at bytes ≡ tokens_by_piece (next_piece edition bytes) at bytes (tokens_within edition (length bytes))
  unfolding tokens_from tokens_within
  unrolled at bytes = refl

  -- the list, given the piece with which it begins
  pub by_piece : (at : ℕ) (bytes : List ℕ) → tokens_from edition at bytes ≡ tokens_by_piece (next_piece edition bytes) at bytes (tokens_from edition)
  by_piece at bytes = unrolled at bytes ∙ same_pieces (length bytes) at bytes (next_piece edition bytes) (omega arith) (next_piece_goes_on edition bytes)

  -- ---- the tokens of a source are that list

  IsListOf : ℕ → List ℕ → Outcome → Type 0
  IsListOf at bytes (Ok list) = tokens_from edition at bytes ≡ list
  IsListOf at bytes (Err fault) = Unit {0}

  list_skips : (at : ℕ) (gap rest : List ℕ) (outcome : Outcome)
      → next_piece edition (gap ++ rest) ≡ pieces.Skip (length gap)
      → IsListOf (at + length gap) rest outcome → IsListOf at (gap ++ rest) outcome
  unfolding IsListOf
  list_skips at gap rest (Ok list) e h = by_piece at (gap ++ rest) ∙ ap (λ p. tokens_by_piece p at (gap ++ rest) (tokens_from edition)) e ∙ ap (tokens_from edition (at + length gap)) (sym (dropped_rest edition gap rest)) ∙ h
  list_skips at gap rest (Err fault) e h = tt

  list_takes : (at : ℕ) (prefix rest : List ℕ) (word : Word) (outcome : Outcome)
      → next_piece edition (prefix ++ rest) ≡ pieces.Take (length prefix) word
      → IsListOf (at + length prefix) rest outcome
      → IsListOf at (prefix ++ rest) (prepend_token (record { at = at; word = word }) outcome)
  unfolding IsListOf
  list_takes at prefix rest word (Ok list) e h =
      by_piece at (prefix ++ rest) ∙ ap (λ p. tokens_by_piece p at (prefix ++ rest) (tokens_from edition)) e ∙ ap (λ l. record { at = at; word = word } ∷ l) (ap (tokens_from edition (at + length prefix)) (sym (dropped_rest edition prefix rest)) ∙ h)
  list_takes at prefix rest word (Err fault) e h = tt

  list_of : (at : ℕ) (bytes : List ℕ) (outcome : Outcome) → IsTokenized edition at bytes outcome
      → IsListOf at bytes outcome
  unfolding IsListOf
  list_of _ _ _ (Ends at) = by_piece at [] ∙ ap (λ p. tokens_by_piece p at [] (tokens_from edition)) (next_piece_only edition [] pieces.End refl)
  list_of _ _ _ (Skips at gap rest outcome g h) = list_skips at gap rest outcome (skip_piece edition gap rest g) (list_of (at + length gap) rest outcome h)
  list_of _ _ _ (Takes at prefix rest word outcome l s h) = list_takes at prefix rest word outcome (take_piece edition prefix rest word l s) (list_of (at + length prefix) rest outcome h)
  list_of _ _ _ (Refuses at bytes kind r) = tt

  pub tokens_from_once : (at : ℕ) (bytes : List ℕ) (list : List Token)
      → IsTokens edition at bytes list → tokens_from edition at bytes ≡ list
  unfolding IsListOf
  tokens_from_once at bytes list i = list_of at bytes (Ok list) i

  -- ---- the scan of a whole source

  -- there is no fault before this offset
  pub record IsFaultless (source : List ℕ) (at : ℕ) : Type 0 where
    pub found : List Token
    pub so_far : IsSoFar edition source at found

  pub from_prefix : (source : List ℕ) → IsFaultless source 0
  from_prefix source = record { found = []; so_far = at_start edition source }

  -- what the piece at a faultless offset says about the source
  abbrev Passed : List ℕ → ℕ → Result (Option ℕ) (ℕ × TokenKind) → Type 0
  Passed source at (Ok None) = IsTokens edition 0 source (tokens_from edition 0 source)
  Passed source at (Ok (Some next)) = IsFaultless source next × (at < next)
  Passed source at (Err (offset, kind)) = IsTokenFault edition 0 source offset kind

  passed_by : (source : List ℕ) (at : ℕ) (p : Piece) → IsFaultless source at
      → p ≡ next_piece edition (drop at source) → Passed source at (offset_after at p)
  passed_by source at pieces.End f e =
      let whole = at_end edition source at f.found f.so_far e in
      let P : List Token → Type 0 = IsTokens edition 0 source in
      subst P (sym (tokens_from_once 0 source _ whole)) whole
  passed_by source at (pieces.Skip n) f e =
      let w = within_piece edition source at (pieces.Skip n) f.so_far.within e in
      (record { found = f.found; so_far = after_skip edition source at n f.found f.so_far e }, omega (arith, w))
  passed_by source at (pieces.Take n word) f e =
      let w = within_piece edition source at (pieces.Take n word) f.so_far.within e in
      (record { found = _; so_far = after_take edition source at n word f.found f.so_far e }, omega (arith, w))
  passed_by source at (pieces.Bad kind) f e = at_fault edition source at kind f.found f.so_far e

  pub passed : (source : List ℕ) (at : ℕ) (answer : Result (Option ℕ) (ℕ × TokenKind))
      → IsFaultless source at → offset_after at (next_piece edition (drop at source)) ≡ answer
      → Passed source at answer
  passed source at answer f e =
      let P : Result (Option ℕ) (ℕ × TokenKind) → Type 0 = Passed source at in
      subst P e (passed_by source at (next_piece edition (drop at source)) f refl)

  pub passed_all : (source : List ℕ) (at : ℕ) (next : Option ℕ) → IsFaultless source at
      → offset_after at (next_piece edition (drop at source)) ≡ Ok next
      → ((n : ℕ) → next ≡ Some n → ⊥) → IsTokens edition 0 source (tokens_from edition 0 source)
  passed_all source at None f e none = passed source at (Ok None) f e
  passed_all source at (Some n) f e none = absurd (none n refl)

  -- an error at a faultless offset is the outcome of the source
  pub told_error : (source : List ℕ) (at : ℕ) (error : TokenError) → IsFaultless source at → IfSome (fault_of error) (λ fault. offset_after at (next_piece edition (drop at source)) ≡ Err fault) → (outcome : Outcome) × IsTokenized edition 0 source outcome × IfSome (fault_of error) (λ fault. outcome ≡ Err fault)
  told_error source at (Refused offset kind) f e =
      (Err (offset, kind), passed source at (Err (offset, kind)) f e, refl)
  told_error source at Memory f e = let one = tokenized edition 0 source in (one.0, one.1, tt)

  -- ---- the search for the next token

  -- there are only gaps between the two offsets
  pub record IsGap (source : List ℕ) (from at : ℕ) : Type 0 where
    pub within : at ≤ length source
    pub same : tokens_from edition from (drop from source) ≡ tokens_from edition at (drop at source)

  -- the list from the first offset on, given the piece at the second
  pub by_next : (source : List ℕ) (from at : ℕ) (p : Piece) → IsGap source from at → p ≡ next_piece edition (drop at source) → tokens_from edition from (drop from source) ≡ tokens_by_piece p at (drop at source) (tokens_from edition)
  by_next source from at p g e = g.same ∙ by_piece at (drop at source) ∙ ap (λ q. tokens_by_piece q at (drop at source) (tokens_from edition)) (sym e)

  pub wider : (source : List ℕ) (from at n : ℕ) → IsGap source from at
      → pieces.Skip n ≡ next_piece edition (drop at source) → IsGap source from (at + n)
  wider source from at n g e =
      let h = g.within in
      let w = within_piece edition source at (pieces.Skip n) g.within e in
      let there : tokens_from edition (at + n) (drop n (drop at source)) ≡ tokens_from edition (at + n) (drop (at + n) source) = rw drop-drop refl in
      record { within = omega (arith, w, h); same = by_next source from at (pieces.Skip n) g e ∙ there }

  pub token_next : (source : List ℕ) (from at n : ℕ) (word : Word) → IsGap source from at → pieces.Take n word ≡ next_piece edition (drop at source) → (tokens_from edition from (drop from source) ≡ record { at = at; word = word } ∷ tokens_from edition (at + n) (drop (at + n) source)) × (at + n ≤ length source)
  token_next source from at n word g e =
      let h = g.within in
      let w = within_piece edition source at (pieces.Take n word) g.within e in
      let there : tokens_from edition (at + n) (drop n (drop at source)) ≡ tokens_from edition (at + n) (drop (at + n) source) = rw drop-drop refl in
      (by_next source from at (pieces.Take n word) g e ∙ ap (λ list. record { at = at; word = word } ∷ list) there, omega (arith, w, h))
