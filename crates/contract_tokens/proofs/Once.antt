-- The start of a source is one piece and no other.
use Rattle.std.proofs.Common.{◌≡◌, ℕ, Bool, true, false, not, ◌==◌, List, [], ◌∷◌, ◌++◌, length, sym, ap, subst, refl, ◌∙◌}
use Rattle.std.specs.Prelude.{take_while}
use Rattle.std.proofs.lemmas.Bool.{eq-eqb, ne_eqb, or_from, not_from_true}
use Rattle.std.proofs.lemmas.List.{append-nil}
use Rattle.contract_tokens.specs.declared.token.Word.{Word}
use Rattle.contract_tokens.specs.declared.token.TokenKind.{TokenKind}
use Rattle.contract_tokens.specs.declared.piece.Piece.{Piece}
use Rattle.contract_tokens.specs.declared.piece.Piece.TheVariants as pieces
use Rattle.contract_tokens.specs.Lexemes.{is_blank, newline, quote, hash, IsLineEnd, IsGap, Blank, Comment, IsSpelled, IsLexeme, IsLongest, IsRefused, Breaks, NoText, NoToken}
use Rattle.contract_tokens.specs.Pieces.{next_piece}
use Rattle.contract_tokens.proofs.Marks.{first_is}
use Rattle.contract_tokens.proofs.Runs.{Stops, run_of, compared, Longer, Shorter}
use Rattle.contract_tokens.proofs.Shapes.{begins_gap}
use Rattle.contract_tokens.proofs.Words.{begins_something, lexeme_nonempty, spelled_once}
use Rattle.contract_tokens.proofs.Pieces.{IsPieceOf, next_piece_is, first_of_parts}

module _ (edition : ℕ) where
  -- ---- gaps

  gap_begins : (gap rest : List ℕ) → IsGap gap rest → first_is begins_gap gap ≡ true
  gap_begins _ _ (Blank byte rest b) = rw b refl
  gap_begins _ _ (Comment text rest h e) = refl

  stops_at_end : (rest : List ℕ) → IsLineEnd rest → Stops (λ byte. not (byte == newline)) rest
  stops_at_end [] e = tt
  stops_at_end (byte ∷ rest) e = not_from_true (byte == newline) (eq-eqb byte newline e)

  gap_same : (a b c d : List ℕ) → a ++ c ≡ b ++ d → IsGap a c → IsGap b d → a ≡ b
  gap_same _ _ _ _ e (Blank byte rest b) (Blank other after c) =
      (let same : byte ≡ other = cc in ap (λ x. x ∷ []) same)
  gap_same _ _ _ _ e (Blank byte rest b) (Comment text after h l) =
      absurd (let same : byte ≡ hash = cc in let f = ap is_blank same in cc)
  gap_same _ _ _ _ e (Comment text after h l) (Blank byte rest b) =
      absurd (let same : hash ≡ byte = cc in let f = ap is_blank same in cc)
  gap_same _ _ _ _ e (Comment text rest h l) (Comment more after k m) =
      let test : ℕ → Bool = λ byte. not (byte == newline) in
      let same : text ++ rest ≡ more ++ after = cc in
      let f : take_while test (text ++ rest) ≡ text = (run_of test text rest h (stops_at_end rest l)).0 in
      let g : take_while test (more ++ after) ≡ more = (run_of test more after k (stops_at_end after m)).0 in
      ap (λ x. hash ∷ x) (sym f ∙ ap (take_while test) same ∙ g)

  -- ---- tokens

  pub longest_once : (a b c d : List ℕ) → a ++ c ≡ b ++ d → IsLongest a c → IsLongest b d → a ≡ b
  longest_once a b c d e h k =
      elim (compared a b c d e) [
        | Longer more p q ↦ (let n = h.longest more d q (subst IsLexeme p k.lexeme) in sym (p ∙ ap (λ x. a ++ x) n ∙ append-nil a))
        | Shorter more p q ↦ (let n = k.longest more c q (subst IsLexeme p h.lexeme) in p ∙ ap (λ x. b ++ x) n ∙ append-nil b)
      ]

  -- ---- bytes that no gap begins

  abbrev NoGap : List ℕ → Type 0
  NoGap bytes = (first_is begins_gap bytes ≡ true → ⊥) × (bytes ≡ [] → ⊥)

  prefix_nonempty : (prefix rest bytes : List ℕ) → bytes ≡ prefix ++ rest → (prefix ≡ [] → ⊥)
      → bytes ≡ [] → ⊥
  prefix_nonempty [] rest bytes e some f = some refl
  prefix_nonempty (byte ∷ prefix) rest bytes e some f = cc

  lexeme_no_gap : (prefix rest bytes : List ℕ) → bytes ≡ prefix ++ rest → IsLexeme prefix
      → NoGap bytes
  lexeme_no_gap prefix rest bytes e lexeme =
      let some = lexeme_nonempty prefix lexeme in
      (λ g. begins_something prefix lexeme (first_of_parts edition begins_gap prefix rest bytes some e ∙ g), prefix_nonempty prefix rest bytes e some)

  refused_no_gap : (bytes : List ℕ) (kind : TokenKind) → IsRefused edition bytes kind → NoGap bytes
  refused_no_gap _ _ (Breaks prefix rest longest none) =
      lexeme_no_gap prefix rest (prefix ++ rest) refl longest.lexeme
  refused_no_gap _ _ (NoText rest none) = (λ g. cc, λ e. cc)
  refused_no_gap _ _ (NoToken byte rest b h q none) = (λ g. (let f : begins_gap byte ≡ false = or_from (is_blank byte) (byte == hash) b (ne_eqb byte hash h) in cc), λ e. cc)

  gap_some : (gap rest bytes : List ℕ) → bytes ≡ gap ++ rest → IsGap gap rest
      → first_is begins_gap bytes ≡ true
  gap_some gap rest bytes e h = sym (first_of_parts edition begins_gap gap rest bytes (λ f. let g = ap (first_is begins_gap) f in let k = gap_begins gap rest h in cc) e) ∙ gap_begins gap rest h

  refused_same : (u v : List ℕ) (k l : TokenKind) → u ≡ v → IsRefused edition u k
      → IsRefused edition v l → k ≡ l
  refused_same _ _ _ _ e (Breaks prefix rest longest none) (Breaks other after longest' none') =
      refl
  refused_same _ _ _ _ e (Breaks prefix rest longest none) (NoText after none') = refl
  refused_same _ _ _ _ e (Breaks prefix rest longest none) (NoToken byte after b h q none') =
      absurd (none' prefix rest (sym e) longest.lexeme)
  refused_same _ _ _ _ e (NoText rest none) (Breaks prefix after longest none') = refl
  refused_same _ _ _ _ e (NoText rest none) (NoText after none') = refl
  refused_same _ _ _ _ e (NoText rest none) (NoToken byte after b h q none') =
      absurd (q (let f : quote ≡ byte = cc in sym f))
  refused_same _ _ _ _ e (NoToken byte rest b h q none) (Breaks prefix after longest none') =
      absurd (none prefix after e longest.lexeme)
  refused_same _ _ _ _ e (NoToken byte rest b h q none) (NoText after none') =
      absurd (q (let f : byte ≡ quote = cc in f))
  refused_same _ _ _ _ e (NoToken byte rest b h q none) (NoToken other after c k r none') = refl

  -- a word at the start is not refused
  spelled_not_refused : (bytes : List ℕ) (kind : TokenKind) (prefix rest : List ℕ) (word : Word)
      → bytes ≡ prefix ++ rest → IsLongest prefix rest → IsSpelled edition prefix word
      → IsRefused edition bytes kind → ⊥
  spelled_not_refused _ _ prefix rest word e longest spelled (Breaks other after longest' none) =
      let same = longest_once prefix other rest after (sym e) longest longest' in
      let P : List ℕ → Type 0 = λ w. IsSpelled edition w word in
      none word (subst P same spelled)
  spelled_not_refused _ _ prefix rest word e longest spelled (NoText after none) =
      none prefix rest word e spelled
  spelled_not_refused _ _ prefix rest word e longest spelled (NoToken byte after b h q none) =
      none prefix rest e longest.lexeme

  pub piece_once : (bytes : List ℕ) (p q : Piece) → IsPieceOf edition bytes p
      → IsPieceOf edition bytes q → p ≡ q
  piece_once bytes pieces.End pieces.End h k = refl
  piece_once bytes pieces.End (pieces.Skip n) h (gap, rest, e, l, g) =
      absurd (let f = gap_some gap rest bytes e g in let i = ap (first_is begins_gap) h in cc)
  piece_once bytes pieces.End (pieces.Take n word) h (prefix, rest, e, l, longest, spelled) =
      absurd ((lexeme_no_gap prefix rest bytes e longest.lexeme).1 h)
  piece_once bytes pieces.End (pieces.Bad kind) h k = absurd ((refused_no_gap bytes kind k).1 h)
  piece_once bytes (pieces.Skip n) pieces.End (gap, rest, e, l, g) k =
      absurd (let f = gap_some gap rest bytes e g in let i = ap (first_is begins_gap) k in cc)
  piece_once bytes (pieces.Skip n) (pieces.Skip m) (gap, rest, e, l, g) (other, after, f, i, k) =
      (let same = gap_same gap other rest after (sym e ∙ f) g k in ap pieces.Skip (sym l ∙ ap length same ∙ i))
  piece_once bytes (pieces.Skip n) (pieces.Take m word) (gap, rest, e, l, g) (prefix, after, f, i, longest, spelled) =
      absurd ((lexeme_no_gap prefix after bytes f longest.lexeme).0 (gap_some gap rest bytes e g))
  piece_once bytes (pieces.Skip n) (pieces.Bad kind) (gap, rest, e, l, g) k =
      absurd ((refused_no_gap bytes kind k).0 (gap_some gap rest bytes e g))
  piece_once bytes (pieces.Take n word) pieces.End (prefix, rest, e, l, longest, spelled) k =
      absurd ((lexeme_no_gap prefix rest bytes e longest.lexeme).1 k)
  piece_once bytes (pieces.Take n word) (pieces.Skip m) (prefix, after, f, i, longest, spelled) (gap, rest, e, l, g) =
      absurd ((lexeme_no_gap prefix after bytes f longest.lexeme).0 (gap_some gap rest bytes e g))
  piece_once bytes (pieces.Take n word) (pieces.Take m other) (prefix, rest, e, l, longest, spelled) (prefix', rest', e', l', longest', spelled') =
      (let same = longest_once prefix prefix' rest rest' (sym e ∙ e') longest longest' in
      let P : List ℕ → Type 0 = λ w. IsSpelled edition w word in
      let said : word ≡ other = spelled_once edition prefix' word other (subst P same spelled) spelled' in
      let count : n ≡ m = sym l ∙ ap length same ∙ l' in cc)
  piece_once bytes (pieces.Take n word) (pieces.Bad kind) (prefix, rest, e, l, longest, spelled) k =
      absurd (spelled_not_refused bytes kind prefix rest word e longest spelled k)
  piece_once bytes (pieces.Bad kind) pieces.End h k = absurd ((refused_no_gap bytes kind h).1 k)
  piece_once bytes (pieces.Bad kind) (pieces.Skip n) h (gap, rest, e, l, g) =
      absurd ((refused_no_gap bytes kind h).0 (gap_some gap rest bytes e g))
  piece_once bytes (pieces.Bad kind) (pieces.Take n word) h (prefix, rest, e, l, longest, spelled) =
      absurd (spelled_not_refused bytes kind prefix rest word e longest spelled h)
  piece_once bytes (pieces.Bad kind) (pieces.Bad other) h k =
      ap pieces.Bad (refused_same bytes bytes kind other refl h k)

  pub next_piece_only : (bytes : List ℕ) (p : Piece) → IsPieceOf edition bytes p
      → next_piece edition bytes ≡ p
  next_piece_only bytes p h =
      piece_once bytes (next_piece edition bytes) p (next_piece_is edition bytes) h
