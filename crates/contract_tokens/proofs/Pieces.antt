-- The piece that is read at the start of a source is what the source begins with.
use Rattle.std.proofs.Common.{◌≡◌, ◌≢◌, ℕ, ◌+◌, ◌-◌, ◌*◌, ◌^◌, ◌≤◌, ◌<◌, Bool, true, false, cond, not, ◌==◌, List, [], ◌∷◌, ◌++◌, length, get_or, drop, Option, Some, None, Result, Ok, Err, inl, inr, sym, ap, subst, refl, ◌∙◌, arith, append_assoc}
use Rattle.std.specs.Prelude.{nat_lt, take_while, decimal, pos}
use Rattle.std.specs.List.{list_all, prefix_len}
use Rattle.std.proofs.lemmas.Bool.{cases_Bool, eqb-true, eqb-false, ltb-true, ltb-false, lt-ltb, cases_lt, cond_both, and_parts, not-false}
use Rattle.std.proofs.lemmas.Bool.Decides.{nat_tests}
use Rattle.std.proofs.lemmas.List.{length-append}
use Rattle.std.proofs.lemmas.List.Sums.{take_while-cons}
use Rattle.std.proofs.lemmas.Fmt.{decimal-digits_value, digits_value-decimal, first_decimal, decimal_digit}
use Rattle.lc_base.specs.NameBytes.{is_letter, is_name_byte, bad_name_byte, IsName}
use Rattle.lc_base.specs.Key.{all_good}
use Rattle.lc_base.specs.Name.{name_of}
use Rattle.lc_base.specs.declared.key.KeyError.{KeyError}
use Rattle.lc_base.specs.declared.key.KeyError.TheVariants as errors
use Rattle.contract_tokens.specs.declared.token.Mark.{Mark}
use Rattle.contract_tokens.specs.declared.token.Mark.TheVariants as marks
use Rattle.contract_tokens.specs.declared.limits.TheConstants.{MAX_LITERAL_BYTES}
use Rattle.contract_tokens.specs.declared.token.Word.{Word}
use Rattle.contract_tokens.specs.declared.token.Word.TheVariants as words
use Rattle.contract_tokens.specs.declared.token.TokenKind.{TokenKind}
use Rattle.contract_tokens.specs.declared.piece.Piece.{Piece}
use Rattle.contract_tokens.specs.declared.piece.Piece.TheVariants as pieces
use Rattle.contract_tokens.specs.Spelling.{spelling, is_of}
use Rattle.contract_tokens.specs.Lexemes.{is_blank, is_digit, newline, quote, hash, IsLineEnd, IsGap, Blank, Comment, in_quotes, IsLiteralBody, IsSpelled, MarkSpelled, NameSpelled, IntSpelled, TextSpelled, IsLexeme, MarkShape, NameShape, IntShape, TextShape, IsLongest, IsRefused, Breaks, NoText, NoToken}
use Rattle.contract_tokens.specs.Pieces.{keyword_of, short_sign, long_sign, short_piece, long_piece, sign_piece, checked_name_piece, word_piece, name_piece, value_from, value_piece, has_leading_zero, number_piece, literal_piece, next_piece}
use Rattle.contract_tokens.proofs.Marks.{first_is, keyword_spelled, keyword_there, keyword_missed, short_spelled, long_spelled, Keyword, Short, Long, written}
use Rattle.contract_tokens.proofs.Runs.{Stops, run, run_of, nothing_more, list_all-append}
use Rattle.contract_tokens.proofs.Shapes.{is_quote, mark_begins, letter_not_digit, letter_not_quote, digit_not_quote, not_both, name_begins, read_on, numerals, decimal_begins, body_unique}
use Rattle.contract_tokens.proofs.Words.{lexeme_nonempty, letter_lexeme, digit_lexeme, quote_lexeme, is_signs, sign_lexeme}
use Rattle.contract_tokens.proofs.Literals.{IsRead, read_is}

module _ (edition : ℕ) where
  -- what a piece says about the prefix of the bytes
  abbrev pub IsPieceOf : List ℕ → Piece → Type 0
  IsPieceOf bytes pieces.End = bytes ≡ []
  IsPieceOf bytes (pieces.Skip n) =
      (gap rest : List ℕ) × (bytes ≡ gap ++ rest) × (length gap ≡ n) × IsGap gap rest
  IsPieceOf bytes (pieces.Take n word) = (prefix rest : List ℕ) × (bytes ≡ prefix ++ rest) × (length prefix ≡ n) × IsLongest prefix rest × IsSpelled edition prefix word
  IsPieceOf bytes (pieces.Bad kind) = IsRefused edition bytes kind

  -- ---- gaps

  line_end : (rest : List ℕ) → Stops (λ byte. not (byte == newline)) rest → IsLineEnd rest
  line_end [] s = tt
  line_end (byte ∷ rest) s = eqb-true byte newline (not-false (byte == newline) s)

  comment_is : (rest : List ℕ) → IsPieceOf (hash ∷ rest) (pieces.Skip (prefix_len (λ byte. not (byte == newline)) (hash ∷ rest)))
  comment_is rest =
      let test : ℕ → Bool = λ byte. not (byte == newline) in
      let r = run test rest in
      let line = take_while test rest in
      let counted = (run_of test (hash ∷ line) r.0 r.1.passes r.1.stops).1 in
      (hash ∷ line, r.0, ap (λ l. hash ∷ l) r.1.parts, sym counted ∙ ap (λ l. prefix_len test (hash ∷ l)) (sym r.1.parts), Comment line r.0 r.1.passes (line_end r.0 r.1.stops))

  -- ---- runs

  -- A run is the longest lexeme if every lexeme that begins as it does passes the test.
  pub run_longest : (test first : ℕ → Bool) → ((bytes : List ℕ) → IsLexeme bytes → first_is first bytes ≡ true → list_all test bytes ≡ true)
      → (prefix rest : List ℕ) → IsLexeme prefix → first_is first prefix ≡ true → Stops test rest → IsLongest prefix rest
  run_longest test first all prefix rest lexeme begins stops = record {
    lexeme = lexeme;
    longest = λ more after e h.
        nothing_more test rest more after stops e (list_all-append test prefix more (all (prefix ++ more) h (begins_so first prefix more begins))).1;
  }
    where
      begins_so : (first : ℕ → Bool) (prefix more : List ℕ) → first_is first prefix ≡ true
          → first_is first (prefix ++ more) ≡ true
      begins_so first [] more b = cc
      begins_so first (byte ∷ prefix) more b = b

  -- a run that begins with a byte that passes
  run_begins : (test first : ℕ → Bool) (byte : ℕ) (rest : List ℕ) → first byte ≡ true
      → test byte ≡ true → take_while test (byte ∷ rest) ≡ byte ∷ take_while test rest
  run_begins test first byte rest f t = take_while-cons test byte rest ∙ (rw t refl)

  letter_in_name : (byte : ℕ) → is_letter byte ≡ true → is_name_byte byte ≡ true
  letter_in_name byte h = rw h refl

  -- ---- names and keywords

  checked_is : (bytes name : List ℕ) (o : Option ℕ) → all_good errors.Byte bytes o ≡ Ok name
      → (o ≡ None) × (bytes ≡ name)
  checked_is bytes name None e = (refl, cc)
  checked_is bytes name (Some place) e = cc

  name_of_ok : (bytes name : List ℕ) → name_of bytes ≡ Ok name → IsName bytes × (bytes ≡ name)
  name_of_ok bytes name e =
      let P : Result (List ℕ) KeyError → Type 0 = λ r. r ≡ Ok name → IsName bytes × (bytes ≡ name) in
      cond_both (length bytes == 0) _ _ P
      (λ none f. cc)
      (λ some. cond_both (nat_lt 16 (length bytes)) _ _ P
      (λ long f. cc)
      (λ short f. let c = checked_is bytes name (bad_name_byte bytes) f in (
        let at_most = ltb-false 16 (length bytes) short in
            let more : length bytes ≢ 0 = eqb-false (length bytes) 0 some in
            record { some = omega arith; short = at_most; good = c.0 },
        c.1,
      )))
      e

  name_of_name : (bytes : List ℕ) → IsName bytes → name_of bytes ≡ Ok bytes
  name_of_name bytes is =
      let P : Result (List ℕ) KeyError → Type 0 = λ r. r ≡ Ok bytes in
      cond_both (length bytes == 0) _ _ P
      (λ none. absurd (let e = eqb-true (length bytes) 0 none in omega (arith, is.some)))
      (λ some. cond_both (nat_lt 16 (length bytes)) _ _ P
      (λ long. absurd (let e = ltb-true 16 (length bytes) long in omega (arith, is.short)))
      (λ short. ap (all_good errors.Byte bytes) is.good))

  -- a run that begins with a letter and is no name spells no word
  no_word : (run : List ℕ) → first_is is_letter run ≡ true → keyword_of edition run ≡ None
      → (error : KeyError) → name_of run ≡ Err error → (word : Word) → IsSpelled edition run word
      → ⊥
  no_word _ l k error e _ (MarkSpelled mark of) = keyword_missed edition mark of l k
  no_word _ l k error e _ (NameSpelled name is free) = let f = name_of_name name is in cc
  no_word _ l k error e _ (IntSpelled n h) =
      not_both is_letter is_digit letter_not_digit (decimal n) l (decimal_begins n h)
  no_word _ l k error e _ (TextSpelled body text t s) = cc

  named_is : (run rest : List ℕ) → IsLongest run rest → first_is is_letter run ≡ true
      → keyword_of edition run ≡ None → (r : Result (List ℕ) KeyError) → name_of run ≡ r
      → IsPieceOf (run ++ rest) (checked_name_piece run r)
  named_is run rest longest l k (Ok name) e =
      let n = name_of_ok run name e in
      let free : (mark : Mark) → is_of edition mark ≡ true → spelling mark ≢ run = λ mark of f. keyword_missed edition mark of (ap (first_is is_letter) f ∙ l) (ap (keyword_of edition) f ∙ k) in
      (run, rest, refl, refl, longest, (let P : List ℕ → Type 0 = λ w. IsSpelled edition run (words.Name w) in subst P n.1 (NameSpelled run n.0 free)))
  named_is run rest longest l k (Err error) e = Breaks run rest longest (no_word run l k error e)

  word_is : (run rest : List ℕ) → IsLongest run rest → first_is is_letter run ≡ true
      → (o : Option Mark) → keyword_of edition run ≡ o → IsPieceOf (run ++ rest) (word_piece run o)
  word_is run rest longest l (Some mark) e = (run, rest, refl, refl, longest, (let P : List ℕ → Type 0 = λ w. IsSpelled edition w (words.Mark mark) in subst P (keyword_spelled edition run mark e) (MarkSpelled mark (keyword_there edition run mark e))))
  word_is run rest longest l None e = named_is run rest longest l e (name_of run) refl

  name_is : (byte : ℕ) (rest : List ℕ) → is_letter byte ≡ true
      → IsPieceOf (byte ∷ rest) (name_piece edition (take_while is_name_byte (byte ∷ rest)))
  unfolding name_piece
  name_is byte rest l =
      let r = run is_name_byte (byte ∷ rest) in
      let prefix = take_while is_name_byte (byte ∷ rest) in
      let more = take_while is_name_byte rest in
      let begins : prefix ≡ byte ∷ more = run_begins is_name_byte is_letter byte rest l (letter_in_name byte l) in
      let first : first_is is_letter prefix ≡ true = ap (first_is is_letter) begins ∙ l in
      let passes : list_all is_name_byte (byte ∷ more) ≡ true = ap (list_all is_name_byte) (sym begins) ∙ r.1.passes in
      let lexeme : IsLexeme prefix = subst IsLexeme (sym begins) (NameShape byte more l (and_parts (is_name_byte byte) (list_all is_name_byte more) passes).1) in
      let longest = run_longest is_name_byte is_letter letter_lexeme prefix r.0 lexeme first r.1.stops in
      let P : List ℕ → Type 0 = λ bytes. IsPieceOf bytes (name_piece edition prefix) in
      subst P (sym r.1.parts) (word_is prefix r.0 longest first (keyword_of edition prefix) refl)

  -- ---- numbers

  read_on_grows : (bytes : List ℕ) (n : ℕ) → n ≤ read_on n bytes
  read_on_grows [] n = omega arith
  read_on_grows (byte ∷ more) n =
      let h = read_on_grows more (10 * n + (byte - 48)) in omega (arith, h)

  value_read : (bytes : List ℕ) (n value : ℕ) → value_from n bytes ≡ Some value
      → (read_on n bytes ≡ value) × (n < 2 ^ 63 → value < 2 ^ 63)
  unfolding value_from
  value_read [] n value e = (cc, λ h. let f : n ≡ value = cc in omega arith)
  value_read (byte ∷ more) n value e =
      let next = 10 * n + (byte - 48) in
      elim (cases_Bool (nat_lt next (2 ^ 63))) [
        | inl h ↦ (let f = subst (λ b. cond b (value_from next more) None ≡ Some value) h e in let r = value_read more next value f in (r.0, λ _. r.1 (ltb-true next (2 ^ 63) h)))
        | inr h ↦ (let f : None ≡ Some value = subst (λ b. cond b (value_from next more) None ≡ Some value) h e in cc)
      ]

  value_small : (bytes : List ℕ) (n : ℕ) → read_on n bytes < 2 ^ 63
      → value_from n bytes ≡ Some (read_on n bytes)
  unfolding value_from
  value_small [] n h = refl
  value_small (byte ∷ more) n h =
      let next = 10 * n + (byte - 48) in
      let grows = read_on_grows more next in
      rw (lt-ltb next (2 ^ 63) (omega (arith, grows, h))) (value_small more next h)

  -- digits spell no word if their value is too large or they have a leading 0
  no_number : (run : List ℕ) → first_is is_digit run ≡ true
      → ((n : ℕ) → n < 2 ^ 63 → decimal n ≡ run → ⊥) → (word : Word) → IsSpelled edition run word
      → ⊥
  no_number _ d not_one _ (MarkSpelled mark of) = let f = (mark_begins mark).0 in cc
  no_number _ d not_one _ (NameSpelled name is free) =
      not_both is_letter is_digit letter_not_digit name (name_begins name is) d
  no_number _ d not_one _ (IntSpelled n h) = not_one n h refl
  no_number _ d not_one _ (TextSpelled body text t s) = cc

  -- the decimal text of a number has no leading 0
  no_leading_zero : (n : ℕ) → n < 2 ^ 63 → (run : List ℕ) → decimal n ≡ run
      → has_leading_zero run ≡ true → ⊥
  no_leading_zero n h [] e z = cc
  no_leading_zero n h (byte ∷ []) e z = cc
  no_leading_zero n h (byte ∷ next ∷ more) e z =
      let zero_first : byte ≡ 48 = eqb-true byte 48 z in
      elim (cases_lt 0 n) [
        | inl some ↦ (let f = first_decimal n some (omega arith) in let g : get_or (decimal n) 0 0 ≡ byte = ap (λ l. get_or l 0 0) e in omega arith)
        | inr none ↦ (let m : n ≡ 0 = omega arith in let f : decimal 0 ≡ byte ∷ next ∷ more = ap decimal (sym m) ∙ e in let g : 48 ∷ [] ≡ byte ∷ next ∷ more = sym (decimal_digit 0 (omega arith)) ∙ f in cc)
      ]

  one_zero : (run : List ℕ) → has_leading_zero run ≡ false → get_or run 0 0 ≡ 48 → 0 < length run
      → length run ≡ 1
  one_zero [] z f some = absurd (omega arith)
  one_zero (byte ∷ []) z f some = refl
  one_zero (byte ∷ next ∷ more) z f some = absurd (eqb-false byte 48 z f)

  value_is : (run rest : List ℕ) → IsLongest run rest → first_is is_digit run ≡ true
      → list_all is_digit run ≡ true → 0 < length run → has_leading_zero run ≡ false
      → (o : Option ℕ) → value_from 0 run ≡ o → IsPieceOf (run ++ rest) (value_piece run o)
  value_is run rest longest d all some z (Some n) e =
      let r = value_read run 0 n e in
      let small : n < 2 ^ 63 = r.1 (omega arith) in
      let is : decimal (read_on 0 run) ≡ run = decimal-digits_value numerals run all some (λ f. one_zero run z f some) (rw r.0 (omega arith)) in
      let is_n : decimal n ≡ run = ap decimal (sym r.0) ∙ is in
      (run, rest, refl, refl, longest, (let P : List ℕ → Type 0 = λ w. IsSpelled edition w (words.Int (pos n)) in subst P is_n (IntSpelled n small)))
  value_is run rest longest d all some z None e =
      Breaks run rest longest (no_number run d (λ n h f.
      let value : read_on 0 (decimal n) ≡ n = digits_value-decimal numerals n (omega arith) in
      let g : value_from 0 (decimal n) ≡ Some (read_on 0 (decimal n)) = value_small (decimal n) 0 (omega arith) in
      let k : value_from 0 (decimal n) ≡ None = ap (value_from 0) f ∙ e in cc))

  some_from_first : (p : ℕ → Bool) (bytes : List ℕ) → first_is p bytes ≡ true → 0 < length bytes
  some_from_first p [] e = cc
  some_from_first p (byte ∷ more) e = omega arith

  number_is : (byte : ℕ) (rest : List ℕ) → is_digit byte ≡ true
      → IsPieceOf (byte ∷ rest) (number_piece (take_while is_digit (byte ∷ rest)))
  unfolding number_piece
  number_is byte rest d =
      let r = run is_digit (byte ∷ rest) in
      let prefix = take_while is_digit (byte ∷ rest) in
      let more = take_while is_digit rest in
      let begins : prefix ≡ byte ∷ more = run_begins is_digit is_digit byte rest d d in
      let first : first_is is_digit prefix ≡ true = ap (first_is is_digit) begins ∙ d in
      let passes : list_all is_digit (byte ∷ more) ≡ true = ap (list_all is_digit) (sym begins) ∙ r.1.passes in
      let lexeme : IsLexeme prefix = subst IsLexeme (sym begins) (IntShape byte more d (and_parts (is_digit byte) (list_all is_digit more) passes).1) in
      let longest = run_longest is_digit is_digit digit_lexeme prefix r.0 lexeme first r.1.stops in
      let P : List ℕ → Type 0 = λ bytes. IsPieceOf bytes (number_piece prefix) in
      subst P (sym r.1.parts) (cond_both (has_leading_zero prefix) _ _ (IsPieceOf (prefix ++ r.0))
      (λ z. Breaks prefix r.0 longest (no_number prefix first (λ n h f. no_leading_zero n h prefix f z)))
      (λ z. value_is prefix r.0 longest first r.1.passes (some_from_first is_digit prefix first) z (value_from 0 prefix) refl))

  -- ---- text literals

  -- a word that begins with a quote is a text literal
  data IsQuotedWord (bytes : List ℕ) (word : Word) : Type 0 where
    Quoted : (body text : List ℕ) → bytes ≡ in_quotes body → IsLiteralBody body text
        → length text ≤ MAX_LITERAL_BYTES → word ≡ words.Text text → IsQuotedWord bytes word

  quoted_word : (bytes : List ℕ) (word : Word) → IsSpelled edition bytes word
      → first_is is_quote bytes ≡ true → IsQuotedWord bytes word
  quoted_word _ _ (MarkSpelled mark of) q = absurd (let f = (mark_begins mark).1 in cc)
  quoted_word _ _ (NameSpelled name is free) q =
      absurd (not_both is_letter is_quote letter_not_quote name (name_begins name is) q)
  quoted_word _ _ (IntSpelled n h) q =
      absurd (not_both is_digit is_quote digit_not_quote (decimal n) (decimal_begins n h) q)
  quoted_word _ _ (TextSpelled body text t s) q = Quoted body text refl t s refl

  pub first_of_parts : (p : ℕ → Bool) (prefix rest bytes : List ℕ) → (prefix ≡ [] → ⊥)
      → bytes ≡ prefix ++ rest → first_is p prefix ≡ first_is p bytes
  first_of_parts p [] rest bytes some e = absurd (some refl)
  first_of_parts p (byte ∷ prefix) rest bytes some e = ap (first_is p) (sym e)

  quoted_parts : (body after : List ℕ) → quote ∷ (body ++ quote ∷ after) ≡ in_quotes body ++ after
  quoted_parts body after = ap (λ l. quote ∷ l) (simp append_assoc)

  pub quoted_longest : (body text after : List ℕ) → IsLiteralBody body text
      → IsLongest (in_quotes body) after
  quoted_longest body text after h = record {
    lexeme = TextShape body text h;
    longest = λ more after e lexeme.
        let q = quote_lexeme (in_quotes body ++ more) lexeme refl in
        let f : body ++ quote ∷ more ≡ q.0 ++ quote ∷ [] = ap (drop 1) (quoted_parts body more ∙ q.2.is) in
        (body_unique body text more q.0 q.1 [] h q.2.means f).2;
  }

  literal_is : (rest : List ℕ) (p : Piece) → IsRead false [] 0 rest p → IsPieceOf (quote ∷ rest) p
  literal_is rest pieces.End r = absurd r
  literal_is rest (pieces.Skip n) r = absurd r
  literal_is rest (pieces.Take n word) (body, text, after, m, w, closed) =
      (let P : Word → Type 0 = λ v. IsSpelled edition (in_quotes body) v in
      (in_quotes body, after, ap (λ l. quote ∷ l) closed.parts ∙ quoted_parts body after, simp length-append (omega (arith, m)), quoted_longest body text after closed.means, subst P (sym w) (TextSpelled body text closed.means closed.short)))
  literal_is rest (pieces.Bad kind) (same, unclosed) =
      (let P : TokenKind → Type 0 = λ k. IsRefused edition (quote ∷ rest) k in
      subst P (sym same) (NoText rest (λ prefix after word e spelled.
      let first : first_is is_quote prefix ≡ true = first_of_parts is_quote prefix after (quote ∷ rest) (spelled_nonempty prefix word spelled) e in
      elim (quoted_word prefix word spelled first) [
        | Quoted body text f h s v ↦ (let g : rest ≡ body ++ quote ∷ after = ap (drop 1) (e ∙ ap (λ l. l ++ after) f ∙ sym (quoted_parts body after)) in let l = unclosed body text after g h in omega (arith, l, s))
      ])))
    where
      spelled_nonempty : (bytes : List ℕ) (word : Word) → IsSpelled edition bytes word → bytes ≡ []
          → ⊥
      spelled_nonempty _ _ (MarkSpelled mark of) e =
          lexeme_nonempty (spelling mark) (MarkShape mark) e
      spelled_nonempty _ _ (NameSpelled name is free) e = omega (arith, is.some, ap length e)
      spelled_nonempty _ _ (IntSpelled n h) e = let f = decimal_begins n h in let g : first_is is_digit (decimal n) ≡ false = ap (first_is is_digit) e in cc
      spelled_nonempty _ _ (TextSpelled body text t s) e = cc

  -- ---- signs

  -- no sign of two bytes begins so
  abbrev HasNoLong : ℕ → List ℕ → Type 0
  HasNoLong byte rest =
      (next : ℕ) (after : List ℕ) → rest ≡ next ∷ after → long_sign byte next ≡ None

  signs_no_letter : (byte : ℕ) → is_signs byte ≡ true → is_letter byte ≡ false
  signs_no_letter byte o = grind arith

  -- what is spelled from such a byte on is a sign of one byte or two
  pub data IsSign (byte : ℕ) (more : List ℕ) : Type 0 where
    OneByte : (mark : Mark) → more ≡ [] → short_sign byte ≡ Some mark → IsSign byte more
    TwoBytes : (mark : Mark) (next : ℕ) → more ≡ next ∷ [] → long_sign byte next ≡ Some mark
        → IsSign byte more

  pub sign_of : (byte : ℕ) (more : List ℕ) → is_signs byte ≡ true → IsLexeme (byte ∷ more)
      → IsSign byte more
  sign_of byte more s lexeme =
      let m = sign_lexeme (byte ∷ more) lexeme s in
      elim (written m.0) [
        | Keyword l h ↦ absurd (let f = ap (first_is is_letter) m.1 in let g = signs_no_letter byte s in cc)
        | Short a e h o ↦ (let f : a ∷ [] ≡ byte ∷ more = sym e ∙ m.1 in let same : a ≡ byte = cc in OneByte m.0 (let g : [] ≡ more = cc in sym g) (ap short_sign (sym same) ∙ h))
        | Long a b e h o ↦ (let f : a ∷ b ∷ [] ≡ byte ∷ more = sym e ∙ m.1 in let same : a ≡ byte = cc in TwoBytes m.0 b (let g : b ∷ [] ≡ more = cc in sym g) (ap (λ c. long_sign c b) (sym same) ∙ h))
      ]

  -- a nonempty prefix, given the first byte of the whole
  data IsBegun (byte : ℕ) (rest prefix after : List ℕ) : Type 0 where
    Begun : (more : List ℕ) → prefix ≡ byte ∷ more → rest ≡ more ++ after
        → IsBegun byte rest prefix after

  begun_by : (byte : ℕ) (rest prefix after : List ℕ) → (prefix ≡ [] → ⊥)
      → byte ∷ rest ≡ prefix ++ after → IsBegun byte rest prefix after
  begun_by byte rest [] after some e = absurd (some refl)
  begun_by byte rest (c ∷ more) after some e =
      (let same : c ≡ byte = cc in Begun more (ap (λ d. d ∷ more) same) cc)

  -- each edition has each sign
  short_there : (byte : ℕ) (mark : Mark) → short_sign byte ≡ Some mark → is_of edition mark ≡ true
  unfolding short_sign
  short_there byte marks.Drop e = absurd (grind (arith, nat_tests, e))
  short_there byte _ e = refl

  long_there : (byte next : ℕ) (mark : Mark) → long_sign byte next ≡ Some mark
      → is_of edition mark ≡ true
  unfolding long_sign
  long_there byte next marks.Drop e = absurd (grind (arith, nat_tests, e))
  long_there byte next _ e = refl

  short_is : (byte : ℕ) (rest : List ℕ) → is_signs byte ≡ true → is_blank byte ≡ false → byte ≢ hash
      → byte ≢ quote → HasNoLong byte rest → (o : Option Mark) → short_sign byte ≡ o
      → IsPieceOf (byte ∷ rest) (short_piece o)
  short_is byte rest s b h q long (Some mark) e =
      let spelled : spelling mark ≡ byte ∷ [] = short_spelled byte mark e in
      let P : List ℕ → Type 0 = λ w. IsSpelled edition w (words.Mark mark) in (
        byte ∷ [],
        rest,
        refl,
        refl,
        record {
          lexeme = subst IsLexeme spelled (MarkShape mark);
          longest = λ more after f lexeme.
              elim (sign_of byte more s lexeme) [
                | OneByte m g k ↦ g
                | TwoBytes m next g k ↦ absurd (let n = long next after (f ∙ ap (λ l. l ++ after) g) in cc)
              ];
        },
        subst P spelled (MarkSpelled mark (short_there byte mark e)),
      )
  short_is byte rest s b h q long None e =
      NoToken byte rest b h q (λ prefix after f lexeme.
      elim (begun_by byte rest prefix after (lexeme_nonempty prefix lexeme) f) [
        | Begun more g k ↦ (
            elim (sign_of byte more s (subst IsLexeme g lexeme)) [
              | OneByte m i j ↦ (let n = e in cc)
              | TwoBytes m next i j ↦ (let n = long next after (k ∙ ap (λ l. l ++ after) i) in cc)
            ])
      ])

  long_is : (byte next : ℕ) (rest : List ℕ) → is_signs byte ≡ true → is_blank byte ≡ false
      → byte ≢ hash → byte ≢ quote → (o : Option Mark) → long_sign byte next ≡ o
      → IsPieceOf (byte ∷ next ∷ rest) (long_piece byte o)
  long_is byte next rest s b h q (Some mark) e =
      let spelled : spelling mark ≡ byte ∷ next ∷ [] = long_spelled byte next mark e in
      let P : List ℕ → Type 0 = λ w. IsSpelled edition w (words.Mark mark) in (
        byte ∷ next ∷ [],
        rest,
        refl,
        refl,
        record {
          lexeme = subst IsLexeme spelled (MarkShape mark);
          longest = λ more after f lexeme.
              elim (sign_of byte (next ∷ more) s lexeme) [
                | OneByte m g k ↦ cc
                | TwoBytes m other g k ↦ (let i : more ≡ [] = cc in i)
              ];
        },
        subst P spelled (MarkSpelled mark (long_there byte next mark e)),
      )
  long_is byte next rest s b h q None e =
      short_is byte (next ∷ rest) s b h q (λ other after f. (let same : next ≡ other = cc in ap (long_sign byte) (sym same) ∙ e)) (short_sign byte) refl

  sign_is : (byte : ℕ) (rest : List ℕ) → is_signs byte ≡ true → is_blank byte ≡ false → byte ≢ hash
      → byte ≢ quote → IsPieceOf (byte ∷ rest) (sign_piece byte rest)
  sign_is byte [] s b h q = short_is byte [] s b h q (λ next after f. cc) (short_sign byte) refl
  sign_is byte (next ∷ rest) s b h q = long_is byte next rest s b h q (long_sign byte next) refl

  -- ---- all pieces

  pub next_piece_is : (bytes : List ℕ) → IsPieceOf bytes (next_piece edition bytes)
  unfolding next_piece
  next_piece_is [] = refl
  next_piece_is (byte ∷ rest) =
      let P : Piece → Type 0 = IsPieceOf (byte ∷ rest) in
      cond_both (is_blank byte) _ _ P
      (λ b. (byte ∷ [], rest, refl, refl, Blank byte rest b))
      (λ b. cond_both (byte == hash) _ _ P
      (λ h. let same : hash ≡ byte = sym (eqb-true byte hash h) in subst (λ c. IsPieceOf (c ∷ rest) (pieces.Skip (prefix_len (λ d. not (d == newline)) (c ∷ rest)))) same (comment_is rest))
      (λ h. cond_both (is_letter byte) _ _ P
      (λ l. name_is byte rest l)
      (λ l. cond_both (is_digit byte) _ _ P
      (λ d. number_is byte rest d)
      (λ d. cond_both (byte == quote) _ _ P
      (λ q. let same : quote ≡ byte = sym (eqb-true byte quote q) in subst (λ c. IsPieceOf (c ∷ rest) (literal_piece false [] 0 rest)) same (literal_is rest _ (read_is rest false [] 0 (omega arith))))
      (λ q. sign_is byte rest (rw (l, d, q) refl) b (eqb-false byte hash h) (eqb-false byte quote q))))))
