-- What is read of a text literal is its body, up to the quote that closes it.
use Rattle.std.proofs.Common.{◌≡◌, ◌≢◌, ℕ, ◌+◌, ◌≤◌, ◌<◌, Bool, true, false, ◌||◌, ◌==◌, List, [], ◌∷◌, ◌++◌, length, ◌⊎◌, inl, inr, sym, ap, subst, refl, ◌∙◌, ⊎_elim, arith, append_assoc}
use Rattle.std.proofs.lemmas.Bool.{eqb-true, eqb-false, or_cases, or_parts, ltb-true, ltb-false, cond_both}
use Rattle.std.specs.Prelude.{nat_lt}
use Rattle.std.proofs.lemmas.List.{append-nil, length-append}
use Rattle.lc_base.specs.TextBytes.{is_text_byte}
use Rattle.contract_tokens.specs.declared.limits.TheConstants.{MAX_LITERAL_BYTES}
use Rattle.contract_tokens.specs.declared.token.Word.TheVariants as words
use Rattle.contract_tokens.specs.declared.token.TokenKind.TheVariants as kinds
use Rattle.contract_tokens.specs.declared.literal.LiteralByte.{LiteralByte}
use Rattle.contract_tokens.specs.declared.literal.LiteralByte.TheVariants as meanings
use Rattle.contract_tokens.specs.declared.piece.Piece.{Piece}
use Rattle.contract_tokens.specs.declared.piece.Piece.TheVariants as pieces
use Rattle.contract_tokens.specs.Lexemes.{quote, backslash, IsLiteralBody, Nothing, Plain, EscapedQuote, EscapedBackslash}
use Rattle.contract_tokens.specs.Pieces.{piece_after_byte, literal_piece}

-- a body that is not empty, given its first byte
data IsHead (c : ℕ) (rest said : List ℕ) : Type 0 where
  PlainHead : is_text_byte c ≡ true → c ≢ backslash → (more : List ℕ) → said ≡ c ∷ more → IsLiteralBody rest more → IsHead c rest said
  EscapeHead : c ≡ backslash → (d : ℕ) (tail more : List ℕ) → rest ≡ d ∷ tail → said ≡ d ∷ more → (d ≡ quote) ⊎ (d ≡ backslash) → IsLiteralBody tail more → IsHead c rest said

head_of : (bytes said : List ℕ) → IsLiteralBody bytes said → (c : ℕ) (rest : List ℕ) → bytes ≡ c ∷ rest → IsHead c rest said
head_of _ _ Nothing c rest e = cc
head_of _ _ (Plain byte body text t q k h) c rest e =
    let same : byte ≡ c = cc in
    let P : ℕ → Type 0 = λ b. is_text_byte b ≡ true in
    let Q : ℕ → Type 0 = λ b. b ≢ backslash in
    let R : List ℕ → Type 0 = λ l. IsLiteralBody l text in
    PlainHead (subst P same t) (subst Q same k) text (ap (λ b. b ∷ text) same) (subst R (let f : body ≡ rest = cc in f) h)
head_of _ _ (EscapedQuote body text h) c rest e = EscapeHead (let f : backslash ≡ c = cc in sym f) quote body text (let f : quote ∷ body ≡ rest = cc in sym f) refl (inl refl) h
head_of _ _ (EscapedBackslash body text h) c rest e = EscapeHead (let f : backslash ≡ c = cc in sym f) backslash body text (let f : backslash ∷ body ≡ rest = cc in sym f) refl (inr refl) h

-- a body after a backslash, if one was read
abbrev pub pending : Bool → List ℕ → List ℕ
pending true body = backslash ∷ body
pending false body = body

-- the literal is closed in the rest
pub record IsClosed (escaped : Bool) (text rest body said after : List ℕ) : Type 0 where
  pub parts : rest ≡ body ++ quote ∷ after
  pub means : IsLiteralBody (pending escaped body) said
  pub short : length (text ++ said) ≤ MAX_LITERAL_BYTES

-- no literal is closed in the rest that stands for few enough bytes
abbrev pub IsOpen : Bool → List ℕ → List ℕ → Type 0
IsOpen escaped text rest = (body said after : List ℕ) → rest ≡ body ++ quote ∷ after → IsLiteralBody (pending escaped body) said → MAX_LITERAL_BYTES < length (text ++ said)

-- what reading the rest gives
abbrev pub IsRead : Bool → List ℕ → ℕ → List ℕ → Piece → Type 0
IsRead escaped text count rest pieces.End = ⊥
IsRead escaped text count rest (pieces.Skip n) = ⊥
IsRead escaped text count rest (pieces.Take n word) = (body said after : List ℕ) × (n ≡ count + length body + 2) × (word ≡ words.Text (text ++ said)) × IsClosed escaped text rest body said after
IsRead escaped text count rest (pieces.Bad kind) = (kind ≡ kinds.Literal) × IsOpen escaped text rest

none_closes : (body after : List ℕ) → [] ≡ body ++ quote ∷ after → ⊥
none_closes [] after e = cc
none_closes (c ∷ body) after e = cc

-- the first byte of a body that is closed
first_closes : (byte : ℕ) (rest body after : List ℕ) → byte ∷ rest ≡ body ++ quote ∷ after → ((body ≡ []) × (byte ≡ quote)) ⊎ ((more : List ℕ) × (body ≡ byte ∷ more) × (rest ≡ more ++ quote ∷ after))
first_closes byte rest [] after e = inl (refl, cc)
first_closes byte rest (c ∷ body) after e = inr (body, (let f : byte ≡ c = cc in ap (λ b. b ∷ body) (sym f)), cc)

longer : (text more : List ℕ) (byte : ℕ) → length (text ++ byte ∷ more) ≡ length text + 1 + length more
longer text more byte = simp length-append (omega arith)

-- one more byte, which means itself
meant : (p : Piece) (text rest : List ℕ) (byte count : ℕ) → is_text_byte byte ≡ true → byte ≢ quote → byte ≢ backslash → IsRead false (text ++ byte ∷ []) (count + 1) rest p → IsRead false text count (byte ∷ rest) p
meant pieces.End text rest byte count t q k h = h
meant (pieces.Skip n) text rest byte count t q k h = h
meant (pieces.Take n word) text rest byte count t q k (body, said, after, m, w, closed) = (
  byte ∷ body,
  byte ∷ said,
  after,
  omega (arith, m),
  rw append_assoc at w,
  record {
    parts = ap (λ l. byte ∷ l) closed.parts;
    means = Plain byte body said t q k closed.means;
    short = rw append_assoc at closed.short;
  },
)
meant (pieces.Bad kind) text rest byte count t q k (same, unclosed) = (
  same,
  λ body said after e h.
      elim (first_closes byte rest body after e) [
        | inl p ↦ absurd (q p.1)
        | inr (more, f, g) ↦ (
            elim (head_of body said h byte more f) [
              | PlainHead u v tail s i ↦ (let l = unclosed more tail after g i in rw s (rw append_assoc at l))
              | EscapeHead u d tail after r s o i ↦ absurd (k u)
            ])
      ],
)

-- one more byte, which is escaped
escaped_body : (byte : ℕ) (body said : List ℕ) → (byte ≡ quote) ⊎ (byte ≡ backslash) → IsLiteralBody body said → IsLiteralBody (backslash ∷ byte ∷ body) (byte ∷ said)
escaped_body byte body said (inl e) h = (let P : ℕ → Type 0 = λ b. IsLiteralBody (backslash ∷ b ∷ body) (b ∷ said) in subst P (sym e) (EscapedQuote body said h))
escaped_body byte body said (inr e) h = (let P : ℕ → Type 0 = λ b. IsLiteralBody (backslash ∷ b ∷ body) (b ∷ said) in subst P (sym e) (EscapedBackslash body said h))

-- the body after an escape, if the rest closes
record IsEscape (byte : ℕ) (rest body said after : List ℕ) : Type 0 where
  tail : List ℕ
  more : List ℕ
  parts : rest ≡ tail ++ quote ∷ after
  says : said ≡ byte ∷ more
  known : (byte ≡ quote) ⊎ (byte ≡ backslash)
  means : IsLiteralBody tail more

escape_of : (byte : ℕ) (rest body said after : List ℕ) → byte ∷ rest ≡ body ++ quote ∷ after → IsLiteralBody (backslash ∷ body) said → IsEscape byte rest body said after
escape_of byte rest body said after e h =
    elim (head_of (backslash ∷ body) said h backslash body refl) [
      | PlainHead u v more s i ↦ absurd (v refl)
      | EscapeHead u d tail more r s o i ↦ (
          let f : byte ∷ rest ≡ d ∷ (tail ++ quote ∷ after) = e ∙ ap (λ l. l ++ quote ∷ after) r in
          let same : byte ≡ d = cc in
          let P : ℕ → Type 0 = λ b. (b ≡ quote) ⊎ (b ≡ backslash) in
          record { tail = tail; more = more; parts = cc; says = (let g = s in cc); known = subst P (sym same) o; means = i })
    ]

escape_meant : (p : Piece) (text rest : List ℕ) (byte count : ℕ) → (byte ≡ quote) ⊎ (byte ≡ backslash) → IsRead false (text ++ byte ∷ []) (count + 1) rest p → IsRead true text count (byte ∷ rest) p
escape_meant pieces.End text rest byte count o h = h
escape_meant (pieces.Skip n) text rest byte count o h = h
escape_meant (pieces.Take n word) text rest byte count o (body, said, after, m, w, closed) = (
  byte ∷ body,
  byte ∷ said,
  after,
  omega (arith, m),
  rw append_assoc at w,
  record {
    parts = ap (λ l. byte ∷ l) closed.parts;
    means = escaped_body byte body said o closed.means;
    short = rw append_assoc at closed.short;
  },
)
escape_meant (pieces.Bad kind) text rest byte count o (same, unclosed) = (
  same,
  λ body said after e h.
      let x = escape_of byte rest body said after e h in
      let l = unclosed x.tail x.more after x.parts x.means in
      rw x.says (rw append_assoc at l),
)

-- a backslash
escape_begun : (p : Piece) (text rest : List ℕ) (byte count : ℕ) → byte ≡ backslash → IsRead true text (count + 1) rest p → IsRead false text count (byte ∷ rest) p
escape_begun pieces.End text rest byte count e h = h
escape_begun (pieces.Skip n) text rest byte count e h = h
escape_begun (pieces.Take n word) text rest byte count e (body, said, after, m, w, closed) =
    (let P : ℕ → Type 0 = λ b. IsLiteralBody (b ∷ body) said in
    (byte ∷ body, said, after, omega (arith, m), w, record { parts = ap (λ l. byte ∷ l) closed.parts; means = subst P (sym e) closed.means; short = closed.short }))
escape_begun (pieces.Bad kind) text rest byte count e (same, unclosed) = (
  same,
  λ body said after f h.
      elim (first_closes byte rest body after f) [
        | inl p ↦ absurd (let q : backslash ≡ quote = sym e ∙ p.1 in omega arith)
        | inr (more, g, k) ↦ (let P : List ℕ → Type 0 = λ l. IsLiteralBody l said in unclosed more said after k (subst P (g ∙ ap (λ b. b ∷ more) e) h))
      ],
)

-- no further byte fits a text of the greatest length
full : (text rest : List ℕ) (byte : ℕ) → MAX_LITERAL_BYTES ≤ length text → byte ≢ quote → byte ≢ backslash → IsOpen false text (byte ∷ rest)
full text rest byte l q k = λ body said after e h.
    elim (first_closes byte rest body after e) [
      | inl p ↦ absurd (q p.1)
      | inr (more, f, g) ↦ (
          elim (head_of body said h byte more f) [
            | PlainHead u v tail s i ↦ rw s (omega (arith, longer text tail byte))
            | EscapeHead u d tail after r s o i ↦ absurd (k u)
          ])
    ]

full_escape : (text rest : List ℕ) (byte : ℕ) → MAX_LITERAL_BYTES ≤ length text → IsOpen true text (byte ∷ rest)
full_escape text rest byte l = λ body said after e h.
    let x = escape_of byte rest body said after e h in
    rw x.says (omega (arith, longer text x.more byte))

bad_byte : (text rest : List ℕ) (byte : ℕ) → byte ≢ quote → byte ≢ backslash → is_text_byte byte ≡ false → IsOpen false text (byte ∷ rest)
bad_byte text rest byte q k t = λ body said after e h.
    elim (first_closes byte rest body after e) [
      | inl p ↦ absurd (q p.1)
      | inr (more, f, g) ↦ (
          elim (head_of body said h byte more f) [
            | PlainHead u v tail s i ↦ absurd (let w = u in cc)
            | EscapeHead u d tail after r s o i ↦ absurd (k u)
          ])
    ]

bad_escape : (text rest : List ℕ) (byte : ℕ) → byte ≢ quote → byte ≢ backslash → IsOpen true text (byte ∷ rest)
bad_escape text rest byte q k = λ body said after e h.
    let x = escape_of byte rest body said after e h in
    absurd (⊎_elim q k x.known)

known : (byte : ℕ) → (byte == quote || byte == backslash) ≡ true → (byte ≡ quote) ⊎ (byte ≡ backslash)
known byte o = elim (or_cases (byte == quote) (byte == backslash) o) [ inl q ↦ inl (eqb-true byte quote q) | inr k ↦ inr (eqb-true byte backslash k) ]

pub read_is : (rest : List ℕ) (escaped : Bool) (text : List ℕ) (count : ℕ) → length text ≤ MAX_LITERAL_BYTES → IsRead escaped text count rest (literal_piece escaped text count rest)
unfolding literal_piece
read_is [] escaped text count l = (refl, λ body said after e h. absurd (none_closes body after e))
read_is (byte ∷ rest) true text count l =
    cond_both (byte == quote || byte == backslash) meanings.Itself meanings.Fault (λ m. IsRead true text count (byte ∷ rest) (piece_after_byte m byte text count (λ e t n. literal_piece e t n rest)))
    (λ o. cond_both (nat_lt (length text) MAX_LITERAL_BYTES) _ _ (IsRead true text count (byte ∷ rest))
    (λ few. escape_meant _ text rest byte count (known byte o) (read_is rest false (text ++ byte ∷ []) (count + 1) (simp length-append (omega (arith, ltb-true (length text) MAX_LITERAL_BYTES few)))))
    (λ many. (refl, full_escape text rest byte (ltb-false (length text) MAX_LITERAL_BYTES many))))
    (λ o. let p = or_parts (byte == quote) (byte == backslash) o in (refl, bad_escape text rest byte (eqb-false byte quote p.0) (eqb-false byte backslash p.1)))
read_is (byte ∷ rest) false text count l =
    let next_piece : LiteralByte → Piece = λ m. piece_after_byte m byte text count (λ e t n. literal_piece e t n rest) in
    let P : LiteralByte → Type 0 = λ m. IsRead false text count (byte ∷ rest) (next_piece m) in
    cond_both (byte == quote) _ _ P
    (λ q. ([], [], rest, omega arith, ap words.Text (sym (append-nil text)), record { parts = ap (λ b. b ∷ rest) (eqb-true byte quote q); means = Nothing; short = rw append-nil l }))
    (λ q. cond_both (byte == backslash) _ _ P
    (λ k. escape_begun _ text rest byte count (eqb-true byte backslash k) (read_is rest true text (count + 1) l))
    (λ k. cond_both (is_text_byte byte) _ _ P
    (λ t. cond_both (nat_lt (length text) MAX_LITERAL_BYTES) _ _ (IsRead false text count (byte ∷ rest))
    (λ few. meant _ text rest byte count t (eqb-false byte quote q) (eqb-false byte backslash k) (read_is rest false (text ++ byte ∷ []) (count + 1) (simp length-append (omega (arith, ltb-true (length text) MAX_LITERAL_BYTES few)))))
    (λ many. (refl, full text rest byte (ltb-false (length text) MAX_LITERAL_BYTES many) (eqb-false byte quote q) (eqb-false byte backslash k))))
    (λ t. (refl, bad_byte text rest byte (eqb-false byte quote q) (eqb-false byte backslash k) t))))
