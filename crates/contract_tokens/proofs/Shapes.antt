-- The first byte decides which kind of token a shape or a word is.
use Rattle.std.proofs.Common.{◌≡◌, ℕ, ◌+◌, ◌<◌, ◌^◌, Bool, true, false, cond, ◌||◌, ◌==◌, List, [], ◌∷◌, ◌++◌, length, Option, Some, None, inl, inr, sym, ap, subst, refl, arith, rules, ◌*◌, ◌-◌}
use Rattle.std.specs.Prelude.{decimal}
use Rattle.std.specs.List.{list_all}
use Rattle.std.proofs.lemmas.Bool.{cases_Bool, and_parts}
use Rattle.std.proofs.lemmas.Bool.Decides.{nat_tests}
use Rattle.std.proofs.lemmas.Fmt.{digits_decimal, decimal_nonempty}
use Rattle.std.proofs.lemmas.Str.Parse.{IsNumeralModel, numerals_by_fold}
use Rattle.lc_base.specs.NameBytes.{is_letter, foreign_byte, IsName}
use Rattle.contract_tokens.specs.declared.edition.TheConstants.{SECOND_EDITION}
use Rattle.contract_tokens.specs.declared.token.Mark.{Mark}
use Rattle.contract_tokens.specs.declared.token.Mark.TheVariants as marks
use Rattle.contract_tokens.specs.Spelling.{spelling}
use Rattle.contract_tokens.specs.Lexemes.{is_digit, is_blank, quote, hash, backslash, IsLiteralBody, Nothing, Plain, EscapedQuote, EscapedBackslash}
use Rattle.contract_tokens.specs.Pieces.{keyword_of, short_sign, long_sign}
use Rattle.contract_tokens.proofs.Marks.{first_is}

-- ---- marks

abbrev pub is_quote : ℕ → Bool
is_quote byte = byte == quote

abbrev pub begins_gap : ℕ → Bool
begins_gap byte = is_blank byte || byte == hash

-- the mark that is spelled so
abbrev decoded : List ℕ → Option Mark
decoded [] = None
decoded (a ∷ []) = short_sign a
decoded (a ∷ b ∷ more) =
    cond (is_letter a) (keyword_of SECOND_EDITION (a ∷ b ∷ more)) (long_sign a b)

decoded_is : (mark : Mark) → decoded (spelling mark) ≡ Some mark
unfolding keyword_of short_sign long_sign
decoded_is marks.Fn = refl
decoded_is _ = refl

pub spelling_injective : (m n : Mark) → spelling m ≡ spelling n → m ≡ n
spelling_injective m n e = let f : decoded (spelling m) ≡ decoded (spelling n) = ap decoded e in cc (decoded_is m, decoded_is n)

pub mark_begins : (mark : Mark) → (first_is is_digit (spelling mark) ≡ false) × (first_is is_quote (spelling mark) ≡ false) × (first_is begins_gap (spelling mark) ≡ false)
mark_begins marks.Fn = (refl, refl, refl)
mark_begins _ = (refl, refl, refl)

-- ---- bytes

pub letter_not_digit : (byte : ℕ) → is_letter byte ≡ true → is_digit byte ≡ true → ⊥
letter_not_digit byte a b = grind (arith, nat_tests)

pub letter_not_quote : (byte : ℕ) → is_letter byte ≡ true → is_quote byte ≡ true → ⊥
letter_not_quote byte a b = grind (arith, nat_tests)

pub digit_not_quote : (byte : ℕ) → is_digit byte ≡ true → is_quote byte ≡ true → ⊥
digit_not_quote byte a b = grind (arith, nat_tests)

pub letter_not_gap : (byte : ℕ) → is_letter byte ≡ true → begins_gap byte ≡ true → ⊥
letter_not_gap byte a b = grind (arith, nat_tests)

pub digit_not_gap : (byte : ℕ) → is_digit byte ≡ true → begins_gap byte ≡ true → ⊥
digit_not_gap byte a b = grind (arith, nat_tests)

-- tests that no byte passes both don't both pass the first byte of a list
pub not_both : (p q : ℕ → Bool) → ((byte : ℕ) → p byte ≡ true → q byte ≡ true → ⊥)
    → (bytes : List ℕ) → first_is p bytes ≡ true → first_is q bytes ≡ true → ⊥
not_both p q apart [] a b = cc
not_both p q apart (byte ∷ _) a b = apart byte a b

-- ---- names and numbers

pub name_begins : (name : List ℕ) → IsName name → first_is is_letter name ≡ true
name_begins [] is = absurd (omega (arith, is.some))
name_begins (byte ∷ more) is =
    elim (cases_Bool (is_letter byte)) [
      | inl h ↦ h
      | inr h ↦ absurd (let e : cond (is_letter byte) (foreign_byte (byte ∷ more)) (Some 0) ≡ None = is.good in let f : Some 0 ≡ None = subst (λ b. cond b (foreign_byte (byte ∷ more)) (Some 0) ≡ None) h e in cc)
    ]

-- the value of a number with these digits appended
abbrev pub read_on : ℕ → List ℕ → ℕ
read_on n [] = n
read_on n (c ∷ cs) = read_on (10 * n + (c - 48)) cs

pub numerals : IsNumeralModel (λ ds. list_all is_digit ds ≡ true) (read_on 0)
numerals = numerals_by_fold _ (search rules) read_on (search rules)

pub decimal_passes : (n : ℕ) → n < 2 ^ 63 → list_all is_digit (decimal n) ≡ true
decimal_passes n h = digits_decimal numerals n (omega arith)

pub first_from_all : (p : ℕ → Bool) (bytes : List ℕ) → 0 < length bytes → list_all p bytes ≡ true
    → first_is p bytes ≡ true
first_from_all p [] h e = absurd (omega arith)
first_from_all p (byte ∷ more) h e = (and_parts (p byte) (list_all p more) e).0

pub decimal_begins : (n : ℕ) → n < 2 ^ 63 → first_is is_digit (decimal n) ≡ true
decimal_begins n h =
    first_from_all is_digit (decimal n) (decimal_nonempty n (omega arith)) (decimal_passes n h)

-- ---- text literals

pub body_unique : (a t r b u s : List ℕ) → IsLiteralBody a t → IsLiteralBody b u
    → a ++ quote ∷ r ≡ b ++ quote ∷ s → (a ≡ b) × (t ≡ u) × (r ≡ s)
body_unique _ _ r _ _ s Nothing Nothing e = (refl, refl, cc)
body_unique _ _ r _ _ s Nothing (Plain byte body text i q k h) e =
    absurd (q (let f : quote ≡ byte = cc in sym f))
body_unique _ _ r _ _ s Nothing (EscapedQuote body text h) e =
    absurd (let f : quote ≡ backslash = cc in omega arith)
body_unique _ _ r _ _ s Nothing (EscapedBackslash body text h) e =
    absurd (let f : quote ≡ backslash = cc in omega arith)
body_unique _ _ r _ _ s (Plain byte body text i q k h) Nothing e =
    absurd (q (let f : byte ≡ quote = cc in f))
body_unique _ _ r _ _ s (Plain byte body text i q k h) (Plain other more said j l m g) e =
    let same : byte ≡ other = cc in
    let rest : body ++ quote ∷ r ≡ more ++ quote ∷ s = cc in
    let n = body_unique body text r more said s h g rest in
    (let f : body ≡ more = n.0 in cc, let f : text ≡ said = n.1 in cc, n.2)
body_unique _ _ r _ _ s (Plain byte body text i q k h) (EscapedQuote more said g) e =
    absurd (k (let f : byte ≡ backslash = cc in f))
body_unique _ _ r _ _ s (Plain byte body text i q k h) (EscapedBackslash more said g) e =
    absurd (k (let f : byte ≡ backslash = cc in f))
body_unique _ _ r _ _ s (EscapedQuote body text h) Nothing e =
    absurd (let f : backslash ≡ quote = cc in omega arith)
body_unique _ _ r _ _ s (EscapedQuote body text h) (Plain other more said j l m g) e =
    absurd (m (let f : backslash ≡ other = cc in sym f))
body_unique _ _ r _ _ s (EscapedQuote body text h) (EscapedQuote more said g) e =
    let rest : body ++ quote ∷ r ≡ more ++ quote ∷ s = cc in
    let n = body_unique body text r more said s h g rest in
    (let f : body ≡ more = n.0 in cc, let f : text ≡ said = n.1 in cc, n.2)
body_unique _ _ r _ _ s (EscapedQuote body text h) (EscapedBackslash more said g) e =
    absurd (let f : quote ≡ backslash = cc in omega arith)
body_unique _ _ r _ _ s (EscapedBackslash body text h) Nothing e =
    absurd (let f : backslash ≡ quote = cc in omega arith)
body_unique _ _ r _ _ s (EscapedBackslash body text h) (Plain other more said j l m g) e =
    absurd (m (let f : backslash ≡ other = cc in sym f))
body_unique _ _ r _ _ s (EscapedBackslash body text h) (EscapedQuote more said g) e =
    absurd (let f : backslash ≡ quote = cc in omega arith)
body_unique _ _ r _ _ s (EscapedBackslash body text h) (EscapedBackslash more said g) e =
    let rest : body ++ quote ∷ r ≡ more ++ quote ∷ s = cc in
    let n = body_unique body text r more said s h g rest in
    (let f : body ≡ more = n.0 in cc, let f : text ≡ said = n.1 in cc, n.2)
