-- Keywords and signs are found by their spelling, and by no other.
use Rattle.std.proofs.Common.{◌≡◌, ℕ, Bool, true, false, cond, not, ◌==◌, List, [], ◌∷◌, Some, None, inl, inr, sym, subst, refl, arith}
use Rattle.std.specs.Prelude.{find, get_or, ◌||◌}
use Rattle.std.specs.List.{list_all}
use Rattle.std.specs.Cmp.Lexicographic.{pointwise}
use Rattle.std.proofs.lemmas.Bool.{cases_Bool, and_parts}
use Rattle.std.proofs.lemmas.Bool.Decides.{nat_tests}
use Rattle.std.proofs.lemmas.Slice.Eq.{bytes_eq-Decides}
use Rattle.lc_base.specs.NameBytes.{is_letter, is_name_byte}
use Rattle.contract_tokens.specs.declared.token.Mark.{Mark}
use Rattle.contract_tokens.specs.declared.token.Mark.TheVariants as marks
use Rattle.contract_tokens.specs.Spelling.{spelling, is_of}
use Rattle.contract_tokens.specs.Lexemes.{is_digit, is_blank}
use Rattle.contract_tokens.specs.Pieces.{is_keyword, keyword_of, keywords, short_sign, long_sign}

pub find_passes : {X : Type 0} (p : X → Bool) (xs : List X) (x : X) → find p xs ≡ Some x
    → p x ≡ true
find_passes p [] x e = cc
find_passes p (y ∷ ys) x e =
    elim (cases_Bool (p y)) [
      | inl h ↦ (let g : Some y ≡ Some x = subst (λ b. cond b (Some y) (find p ys) ≡ Some x) h e in let k : y ≡ x = cc in subst (λ z. p z ≡ true) k h)
      | inr h ↦ find_passes p ys x (subst (λ b. cond b (Some y) (find p ys) ≡ Some x) h e)
    ]

-- what a keyword is found by
found_by : (edition : ℕ) (bytes : List ℕ) (mark : Mark) → keyword_of edition bytes ≡ Some mark
    → (pointwise ◌==◌ bytes (spelling mark) ≡ true) × (is_of edition mark ≡ true)
unfolding keyword_of
found_by edition bytes mark e = and_parts (pointwise ◌==◌ bytes (spelling mark)) (is_of edition mark) (find_passes (is_keyword edition bytes) keywords mark e)

pub keyword_spelled : (edition : ℕ) (bytes : List ℕ) (mark : Mark)
    → keyword_of edition bytes ≡ Some mark → spelling mark ≡ bytes
keyword_spelled edition bytes mark e =
    sym ((bytes_eq-Decides bytes (spelling mark)).0 (found_by edition bytes mark e).0)

-- a keyword that is found is one of the edition
pub keyword_there : (edition : ℕ) (bytes : List ℕ) (mark : Mark)
    → keyword_of edition bytes ≡ Some mark → is_of edition mark ≡ true
keyword_there edition bytes mark e = (found_by edition bytes mark e).1

-- the first byte passes the test
abbrev pub first_is : (ℕ → Bool) → List ℕ → Bool
first_is test [] = false
first_is test (byte ∷ _) = test byte

-- what begins with a letter and spells a mark is a keyword
pub keyword_missed : (edition : ℕ) (mark : Mark) → is_of edition mark ≡ true
    → first_is is_letter (spelling mark) ≡ true → keyword_of edition (spelling mark) ≡ None → ⊥
unfolding keyword_of
keyword_missed edition marks.Drop of e f = let g : Some marks.Drop ≡ None = subst (λ (b : Bool). cond b (Some marks.Drop) None ≡ None) of f in cc
keyword_missed edition _ of e f = cc

pub long_spelled : (a b : ℕ) (mark : Mark) → long_sign a b ≡ Some mark → spelling mark ≡ a ∷ b ∷ []
unfolding long_sign
long_spelled a b mark e = grind (arith, nat_tests)

pub short_spelled : (a : ℕ) (mark : Mark) → short_sign a ≡ Some mark → spelling mark ≡ a ∷ []
unfolding short_sign
short_spelled a mark e = grind (arith, nat_tests)

-- a byte that begins neither a name, a number, a text literal nor a gap
abbrev pub is_other : ℕ → Bool
is_other byte = not (is_letter byte || is_digit byte || byte == 34 || byte == 35 || is_blank byte)

-- A mark is a keyword, or a sign of one byte or two.
pub data IsWritten (mark : Mark) : Type 0 where
  Keyword : first_is is_letter (spelling mark) ≡ true → list_all is_name_byte (spelling mark) ≡ true
      → IsWritten mark
  Short : (a : ℕ) → spelling mark ≡ a ∷ [] → short_sign a ≡ Some mark → is_other a ≡ true
      → IsWritten mark
  Long : (a b : ℕ) → spelling mark ≡ a ∷ b ∷ [] → long_sign a b ≡ Some mark → is_other a ≡ true
      → IsWritten mark

pub written : (mark : Mark) → IsWritten mark
unfolding short_sign long_sign
written marks.Fn = Keyword refl refl
written marks.Let = Keyword refl refl
written marks.If = Keyword refl refl
written marks.Else = Keyword refl refl
written marks.While = Keyword refl refl
written marks.Put = Keyword refl refl
written marks.Drop = Keyword refl refl
written marks.From = Keyword refl refl
written marks.Fail = Keyword refl refl
written marks.Return = Keyword refl refl
written marks.Int = Keyword refl refl
written marks.Text = Keyword refl refl
written marks.Equal =
    Long (get_or (spelling marks.Equal) 0 0) (get_or (spelling marks.Equal) 1 0) refl refl refl
written marks.NotEqual = Long (get_or (spelling marks.NotEqual) 0 0) (get_or (spelling marks.NotEqual) 1 0) refl refl refl
written marks.LessEqual = Long (get_or (spelling marks.LessEqual) 0 0) (get_or (spelling marks.LessEqual) 1 0) refl refl refl
written marks.GreaterEqual = Long (get_or (spelling marks.GreaterEqual) 0 0) (get_or (spelling marks.GreaterEqual) 1 0) refl refl refl
written marks.Concat =
    Long (get_or (spelling marks.Concat) 0 0) (get_or (spelling marks.Concat) 1 0) refl refl refl
written marks.And =
    Long (get_or (spelling marks.And) 0 0) (get_or (spelling marks.And) 1 0) refl refl refl
written marks.Or =
    Long (get_or (spelling marks.Or) 0 0) (get_or (spelling marks.Or) 1 0) refl refl refl
written marks.ParenOpen = Short (get_or (spelling marks.ParenOpen) 0 0) refl refl refl
written marks.ParenClose = Short (get_or (spelling marks.ParenClose) 0 0) refl refl refl
written marks.BraceOpen = Short (get_or (spelling marks.BraceOpen) 0 0) refl refl refl
written marks.BraceClose = Short (get_or (spelling marks.BraceClose) 0 0) refl refl refl
written marks.Comma = Short (get_or (spelling marks.Comma) 0 0) refl refl refl
written marks.Semicolon = Short (get_or (spelling marks.Semicolon) 0 0) refl refl refl
written marks.Colon = Short (get_or (spelling marks.Colon) 0 0) refl refl refl
written marks.Assign = Short (get_or (spelling marks.Assign) 0 0) refl refl refl
written marks.Less = Short (get_or (spelling marks.Less) 0 0) refl refl refl
written marks.Greater = Short (get_or (spelling marks.Greater) 0 0) refl refl refl
written marks.Plus = Short (get_or (spelling marks.Plus) 0 0) refl refl refl
written marks.Minus = Short (get_or (spelling marks.Minus) 0 0) refl refl refl
written marks.Star = Short (get_or (spelling marks.Star) 0 0) refl refl refl
written marks.Slash = Short (get_or (spelling marks.Slash) 0 0) refl refl refl
written marks.Percent = Short (get_or (spelling marks.Percent) 0 0) refl refl refl
written marks.Not = Short (get_or (spelling marks.Not) 0 0) refl refl refl
