-- The text of an expression is read as the same expression, apart from offsets.
use Rattle.std.proofs.Common.{◌≡◌, ℕ, ℤ, suc, zero, ◌+◌, ◌-◌, ◌*◌, ◌≤◌, max, Bool, true, false, ◌==◌, if◌then◌else◌, List, [], ◌∷◌, ◌++◌, codes, length, Option, Some, None, ◌⊎◌, inl, inr, refl, sym, ap, ◌∙◌, subst, append_assoc, arith}
use Rattle.std.specs.Fmt.{signed_decimal}
use Rattle.lc_base.specs.NameBytes.{is_letter}
use Rattle.contract_tokens.specs.declared.token.Token.{Token}
use Rattle.contract_tokens.specs.declared.token.Word.{Word}
use Rattle.contract_tokens.specs.declared.token.Word.TheVariants as w
use Rattle.contract_tokens.specs.declared.token.Mark.{Mark}
use Rattle.contract_tokens.specs.declared.token.Mark.TheVariants as m
use Rattle.contract_tokens.specs.Lexemes.{is_digit}
use Rattle.contract_tokens.specs.Spelling.{is_of}
use Rattle.contract_tokens.specs.Tokens.{IsTokens}
use Rattle.contract_tokens.proofs.Runs.{Stops}
use Rattle.contract_tokens.proofs.Marks.{first_is}
use Rattle.contract_tree.specs.declared.tree.Sign.{Sign}
use Rattle.contract_tree.specs.declared.tree.Sign.TheVariants as s
use Rattle.contract_tree.specs.Tree.{Tree, Trees, none, more, trees, height, heights, erase, erase_all}
use Rattle.contract_tree.specs.Tree as tree
use Rattle.contract_grammar.specs.declared.limits.TheConstants.{MAX_PENDING, MAX_HEIGHT, WHOLE}
use Rattle.contract_grammar.specs.Grammar.{limits, is_chained, IsExpr, Number, Literal, Named, Called, Prefixed, Grouped, Tighter, Chained, Compared, IsArgs, NoArgs, Args, IsMore, Last, More}
use Rattle.contract_grammar.specs.Marks.{with_offset, level_in, sign_in, the, is_end, int_of, text_of, name_of, callee_of, prefix_of, sign_of}
use Rattle.contract_grammar.proofs.Laws.{no_false, IsOne, One}
use Rattle.contract_grammar.proofs.Sequence.{IsSeq, Seq}
use Rattle.contract_grammar.proofs.Choice.{IsEach, Nothing, Each}
use Rattle.contract_grammar.proofs.Operands.{close_args}
use Rattle.contract_grammar.proofs.Expressions.{expression_is}
use Rattle.contract_print.specs.Canonical.{mark_of_sign, sign_text, is_compound, in_parentheses, expression_text, args_text, more_args_text}
use Rattle.contract_print.proofs.Respelled.{word_text, goes_on, sign_goes_on, IsWord, mark_word, int_in, name_first}
use Rattle.contract_print.proofs.Printed.{IsPrinted, IsWordOf, Said, Both, Pair, word_printed, both, gap_after, mapped, stopped, spelled_as, breaks, break_word}

-- each token but the end is a word of a source
abbrev pub AllWords : ℕ → List Token → Type 0
AllWords edition [] = Unit {0}
AllWords edition (t ∷ ts) = (is_end t ≡ false → IsWord edition t.word) × AllWords edition ts

pub words_parts : (edition : ℕ) (a b : List Token) → AllWords edition (a ++ b)
    → AllWords edition a × AllWords edition b
words_parts edition [] b h = (tt, h)
words_parts edition (t ∷ a) b h = let k = words_parts edition a b h.1 in ((h.0, k.0), k.1)

-- ---- the words of tokens

int_word : (t : Token) (n : ℕ × ℤ) → int_of t ≡ Some n → (t.word ≡ w.Int n.1) × (is_end t ≡ false)
int_word t n e = grind arith

text_word : (t : Token) (n : ℕ × List ℕ) → text_of t ≡ Some n
    → (t.word ≡ w.Text n.1) × (is_end t ≡ false)
text_word t n e = grind arith

pub name_word : (t : Token) (n : ℕ × List ℕ) → name_of t ≡ Some n
    → (t.word ≡ w.Name n.1) × (is_end t ≡ false)
name_word t n e = grind arith

callee_word : (t : Token) (n : ℕ × List ℕ) → callee_of t ≡ Some n
    → ((t.word ≡ w.Name n.1) × (is_end t ≡ false)) ⊎ (n.1 ≡ codes "text")
callee_word t n e = grind arith

abbrev pub said : ℕ → Mark → Token
said at mark = record { at = at; word = w.Mark mark }

moved : (b : Bool) (o : Option Sign) (p q : ℕ) (n : ℕ × Sign)
    → (if b then with_offset p o else None) ≡ Some n
    → ((if b then with_offset q o else None) ≡ Some (q, n.1)) × (o ≡ Some n.1)
moved true None p q n e = absurd (cc)
moved true (Some sign) p q n e =
    let same : (p, sign) ≡ n = cc in
    let sign_is : sign ≡ n.1 = ap (λ v. v.1) same in
    (ap (λ v. Some (q, v)) sign_is, ap (λ v. Some v) sign_is)
moved false o p q n e = absurd (cc)

sign_mark : (word : Word) (sign : Sign) → sign_in word ≡ Some sign
    → word ≡ w.Mark (mark_of_sign sign)
sign_mark word sign e = grind arith

-- each edition has the signs
sign_there : (edition : ℕ) (sign : Sign) → is_of edition (mark_of_sign sign) ≡ true
sign_there edition s.Or = refl
sign_there edition _ = refl

sign_again : (k : ℕ) (t : Token) (n : ℕ × Sign) (at : ℕ) → sign_of k t ≡ Some n
    → sign_of k (said at (mark_of_sign n.1)) ≡ Some (at, n.1)
sign_again k t n at e =
    let q = moved (level_in t.word == k) (sign_in t.word) t.at at n e in
    subst (λ v. sign_of k (record { at = at; word = v }) ≡ Some (at, n.1)) (sign_mark t.word n.1 q.1) q.0

prefix_again : (t : Token) (n : ℕ × Sign) (at : ℕ) → prefix_of t ≡ Some n
    → prefix_of (said at (mark_of_sign n.1)) ≡ Some (at, n.1)
prefix_again t n at e = grind arith

sign_level : (k : ℕ) (t : Token) (n : ℕ × Sign) → sign_of k t ≡ Some n → k ≤ WHOLE
sign_level k t n e = grind arith

-- ---- levels and heights

abbrev pub place_by : Bool → ℕ
place_by true = WHOLE
place_by false = 0

abbrev pub IsExprOf : ℕ → ℕ → Tree → List Token → Type 0
IsExprOf d k x ts = (y : Tree) × IsExpr limits d k ts y × (erase y ≡ erase x)

-- the text is read as the same expression, and begins with no sign that would extend another
pub record Again (edition : ℕ) (d : ℕ) (x : Tree) : Type 0 where
  pub printed : IsPrinted edition (IsExprOf d (place_by (is_compound x)) x) (Stops breaks) (expression_text x)
  pub begins : (rest : List ℕ) → Stops sign_goes_on (expression_text x ++ rest)

-- the same, if few enough are pending that the limits are kept
abbrev pub Rereads : ℕ → Tree → Type 0
Rereads edition x = (d : ℕ) → d + 2 * height x ≤ MAX_PENDING → Again edition d x

abbrev pub RereadsAll : ℕ → List Tree → Type 0
RereadsAll edition [] = Unit {0}
RereadsAll edition (x ∷ xs) = Rereads edition x × RereadsAll edition xs

mutual
  height_erase : (x : Tree) → height (erase x) ≡ height x
  height_erase (tree.Int at value) = refl
  height_erase (tree.Text at text) = refl
  height_erase (tree.Name at name) = refl
  height_erase (tree.Call at name args) = ap (λ n. n + 1) (heights_erase args)
  height_erase (tree.Prefix at sign x) = ap (λ n. n + 1) (height_erase x)
  height_erase (tree.Binary at sign x y) = ap (λ n. max n (height (erase y)) + 1) (height_erase x) ∙ ap (λ n. max (height x) n + 1) (height_erase y)

  heights_erase : (xs : Trees) → heights (erase_all xs) ≡ heights xs
  heights_erase none = refl
  heights_erase (more x xs) = ap (λ n. max n (heights (erase_all xs))) (height_erase x) ∙ ap (λ n. max (height x) n) (heights_erase xs)

pub same_height : (y x : Tree) → erase y ≡ erase x → height y ≡ height x
same_height y x e = sym (height_erase y) ∙ ap height e ∙ height_erase x

positive : (x : Tree) → 1 ≤ height x
positive (tree.Int at value) = omega arith
positive (tree.Text at text) = omega arith
positive (tree.Name at name) = omega arith
positive (tree.Call at name args) = omega arith
positive (tree.Prefix at sign x) = omega arith
positive (tree.Binary at sign x y) = omega arith

lift : {d : ℕ} {y : List Token} {x : Tree} (k : ℕ) → IsExpr limits d 0 y x → IsExpr limits d k y x
lift zero i = i
lift {d} {y} {x} (suc k) i = Tighter d k y x (lift k i)

raise : {d : ℕ} {y : List Token} {x : Tree} (n j : ℕ) → IsExpr limits d j y x
    → IsExpr limits d (n + j) y x
raise {d} {y} {x} zero j i =
    let e : j ≡ zero + j = omega arith in subst (λ k. IsExpr limits d k y x) e i
raise {d} {y} {x} (suc n) j i = let e : suc (n + j) ≡ suc n + j = omega arith in subst (λ k. IsExpr limits d k y x) e (Tighter d (n + j) y x (raise n j i))

to_whole : {d : ℕ} {y : List Token} {x : Tree} (j : ℕ) → j ≤ WHOLE → IsExpr limits d j y x
    → IsExpr limits d WHOLE y x
to_whole {d} {y} {x} j low i = let e : (WHOLE - j) + j ≡ WHOLE = omega arith in subst (λ k. IsExpr limits d k y x) e (raise (WHOLE - j) j i)

whole_by : (b : Bool) (d : ℕ) (x : Tree) (ts : List Token) → IsExprOf d (place_by b) x ts
    → IsExprOf d WHOLE x ts
whole_by true d x ts i = i
whole_by false d x ts (y, i, e) = (y, expression_is i, e)

module _ {edition : ℕ} where
  pub whole : {d : ℕ} {x : Tree} → Again edition d x
      → IsPrinted edition (IsExprOf d WHOLE x) (Stops breaks) (expression_text x)
  whole {d} {x} a = mapped (whole_by (is_compound x) d x) a.printed

-- ---- parts

paren_ends : (rest : List ℕ) → Stops breaks (codes ")" ++ rest)
paren_ends rest = refl

group_of : (d : ℕ) (x : Tree) → suc d ≤ MAX_PENDING → (ts : List Token) → Both (Both (IsWordOf (w.Mark m.ParenOpen)) (IsExprOf (suc d) WHOLE x)) (IsWordOf (w.Mark m.ParenClose)) ts → IsExprOf d 0 x ts
group_of d x may ts (Pair _ _ (Pair _ vs (Said at) (y, i, e)) (Said end)) =
    (y, Grouped d (said at m.ParenOpen) at vs y (said end m.ParenClose) end refl may i refl, e)

record AsOperand (edition : ℕ) (d : ℕ) (b : Bool) (x : Tree) : Type 0 where
  printed : IsPrinted edition (IsExprOf d 0 x) (Stops breaks) (in_parentheses b (expression_text x))
  begins : (rest : List ℕ) → Stops sign_goes_on (in_parentheses b (expression_text x) ++ rest)

module _ {edition : ℕ} where
  operand_by : (b : Bool) (x : Tree) → is_compound x ≡ b → Rereads edition x → (d : ℕ)
      → d + 2 * height x + 1 ≤ MAX_PENDING → AsOperand edition d b x
  operand_by false x e again d low =
      let a = again d (omega arith) in
      record { printed = subst (λ v. IsPrinted edition (IsExprOf d (place_by v) x) (Stops breaks) (expression_text x)) e a.printed; begins = a.begins }
  operand_by true x e again d low =
      let a = again (suc d) (omega arith) in
      let opened = both (word_printed (w.Mark m.ParenOpen) (mark_word edition m.ParenOpen refl)) (whole a) (λ rest h. a.begins rest) in
      let closed = both opened (word_printed (w.Mark m.ParenClose) (mark_word edition m.ParenClose refl)) (λ rest h. paren_ends rest) in
      let ended = stopped (break_word (w.Mark m.ParenClose)) closed in
      record { printed = mapped (group_of d x (omega arith)) ended; begins = λ rest. refl }

pub begin_by : (p : ℕ → Bool) → ((byte : ℕ) → p byte ≡ true → sign_goes_on byte ≡ false)
    → (text : List ℕ) → first_is p text ≡ true → (rest : List ℕ) → Stops sign_goes_on (text ++ rest)
begin_by p apart [] h rest = absurd (no_false refl h)
begin_by p apart (byte ∷ text) h rest = apart byte h

-- appending to a text does not change what it begins with
pub begins_left : (a b : List ℕ) → ((rest : List ℕ) → Stops sign_goes_on (a ++ rest))
    → (rest : List ℕ) → Stops sign_goes_on ((a ++ b) ++ rest)
begins_left a b begins rest =
    subst (Stops sign_goes_on) (sym (append_assoc a b rest)) (begins (b ++ rest))

pub letter_begins : (byte : ℕ) → is_letter byte ≡ true → sign_goes_on byte ≡ false
letter_begins byte h = grind arith

digit_begins : (byte : ℕ) → is_digit byte ≡ true → sign_goes_on byte ≡ false
digit_begins byte h = grind arith

-- ---- lists

abbrev pub IsComma : ℕ → ℕ → List Token → Tree → Type 0
IsComma d n = IsSeq (IsOne (the m.Comma)) (λ at. IsExpr limits d WHOLE)

abbrev pub IsAfter : ℕ → List Tree → List Token → Type 0
IsAfter d xs ts = (n : ℕ) → (ys : List Tree) × IsEach (λ k. IsSeq (IsOne (the m.Comma)) (λ at. IsExpr limits d WHOLE)) n ts ys × (erase_all (trees ys) ≡ erase_all (trees xs))

module _ {edition : ℕ} where
  pub nothing_printed : {P : List Token → Type 0} → P [] → IsPrinted edition P (Stops breaks) []
  nothing_printed i = record { tokens = λ at. []; is = λ at. i; tokenized = λ at rest more stop h. let same : at + length {A = ℕ} [] ≡ at = omega arith in subst (λ n. IsTokens edition n rest more) same h }

pub after_starts : (xs : List Tree) (rest : List ℕ) → Stops breaks rest
    → Stops breaks (more_args_text (trees xs) ++ rest)
after_starts [] rest h = h
after_starts (x ∷ xs) rest h = refl

after_more : (d : ℕ) (x : Tree) (xs : List Tree) (ts : List Token)
    → Both (Both (IsWordOf (w.Mark m.Comma)) (IsExprOf d WHOLE x)) (IsAfter d xs) ts
    → IsAfter d (x ∷ xs) ts
after_more d x xs ts (Pair _ vs (Pair _ us (Said at) (y, i, e)) j) n =
    let k = j (suc n) in
    (y ∷ k.0, Each n y k.0 (said at m.Comma ∷ us) vs (Seq (said at m.Comma ∷ []) us at y (One (said at m.Comma) at refl) i) k.1, let f : erase_all (trees k.0) ≡ erase_all (trees xs) = k.2 in cc)

module _ {edition : ℕ} where
  after_printed : (d : ℕ) (xs : List Tree) → RereadsAll edition xs
      → d + 2 * heights (trees xs) ≤ MAX_PENDING
      → IsPrinted edition (IsAfter d xs) (Stops breaks) (more_args_text (trees xs))
  after_printed d [] again low = nothing_printed (λ n. ([], Nothing n, refl))
  after_printed d (x ∷ xs) again low =
      let a = again.0 d (omega arith) in
      let comma = gap_after (codes " ") refl (word_printed (w.Mark m.Comma) (mark_word edition m.Comma refl)) (λ rest. refl) in
      let first = both comma (whole a) (λ rest h. tt) in
      let all = both first (after_printed d xs again.1 (omega arith)) (after_starts xs) in
      mapped (after_more d x xs) all

-- arguments with their parentheses
abbrev pub IsArgsOf : ℕ → List Tree → List Token → Type 0
IsArgsOf d xs ts =
    (ys : List Tree) × IsArgs limits d ts ys × (erase_all (trees ys) ≡ erase_all (trees xs))

some_args : (d : ℕ) (x : Tree) (xs : List Tree) (ts : List Token) → Both (Both (IsWordOf (w.Mark m.ParenOpen)) (Both (IsExprOf d WHOLE x) (IsAfter d xs))) (IsWordOf (w.Mark m.ParenClose)) ts → IsArgsOf d (x ∷ xs) ts
some_args d x xs ts (Pair _ _ (Pair _ _ (Said at) (Pair us vs (y, i, e) j)) (Said end)) =
    let k = j 1 in
    let more : IsMore limits m.ParenClose d (vs ++ said end m.ParenClose ∷ []) k.0 = close_args m.ParenClose d 1 vs k.0 k.1 (said end m.ParenClose) end refl in
    let made : IsArgs limits d (said at m.ParenOpen ∷ (us ++ (vs ++ said end m.ParenClose ∷ []))) (y ∷ k.0) = Args d (said at m.ParenOpen) at us y (vs ++ said end m.ParenClose ∷ []) k.0 refl i more in
    (y ∷ k.0, subst (λ l. IsArgs limits d (said at m.ParenOpen ∷ l) (y ∷ k.0)) (sym (append_assoc us vs (said end m.ParenClose ∷ []))) made, let f : erase_all (trees k.0) ≡ erase_all (trees xs) = k.2 in cc)

no_args : (d : ℕ) (ts : List Token)
    → Both (IsWordOf (w.Mark m.ParenOpen)) (IsWordOf (w.Mark m.ParenClose)) ts → IsArgsOf d [] ts
no_args d ts (Pair _ _ (Said at) (Said end)) =
    ([], NoArgs d (said at m.ParenOpen) at (said end m.ParenClose) end refl refl, refl)

module _ {edition : ℕ} where
  args_printed : (d : ℕ) (xs : List Tree) → RereadsAll edition xs → d + 2 * heights (trees xs) ≤ MAX_PENDING → IsPrinted edition (IsArgsOf d xs) (Stops breaks) (codes "(" ++ args_text (trees xs) ++ codes ")")
  args_printed d [] again low =
      let closed = both (word_printed (w.Mark m.ParenOpen) (mark_word edition m.ParenOpen refl)) (word_printed (w.Mark m.ParenClose) (mark_word edition m.ParenClose refl)) (λ rest h. refl) in
      mapped (no_args d) (stopped (break_word (w.Mark m.ParenClose)) closed)
  args_printed d (x ∷ xs) again low =
      let a = again.0 d (omega arith) in
      let items = both (whole a) (after_printed d xs again.1 (omega arith)) (after_starts xs) in
      let begins = λ (rest : List ℕ). subst (Stops sign_goes_on) (sym (append_assoc (expression_text x) (more_args_text (trees xs)) rest)) (a.begins (more_args_text (trees xs) ++ rest)) in
      let opened = both (word_printed (w.Mark m.ParenOpen) (mark_word edition m.ParenOpen refl)) items (λ rest h. begins rest) in
      let closed = both opened (word_printed (w.Mark m.ParenClose) (mark_word edition m.ParenClose refl)) (λ rest h. paren_ends rest) in
      mapped (some_args d x xs) (stopped (break_word (w.Mark m.ParenClose)) closed)

-- ---- calls

record IsCallee (edition : ℕ) (name : List ℕ) : Type 0 where
  word : Word
  is_word : IsWord edition word
  text : word_text word ≡ name
  callee : (at : ℕ) → callee_of (record { at = at; word = word }) ≡ Some (at, name)
  begins : (rest : List ℕ) → Stops sign_goes_on (name ++ rest)
  ends : (rest : List ℕ) → Stops (goes_on word) (codes "(" ++ rest)

call_of : (d at : ℕ) (word : Word) (name : List ℕ) (args : List Tree)
    → ((at : ℕ) → callee_of (record { at = at; word = word }) ≡ Some (at, name))
    → suc d ≤ MAX_PENDING → height (tree.Call at name (trees args)) ≤ MAX_HEIGHT → (ts : List Token)
    → Both (IsWordOf word) (IsArgsOf (suc d) args) ts
    → IsExprOf d 0 (tree.Call at name (trees args)) ts
call_of d at word name args callee may low ts (Pair _ vs (Said place) (ys, i, e)) =
    let same : erase (tree.Call place name (trees ys)) ≡ erase (tree.Call at name (trees args)) = ap (λ l. tree.Call 0 name l) e in
    let high : height (tree.Call place name (trees ys)) ≤ MAX_HEIGHT = subst (λ n. n ≤ MAX_HEIGHT) (sym (same_height (tree.Call place name (trees ys)) (tree.Call at name (trees args)) same)) low in
    (tree.Call place name (trees ys), Called d (record { at = place; word = word }) (place, name) vs ys (callee place) may i high, same)

module _ {edition : ℕ} where
  call_again : (at : ℕ) (name : List ℕ) (args : List Tree) → IsCallee edition name
      → RereadsAll edition args → Rereads edition (tree.Call at name (trees args))
  call_again at name args c again d low =
      let inner = args_printed (suc d) args again (omega arith) in
      let word = spelled_as c.text (word_printed c.word c.is_word) in
      let starts = λ (rest : List ℕ) (h : Stops breaks rest). subst (Stops (goes_on c.word)) (ap (λ l. codes "(" ++ l) (append_assoc (args_text (trees args)) (codes ")") rest)) (c.ends (args_text (trees args) ++ (codes ")" ++ rest))) in
      let call = both word inner (λ rest h. starts rest h) in
      let made = mapped (call_of d at c.word name args c.callee (omega arith) (omega arith)) call in
      let path : name ++ (codes "(" ++ args_text (trees args) ++ codes ")") ≡ name ++ codes "(" ++ args_text (trees args) ++ codes ")" = sym (append_assoc name (codes "(") (args_text (trees args) ++ codes ")")) ∙ sym (append_assoc (name ++ codes "(") (args_text (trees args)) (codes ")")) in
      let tail = codes "(" ++ args_text (trees args) ++ codes ")" in
      let begins = λ (rest : List ℕ). subst (Stops sign_goes_on) (sym (ap (λ l. l ++ rest) (sym path) ∙ append_assoc name tail rest)) (c.begins (tail ++ rest)) in
      record { printed = spelled_as path made; begins = begins }

  name_callee : (name : List ℕ) → IsWord edition (w.Name name) → IsCallee edition name
  name_callee name i = record { word = w.Name name; is_word = i; text = refl; callee = λ at. refl; begins = begin_by is_letter letter_begins name (name_first name i); ends = λ rest. refl }

  text_callee : (name : List ℕ) → name ≡ codes "text" → IsCallee edition name
  text_callee name e = subst (IsCallee edition) (sym e) (record { word = w.Mark m.Text; is_word = mark_word edition m.Text refl; text = refl; callee = λ at. refl; begins = λ rest. refl; ends = λ rest. refl })

  callee_again : (t : Token) (n : ℕ × List ℕ) → callee_of t ≡ Some n
      → (is_end t ≡ false → IsWord edition t.word) → IsCallee edition n.1
  callee_again t n e i =
      elim (callee_word t n e) [
        | inl k ↦ name_callee n.1 (subst (IsWord edition) k.0 (i k.1))
        | inr k ↦ text_callee n.1 k
      ]

-- ---- leaves

int_of_word : (d at : ℕ) (value : ℤ) (ts : List Token) → IsWordOf (w.Int value) ts
    → IsExprOf d 0 (tree.Int at value) ts
int_of_word d at value ts (Said place) = (tree.Int place value, Number d (record { at = place; word = w.Int value }) (place, value) refl, refl)

text_of_word : (d at : ℕ) (text : List ℕ) (ts : List Token) → IsWordOf (w.Text text) ts
    → IsExprOf d 0 (tree.Text at text) ts
text_of_word d at text ts (Said place) = (tree.Text place text, Literal d (record { at = place; word = w.Text text }) (place, text) refl, refl)

name_of_word : (d at : ℕ) (name : List ℕ) (ts : List Token) → IsWordOf (w.Name name) ts
    → IsExprOf d 0 (tree.Name at name) ts
name_of_word d at name ts (Said place) = (tree.Name place name, Named d (record { at = place; word = w.Name name }) (place, name) refl, refl)

module _ {edition : ℕ} where
  int_again : (at : ℕ) (value : ℤ) → IsWord edition (w.Int value)
      → Rereads edition (tree.Int at value)
  int_again at value i d low =
      record { printed = mapped (int_of_word d at value) (stopped (break_word (w.Int value)) (word_printed (w.Int value) i)); begins = begin_by is_digit digit_begins (signed_decimal value) (int_in (signed_decimal value) value i.spelled).0 }

  text_again : (at : ℕ) (text : List ℕ) → IsWord edition (w.Text text)
      → Rereads edition (tree.Text at text)
  text_again at text i d low = record { printed = mapped (text_of_word d at text) (stopped (break_word (w.Text text)) (word_printed (w.Text text) i)); begins = λ rest. refl }

  name_again : (at : ℕ) (name : List ℕ) → IsWord edition (w.Name name)
      → Rereads edition (tree.Name at name)
  name_again at name i d low = record { printed = mapped (name_of_word d at name) (stopped (break_word (w.Name name)) (word_printed (w.Name name) i)); begins = begin_by is_letter letter_begins name (name_first name i) }

-- ---- operators

prefix_made : (d : ℕ) (t : Token) (sign : ℕ × Sign) (x : Tree) → prefix_of t ≡ Some sign
    → suc d ≤ MAX_PENDING → height (tree.Prefix sign.0 sign.1 x) ≤ MAX_HEIGHT → (ts : List Token)
    → Both (IsWordOf (w.Mark (mark_of_sign sign.1))) (IsExprOf (suc d) 0 x) ts
    → IsExprOf d WHOLE (tree.Prefix sign.0 sign.1 x) ts
prefix_made d t sign x e may low ts (Pair _ vs (Said at) (y, i, same)) =
    let whole_same : erase (tree.Prefix at sign.1 y) ≡ erase (tree.Prefix sign.0 sign.1 x) = ap (λ v. tree.Prefix 0 sign.1 v) same in
    let high : height (tree.Prefix at sign.1 y) ≤ MAX_HEIGHT = subst (λ n. n ≤ MAX_HEIGHT) (sym (same_height (tree.Prefix at sign.1 y) (tree.Prefix sign.0 sign.1 x) whole_same)) low in
    (tree.Prefix at sign.1 y, expression_is (Prefixed d (said at (mark_of_sign sign.1)) (at, sign.1) vs y (prefix_again t sign at e) may i high), whole_same)

prefix_begins : (t : Token) (sign : ℕ × Sign) → prefix_of t ≡ Some sign → (rest : List ℕ)
    → Stops sign_goes_on (sign_text sign.1 ++ rest)
prefix_begins t sign e rest = elim (prefix_cases t sign e) [ inl k ↦ subst (λ v. Stops sign_goes_on (sign_text v ++ rest)) (sym k) refl | inr k ↦ subst (λ v. Stops sign_goes_on (sign_text v ++ rest)) (sym k) refl ]
  where
    prefix_cases : (t : Token) (sign : ℕ × Sign) → prefix_of t ≡ Some sign
        → (sign.1 ≡ s.Minus) ⊎ (sign.1 ≡ s.Not)
    prefix_cases t sign e = grind arith

sign_byte : (sign : Sign) (byte : ℕ) → sign_goes_on byte ≡ false
    → goes_on (w.Mark (mark_of_sign sign)) byte ≡ false
sign_byte sign byte h = grind arith

sign_ends : (sign : Sign) (rest : List ℕ) → Stops sign_goes_on rest
    → Stops (goes_on (w.Mark (mark_of_sign sign))) rest
sign_ends sign [] h = tt
sign_ends sign (byte ∷ rest) h = sign_byte sign byte h

module _ {edition : ℕ} where
  prefix_again_tree : (t : Token) (sign : ℕ × Sign) (x : Tree) → prefix_of t ≡ Some sign
      → Rereads edition x → Rereads edition (tree.Prefix sign.0 sign.1 x)
  prefix_again_tree t sign x e again d low =
      let inner = operand_by (is_compound x) x refl again (suc d) (omega (arith, low)) in
      let word = word_printed (w.Mark (mark_of_sign sign.1)) (mark_word edition (mark_of_sign sign.1) (sign_there edition sign.1)) in
      let all = both word inner.printed (λ rest h. sign_ends sign.1 (in_parentheses (is_compound x) (expression_text x) ++ rest) (inner.begins rest)) in
      let begins = λ (rest : List ℕ). subst (Stops sign_goes_on) (sym (append_assoc (sign_text sign.1) (in_parentheses (is_compound x) (expression_text x)) rest)) (prefix_begins t sign e (in_parentheses (is_compound x) (expression_text x) ++ rest)) in
      record { printed = mapped (prefix_made d t sign x e (omega arith) (omega arith)) all; begins = begins }

binary_level : (b : Bool) (d k : ℕ) (t : Token) (sign : ℕ × Sign) (at : ℕ) (us vs : List Token) (x y : Tree) → is_chained (suc k) ≡ b → sign_of (suc k) t ≡ Some sign → IsExpr limits d 0 us x → IsExpr limits d 0 vs y → height (tree.Binary at sign.1 x y) ≤ MAX_HEIGHT → IsExpr limits d WHOLE (us ++ said at (mark_of_sign sign.1) ∷ vs) (tree.Binary at sign.1 x y)
binary_level true d k t sign at us vs x y c e i j high = to_whole (suc k) (sign_level (suc k) t sign e) (Chained d k us x (said at (mark_of_sign sign.1)) (at, sign.1) vs y c (lift (suc k) i) (sign_again (suc k) t sign at e) (lift k j) high)
binary_level false d k t sign at us vs x y c e i j high = to_whole (suc k) (sign_level (suc k) t sign e) (Compared d k us x (said at (mark_of_sign sign.1)) (at, sign.1) vs y c (lift k i) (sign_again (suc k) t sign at e) (lift k j) high)

binary_made : (d k : ℕ) (t : Token) (sign : ℕ × Sign) (x y : Tree) → sign_of (suc k) t ≡ Some sign
    → height (tree.Binary sign.0 sign.1 x y) ≤ MAX_HEIGHT → (ts : List Token)
    → Both (Both (IsExprOf d 0 x) (IsWordOf (w.Mark (mark_of_sign sign.1)))) (IsExprOf d 0 y) ts
    → IsExprOf d WHOLE (tree.Binary sign.0 sign.1 x y) ts
binary_made d k t sign x y e low ts (Pair _ vs (Pair us _ (x', i, f) (Said at)) (y', j, g)) =
    let same : erase (tree.Binary at sign.1 x' y') ≡ erase (tree.Binary sign.0 sign.1 x y) = ap (λ v. tree.Binary 0 sign.1 v (erase y')) f ∙ ap (λ v. tree.Binary 0 sign.1 (erase x) v) g in
    let high : height (tree.Binary at sign.1 x' y') ≤ MAX_HEIGHT = subst (λ n. n ≤ MAX_HEIGHT) (sym (same_height (tree.Binary at sign.1 x' y') (tree.Binary sign.0 sign.1 x y) same)) low in
    let made = binary_level (is_chained (suc k)) d k t sign at us vs x' y' refl e i j high in
    (tree.Binary at sign.1 x' y', subst (λ l. IsExpr limits d WHOLE l (tree.Binary at sign.1 x' y')) (sym (append_assoc us (said at (mark_of_sign sign.1) ∷ []) vs)) made, same)

blank_ends : (rest : List ℕ) → Stops sign_goes_on (codes " " ++ rest)
blank_ends rest = refl

module _ {edition : ℕ} where
  binary_again : (k : ℕ) (t : Token) (sign : ℕ × Sign) (x y : Tree) → sign_of (suc k) t ≡ Some sign
      → Rereads edition x → Rereads edition y → Rereads edition (tree.Binary sign.0 sign.1 x y)
  binary_again k t sign x y e left_again right_again d low =
      let left = operand_by (is_compound x) x refl left_again d (omega (arith, low)) in
      let right = operand_by (is_compound y) y refl right_again d (omega (arith, low)) in
      let first = gap_after (codes " ") refl left.printed (λ rest. refl) in
      let word = word_printed (w.Mark (mark_of_sign sign.1)) (mark_word edition (mark_of_sign sign.1) (sign_there edition sign.1)) in
      let signed = gap_after (codes " ") refl (both first word (λ rest h. tt)) (λ rest. sign_ends sign.1 (codes " " ++ rest) (blank_ends rest)) in
      let all = both signed right.printed (λ rest h. tt) in
      let start = begins_left (in_parentheses (is_compound x) (expression_text x)) (codes " ") left.begins in
      let middle = begins_left (in_parentheses (is_compound x) (expression_text x) ++ codes " ") (sign_text sign.1) start in
      let later = begins_left ((in_parentheses (is_compound x) (expression_text x) ++ codes " ") ++ sign_text sign.1) (codes " ") middle in
      let begins = begins_left (((in_parentheses (is_compound x) (expression_text x) ++ codes " ") ++ sign_text sign.1) ++ codes " ") (in_parentheses (is_compound y) (expression_text y)) later in
      record { printed = mapped (binary_made d k t sign x y e (omega arith)) all; begins = begins }

module _ (edition : ℕ) where
  mutual
    pub reread : (d k : ℕ) (f : List Token) (x : Tree) → IsExpr limits d k f x → AllWords edition f
        → Rereads edition x
    reread d k f x (Number _ t n e) h =
        let q = int_word t n e in int_again n.0 n.1 (subst (IsWord edition) q.0 (h.0 q.1))
    reread d k f x (Literal _ t n e) h =
        let q = text_word t n e in text_again n.0 n.1 (subst (IsWord edition) q.0 (h.0 q.1))
    reread d k f x (Named _ t n e) h =
        let q = name_word t n e in name_again n.0 n.1 (subst (IsWord edition) q.0 (h.0 q.1))
    reread d k f x (Called _ t n y args e may i low) h =
        call_again n.0 n.1 args (callee_again t n e h.0) (reread_args (suc d) y args i h.1)
    reread d k f x (Prefixed _ t s y a e may i low) h =
        prefix_again_tree t s a e (reread (suc d) 0 y a i h.1)
    reread d k f x (Grouped _ o at y a c end e may i g) h =
        reread (suc d) WHOLE y a i (words_parts edition y (c ∷ []) h.1).0
    reread d k f x (Tighter _ j y a i) h = reread d j y a i h
    reread d k f x (Chained _ j y a t s z b c i e r low) h = let q = words_parts edition y (t ∷ z) h in binary_again j t s a b e (reread d (suc j) y a i q.0) (reread d j z b r q.1.1)
    reread d k f x (Compared _ j y a t s z b c i e r low) h = let q = words_parts edition y (t ∷ z) h in binary_again j t s a b e (reread d j y a i q.0) (reread d j z b r q.1.1)

    reread_args : (d : ℕ) (f : List Token) (xs : List Tree) → IsArgs limits d f xs
        → AllWords edition f → RereadsAll edition xs
    reread_args d f xs (NoArgs _ o at c end e g) h = tt
    reread_args d f xs (Args _ o at y x z others e i j) h = let q = words_parts edition y z h.1 in (reread d WHOLE y x i q.0, reread_more m.ParenClose d z others j q.1)

    pub reread_more : (mark : Mark) (d : ℕ) (f : List Token) (xs : List Tree)
        → IsMore limits mark d f xs → AllWords edition f → RereadsAll edition xs
    reread_more mark d f xs (Last _ _ c end g) h = tt
    reread_more mark d f xs (More _ _ t at y x z others e i j) h = let q = words_parts edition y z h.1 in (reread d WHOLE y x i q.0, reread_more mark d z others j q.1)

pub low_height : (d k : ℕ) (f : List Token) (x : Tree) → IsExpr limits d k f x
    → height x ≤ MAX_HEIGHT
low_height d k f x (Number _ t n e) = omega arith
low_height d k f x (Literal _ t n e) = omega arith
low_height d k f x (Named _ t n e) = omega arith
low_height d k f x (Called _ t n y args e may i low) = low
low_height d k f x (Prefixed _ t s y a e may i low) = low
low_height d k f x (Grouped _ o at y a c end e may i g) = low_height (suc d) WHOLE y a i
low_height d k f x (Tighter _ j y a i) = low_height d j y a i
low_height d k f x (Chained _ j y a t s z b c i e r low) = low
low_height d k f x (Compared _ j y a t s z b c i e r low) = low

module _ {edition : ℕ} where
  -- a whole expression of a source, printed and read again
  pub again_here : (k : ℕ) (f : List Token) (x : Tree) → IsExpr limits 0 k f x → AllWords edition f
      → Again edition 0 x
  again_here k f x i h = reread edition 0 k f x i h 0 (omega (arith, low_height 0 k f x i))

low_all : (mark : Mark) (d : ℕ) (f : List Token) (xs : List Tree) → IsMore limits mark d f xs
    → heights (trees xs) ≤ MAX_HEIGHT
low_all mark d f xs (Last _ _ c end g) = omega arith
low_all mark d f xs (More _ _ t at y x z others e i j) =
    omega (arith, low_height d WHOLE y x i, low_all mark d z others j)

module _ {edition : ℕ} where
  pub after_here : (mark : Mark) (f : List Token) (xs : List Tree) → IsMore limits mark 0 f xs
      → AllWords edition f
      → IsPrinted edition (IsAfter 0 xs) (Stops breaks) (more_args_text (trees xs))
  after_here mark f xs i h =
      after_printed 0 xs (reread_more edition mark 0 f xs i h) (omega (arith, low_all mark 0 f xs i))
