-- The text of statements is read as the same statements, apart from offsets.
use Rattle.std.proofs.Common.{◌≡◌, ℕ, suc, ◌+◌, ◌≤◌, Bool, true, false, List, [], ◌∷◌, ◌++◌, codes, length, Option, Some, None, refl, sym, ap, ◌∙◌, subst, append_assoc, arith}
use Rattle.std.specs.List.{list_all}
use Rattle.std.proofs.lemmas.Bool.{and_parts, and_from}
use denote.Enum.Bare.{same_true}
use Rattle.contract_tokens.specs.contracts.token.Mark.{the_type}
use Rattle.contract_tokens.specs.declared.token.Token.{Token}
use Rattle.contract_tokens.specs.declared.token.Word.{Word}
use Rattle.contract_tokens.specs.declared.token.Word.TheVariants as w
use Rattle.contract_tokens.specs.declared.token.Mark.{Mark}
use Rattle.contract_tokens.specs.declared.token.Mark.TheVariants as m
use Rattle.contract_tokens.specs.Lexemes.{is_blank}
use Rattle.contract_tokens.specs.Tokens.{IsTokens}
use Rattle.contract_tokens.proofs.Runs.{Stops}
use Rattle.contract_tree.specs.Tree.{Tree, Trees, more, trees, erase, erase_all, StatementTree, StatementTrees, no_statement, statements, statement_list, erase_statement, erase_statements, erase_from}
use Rattle.contract_tree.specs.Tree as tree
use Rattle.contract_grammar.specs.declared.limits.TheConstants.{MAX_NESTING, WHOLE}
use Rattle.contract_grammar.specs.Grammar.{limits, IsExpr, IsStatement, Lets, Assigns, Ifs, IfElses, Whiles, Puts, Removes, Fails, Returns, IsFrom, NoFrom, FromThese, IsBlock, Block, IsStatements, Closes, Then}
use Rattle.contract_grammar.specs.Marks.{is_word, the, end_in, is_end, declared_of, declared_in, unless_builtin, with_offset}
use Rattle.contract_tree.specs.Builtins.{is_builtin}
use Rattle.contract_grammar.proofs.Laws.{no_false}
use Rattle.contract_grammar.proofs.Parts.{the_is, the_no_end}
use Rattle.contract_grammar.proofs.Choice.{IsEach, Nothing, Each}
use Rattle.contract_grammar.proofs.Operands.{close_args}
use Rattle.contract_print.specs.Canonical.{from_text, assigned_text, put_text, remove_text, let_text, test_text, deeper, statement_text, statements_text}
use Rattle.contract_print.proofs.Respelled.{IsWord, mark_word}
use Rattle.contract_print.proofs.Printed.{IsPrinted, Any, IsWordOf, Said, Both, Pair, word_printed, both, gap_after, gap_before, mapped, breaks}
use Rattle.contract_print.proofs.Reread.{AllWords, words_parts, name_word, said, IsExprOf, Again, whole, again_here, after_here, IsAfter, after_starts, nothing_printed}
use Rattle.contract_grammar.proofs.ContractRules.{close_statements}

-- a name that may be declared may be so at any offset
pub free_moved : (word : Word) (p q : ℕ) (n : ℕ × List ℕ)
    → with_offset p (declared_in word) ≡ Some n
    → (word ≡ w.Name n.1) × (with_offset q (declared_in (w.Name n.1)) ≡ Some (q, n.1))
free_moved (w.Int value) p q n e = absurd (cc)
free_moved (w.Text text) p q n e = absurd (cc)
free_moved (w.Mark mark) p q n e = absurd (cc)
free_moved w.End p q n e = absurd (cc)
free_moved (w.Name name) p q n e = free_by (is_builtin name) refl
  where
    free_by : (b : Bool) → is_builtin name ≡ b
        → (w.Name name ≡ w.Name n.1) × (with_offset q (declared_in (w.Name n.1)) ≡ Some (q, n.1))
    free_by true h = let f : with_offset p (unless_builtin true name) ≡ Some n = ap (λ b. with_offset p (unless_builtin b name)) (sym h) ∙ e in absurd (cc)
    free_by false h =
        let f : with_offset p (unless_builtin false name) ≡ Some n = ap (λ b. with_offset p (unless_builtin b name)) (sym h) ∙ e in
        let pair : ◌≡◌ {A = ℕ × List ℕ} (p, name) n = cc in
        let same : name ≡ n.1 = ap (λ v. v.1) pair in
        (ap w.Name same, subst (λ v. with_offset q (declared_in (w.Name v)) ≡ Some (q, v)) same (ap (λ b. with_offset q (unless_builtin b name)) h))

pub word_no_end : (t : Token) (name : List ℕ) → t.word ≡ w.Name name → is_end t ≡ false
word_no_end t name e = ap end_in e

abbrev pub named : ℕ → List ℕ → Token
named at name = record { at = at; word = w.Name name }

-- ---- parts

pub blank_all : (margin : List ℕ) → list_all is_blank margin ≡ true
    → list_all is_blank (deeper margin) ≡ true
blank_all [] h = refl
blank_all (byte ∷ margin) h = let k = and_parts (is_blank byte) (list_all is_blank margin) h in and_from (is_blank byte) (list_all is_blank (deeper margin)) k.0 (blank_all margin k.1)

module _ {edition : ℕ} where
  equals_printed : IsPrinted edition (IsWordOf (w.Mark m.Assign)) Any (codes " = ")
  equals_printed = gap_before (codes " ") refl (gap_after (codes " ") refl (word_printed (w.Mark m.Assign) (mark_word edition m.Assign refl)) (λ rest. refl))

  semicolon_printed : IsPrinted edition (IsWordOf (w.Mark m.Semicolon)) Any (codes ";\n")
  semicolon_printed = gap_after (codes "\n") refl (word_printed (w.Mark m.Semicolon) (mark_word edition m.Semicolon refl)) (λ rest. refl)

abbrev IsAssigned : List ℕ → Tree → List Token → Type 0
IsAssigned name x = Both (Both (Both (IsWordOf (w.Name name)) (IsWordOf (w.Mark m.Assign))) (IsExprOf 0 WHOLE x)) (IsWordOf (w.Mark m.Semicolon))

module _ {edition : ℕ} where
  assigned_printed : (name : List ℕ) (x : Tree) → IsWord edition (w.Name name) → Again edition 0 x
      → IsPrinted edition (IsAssigned name x) Any (assigned_text name x)
  assigned_printed name x i a =
      let first = both (word_printed (w.Name name) i) equals_printed (λ rest h. refl) in
      both (both first (whole a) (λ rest h. tt)) semicolon_printed (λ rest h. refl)

-- ---- statements without blocks

abbrev pub IsStatementOf : ℕ → StatementTree → List Token → Type 0
IsStatementOf d x ts =
    (y : StatementTree) × IsStatement limits d ts y × (erase_statement y ≡ erase_statement x)

assign_made : (d at : ℕ) (name : List ℕ) (x : Tree) (ts : List Token) → IsAssigned name x ts
    → IsStatementOf d (tree.Assign at name x) ts
assign_made d at name x ts (Pair _ _ (Pair _ us (Pair _ _ (Said p) (Said q)) (y, i, e)) (Said end)) =
    (tree.Assign p name y, Assigns d (named p name) (p, name) (said q m.Assign) q us y (said end m.Semicolon) end refl refl i refl, ap (λ v. tree.Assign 0 name v) e)

let_made : (d at name_at : ℕ) (name : List ℕ) (x : Tree)
    → ((q : ℕ) → declared_of (named q name) ≡ Some (q, name)) → (ts : List Token)
    → Both (IsWordOf (w.Mark m.Let)) (IsAssigned name x) ts
    → IsStatementOf d (tree.Let at name_at name x) ts
let_made d at name_at name x free ts (Pair _ _ (Said t) (Pair _ _ (Pair _ us (Pair _ _ (Said p) (Said q)) (y, i, e)) (Said end))) =
    (tree.Let t p name y, Lets d (said t m.Let) t (named p name) (p, name) (said q m.Assign) q us y (said end m.Semicolon) end refl (free p) refl i refl, ap (λ v. tree.Let 0 0 name v) e)

module _ {edition : ℕ} where
  let_printed : (d at name_at : ℕ) (name : List ℕ) (x : Tree)
      → ((q : ℕ) → declared_of (named q name) ≡ Some (q, name)) → IsWord edition (w.Name name)
      → Again edition 0 x
      → IsPrinted edition (IsStatementOf d (tree.Let at name_at name x)) Any (let_text name x)
  let_printed d at name_at name x free i a =
      let word = gap_after (codes " ") refl (word_printed (w.Mark m.Let) (mark_word edition m.Let refl)) (λ rest. refl) in
      mapped (let_made d at name_at name x free) (both word (assigned_printed name x i a) (λ rest h. tt))

fail_made : (d at : ℕ) (ts : List Token)
    → Both (IsWordOf (w.Mark m.Fail)) (IsWordOf (w.Mark m.Semicolon)) ts
    → IsStatementOf d (tree.Fail at) ts
fail_made d at ts (Pair _ _ (Said t) (Said end)) =
    (tree.Fail t, Fails d (said t m.Fail) t (said end m.Semicolon) end refl refl, refl)

return_made : (d at : ℕ) (ts : List Token)
    → Both (IsWordOf (w.Mark m.Return)) (IsWordOf (w.Mark m.Semicolon)) ts
    → IsStatementOf d (tree.Return at) ts
return_made d at ts (Pair _ _ (Said t) (Said end)) =
    (tree.Return t, Returns d (said t m.Return) t (said end m.Semicolon) end refl refl, refl)

module _ {edition : ℕ} where
  fail_printed : (d at : ℕ)
      → IsPrinted edition (IsStatementOf d (tree.Fail at)) Any (codes "fail;\n")
  fail_printed d at = mapped (fail_made d at) (both (word_printed (w.Mark m.Fail) (mark_word edition m.Fail refl)) semicolon_printed (λ rest h. refl))

  return_printed : (d at : ℕ)
      → IsPrinted edition (IsStatementOf d (tree.Return at)) Any (codes "return;\n")
  return_printed d at = mapped (return_made d at) (both (word_printed (w.Mark m.Return) (mark_word edition m.Return refl)) semicolon_printed (λ rest h. refl))

-- the end of a `put`, before its semicolon
abbrev IsFromOf : Option Trees → List Token → Type 0
IsFromOf parts ts = (c : Token) (end : ℕ) → the m.Semicolon c ≡ Some end → (new : Option Trees) × IsFrom limits (ts ++ c ∷ []) new × (erase_from new ≡ erase_from parts)

from_made : (x : Tree) (xs : List Tree) (ts : List Token)
    → Both (IsWordOf (w.Mark m.From)) (Both (IsExprOf 0 WHOLE x) (IsAfter 0 xs)) ts
    → IsFromOf (Some (trees (x ∷ xs))) ts
from_made x xs ts (Pair _ _ (Said t) (Pair us vs (y, i, e) j)) c end g =
    let k = j 1 in
    let more = close_args m.Semicolon 0 1 vs k.0 k.1 c end g in
    let made : IsFrom limits (said t m.From ∷ (us ++ (vs ++ c ∷ []))) (Some (trees (y ∷ k.0))) = FromThese (said t m.From) t us y (vs ++ c ∷ []) k.0 refl i more in
    (Some (trees (y ∷ k.0)), subst (λ l. IsFrom limits (said t m.From ∷ l) (Some (trees (y ∷ k.0)))) (sym (append_assoc us vs (c ∷ []))) made, let f : erase_all (trees k.0) ≡ erase_all (trees xs) = k.2 in cc)

module _ {edition : ℕ} where
  from_printed : (f : List Token) (parts : Option Trees) → IsFrom limits f parts
      → AllWords edition f → IsPrinted edition (IsFromOf parts) (Stops breaks) (from_text parts)
  from_printed f parts (NoFrom c end e) h =
      nothing_printed (λ d last g. (None, NoFrom d last g, refl))
  from_printed f parts (FromThese t p y x z xs e i j) h =
      let q = words_parts edition y z h.1 in
      let word = gap_before (codes " ") refl (gap_after (codes " ") refl (word_printed (w.Mark m.From) (mark_word edition m.From refl)) (λ rest. refl)) in
      let items = both (whole (again_here WHOLE y x i q.0)) (after_here m.Semicolon z xs j q.1) (after_starts xs) in
      mapped (from_made x xs) (both word items (λ rest h. tt))

from_starts : (f : List Token) (parts : Option Trees) → IsFrom limits f parts → (rest : List ℕ)
    → Stops breaks rest → Stops breaks (from_text parts ++ rest)
from_starts f parts (NoFrom c end e) rest h = h
from_starts f parts (FromThese t p y x z xs e i j) rest h = refl

put_made : (d at : ℕ) (key value : Tree) (parts : Option Trees) (ts : List Token) → Both (Both (Both (Both (Both (IsWordOf (w.Mark m.Put)) (IsExprOf 0 WHOLE key)) (IsWordOf (w.Mark m.Assign))) (IsExprOf 0 WHOLE value)) (IsFromOf parts)) (IsWordOf (w.Mark m.Semicolon)) ts → IsStatementOf d (tree.Put at key value parts) ts
put_made d at key value parts ts (Pair _ _ (Pair _ fs (Pair _ vs (Pair _ _ (Pair _ us (Said t) (y, i, e)) (Said q)) (z, j, g)) from) (Said end)) =
    let k = from (said end m.Semicolon) end refl in
    let made : IsStatement limits d (said t m.Put ∷ (us ++ said q m.Assign ∷ (vs ++ (fs ++ said end m.Semicolon ∷ [])))) (tree.Put t y z k.0) = Puts d (said t m.Put) t us y (said q m.Assign) q vs z (fs ++ said end m.Semicolon ∷ []) k.0 refl i refl j k.1 in
    let path : (((us ++ said q m.Assign ∷ []) ++ vs) ++ fs) ++ said end m.Semicolon ∷ [] ≡ us ++ said q m.Assign ∷ (vs ++ (fs ++ said end m.Semicolon ∷ [])) = append_assoc ((us ++ said q m.Assign ∷ []) ++ vs) fs (said end m.Semicolon ∷ []) ∙ append_assoc (us ++ said q m.Assign ∷ []) vs (fs ++ said end m.Semicolon ∷ []) ∙ append_assoc us (said q m.Assign ∷ []) (vs ++ (fs ++ said end m.Semicolon ∷ [])) in
    (tree.Put t y z k.0, subst (λ l. IsStatement limits d (said t m.Put ∷ l) (tree.Put t y z k.0)) (sym path) made, ap (λ v. tree.Put 0 v (erase z) (erase_from k.0)) e ∙ ap (λ v. tree.Put 0 (erase key) v (erase_from k.0)) g ∙ ap (λ v. tree.Put 0 (erase key) (erase value) v) k.2)

module _ {edition : ℕ} where
  put_printed : (d at : ℕ) (key value : Tree) (f : List Token) (parts : Option Trees) → Again edition 0 key → Again edition 0 value → IsFrom limits f parts → AllWords edition f → IsPrinted edition (IsStatementOf d (tree.Put at key value parts)) Any (put_text key value parts)
  put_printed d at key value f parts a b i h =
      let word = gap_after (codes " ") refl (word_printed (w.Mark m.Put) (mark_word edition m.Put refl)) (λ rest. refl) in
      let keyed = both word (whole a) (λ rest h. tt) in
      let equal = both keyed equals_printed (λ rest h. refl) in
      let valued = both equal (whole b) (λ rest h. tt) in
      let from = both valued (from_printed f parts i h) (from_starts f parts i) in
      mapped (put_made d at key value parts) (both from semicolon_printed (λ rest h. refl))

mark_in : (mark : Mark) (word : Word) → is_word mark word ≡ true → word ≡ w.Mark mark
mark_in mark (w.Mark other) h = ap w.Mark (same_true the_type tt other mark h)
mark_in mark (w.Int value) h = absurd (no_false refl h)
mark_in mark (w.Text text) h = absurd (no_false refl h)
mark_in mark (w.Name name) h = absurd (no_false refl h)
mark_in mark w.End h = absurd (no_false refl h)

drop_word : (t : Token) (at : ℕ) → the m.Drop t ≡ Some at
    → (t.word ≡ w.Mark m.Drop) × (is_end t ≡ false)
drop_word t at e = (mark_in m.Drop t.word (the_is m.Drop t at e), the_no_end m.Drop t at e)

remove_made : (d at : ℕ) (key : Tree) (parts : Option Trees) (ts : List Token) → Both (Both (Both (IsWordOf (w.Mark m.Drop)) (IsExprOf 0 WHOLE key)) (IsFromOf parts)) (IsWordOf (w.Mark m.Semicolon)) ts → IsStatementOf d (tree.Remove at key parts) ts
remove_made d at key parts ts (Pair _ _ (Pair _ fs (Pair _ us (Said t) (y, i, e)) from) (Said end)) =
    let k = from (said end m.Semicolon) end refl in
    let made : IsStatement limits d (said t m.Drop ∷ (us ++ (fs ++ said end m.Semicolon ∷ []))) (tree.Remove t y k.0) = Removes d (said t m.Drop) t us y (fs ++ said end m.Semicolon ∷ []) k.0 refl i k.1 in
    (tree.Remove t y k.0, subst (λ l. IsStatement limits d (said t m.Drop ∷ l) (tree.Remove t y k.0)) (sym (append_assoc us fs (said end m.Semicolon ∷ []))) made, ap (λ v. tree.Remove 0 v (erase_from k.0)) e ∙ ap (λ v. tree.Remove 0 (erase key) v) k.2)

module _ {edition : ℕ} where
  remove_printed : (d at : ℕ) (key : Tree) (f : List Token) (parts : Option Trees)
      → IsWord edition (w.Mark m.Drop) → Again edition 0 key → IsFrom limits f parts
      → AllWords edition f
      → IsPrinted edition (IsStatementOf d (tree.Remove at key parts)) Any (remove_text key parts)
  remove_printed d at key f parts drops a i h =
      let word = gap_after (codes " ") refl (word_printed (w.Mark m.Drop) drops) (λ rest. refl) in
      let keyed = both word (whole a) (λ rest h. tt) in
      let from = both keyed (from_printed f parts i h) (from_starts f parts i) in
      mapped (remove_made d at key parts) (both from semicolon_printed (λ rest h. refl))

-- ---- blocks

abbrev pub IsItemsOf : ℕ → StatementTrees → List Token → Type 0
IsItemsOf d ss ts = (n : ℕ) → (ys : List StatementTree) × IsEach (λ k. IsStatement limits d) n ts ys × (erase_statements (statement_list ys) ≡ erase_statements ss)

module _ {edition : ℕ} where
  no_items : (d : ℕ) → IsPrinted edition (IsItemsOf d no_statement) Any []
  no_items d = record { tokens = λ at. []; is = λ at n. ([], Nothing n, refl); tokenized = λ at rest more stop h. let same : at + length {A = ℕ} [] ≡ at = omega arith in subst (λ n. IsTokens edition n rest more) same h }

items_more : (d : ℕ) (x : StatementTree) (xs : StatementTrees) (ts : List Token)
    → Both (IsStatementOf d x) (IsItemsOf d xs) ts → IsItemsOf d (statements x xs) ts
items_more d x xs ts (Pair us vs (y, i, e) j) n =
    let k = j (suc n) in
    (y ∷ k.0, Each n y k.0 us vs i k.1, ap (λ v. statements v (erase_statements (statement_list k.0))) e ∙ ap (λ v. statements (erase_statement x) v) k.2)

-- a keyword, its condition and its block
abbrev IsTested : Mark → ℕ → Tree → StatementTrees → List Token → Type 0
IsTested word d x ss = Both (Both (Both (Both (IsWordOf (w.Mark word)) (IsExprOf 0 WHOLE x)) (IsWordOf (w.Mark m.BraceOpen))) (IsItemsOf (suc d) ss)) (IsWordOf (w.Mark m.BraceClose))

record IsTestedBlock (word : Mark) (d : ℕ) (x : Tree) (ss : StatementTrees) (ts : List Token) : Type 0 where
  t : ℕ
  us : List Token
  y : Tree
  bs : List Token
  body : StatementTrees
  path : ts ≡ said t word ∷ (us ++ bs)
  test : IsExpr limits 0 WHOLE us y
  same_test : erase y ≡ erase x
  block : IsBlock limits (suc d) bs body
  same_body : erase_statements body ≡ erase_statements ss

tested_block : (word : Mark) (d : ℕ) (x : Tree) (ss : StatementTrees) → suc d ≤ MAX_NESTING
    → (ts : List Token) → IsTested word d x ss ts → IsTestedBlock word d x ss ts
tested_block word d x ss may ts (Pair _ _ (Pair _ vs (Pair _ _ (Pair _ us (Said t) (y, i, e)) (Said o)) items) (Said end)) =
    let k = items 0 in
    let inner = close_statements (suc d) 0 vs k.0 k.1 (said end m.BraceClose) end refl in
    let block : IsBlock limits (suc d) (said o m.BraceOpen ∷ (vs ++ said end m.BraceClose ∷ [])) (statement_list k.0) = Block (suc d) (said o m.BraceOpen) o (vs ++ said end m.BraceClose ∷ []) (statement_list k.0) refl may inner in
    let path : ((us ++ said o m.BraceOpen ∷ []) ++ vs) ++ said end m.BraceClose ∷ [] ≡ us ++ said o m.BraceOpen ∷ (vs ++ said end m.BraceClose ∷ []) = append_assoc (us ++ said o m.BraceOpen ∷ []) vs (said end m.BraceClose ∷ []) ∙ append_assoc us (said o m.BraceOpen ∷ []) (vs ++ said end m.BraceClose ∷ []) in
    record { t = t; us = us; y = y; bs = said o m.BraceOpen ∷ (vs ++ said end m.BraceClose ∷ []); body = statement_list k.0; path = ap (λ l. said t word ∷ l) path; test = i; same_test = e; block = block; same_body = k.2 }

module _ {edition : ℕ} where
  brace_printed : IsPrinted edition (IsWordOf (w.Mark m.BraceOpen)) Any (codes " {\n")
  brace_printed = gap_before (codes " ") refl (gap_after (codes "\n") refl (word_printed (w.Mark m.BraceOpen) (mark_word edition m.BraceOpen refl)) (λ rest. refl))

  pub closing_printed : IsPrinted edition (IsWordOf (w.Mark m.BraceClose)) Any (codes "}\n")
  closing_printed = gap_after (codes "\n") refl (word_printed (w.Mark m.BraceClose) (mark_word edition m.BraceClose refl)) (λ rest. refl)

if_made : (d at : ℕ) (x : Tree) (first : StatementTrees) → suc d ≤ MAX_NESTING → (ts : List Token)
    → IsTested m.If d x first ts → IsStatementOf d (tree.If at x first) ts
if_made d at x first may ts i =
    let k = tested_block m.If d x first may ts i in
    (tree.If k.t k.y k.body, subst (λ l. IsStatement limits d l (tree.If k.t k.y k.body)) (sym k.path) (Ifs d (said k.t m.If) k.t k.us k.y k.bs k.body refl k.test k.block), ap (λ v. tree.If 0 v (erase_statements k.body)) k.same_test ∙ ap (λ v. tree.If 0 (erase x) v) k.same_body)

while_made : (d at : ℕ) (x : Tree) (body : StatementTrees) → suc d ≤ MAX_NESTING → (ts : List Token)
    → IsTested m.While d x body ts → IsStatementOf d (tree.While at x body) ts
while_made d at x body may ts i =
    let k = tested_block m.While d x body may ts i in
    (tree.While k.t k.y k.body, subst (λ l. IsStatement limits d l (tree.While k.t k.y k.body)) (sym k.path) (Whiles d (said k.t m.While) k.t k.us k.y k.bs k.body refl k.test k.block), ap (λ v. tree.While 0 v (erase_statements k.body)) k.same_test ∙ ap (λ v. tree.While 0 (erase x) v) k.same_body)

module _ {edition : ℕ} where
  -- the text of a keyword and its condition, then the brace
  test_printed : (word : Mark) (text : List ℕ) → IsPrinted edition (IsWordOf (w.Mark word)) Any text → (x : Tree) → Again edition 0 x → IsPrinted edition (Both (Both (IsWordOf (w.Mark word)) (IsExprOf 0 WHOLE x)) (IsWordOf (w.Mark m.BraceOpen))) Any (test_text text x)
  test_printed word text p x a =
      both (both p (whole a) (λ rest h. tt)) brace_printed (λ rest h. refl)

  margin_closed : {P : List Token → Type 0} (margin : List ℕ) → list_all is_blank margin ≡ true → (text : List ℕ) → IsPrinted edition P Any text → IsPrinted edition (Both P (IsWordOf (w.Mark m.BraceClose))) Any (text ++ (margin ++ codes "}\n"))
  margin_closed margin blank text p =
      both p (gap_before margin blank closing_printed) (λ rest h. tt)

abbrev IsElseWords : List Token → Type 0
IsElseWords = Both (IsWordOf (w.Mark m.BraceClose)) (Both (IsWordOf (w.Mark m.Else)) (IsWordOf (w.Mark m.BraceOpen)))

module _ {edition : ℕ} where
  else_printed : IsPrinted edition IsElseWords Any (codes "} else {\n")
  else_printed =
      let word = gap_after (codes " ") refl (word_printed (w.Mark m.Else) (mark_word edition m.Else refl)) (λ rest. refl) in
      let brace = gap_after (codes "\n") refl (word_printed (w.Mark m.BraceOpen) (mark_word edition m.BraceOpen refl)) (λ rest. refl) in
      both (word_printed (w.Mark m.BraceClose) (mark_word edition m.BraceClose refl)) (gap_before (codes " ") refl (both word brace (λ rest h. tt))) (λ rest h. refl)

else_made : (d at : ℕ) (x : Tree) (first second : StatementTrees) → suc d ≤ MAX_NESTING → (ts : List Token) → Both (Both (Both (Both (Both (Both (IsWordOf (w.Mark m.If)) (IsExprOf 0 WHOLE x)) (IsWordOf (w.Mark m.BraceOpen))) (IsItemsOf (suc d) first)) IsElseWords) (IsItemsOf (suc d) second)) (IsWordOf (w.Mark m.BraceClose)) ts → IsStatementOf d (tree.IfElse at x first second) ts
else_made d at x first second may ts (Pair _ _ (Pair _ ws (Pair us _ head (Pair _ _ (Said c) (Pair _ _ (Said p) (Said o)))) items) (Said end)) =
    let k = tested_block m.If d x first may (us ++ said c m.BraceClose ∷ []) (Pair us (said c m.BraceClose ∷ []) head (Said c)) in
    let n = items 0 in
    let inner = close_statements (suc d) 0 ws n.0 n.1 (said end m.BraceClose) end refl in
    let block : IsBlock limits (suc d) (said o m.BraceOpen ∷ (ws ++ said end m.BraceClose ∷ [])) (statement_list n.0) = Block (suc d) (said o m.BraceOpen) o (ws ++ said end m.BraceClose ∷ []) (statement_list n.0) refl may inner in
    let made = IfElses d (said k.t m.If) k.t k.us k.y k.bs k.body (said p m.Else) p (said o m.BraceOpen ∷ (ws ++ said end m.BraceClose ∷ [])) (statement_list n.0) refl k.test k.block refl block in
    let tail = said p m.Else ∷ said o m.BraceOpen ∷ (ws ++ said end m.BraceClose ∷ []) in
    let path : ((us ++ said c m.BraceClose ∷ said p m.Else ∷ said o m.BraceOpen ∷ []) ++ ws) ++ said end m.BraceClose ∷ [] ≡ said k.t m.If ∷ (k.us ++ (k.bs ++ tail)) =
    append_assoc (us ++ said c m.BraceClose ∷ said p m.Else ∷ said o m.BraceOpen ∷ []) ws (said end m.BraceClose ∷ []) ∙ append_assoc us (said c m.BraceClose ∷ said p m.Else ∷ said o m.BraceOpen ∷ []) (ws ++ said end m.BraceClose ∷ []) ∙ sym (append_assoc us (said c m.BraceClose ∷ []) tail) ∙ ap (λ l. l ++ tail) k.path ∙ ap (λ l. said k.t m.If ∷ l) (append_assoc k.us k.bs tail) in
    (tree.IfElse k.t k.y k.body (statement_list n.0), subst (λ l. IsStatement limits d l (tree.IfElse k.t k.y k.body (statement_list n.0))) (sym path) made, ap (λ v. tree.IfElse 0 v (erase_statements k.body) (erase_statements (statement_list n.0))) k.same_test ∙ ap (λ v. tree.IfElse 0 (erase x) v (erase_statements (statement_list n.0))) k.same_body ∙ ap (λ v. tree.IfElse 0 (erase x) (erase_statements first) v) n.2)

block_low : (d : ℕ) (b : List Token) (ss : StatementTrees) → IsBlock limits d b ss → d ≤ MAX_NESTING
block_low d b ss (Block _ o at z _ e may i) = may

module _ {edition : ℕ} where
  if_word : IsPrinted edition (IsWordOf (w.Mark m.If)) Any (codes "if ")
  if_word = gap_after (codes " ") refl (word_printed (w.Mark m.If) (mark_word edition m.If refl)) (λ rest. refl)

  while_word : IsPrinted edition (IsWordOf (w.Mark m.While)) Any (codes "while ")
  while_word = gap_after (codes " ") refl (word_printed (w.Mark m.While) (mark_word edition m.While refl)) (λ rest. refl)

  mutual
    restate : (d : ℕ) (f : List Token) (x : StatementTree) → IsStatement limits d f x
        → AllWords edition f → (margin : List ℕ) → list_all is_blank margin ≡ true
        → IsPrinted edition (IsStatementOf d x) Any (statement_text margin x)
    restate d f x (Lets _ t at n name a p y e c end g i j k l) (h, (hn, (ha, rest))) margin blank =
        let q = free_moved n.word n.at 0 name i in
        gap_before margin blank (let_printed d at name.0 name.1 e (λ z. (free_moved n.word n.at z name i).1) (subst (IsWord edition) q.0 (hn (word_no_end n name.1 q.0))) (again_here WHOLE y e k (words_parts edition y (c ∷ []) rest).0))
    restate d f x (Assigns _ n name a p y e c end i j k l) (hn, (ha, rest)) margin blank =
        let q = name_word n name i in
        gap_before margin blank (mapped (assign_made d name.0 name.1 e) (assigned_printed name.1 e (subst (IsWord edition) q.0 (hn q.1)) (again_here WHOLE y e k (words_parts edition y (c ∷ []) rest).0)))
    restate d f x (Ifs _ t at y e b first g i j) (h, rest) margin blank =
        let q = words_parts edition y b rest in
        let inner = reblock (suc d) b first j q.1 (deeper margin) (blank_all margin blank) in
        let tested = gap_before margin blank (test_printed m.If (codes "if ") if_word e (again_here WHOLE y e i q.0)) in
        mapped (if_made d at e first (block_low (suc d) b first j)) (margin_closed margin blank ((margin ++ test_text (codes "if ") e) ++ statements_text (deeper margin) first) (both tested inner (λ r k. tt)))
    restate d f x (IfElses _ t at y e b first o p c second g i j k l) (h, rest) margin blank =
        let q = words_parts edition y (b ++ o ∷ c) rest in
        let n = words_parts edition b (o ∷ c) q.1 in
        let one = reblock (suc d) b first j n.0 (deeper margin) (blank_all margin blank) in
        let two = reblock (suc d) c second l n.1.1 (deeper margin) (blank_all margin blank) in
        let tested = gap_before margin blank (test_printed m.If (codes "if ") if_word e (again_here WHOLE y e i q.0)) in
        let parted = both (both tested one (λ r k. tt)) (gap_before margin blank else_printed) (λ r k. tt) in
        mapped (else_made d at e first second (block_low (suc d) b first j)) (margin_closed margin blank ((((margin ++ test_text (codes "if ") e) ++ statements_text (deeper margin) first) ++ (margin ++ codes "} else {\n")) ++ statements_text (deeper margin) second) (both parted two (λ r k. tt)))
    restate d f x (Whiles _ t at y e b body g i j) (h, rest) margin blank =
        let q = words_parts edition y b rest in
        let inner = reblock (suc d) b body j q.1 (deeper margin) (blank_all margin blank) in
        let tested = gap_before margin blank (test_printed m.While (codes "while ") while_word e (again_here WHOLE y e i q.0)) in
        mapped (while_made d at e body (block_low (suc d) b body j)) (margin_closed margin blank ((margin ++ test_text (codes "while ") e) ++ statements_text (deeper margin) body) (both tested inner (λ r k. tt)))
    restate d f x (Puts _ t at y key a p z value r parts g i j k l) (h, rest) margin blank =
        let q = words_parts edition y (a ∷ (z ++ r)) rest in
        let n = words_parts edition z r q.1.1 in
        gap_before margin blank (put_printed d at key value r parts (again_here WHOLE y key i q.0) (again_here WHOLE z value k n.0) l n.1)
    restate d f x (Removes _ t at y key r parts g i l) (h, rest) margin blank =
        let q = words_parts edition y r rest in
        let n = drop_word t at g in
        gap_before margin blank (remove_printed d at key r parts (subst (IsWord edition) n.0 (h n.1)) (again_here WHOLE y key i q.0) l q.1)
    restate d f x (Fails _ t at c end g i) h margin blank =
        gap_before margin blank (fail_printed d at)
    restate d f x (Returns _ t at c end g i) h margin blank =
        gap_before margin blank (return_printed d at)

    pub reblock : (d : ℕ) (b : List Token) (ss : StatementTrees) → IsBlock limits d b ss
        → AllWords edition b → (margin : List ℕ) → list_all is_blank margin ≡ true
        → IsPrinted edition (IsItemsOf d ss) Any (statements_text margin ss)
    reblock d b ss (Block _ o at z _ e may i) h margin blank = relines d z ss i h.1 margin blank

    pub relines : (d : ℕ) (z : List Token) (ss : StatementTrees) → IsStatements limits d z ss
        → AllWords edition z → (margin : List ℕ) → list_all is_blank margin ≡ true
        → IsPrinted edition (IsItemsOf d ss) Any (statements_text margin ss)
    relines d z ss (Closes _ c end e) h margin blank = no_items d
    relines d f ss (Then _ y s z rest i j) h margin blank =
        let q = words_parts edition y z h in
        mapped (items_more d s rest) (both (restate d y s i q.0 margin blank) (relines d z rest j q.1 margin blank) (λ r k. tt))
