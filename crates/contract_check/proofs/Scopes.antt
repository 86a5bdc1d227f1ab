-- Names are only added along statements, so those after a block are those before it.
use Rattle.std.proofs.Common.{◌≡◌, ℕ, List, [], ◌∷◌, ◌++◌, length, take, Option, Some, None, Result, Ok, Err, sym, ap, refl, ◌∙◌, append_assoc}
use Rattle.std.proofs.lemmas.List.{append-nil, take_at}
use Rattle.contract_tree.specs.declared.tree.ValueKind.{ValueKind}
use Rattle.contract_tree.specs.declared.tree.ValueKind.TheVariants.{Int, Text}
use Rattle.contract_tree.specs.Tree.{Trees, none, more, StatementTree, StatementTrees, no_statement, statements}
use Rattle.contract_tree.specs.Tree as tree
use Rattle.contract_check.specs.declared.fault.Fault.{Fault}
use Rattle.contract_check.specs.declared.expression.KindAt.{KindAt}
use Rattle.contract_check.specs.Names.{Names, kind_in}
use Rattle.contract_check.specs.WellKinded.{with_name}
use Rattle.contract_check.specs.Faults.{and_then, expression_kind, require_kind, expression_of_kind, text_expressions, source_expressions, with_new_name, names_after_declaration, names_after_assignment, names_after_block, names_after_statement, names_after_statements}

-- the two steps of a check that found no fault
pub record Passes {A B : Type 0} (r : Result A Fault) (next : A → Result B Fault) (b : B) : Type 0 where
  pub value : A
  pub first : r ≡ Ok value
  pub second : next value ≡ Ok b

pub and_then_ok : {A B : Type 0} (r : Result A Fault) (next : A → Result B Fault) (b : B)
    → and_then r next ≡ Ok b → Passes r next b
and_then_ok (Ok a) next b e = record { value = a; first = refl; second = e }
and_then_ok (Err fault) next b e = cc

pub left_is : (names : Names) (r : Result Names Fault) (left : Names)
    → names_after_block names r ≡ Ok left → left ≡ names
left_is names (Ok inner) left e = (let f : names ≡ left = cc in sym f)
left_is names (Err fault) left e = cc

pub assigned_is : (o : Option ValueKind) (names : Names) (at : ℕ) (value : KindAt) (left : Names)
    → names_after_assignment o names at value ≡ Ok left → left ≡ names
assigned_is None names at value left e = cc
assigned_is (Some kind) names at value left e =
    let p = and_then_ok (require_kind kind value) (λ _. Ok names) left e in
    let f : Ok names ≡ Ok left = p.second in
    let g : names ≡ left = cc in sym g

pub texts_is : (xs : Trees) (names left : Names) → text_expressions names xs ≡ Ok left
    → left ≡ names
texts_is none names left e = (let f : names ≡ left = cc in sym f)
texts_is (more x xs) names left e = texts_is xs names left (and_then_ok (expression_of_kind Text names x) (λ _. text_expressions names xs) left e).second

pub sources_is : (parts : Option Trees) (names left : Names)
    → source_expressions names parts ≡ Ok left → left ≡ names
sources_is None names left e = (let f : names ≡ left = cc in sym f)
sources_is (Some parts) names left e = texts_is parts names left e

-- the earlier names, with more after them
pub record IsLonger (names left : Names) : Type 0 where
  pub added : Names
  pub is : left ≡ names ++ added

unlonger : (names left : Names) → left ≡ names → IsLonger names left
unlonger names left e = record { added = []; is = e ∙ sym (append-nil names) }

visible_longer : (o : Option ValueKind) (names : Names) (at : ℕ) (name : List ℕ) (kind : ValueKind) (left : Names) → with_new_name o names at name kind ≡ Ok left → IsLonger names left
visible_longer None names at name kind left e = record { added = (name, kind) ∷ []; is = (let f : with_name names name kind ≡ left = cc in sym f) }
visible_longer (Some other) names at name kind left e = cc

after_longer : (x : StatementTree) (names left : Names) → names_after_statement names x ≡ Ok left
    → IsLonger names left
after_longer (tree.Let at name_at name value) names left e =
    let p = and_then_ok (expression_kind names value) (λ value. names_after_declaration names name_at name value.kind) left e in
    visible_longer (kind_in names name) names name_at name p.value.kind left p.second
after_longer (tree.Assign at name value) names left e =
    let p = and_then_ok (expression_kind names value) (λ value. names_after_assignment (kind_in names name) names at value) left e in
    unlonger names left (assigned_is (kind_in names name) names at p.value left p.second)
after_longer (tree.If at test first) names left e =
    let p = and_then_ok (expression_of_kind Int names test) (λ _. names_after_block names (names_after_statements names first)) left e in
    unlonger names left (left_is names (names_after_statements names first) left p.second)
after_longer (tree.IfElse at test first second) names left e =
    let p = and_then_ok (expression_of_kind Int names test) (λ _. and_then (names_after_block names (names_after_statements names first)) (λ _. names_after_block names (names_after_statements names second))) left e in
    let q = and_then_ok (names_after_block names (names_after_statements names first)) (λ _. names_after_block names (names_after_statements names second)) left p.second in
    unlonger names left (left_is names (names_after_statements names second) left q.second)
after_longer (tree.While at test body) names left e =
    let p = and_then_ok (expression_of_kind Int names test) (λ _. names_after_block names (names_after_statements names body)) left e in
    unlonger names left (left_is names (names_after_statements names body) left p.second)
after_longer (tree.Put at key value parts) names left e =
    let p = and_then_ok (expression_of_kind Text names key) (λ _. and_then (expression_kind names value) (λ _. source_expressions names parts)) left e in
    let q = and_then_ok (expression_kind names value) (λ _. source_expressions names parts) left p.second in
    unlonger names left (sources_is parts names left q.second)
after_longer (tree.Remove at key parts) names left e =
    let p = and_then_ok (expression_of_kind Text names key) (λ _. source_expressions names parts) left e in
    unlonger names left (sources_is parts names left p.second)
after_longer (tree.Fail at) names left e = unlonger names left (let f : names ≡ left = cc in sym f)
after_longer (tree.Return at) names left e =
    unlonger names left (let f : names ≡ left = cc in sym f)

all_longer : (xs : StatementTrees) (names left : Names) → names_after_statements names xs ≡ Ok left
    → IsLonger names left
all_longer no_statement names left e = unlonger names left (let f : names ≡ left = cc in sym f)
all_longer (statements x xs) names left e =
    let p = and_then_ok (names_after_statement names x) (λ names. names_after_statements names xs) left e in
    let first = after_longer x names p.value p.first in
    let rest = all_longer xs p.value left p.second in
    record { added = first.added ++ rest.added; is = rest.is ∙ ap (λ l. l ++ rest.added) first.is ∙ append_assoc names first.added rest.added }

-- After a block the earlier names are visible.
pub kept : (xs : StatementTrees) (names left : Names) → names_after_statements names xs ≡ Ok left
    → names_after_block names (names_after_statements names xs) ≡ Ok (take (length names) left)
kept xs names left e =
    let l = all_longer xs names left e in
    ap (names_after_block names) e ∙ ap Ok (sym (ap (take (length names)) l.is ∙ take_at names l.added (length names) refl))
