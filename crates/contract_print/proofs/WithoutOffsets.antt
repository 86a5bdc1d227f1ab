-- The canonical text doesn't depend on the offsets in a tree.
use Rattle.std.proofs.Common.{◌≡◌, ℕ, List, [], ◌∷◌, ◌++◌, map, codes, Option, Some, None, Ok, refl, sym, ap, ◌∙◌}
use Rattle.contract_tokens.specs.Tokens as tokens
use Rattle.contract_tokens.proofs.Outcomes.{tokenized_once}
use Rattle.contract_parse.specs.Syntax.{ReadsAs}
use Rattle.contract_parse.proofs.Parsed.{has_one_outcome}
use Rattle.contract_tree.specs.declared.tree.Param.{Param}
use Rattle.contract_tree.specs.Tree.{Tree, Trees, none, more, StatementTree, StatementTrees, no_statement, statements, FunctionTree, erase, erase_all, erase_from, erase_statement, erase_statements, erase_param, erase_function, erase_contract}
use Rattle.contract_tree.specs.Tree as tree
use Rattle.contract_print.specs.Canonical.{sign_text, is_compound, in_parentheses, expression_text, args_text, more_args_text, from_text, assigned_text, put_text, remove_text, test_text, deeper, statement_text, statements_text, param_text, more_params_text, params_text, function_text, more_functions_text, contract_text}
use Rattle.contract_print.proofs.RereadContracts.{reads_again}

-- ---- expressions

compound_same : (x : Tree) → is_compound (erase x) ≡ is_compound x
compound_same (tree.Int at value) = refl
compound_same (tree.Text at text) = refl
compound_same (tree.Name at name) = refl
compound_same (tree.Call at name args) = refl
compound_same (tree.Prefix at sign operand) = refl
compound_same (tree.Binary at sign left right) = refl

operand_same : (x : Tree) → expression_text (erase x) ≡ expression_text x → in_parentheses (is_compound (erase x)) (expression_text (erase x)) ≡ in_parentheses (is_compound x) (expression_text x)
operand_same x e = ap (λ b. in_parentheses b (expression_text (erase x))) (compound_same x) ∙ ap (in_parentheses (is_compound x)) e

binary_same : (left right : Tree) (a b : List ℕ) (sign : List ℕ)
    → a ≡ in_parentheses (is_compound left) (expression_text left)
    → b ≡ in_parentheses (is_compound right) (expression_text right)
    → a ++ codes " " ++ sign ++ codes " " ++ b ≡ in_parentheses (is_compound left) (expression_text left) ++ codes " " ++ sign ++ codes " " ++ in_parentheses (is_compound right) (expression_text right)
binary_same left right a b sign e f = ap (λ l. l ++ codes " " ++ sign ++ codes " " ++ b) e ∙ ap (λ l. in_parentheses (is_compound left) (expression_text left) ++ codes " " ++ sign ++ codes " " ++ l) f

mutual
  expression_same : (x : Tree) → expression_text (erase x) ≡ expression_text x
  expression_same (tree.Int at value) = refl
  expression_same (tree.Text at text) = refl
  expression_same (tree.Name at name) = refl
  expression_same (tree.Call at name args) =
      ap (λ l. name ++ codes "(" ++ l ++ codes ")") (args_same args)
  expression_same (tree.Prefix at sign operand) =
      ap (λ l. sign_text sign ++ l) (operand_same operand (expression_same operand))
  expression_same (tree.Binary at sign left right) = binary_same left right _ _ (sign_text sign) (operand_same left (expression_same left)) (operand_same right (expression_same right))

  args_same : (xs : Trees) → args_text (erase_all xs) ≡ args_text xs
  args_same none = refl
  args_same (more x xs) = ap (λ l. l ++ more_args_text (erase_all xs)) (expression_same x) ∙ ap (λ l. expression_text x ++ l) (more_args_same xs)

  more_args_same : (xs : Trees) → more_args_text (erase_all xs) ≡ more_args_text xs
  more_args_same none = refl
  more_args_same (more x xs) = ap (λ l. codes ", " ++ l ++ more_args_text (erase_all xs)) (expression_same x) ∙ ap (λ l. codes ", " ++ expression_text x ++ l) (more_args_same xs)

-- ---- statements

from_same : (parts : Option Trees) → from_text (erase_from parts) ≡ from_text parts
from_same None = refl
from_same (Some parts) = ap (λ l. codes " from " ++ l) (args_same parts)

assigned_same : (name : List ℕ) (value : Tree)
    → assigned_text name (erase value) ≡ assigned_text name value
assigned_same name value = ap (λ l. name ++ codes " = " ++ l ++ codes ";\n") (expression_same value)

put_same : (key value : Tree) (parts : Option Trees)
    → put_text (erase key) (erase value) (erase_from parts) ≡ put_text key value parts
put_same key value parts =
    ap (λ l. codes "put " ++ l ++ codes " = " ++ expression_text (erase value) ++ from_text (erase_from parts) ++ codes ";\n") (expression_same key)
    ∙ ap (λ l. codes "put " ++ expression_text key ++ codes " = " ++ l ++ from_text (erase_from parts) ++ codes ";\n") (expression_same value)
    ∙ ap (λ l. codes "put " ++ expression_text key ++ codes " = " ++ expression_text value ++ l ++ codes ";\n") (from_same parts)

remove_same : (key : Tree) (parts : Option Trees)
    → remove_text (erase key) (erase_from parts) ≡ remove_text key parts
remove_same key parts =
    ap (λ l. codes "drop " ++ l ++ from_text (erase_from parts) ++ codes ";\n") (expression_same key)
    ∙ ap (λ l. codes "drop " ++ expression_text key ++ l ++ codes ";\n") (from_same parts)

test_same : (word : List ℕ) (test : Tree) → test_text word (erase test) ≡ test_text word test
test_same word test = ap (λ l. word ++ l ++ codes " {\n") (expression_same test)

mutual
  statement_same : (margin : List ℕ) (x : StatementTree)
      → statement_text margin (erase_statement x) ≡ statement_text margin x
  statement_same margin (tree.Let at name_at name value) =
      ap (λ l. margin ++ (codes "let " ++ l)) (assigned_same name value)
  statement_same margin (tree.Assign at name value) =
      ap (λ l. margin ++ l) (assigned_same name value)
  statement_same margin (tree.If at test first) =
      ap (λ l. margin ++ l ++ statements_text (deeper margin) (erase_statements first) ++ (margin ++ codes "}\n")) (test_same (codes "if ") test)
      ∙ ap (λ l. margin ++ test_text (codes "if ") test ++ l ++ (margin ++ codes "}\n")) (statements_same (deeper margin) first)
  statement_same margin (tree.IfElse at test first second) =
      ap (λ l. margin ++ l ++ statements_text (deeper margin) (erase_statements first) ++ (margin ++ codes "} else {\n") ++ statements_text (deeper margin) (erase_statements second) ++ (margin ++ codes "}\n")) (test_same (codes "if ") test)
      ∙ ap (λ l. margin ++ test_text (codes "if ") test ++ l ++ (margin ++ codes "} else {\n") ++ statements_text (deeper margin) (erase_statements second) ++ (margin ++ codes "}\n")) (statements_same (deeper margin) first)
      ∙ ap (λ l. margin ++ test_text (codes "if ") test ++ statements_text (deeper margin) first ++ (margin ++ codes "} else {\n") ++ l ++ (margin ++ codes "}\n")) (statements_same (deeper margin) second)
  statement_same margin (tree.While at test body) =
      ap (λ l. margin ++ l ++ statements_text (deeper margin) (erase_statements body) ++ (margin ++ codes "}\n")) (test_same (codes "while ") test)
      ∙ ap (λ l. margin ++ test_text (codes "while ") test ++ l ++ (margin ++ codes "}\n")) (statements_same (deeper margin) body)
  statement_same margin (tree.Put at key value parts) =
      ap (λ l. margin ++ l) (put_same key value parts)
  statement_same margin (tree.Remove at key parts) = ap (λ l. margin ++ l) (remove_same key parts)
  statement_same margin (tree.Fail at) = refl
  statement_same margin (tree.Return at) = refl

  statements_same : (margin : List ℕ) (xs : StatementTrees)
      → statements_text margin (erase_statements xs) ≡ statements_text margin xs
  statements_same margin no_statement = refl
  statements_same margin (statements x xs) = ap (λ l. l ++ statements_text margin (erase_statements xs)) (statement_same margin x) ∙ ap (λ l. statement_text margin x ++ l) (statements_same margin xs)

-- ---- functions

more_params_same : (params : List Param)
    → more_params_text (map erase_param params) ≡ more_params_text params
more_params_same [] = refl
more_params_same (p ∷ ps) = ap (λ l. (codes ", " ++ param_text p) ++ l) (more_params_same ps)

params_same : (params : List Param) → params_text (map erase_param params) ≡ params_text params
params_same [] = refl
params_same (p ∷ ps) = ap (λ l. param_text p ++ l) (more_params_same ps)

function_same : (f : FunctionTree) → function_text (erase_function f) ≡ function_text f
function_same f =
    ap (λ l. codes "fn " ++ f.name ++ codes "(" ++ l ++ codes ") {\n" ++ statements_text (codes "  ") (erase_statements f.body) ++ codes "}\n") (params_same f.params)
    ∙ ap (λ l. codes "fn " ++ f.name ++ codes "(" ++ params_text f.params ++ codes ") {\n" ++ l ++ codes "}\n") (statements_same (codes "  ") f.body)

more_functions_same : (fs : List FunctionTree)
    → more_functions_text (erase_contract fs) ≡ more_functions_text fs
more_functions_same [] = refl
more_functions_same (f ∷ fs) = ap (λ l. (codes "\n" ++ l) ++ more_functions_text (erase_contract fs)) (function_same f) ∙ ap (λ l. (codes "\n" ++ function_text f) ++ l) (more_functions_same fs)

contract_same : (fs : List FunctionTree) → contract_text (erase_contract fs) ≡ contract_text fs
contract_same [] = refl
contract_same (f ∷ fs) = ap (λ l. l ++ more_functions_text (erase_contract fs)) (function_same f) ∙ ap (λ l. function_text f ++ l) (more_functions_same fs)

-- trees that differ in their offsets only have the same canonical text
pub one_text : (all other : List FunctionTree) → erase_contract other ≡ erase_contract all
    → contract_text other ≡ contract_text all
one_text all other e = sym (contract_same other) ∙ ap contract_text e ∙ contract_same all

-- ---- the text of what the text reads as

module _ {edition : ℕ} where
  reads_once : (source : List ℕ) (a b : List FunctionTree) → ReadsAs edition source a
      → ReadsAs edition source b → a ≡ b
  reads_once source a b i j =
      let found : tokens.Outcome = Ok (i.before ++ i.end ∷ []) in
      let e = has_one_outcome edition source (λ one other h k. tokenized_once edition 0 source one other h k) found i.tokens (Ok a) (Ok b) i j in cc

  -- the canonical text of what a source reads as is the canonical text of whatever it reads as itself
  pub same_text : (source : List ℕ) (all : List FunctionTree) → ReadsAs edition source all
      → (other : List FunctionTree) → ReadsAs edition (contract_text all) other
      → contract_text other ≡ contract_text all
  same_text source all i other j =
      let again = reads_again source all i in
      one_text all other (ap erase_contract (reads_once (contract_text all) other again.0 j again.1) ∙ again.2)
