-- The grammar of the contract language over its tokens, with its limits as a parameter.
use Rattle.std.specs.Prelude.{◌≡◌, ℕ, ℤ, suc, ◌≤◌, Bool, true, false, not, ◌==◌, List, [], ◌∷◌, ◌++◌, Option, Some, None}
use Rattle.contract_tokens.specs.declared.token.Token.{Token}
use Rattle.contract_tokens.specs.declared.token.Mark.{Mark}
use Rattle.contract_tokens.specs.declared.token.Mark.TheVariants as m
use Rattle.contract_tree.specs.Tree.{Tree, Trees, trees, height, StatementTree, StatementTrees, no_statement, statements, FunctionTree}
use Rattle.contract_tree.specs.Tree as tree
use Rattle.contract_tree.specs.declared.tree.Param.{Param}
use Rattle.contract_tree.specs.declared.tree.Sign.{Sign}
use Rattle.contract_tree.specs.declared.tree.ValueKind.{ValueKind}
use Rattle.contract_grammar.specs.Marks.{the, int_of, text_of, name_of, callee_of, prefix_of, sign_of, declared_of, kind_of}
use Rattle.contract_grammar.specs.declared.limits.TheConstants.{MAX_PENDING, MAX_NESTING, MAX_HEIGHT, MAX_PARAMETERS, COMPARISONS, WHOLE}

-- How many parentheses and prefixes may be pending at once, how deep blocks may be nested, how high
-- an expression may be, and how many parameters a function may have; `None` is no limit.
pub record Limits : Type 0 where
  pub pending : Option ℕ
  pub nesting : Option ℕ
  pub height : Option ℕ
  pub parameters : Option ℕ

-- The number keeps the limit, if there is one.
abbrev pub Within : Option ℕ → ℕ → Type 0
Within None n = Unit {0}
Within (Some most) n = n ≤ most

-- The limit, if it is chosen.
abbrev pub limit_if : Bool → ℕ → Option ℕ
limit_if true most = Some most
limit_if false most = None

-- The chosen ones of the limits of contracts.
abbrev pub limits_of : (pending nesting height parameters : Bool) → Limits
limits_of pending nesting height parameters =
    record {
      pending = limit_if pending MAX_PENDING;
      nesting = limit_if nesting MAX_NESTING;
      height = limit_if height MAX_HEIGHT;
      parameters = limit_if parameters MAX_PARAMETERS;
    }

-- All limits that a contract keeps.
abbrev pub limits : Limits
limits = limits_of true true true true

-- No limits.
abbrev pub no_limits : Limits
no_limits = limits_of false false false false

-- Whether operators of this level are chained: all but comparisons.
abbrev pub is_chained : ℕ → Bool
is_chained level = not (level == COMPARISONS)

mutual
  -- The tokens are the expression, with `d` parentheses and prefixes pending around it. Levels: 0
  -- for numbers, texts, names, calls, groups and prefixes, then `* / %`, `+ -`, `++`, comparisons,
  -- `&&`, `||`.
  pub data IsExpr (l : Limits) : (d level : ℕ) → List Token → Tree → Type 0 where
    Number :
        (d : ℕ) (t : Token) (n : ℕ × ℤ) → int_of t ≡ Some n
        → IsExpr l d 0 (t ∷ []) (tree.Int n.0 n.1)
    Literal :
        (d : ℕ) (t : Token) (n : ℕ × List ℕ) → text_of t ≡ Some n
        → IsExpr l d 0 (t ∷ []) (tree.Text n.0 n.1)
    Named :
        (d : ℕ) (t : Token) (n : ℕ × List ℕ) → name_of t ≡ Some n
        → IsExpr l d 0 (t ∷ []) (tree.Name n.0 n.1)
    Called :
        (d : ℕ) (t : Token) (n : ℕ × List ℕ) (y : List Token) (args : List Tree)
        → callee_of t ≡ Some n → Within l.pending (suc d) → IsArgs l (suc d) y args
        → Within l.height (height (tree.Call n.0 n.1 (trees args)))
        → IsExpr l d 0 (t ∷ y) (tree.Call n.0 n.1 (trees args))
    Prefixed :
        (d : ℕ) (t : Token) (s : ℕ × Sign) (y : List Token) (x : Tree) → prefix_of t ≡ Some s
        → Within l.pending (suc d) → IsExpr l (suc d) 0 y x
        → Within l.height (height (tree.Prefix s.0 s.1 x))
        → IsExpr l d 0 (t ∷ y) (tree.Prefix s.0 s.1 x)
    Grouped :
        (d : ℕ) (o : Token) (at : ℕ) (y : List Token) (x : Tree) (c : Token) (end : ℕ)
        → the m.ParenOpen o ≡ Some at → Within l.pending (suc d) → IsExpr l (suc d) WHOLE y x
        → the m.ParenClose c ≡ Some end → IsExpr l d 0 (o ∷ (y ++ c ∷ [])) x
    Tighter :
        (d level : ℕ) (y : List Token) (x : Tree) → IsExpr l d level y x
        → IsExpr l d (suc level) y x
    Chained :
        (d level : ℕ) (y : List Token) (x : Tree) (t : Token) (s : ℕ × Sign) (z : List Token)
        (w : Tree) → is_chained (suc level) ≡ true → IsExpr l d (suc level) y x
        → sign_of (suc level) t ≡ Some s → IsExpr l d level z w
        → Within l.height (height (tree.Binary s.0 s.1 x w))
        → IsExpr l d (suc level) (y ++ t ∷ z) (tree.Binary s.0 s.1 x w)
    Compared :
        (d level : ℕ) (y : List Token) (x : Tree) (t : Token) (s : ℕ × Sign) (z : List Token)
        (w : Tree) → is_chained (suc level) ≡ false → IsExpr l d level y x
        → sign_of (suc level) t ≡ Some s → IsExpr l d level z w
        → Within l.height (height (tree.Binary s.0 s.1 x w))
        → IsExpr l d (suc level) (y ++ t ∷ z) (tree.Binary s.0 s.1 x w)

  -- The tokens are the arguments with their parentheses.
  pub data IsArgs (l : Limits) : ℕ → List Token → List Tree → Type 0 where
    NoArgs :
        (d : ℕ) (o : Token) (at : ℕ) (c : Token) (end : ℕ) → the m.ParenOpen o ≡ Some at
        → the m.ParenClose c ≡ Some end → IsArgs l d (o ∷ c ∷ []) []
    Args :
        (d : ℕ) (o : Token) (at : ℕ) (y : List Token) (x : Tree) (z : List Token) (xs : List Tree)
        → the m.ParenOpen o ≡ Some at → IsExpr l d WHOLE y x → IsMore l m.ParenClose d z xs
        → IsArgs l d (o ∷ (y ++ z)) (x ∷ xs)

  -- The tokens follow the first of several parts: the other parts, each after a comma, and the
  -- closing sign.
  pub data IsMore (l : Limits) : Mark → ℕ → List Token → List Tree → Type 0 where
    Last :
        (mark : Mark) (d : ℕ) (c : Token) (end : ℕ) → the mark c ≡ Some end
        → IsMore l mark d (c ∷ []) []
    More :
        (mark : Mark) (d : ℕ) (c : Token) (at : ℕ) (y : List Token) (x : Tree) (z : List Token)
        (xs : List Tree) → the m.Comma c ≡ Some at → IsExpr l d WHOLE y x → IsMore l mark d z xs
        → IsMore l mark d (c ∷ (y ++ z)) (x ∷ xs)

-- The tokens are a whole expression: nothing is pending around it.
abbrev pub IsExpression : Limits → List Token → Tree → Type 0
IsExpression l = IsExpr l 0 WHOLE

mutual
  -- The tokens are the statement, in a block at depth `d`.
  pub data IsStatement (l : Limits) : ℕ → List Token → StatementTree → Type 0 where
    Lets :
        (d : ℕ) (t : Token) (at : ℕ) (n : Token) (name : ℕ × List ℕ) (a : Token) (p : ℕ)
        (y : List Token) (x : Tree) (c : Token) (end : ℕ) → the m.Let t ≡ Some at
        → declared_of n ≡ Some name → the m.Assign a ≡ Some p → IsExpression l y x
        → the m.Semicolon c ≡ Some end
        → IsStatement l d (t ∷ n ∷ a ∷ (y ++ c ∷ [])) (tree.Let at name.0 name.1 x)
    Assigns :
        (d : ℕ) (n : Token) (name : ℕ × List ℕ) (a : Token) (p : ℕ) (y : List Token) (x : Tree)
        (c : Token) (end : ℕ) → name_of n ≡ Some name → the m.Assign a ≡ Some p → IsExpression l y x
        → the m.Semicolon c ≡ Some end
        → IsStatement l d (n ∷ a ∷ (y ++ c ∷ [])) (tree.Assign name.0 name.1 x)
    Ifs :
        (d : ℕ) (t : Token) (at : ℕ) (y : List Token) (x : Tree) (b : List Token)
        (first : StatementTrees) → the m.If t ≡ Some at → IsExpression l y x
        → IsBlock l (suc d) b first → IsStatement l d (t ∷ (y ++ b)) (tree.If at x first)
    IfElses :
        (d : ℕ) (t : Token) (at : ℕ) (y : List Token) (x : Tree) (b : List Token)
        (first : StatementTrees) (e : Token) (p : ℕ) (c : List Token) (second : StatementTrees)
        → the m.If t ≡ Some at → IsExpression l y x → IsBlock l (suc d) b first
        → the m.Else e ≡ Some p → IsBlock l (suc d) c second
        → IsStatement l d (t ∷ (y ++ (b ++ e ∷ c))) (tree.IfElse at x first second)
    Whiles :
        (d : ℕ) (t : Token) (at : ℕ) (y : List Token) (x : Tree) (b : List Token)
        (body : StatementTrees) → the m.While t ≡ Some at → IsExpression l y x
        → IsBlock l (suc d) b body → IsStatement l d (t ∷ (y ++ b)) (tree.While at x body)
    Puts :
        (d : ℕ) (t : Token) (at : ℕ) (y : List Token) (key : Tree) (a : Token) (p : ℕ)
        (z : List Token) (value : Tree) (f : List Token) (parts : Option Trees)
        → the m.Put t ≡ Some at → IsExpression l y key → the m.Assign a ≡ Some p
        → IsExpression l z value → IsFrom l f parts
        → IsStatement l d (t ∷ (y ++ a ∷ (z ++ f))) (tree.Put at key value parts)
    Removes :
        (d : ℕ) (t : Token) (at : ℕ) (y : List Token) (key : Tree) (f : List Token)
        (parts : Option Trees) → the m.Drop t ≡ Some at → IsExpression l y key → IsFrom l f parts
        → IsStatement l d (t ∷ (y ++ f)) (tree.Remove at key parts)
    Fails :
        (d : ℕ) (t : Token) (at : ℕ) (c : Token) (end : ℕ) → the m.Fail t ≡ Some at
        → the m.Semicolon c ≡ Some end → IsStatement l d (t ∷ c ∷ []) (tree.Fail at)
    Returns :
        (d : ℕ) (t : Token) (at : ℕ) (c : Token) (end : ℕ) → the m.Return t ≡ Some at
        → the m.Semicolon c ≡ Some end → IsStatement l d (t ∷ c ∷ []) (tree.Return at)

  -- The tokens are the end of a `put` or of a `drop`, including the semicolon.
  pub data IsFrom (l : Limits) : List Token → Option Trees → Type 0 where
    NoFrom : (c : Token) (end : ℕ) → the m.Semicolon c ≡ Some end → IsFrom l (c ∷ []) None
    FromThese :
        (f : Token) (p : ℕ) (y : List Token) (x : Tree) (z : List Token) (xs : List Tree)
        → the m.From f ≡ Some p → IsExpression l y x → IsMore l m.Semicolon 0 z xs
        → IsFrom l (f ∷ (y ++ z)) (Some (trees (x ∷ xs)))

  -- The tokens are statements in braces, at depth `d`; the body of a function has depth 1.
  pub data IsBlock (l : Limits) : ℕ → List Token → StatementTrees → Type 0 where
    Block :
        (d : ℕ) (o : Token) (at : ℕ) (z : List Token) (ss : StatementTrees)
        → the m.BraceOpen o ≡ Some at → Within l.nesting d → IsStatements l d z ss
        → IsBlock l d (o ∷ z) ss

  -- The tokens are statements and their closing brace.
  pub data IsStatements (l : Limits) : ℕ → List Token → StatementTrees → Type 0 where
    Closes :
        (d : ℕ) (c : Token) (end : ℕ) → the m.BraceClose c ≡ Some end
        → IsStatements l d (c ∷ []) no_statement
    Then :
        (d : ℕ) (y : List Token) (s : StatementTree) (z : List Token) (ss : StatementTrees)
        → IsStatement l d y s → IsStatements l d z ss → IsStatements l d (y ++ z) (statements s ss)

-- The tokens are the parameter, after `n` others.
pub data IsParam (l : Limits) : ℕ → List Token → Param → Type 0 where
  IsOneParam :
      (n : ℕ) (t : Token) (name : ℕ × List ℕ) (c : Token) (p : ℕ) (k : Token) (kind : ValueKind)
      → declared_of t ≡ Some name → Within l.parameters (suc n) → the m.Colon c ≡ Some p
      → kind_of k ≡ Some kind
      → IsParam l n (t ∷ c ∷ k ∷ []) (record { at = name.0; name = name.1; kind = kind })

-- The tokens follow `n` parameters: the other parameters, each after a comma, and the closing
-- parenthesis.
pub data IsMoreParams (l : Limits) : ℕ → List Token → List Param → Type 0 where
  LastParam :
      (n : ℕ) (c : Token) (end : ℕ) → the m.ParenClose c ≡ Some end → IsMoreParams l n (c ∷ []) []
  MoreParams :
      (n : ℕ) (c : Token) (at : ℕ) (y : List Token) (x : Param) (z : List Token) (xs : List Param)
      → the m.Comma c ≡ Some at → IsParam l n y x → IsMoreParams l (suc n) z xs
      → IsMoreParams l n (c ∷ (y ++ z)) (x ∷ xs)

-- The tokens are parameters with their parentheses.
pub data IsParams (l : Limits) : List Token → List Param → Type 0 where
  NoParams :
      (o : Token) (at : ℕ) (c : Token) (end : ℕ) → the m.ParenOpen o ≡ Some at
      → the m.ParenClose c ≡ Some end → IsParams l (o ∷ c ∷ []) []
  Params :
      (o : Token) (at : ℕ) (y : List Token) (x : Param) (z : List Token) (xs : List Param)
      → the m.ParenOpen o ≡ Some at → IsParam l 0 y x → IsMoreParams l 1 z xs
      → IsParams l (o ∷ (y ++ z)) (x ∷ xs)

-- The tokens are the function.
pub data IsFunction (l : Limits) : List Token → FunctionTree → Type 0 where
  IsOneFunction : (t : Token) (at : ℕ) (n : Token) (name : ℕ × List ℕ) (y : List Token) (params : List Param) (z : List Token) (body : StatementTrees) → the m.Fn t ≡ Some at → declared_of n ≡ Some name → IsParams l y params → IsBlock l 1 z body → IsFunction l (t ∷ n ∷ (y ++ z)) (record { at = name.0; name = name.1; params = params; body = body })

-- The tokens are the contract: at least one function.
pub data IsContract (l : Limits) : List Token → List FunctionTree → Type 0 where
  LastFunction : (y : List Token) (f : FunctionTree) → IsFunction l y f → IsContract l y (f ∷ [])
  MoreFunctions :
      (y : List Token) (f : FunctionTree) (z : List Token) (fs : List FunctionTree)
      → IsFunction l y f → IsContract l z fs → IsContract l (y ++ z) (f ∷ fs)
