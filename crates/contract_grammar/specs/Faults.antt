-- The first token at which tokens stop being those of a contract.
use Rattle.std.specs.Prelude.{◌≡◌, ℕ, Bool, true, false, List, [], ◌∷◌, ◌++◌, All, suc}
use Rattle.contract_tokens.specs.declared.token.Token.{Token}
use Rattle.contract_tokens.specs.declared.token.Mark.TheVariants.{BraceOpen}
use Rattle.contract_tokens.specs.declared.token.Word.{Word}
use Rattle.contract_tokens.specs.Lexemes.{IsSpelled}
use Rattle.contract_tree.specs.Tree.{Tree, offset_of, height, FunctionTree}
use Rattle.contract_grammar.specs.declared.Obstacle.{Obstacle}
use Rattle.contract_grammar.specs.declared.Obstacle.TheVariants.{Unfit, Surplus, Pending, Nesting, Height}
use Rattle.contract_grammar.specs.Grammar.{Limits, limits_of, no_limits, IsExpr, IsContract}
use Rattle.contract_grammar.specs.Marks.{is, has, is_end, name_of, opens}
use Rattle.contract_grammar.specs.declared.limits.TheConstants.{MAX_HEIGHT}

-- The word can be written: some bytes spell it in some edition. Which tokens a contract may have
-- next doesn't depend on the edition: where one continues with a `drop`, one continues with `fail`.
abbrev pub IsWritable : Word → Type 0
IsWritable word = (edition : ℕ) × (bytes : List ℕ) × IsSpelled edition bytes word

-- Each of the tokens can be written, so they may be those of a source.
abbrev pub AreWritable : List Token → Type 0
AreWritable tokens = All (λ t. IsWritable t.word) tokens

-- A contract begins with the tokens, and continues with tokens that can be written.
abbrev pub Fits : Limits → List Token → Type 0
Fits l before =
    (more : List Token) × (all : List FunctionTree) × AreWritable more × IsContract l (before ++ more) all

-- The definition of `Allows`, given whether the token is the end of the source.
abbrev pub AllowsBy : Bool → Limits → List Token → Token → Type 0
AllowsBy true l before t = (all : List FunctionTree) × IsContract l before all
AllowsBy false l before t = Fits l (before ++ t ∷ [])

-- The token fits after these: a contract begins with them and it, or it is the end of the source
-- and they are a contract.
abbrev pub Allows : Limits → List Token → Token → Type 0
Allows l before t = AllowsBy (is_end t) l before t

-- The last of these tokens are an expression at this offset whose height is one too great. In some
-- contract that begins with the tokens, any other tokens of the same expression can take the place
-- of the last ones.
pub record IsTooHigh (before : List Token) (at : ℕ) : Type 0 where
  pub prefix : List Token
  pub tokens : List Token
  pub more : List Token
  pub before_is : before ≡ prefix ++ tokens
  pub pending : ℕ
  pub level : ℕ
  pub tree : Tree
  pub is_expression : IsExpr no_limits pending level tokens tree
  pub offset_is : offset_of tree ≡ at
  pub height_is : height tree ≡ suc MAX_HEIGHT
  pub all : List FunctionTree
  pub more_is : AreWritable more
  pub stands :
      (other : List Token) → IsExpr no_limits pending level other tree
      → IsContract no_limits (prefix ++ (other ++ more)) all

-- The limit of what is pending, without the other three.
abbrev pub pending_only : Limits
pending_only = limits_of true false false false

-- The limit of nested blocks alone.
abbrev pub nesting_only : Limits
nesting_only = limits_of false true false false

-- The limit of heights alone.
abbrev pub heights_only : Limits
heights_only = limits_of false false true false

-- The limit of parameters alone.
abbrev pub parameters_only : Limits
parameters_only = limits_of false false false true

-- What stops a contract that begins with the tokens from continuing with this one. Each limit is
-- considered alone.
abbrev pub IsObstacle : Obstacle → List Token → Token → Type 0
IsObstacle Unfit before t = Fits no_limits before × (Allows no_limits before t → ⊥)
IsObstacle Surplus before t =
    (has name_of t ≡ true) × Allows no_limits before t × (Allows parameters_only before t → ⊥)
IsObstacle Pending before t =
    (opens t ≡ true) × Allows no_limits before t × (Allows pending_only before t → ⊥)
IsObstacle Nesting before t =
    (is BraceOpen t ≡ true) × Allows no_limits before t × (Allows nesting_only before t → ⊥)
IsObstacle (Height at) before t = IsTooHigh before at × (Allows heights_only before t → ⊥)

-- Each of these tokens that passes the test was allowed at its place.
abbrev pub KeepsLimit : Limits → (Token → Bool) → List Token → Type 0
KeepsLimit l test tokens =
    (before after : List Token) (t : Token)
    → tokens ≡ before ++ t ∷ after → test t ≡ true → Allows l before t

-- The tokens keep the limits of parameters, of what is pending and of nested blocks: no name,
-- parenthesis, prefix or brace among them was one too many.
pub record KeepsLimits (tokens : List Token) : Type 0 where
  pub pending : KeepsLimit pending_only opens tokens
  pub nesting : KeepsLimit nesting_only (is BraceOpen) tokens
  pub parameters : KeepsLimit parameters_only (has name_of) tokens

-- Whether the obstacle is the height of an expression.
abbrev pub is_height : Obstacle → Bool
is_height (Height at) = true
is_height _ = false

-- What is wrong at the first token with which a contract does not continue, or which a limit
-- refuses. The tokens before it keep the limits.
abbrev pub IsFault : Obstacle → List Token → Token → Type 0
IsFault why before t = IsObstacle why before t × KeepsLimits before

-- Tokens have at most one fault, if heights are ignored: it is at one token, and of one kind.
abbrev pub HasOneFault : List Token → Type 0
HasOneFault tokens =
    (why why' : Obstacle) (before after before' after' : List Token) (t t' : Token)
    → tokens ≡ before ++ t ∷ after → tokens ≡ before' ++ t' ∷ after'
    → is_height why ≡ false → is_height why' ≡ false → IsFault why before t → IsFault why' before' t'
    → (before ≡ before') × (why ≡ why')
