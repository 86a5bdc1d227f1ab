-- What a reader of the program returns, in terms of the reader of the specification.
use Rattle.std.specs.Prelude.{◌≡◌, List, Result, Ok, Err}
use Rattle.contract_tokens.specs.declared.token.Token.{Token}
use Rattle.contract_grammar.specs.Rules.{Read}
use Rattle.contract_grammar.specs.declared.stop.ParseStop.{ParseStop}
use Rattle.contract_grammar.specs.declared.stop.ParseStop.TheVariants.{At, Memory}

-- The result is this outcome, seen through `view`, and these tokens are left; if memory ran out,
-- nothing is said.
abbrev pub Gives : {A B : Type 0} → (A → B) → Result A ParseStop → Read B → List Token → Type 0
Gives view (Ok a) read left = read ≡ (Ok (view a), left)
Gives view (Err (At why)) read left = read ≡ (Err why, left)
Gives view (Err Memory) read left = Unit {0}

-- The result is this outcome itself, and these tokens are left; if memory ran out, nothing is said.
abbrev pub Reads : {A : Type 0} → Result A ParseStop → Read A → List Token → Type 0
Reads = Gives (λ a. a)
