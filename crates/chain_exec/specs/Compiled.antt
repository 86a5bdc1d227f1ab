-- Compiling: a source determines the functions that it is deployed as, or that it is refused.
use Rattle.std.specs.Prelude.{◌≡◌, ℕ, List, Option, Some, None, Ok, Err}
use Rattle.contract_tree.specs.Tree.{FunctionTree}
use Rattle.contract_parse.specs.Syntax.{Outcome, IsOutcome}
use Rattle.contract_parse.proofs.Outcomes.{some_outcome}
use Rattle.contract_eval.specs.contract_check.declared.fault.Fault.{Fault}
use Rattle.contract_eval.specs.contract_check.Faults.{check_fault}

-- A compiler of one edition of the language maps a source to the functions of its contract, or to
-- None if it is refused.
abbrev pub EditionCompiler : Type 0
EditionCompiler = List ℕ → Option (List FunctionTree)

-- A compiler has one for each edition. The edition of a block's sources is the block's version.
abbrev pub Compiler : Type 0
Compiler = ℕ → EditionCompiler

-- The functions, or None if they have a fault.
abbrev pub faultless : List FunctionTree → Option Fault → Option (List FunctionTree)
faultless functions None = Some functions
faultless functions (Some fault) = None

-- The functions that a source is deployed as, by its outcome: those that it parses to, if their
-- names and kinds have no fault.
abbrev pub functions_of : Outcome → Option (List FunctionTree)
functions_of (Ok functions) = faultless functions (check_fault functions)
functions_of (Err fault) = None

-- A compiler is right if it maps each source to the functions that its outcome in the edition says.
-- Each source has one outcome in an edition, so there is only one such compiler.
abbrev pub IsCompiler : Compiler → Type 0
IsCompiler compile =
    (edition : ℕ) (source : List ℕ) (outcome : Outcome) → IsOutcome edition source outcome
    → compile edition source ≡ functions_of outcome

-- The right compiler: what the outcome of the source in the edition says. `some_outcome` is the lemma
-- that each source has an outcome; a source has no other, so nothing depends on how the lemma finds
-- it.
unfoldable pub compiled_in : Compiler
compiled_in edition source = functions_of (some_outcome edition source).0
