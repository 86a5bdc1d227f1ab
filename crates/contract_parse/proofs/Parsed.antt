-- What the tokens of a source say about its outcome.
use Rattle.std.proofs.Common.{◌≡◌, ℕ, List, [], ◌∷◌, ◌++◌, Ok, Err, IfSome, refl, sym, ap, ◌∙◌, subst}
use Rattle.contract_tokens.specs.declared.token.Token.{Token}
use Rattle.contract_tokens.specs.declared.token.TokenKind.{TokenKind}
use Rattle.contract_tokens.specs.declared.token.TokenError.{TokenError}
use Rattle.contract_tokens.specs.declared.token.TokenError.TheVariants as token_errors
use Rattle.contract_tokens.specs.Tokens as tokens
use Rattle.contract_tokens.specs.Tokens.{IsTokenized, IsTokens}
use Rattle.contract_tree.specs.Tree.{FunctionTree}
use Rattle.contract_grammar.specs.declared.Obstacle.{Obstacle}
use Rattle.contract_grammar.specs.Reading.{contract}
use Rattle.contract_grammar.specs.Rules.{Read}
use Rattle.contract_grammar.proofs.Answers.{accepted, complete, stopped, refused}
use Rattle.contract_parse.specs.declared.source.SyntaxKind.{SyntaxKind}
use Rattle.contract_parse.specs.Syntax.{ReadsAs, IsStoppedAt, SyntaxFault, OfTokens, OfGrammar, Outcome, IsOutcome, HasOneOutcome, fault_of, stop_fault, obstacle_fault, refusal, token_kind, reading_outcome}
use Rattle.contract_parse.proofs.Sources.{tokens_ended}

-- the outcome of a source, given that of its tokens
outcome_of : tokens.Outcome → Outcome
outcome_of (Ok list) = reading_outcome (contract list)
outcome_of (Err fault) = Err (fault.0, token_kind fault.1)

-- its tokens have one outcome
abbrev AreOnce : ℕ → List ℕ → Type 0
AreOnce edition source = (one other : tokens.Outcome) → IsTokenized edition 0 source one → IsTokenized edition 0 source other → one ≡ other

module _ (edition : ℕ) (source : List ℕ) where
  -- ---- what the tokens yield is an outcome of the source

  read_outcome : (list : List Token) → IsTokens edition 0 source list
      → (read : Read (List FunctionTree)) → contract list ≡ read
      → IsOutcome edition source (reading_outcome read)
  read_outcome list is (Ok all, left) e =
      let k = accepted (tokens_ended is) left all e in
      record { before = k.before; end = k.end; tokens = subst (λ l. IsTokens edition 0 source l) k.tokens_are is; ends = k.ends; is_contract = k.is_contract }
  read_outcome list is (Err why, left) e =
      let k = stopped (tokens_ended is) left why e in
      let tokens_here : IsTokens edition 0 source (k.before ++ k.token ∷ k.after) = subst (λ l. IsTokens edition 0 source l) k.tokens_are is in
      let first : contract (k.before ++ k.token ∷ k.after) ≡ (Err why, k.token ∷ k.after) = ap contract (sym k.tokens_are) ∙ e ∙ ap (λ l. (Err why, l)) k.rest_is in
      let fault = refused why k.before k.after k.token first in
      let made : SyntaxFault edition source (obstacle_fault why k.token).0 (obstacle_fault why k.token).1 = OfGrammar why k.token (record { before = k.before; after = k.after; tokens = tokens_here; first = first; fault = fault }) in
      subst (λ l. SyntaxFault edition source (stop_fault why l).0 (stop_fault why l).1) (sym k.rest_is) made

  some_outcome : (found : tokens.Outcome) → IsTokenized edition 0 source found
      → IsOutcome edition source (outcome_of found)
  unfolding outcome_of
  some_outcome (Ok list) is = read_outcome list is (contract list) refl
  some_outcome (Err fault) is = OfTokens fault.0 fault.1 is

  -- ---- there is no other outcome

  module _ (once : AreOnce edition source) where
    same_tokens : (a b : List Token) → IsTokens edition 0 source a → IsTokens edition 0 source b
        → a ≡ b
    same_tokens a b i j = let e = once (Ok a) (Ok b) i j in cc

    not_both : (list : List Token) (fault : ℕ × TokenKind) → IsTokens edition 0 source list
        → IsTokenized edition 0 source (Err fault) → ⊥
    not_both list fault i j = let e = once (Ok list) (Err fault) i j in cc

    only_read : (list : List Token) (all : List FunctionTree) → IsTokens edition 0 source list
        → ReadsAs edition source all → Ok all ≡ reading_outcome (contract list)
    only_read list all is reads =
        let same : list ≡ reads.before ++ reads.end ∷ [] = same_tokens list (reads.before ++ reads.end ∷ []) is reads.tokens in
        sym (ap (λ l. reading_outcome (contract l)) same ∙ ap reading_outcome (complete reads.before [] reads.end all reads.ends reads.is_contract))

    only_stop : (list : List Token) (why : Obstacle) (t : Token) → IsTokens edition 0 source list
        → IsStoppedAt edition source why t
        → Err (obstacle_fault why t) ≡ reading_outcome (contract list)
    only_stop list why t is stop =
        let same : list ≡ stop.before ++ t ∷ stop.after = same_tokens list (stop.before ++ t ∷ stop.after) is stop.tokens in
        sym (ap (λ l. reading_outcome (contract l)) same ∙ ap reading_outcome stop.first)

    only_fault : (found : tokens.Outcome) (at : ℕ) (kind : SyntaxKind)
        → IsTokenized edition 0 source found → SyntaxFault edition source at kind
        → Err (at, kind) ≡ outcome_of found
    unfolding outcome_of
    only_fault (Ok list) _ _ is (OfTokens at kind fault) =
        absurd (not_both list (at, kind) is fault)
    only_fault (Ok list) _ _ is (OfGrammar why t stop) = only_stop list why t is stop
    only_fault (Err told) _ _ is (OfTokens at kind fault) = let e = once (Err (at, kind)) (Err told) fault is in let same : (at, kind) ≡ told = cc in ap (λ f. Err (f.0, token_kind f.1)) same
    only_fault (Err told) _ _ is (OfGrammar why t stop) =
        absurd (not_both (stop.before ++ t ∷ stop.after) told stop.tokens is)

    only_outcome : (found : tokens.Outcome) (outcome : Outcome) → IsTokenized edition 0 source found
        → IsOutcome edition source outcome → outcome ≡ outcome_of found
    unfolding outcome_of
    only_outcome (Ok list) (Ok all) is i = only_read list all is i
    only_outcome (Err fault) (Ok all) is i =
        absurd (not_both (i.before ++ i.end ∷ []) fault i.tokens is)
    only_outcome found (Err fault) is i = only_fault found fault.0 fault.1 is i

    pub has_one_outcome : (found : tokens.Outcome) → IsTokenized edition 0 source found
        → HasOneOutcome edition source
    has_one_outcome found is one other i j =
        only_outcome found one is i ∙ sym (only_outcome found other is j)

  pub has_some_outcome : (found : tokens.Outcome) → IsTokenized edition 0 source found
      → (outcome : Outcome) × IsOutcome edition source outcome
  has_some_outcome found is = (outcome_of found, some_outcome found is)

  -- ---- what is returned

  pub reads_outcome : (found : tokens.Outcome) (list : List Token)
      → IsTokenized edition 0 source found → found ≡ Ok list
      → IsOutcome edition source (reading_outcome (contract list))
  unfolding outcome_of
  reads_outcome found list is e = some_outcome (Ok list) (subst (IsTokenized edition 0 source) e is)

  pub tells_outcome : (found : tokens.Outcome) (error : TokenError) → IsTokenized edition 0 source found → IfSome (tokens.fault_of error) (λ fault. found ≡ Err fault) → (outcome : Outcome) × IsOutcome edition source outcome × IfSome (fault_of (refusal error)) (λ fault. outcome ≡ Err fault)
  unfolding outcome_of
  tells_outcome found (token_errors.Refused at kind) is e =
      (outcome_of found, some_outcome found is, ap outcome_of e)
  tells_outcome found token_errors.Memory is e = (outcome_of found, some_outcome found is, tt)
