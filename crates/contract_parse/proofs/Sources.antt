-- The tokens of a source can be written, and the last of them is its end.
use Rattle.std.proofs.Common.{ℕ, ◌+◌, List, [], ◌∷◌, length, Ok, Err, refl, ap}
use Rattle.contract_tokens.specs.declared.token.Token.{Token}
use Rattle.contract_tokens.specs.declared.token.Word.TheVariants as words
use Rattle.contract_tokens.specs.Tokens.{Outcome, prepend_token, IsTokenized, Ends, Skips, Takes, Refuses, IsTokens}
use Rattle.contract_grammar.specs.Faults.{IsWritable}
use Rattle.contract_grammar.proofs.Answers.{IsEnded}
use Rattle.contract_grammar.proofs.OneFault.{one_fault}
use Rattle.contract_grammar.proofs.Writable.{no_words, more_words}
use Rattle.contract_parse.specs.Syntax.{HasOneObstacle}

IsEndedOr : Outcome → Type 0
IsEndedOr (Ok list) = IsEnded list
IsEndedOr (Err fault) = Unit {0}

ended_more : (tok : Token) (outcome : Outcome) → IsWritable tok.word → IsEndedOr outcome
    → IsEndedOr (prepend_token tok outcome)
unfolding IsEndedOr
ended_more tok (Ok list) word i = record { before = tok ∷ i.before; end = i.end; tokens_are = ap (λ l. tok ∷ l) i.tokens_are; ends = i.ends; words = more_words tok i.before word i.words }
ended_more tok (Err fault) word i = tt

ended : (edition at : ℕ) (bytes : List ℕ) (outcome : Outcome) → IsTokenized edition at bytes outcome
    → IsEndedOr outcome
unfolding IsEndedOr
ended edition _ _ _ (Ends at) = record { before = []; end = record { at = at; word = words.End }; tokens_are = refl; ends = refl; words = no_words }
ended edition _ _ _ (Skips at gap rest outcome g h) = ended edition (at + length gap) rest outcome h
ended edition _ _ _ (Takes at prefix rest word outcome l s h) = ended_more (record { at = at; word = word }) outcome (edition, prefix, s) (ended edition (at + length prefix) rest outcome h)
ended edition _ _ _ (Refuses at bytes kind r) = tt

pub tokens_ended : {edition : ℕ} {source : List ℕ} {list : List Token}
    → IsTokens edition 0 source list → IsEnded list
unfolding IsEndedOr
tokens_ended {edition} {source} {list} i = ended edition 0 source (Ok list) i

pub has_one_obstacle : (edition : ℕ) (source : List ℕ) → HasOneObstacle edition source
has_one_obstacle edition source list is = one_fault (tokens_ended is)
