use Rattle.std.proofs.Common.{◌≡◌, [], map, string_bytes, true, List, ℕ, sym, ap, subst}
use Rattle.std.proofs.Common.{◌∙◌}
use Rattle.std.specs.Prelude.{Option, Some, None, Result, Ok, Err, IfErr, MatchOption, IfOk}
use Rattle.std.specs.Prelude.{is_ok}
use Rattle.cli_lines.specs.declared.status.Status.{Status}
use Rattle.cli_words.specs.Words.{IsCommand}
use Rattle.chain_cli.proofs.host.run_on_host.Goals as goal

-- what holds of an error implies this of it
if_err : {T E : Type 0} (result : Result T E) (P Q : E → Type 0) → IfErr result P
    → ((error : E) → P error → Q error) → IfErr result Q
if_err (Ok x) P Q is leads = tt
if_err (Err error) P Q is leads = leads error is

-- where no status was found, no word was read
none_read : {T : Type 0} (words : T) (IsEmpty : T → Type 0) (found : Option Status)
    → MatchOption found
    ((is_ok {E = Status} (Ok words) ≡ true) × IfOk {E = Status} (Ok words) IsEmpty)
    (λ status. Ok words ≡ Err status) → IsEmpty words
none_read words IsEmpty None (ok, is) = is
none_read words IsEmpty (Some status) is = absurd (cc is)

pub returns-in-Ok-clause-no_words : goal.returns-in-Ok-clause-no_words
returns-in-Ok-clause-no_words c = if_err c.args.resources _ _ c.run_with.ensures.no_resources
    (λ error keyless. if_err c.args.args _ _ c.in-Ok.ensures.no_words
    (λ unread none command is. keyless command
    (subst (λ (words : List (List ℕ)). IsCommand words command)
    (sym (ap (map string_bytes)
    (c.deref.ensures.value ∙ none_read c.in-Ok.words (λ words. words.items ≡ []) _ none))) is)))
