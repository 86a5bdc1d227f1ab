use Rattle.std.proofs.Common.{◌≡◌, List, ℕ, ◌++◌, ◌∙◌, sym, ap, subst, append_assoc}
use Rattle.std.specs.Prelude.{codes, decimal, IfOk}
use Rattle.cli_output.specs.cli_lines.Lines.{line}
use Rattle.cli_proofs.proofs.light_lines.rejected_text.Goals as goal

pub returns : goal.returns
returns c =
    let grouped = append_assoc (decimal c.args.index) (codes " rejected ") c.args.cause.now in
    let text_is : c.as_str.result.now ≡ codes "proof " ++ decimal c.args.index ++ codes " rejected "
    ++ c.args.cause.now = c.as_str.ensures.value ∙ c.in_ok-text.ensures.ok
    ∙ ap (λ (l : List ℕ). codes "proof " ++ l) (sym grouped) in
    subst (λ (t : List ℕ). IfOk c.line.result (λ bytes. bytes ≡ line t)) text_is c.line.ensures
