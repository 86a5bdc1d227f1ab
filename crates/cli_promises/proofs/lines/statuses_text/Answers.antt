use Rattle.std.proofs.Common.{◌≡◌, ℕ, List, ◌∷◌, ◌++◌, ◌-◌, length, take, drop, ap, subst, ◌∙◌}
use Rattle.std.specs.Prelude.{IfOk}
use Rattle.std.specs.List.{flat_map}
use Rattle.cli_promises.specs.Lines.{status_text}
use Rattle.cli_promises.specs.declared.lines.TheConstants.{COMMA}
use Rattle.cli_promises.proofs.Statuses.{all_statuses}
use Rattle.cli_promises.proofs.lines.statuses_text.Goals as goal

pub returns : goal.returns
returns c =
    let receipts = c.args.receipts.now in
    subst (λ (bytes : List ℕ). IfOk c.with_statuses.result (λ text. text.items ≡ bytes))
    (ap (λ (first : List ℕ). first ++ flat_map (λ r. COMMA ∷ status_text r)
    (take (length receipts - 1) (drop 1 receipts)))
    (ap (λ v. v.items) c.into_bytes.ensures.value ∙ c.in_ok-first.ensures)
    ∙ all_statuses receipts _ c.if-is_empty.ensures)
    c.with_statuses.ensures
