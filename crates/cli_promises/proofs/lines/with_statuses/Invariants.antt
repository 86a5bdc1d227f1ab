use Rattle.std.proofs.Common.{◌≡◌, ◌++◌, ◌∷◌, take}
use Rattle.std.specs.List.{flat_map}
use Rattle.cli_promises.specs.Lines.{status_text}
use Rattle.cli_promises.specs.declared.lines.TheConstants.{COMMA}
use Rattle.cli_promises.proofs.lines.with_statuses.Given as goal

abbrev pub invariant-loop-receipt : goal.invariant-loop-receipt
invariant-loop-receipt l = l.longer.items ≡ l.fn.text.items ++ flat_map (λ r. COMMA ∷ status_text r)
    (take l.receipt-index l.receipts)
