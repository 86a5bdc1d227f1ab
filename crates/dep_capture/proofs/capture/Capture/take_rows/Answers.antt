use Rattle.std.proofs.Common.{◌≡◌, sym, ap, subst, ◌∙◌}
use Rattle.dep_capture.specs.Captured.{Captured, AreLawfulRows}
use Rattle.dep_capture.specs.Capture.{rows_of_puts}
use Rattle.dep_capture.proofs.Keeping.{rows_are_lawful}
use Rattle.dep_capture.proofs.capture.Capture.take_rows.Goals as goal

pub returns-clause-lawful : goal.returns-clause-lawful
returns-clause-lawful c =
    let are : c.from_vec.result ≡ rows_of_puts c.args.block c.args.tx c.self.inside.puts = c.from_vec.ensures ∙ c.in_ok-rows.ensures ∙ ap (rows_of_puts c.args.block c.args.tx) c.into_vec.ensures in
    subst (λ (captured : Captured). AreLawfulRows captured.reads c.from_vec.result) c.self.view_is
    (subst (AreLawfulRows c.self.inside.reads) (sym are) (rows_are_lawful c.self.inside.reads c.self.inside.puts c.args.block c.args.tx c.self.invariant))
