use Rattle.std.proofs.Common.{List, sym, ap, subst, ◌∙◌, arith}
use Rattle.dep_capture.specs.declared.access.Read.{Read}
use Rattle.dep_capture.specs.Captured.{Captured, IsCapture}
use Rattle.dep_capture.specs.Capture.{was_read}
use Rattle.dep_capture.proofs.Keeping.{read_keeps}
use Rattle.dep_capture.proofs.capture.Capture.read.Goals as goal

pub invariant_of-self-2 : goal.invariant_of-self-2
invariant_of-self-2 c =
    subst (λ (reads : List Read). IsCapture reads c.self.inside.puts) (sym c.in_ok-push.ensures.ok)
    (read_keeps c.self.inside.reads c.self.inside.puts (record { key = c.args.key; version = c.args.version }) c.self.invariant (ap (λ (captured : Captured). was_read captured.reads c.args.key) c.self.view_is ∙ sym c.was_read.ensures ∙ c.if-was_read.false) (omega (arith, c.if-len-ge-MAX_KEYS_READ.false, c.len.ensures)))
