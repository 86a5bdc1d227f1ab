use Rattle.std.proofs.Common.{◌+◌, ◌-◌}
use Rattle.std.specs.Prelude.{vec_len}
use Rattle.cli_lines.specs.declared.whole.TheConstants.{MAX_WHOLE_INPUT_BYTES}
use Rattle.cli_lines.proofs.Wholes.{IsReading}
use Rattle.cli_lines.proofs.whole.read_by.Given as goal

abbrev pub invariant-pulls : goal.invariant-pulls
invariant-pulls g l = IsReading (g.I.Source.left l.initial.source) (g.I.Source.left l.source) (g.I.Source.source_faults l.initial.source) (g.I.Source.source_faults l.source) l.bytes.items

abbrev pub decreases-pulls : goal.decreases-pulls
decreases-pulls g l = (MAX_WHOLE_INPUT_BYTES + 1) - vec_len l.bytes
