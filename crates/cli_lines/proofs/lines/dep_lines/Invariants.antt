use Rattle.std.proofs.Common.{◌≡◌, ◌∷◌, map, take}
use Rattle.cli_lines.specs.Lines.{dep_line}
use Rattle.cli_lines.proofs.lines.dep_lines.Given as goal

abbrev pub invariant-loop-dep : goal.invariant-loop-dep
invariant-loop-dep l = l.lines ≡ l.fn.head ∷ map dep_line (take l.dep-index l.deps)
