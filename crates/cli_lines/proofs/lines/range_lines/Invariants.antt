use Rattle.std.specs.Prelude.{codes, decimal}
use Rattle.std.proofs.Common.{◌≡◌, ◌++◌, ◌∷◌, length, map, take}
use Rattle.cli_lines.specs.Lines.{line, version_line}
use Rattle.cli_lines.proofs.lines.range_lines.Given as goal

abbrev pub invariant-loop-version : goal.invariant-loop-version
invariant-loop-version l = l.lines
    ≡ line (codes "versions " ++ decimal (length l.versions))
    ∷ map version_line (take l.version-index l.versions)
