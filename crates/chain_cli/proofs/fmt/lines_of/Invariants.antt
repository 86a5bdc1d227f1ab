use Rattle.std.proofs.Common.{◌≡◌, ◌++◌, drop}
use Rattle.cli_output.specs.Texts.{lines_after, lines_of}
use Rattle.chain_cli.proofs.fmt.lines_of.Given as goal

abbrev pub invariant-loop-byte : goal.invariant-loop-byte
invariant-loop-byte l = l.lines ++ lines_after l.line.items (drop l.byte-index l.text) ≡ lines_of l.text
