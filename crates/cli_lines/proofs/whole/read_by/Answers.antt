use Rattle.cli_lines.proofs.whole.read_by.Goals as goal
use Rattle.std.proofs.Common.{arith, drop}
use Rattle.std.proofs.lemmas.List.{length-append, length-drop}
use Rattle.cli_lines.proofs.Wholes.{one_too_many}

pub returns-then-len-count-gt-MAX_WHOLE_INPUT_BYTES-clause-whole : goal.returns-then-len-count-gt-MAX_WHOLE_INPUT_BYTES-clause-whole
returns-then-len-count-gt-MAX_WHOLE_INPUT_BYTES-clause-whole g c =
    one_too_many (g.I.Source.left c.args.source.now) (g.I.Source.left c.pulls.source) (g.I.Source.left c.pull.new.self) c.pulls.bytes.items c.pull.new.buffer c.in_ok-count.count
    c.pulls.invariant.taken c.in_ok-count.ensures.bytes.0 c.in_ok-count.ensures.bound (omega (arith, c.in_ok-count.ensures.bound, length-append c.pull.new.buffer (drop c.min-want.result c.pulls.chunk), length-drop c.min-want.result c.pulls.chunk))
