use Rattle.std.proofs.Common.{◌++◌, ◌∙◌, append_assoc}
use Rattle.std.specs.Prelude.{codes, decimal}
use Rattle.cli_lines.proofs.Texts.{line_of}
use Rattle.cli_lines.proofs.lines.trace_head.Goals as goal

pub returns : goal.returns
returns c =
    line_of c.line.result c.as_str.result.now
    (codes "block " ++ decimal c.args.block ++ codes " ancestors " ++ decimal c.args.count)
    (c.as_str.ensures.value ∙ c.in_ok-text.ensures.ok ∙ simp append_assoc) c.line.ensures
