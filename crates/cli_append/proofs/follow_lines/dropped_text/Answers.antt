use Rattle.std.proofs.Common.{◌++◌, ◌∙◌, append_assoc}
use Rattle.std.specs.Prelude.{codes, decimal}
use Rattle.cli_promises.proofs.cli_lines.Texts.{line_of}
use Rattle.cli_append.proofs.follow_lines.dropped_text.Goals as goal

pub returns : goal.returns
returns c =
    line_of c.line.result c.as_str.result.now
    (codes "dropped " ++ decimal c.args.index ++ codes " " ++ c.args.cause.now)
    (c.as_str.ensures.value ∙ c.in_ok-text.ensures.ok ∙ simp append_assoc) c.line.ensures
