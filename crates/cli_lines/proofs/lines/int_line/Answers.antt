use Rattle.std.proofs.Common.{◌++◌, ◌∙◌, append_assoc}
use Rattle.std.specs.Prelude.{codes, decimal}
use Rattle.std.specs.Fmt.{signed_decimal}
use Rattle.std.proofs.lemmas.Int.{to_z-of_z}
use Rattle.cli_lines.proofs.Texts.{line_of}
use Rattle.cli_lines.proofs.lines.int_line.Goals as goal

pub returns : goal.returns
returns c =
    let fits = c.ranges.number in
    line_of c.line.result c.as_str.result.now (codes "block " ++ decimal c.args.block ++ codes " tx " ++ decimal c.args.tx ++ codes " int " ++ signed_decimal c.args.number) (c.as_str.ensures.value ∙ c.in_ok-text.ensures.ok ∙ simp (to_z-of_z, append_assoc)) c.line.ensures
