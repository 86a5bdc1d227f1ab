use Rattle.std.proofs.Common.{◌∙◌, append_assoc}
use Rattle.chain_cli.proofs.fmt.syntax_cause.Goals as goal

pub returns : goal.returns
returns c = c.in_ok-text.ensures.ok ∙ simp (append_assoc, c.syntax_word-word.ensures)
