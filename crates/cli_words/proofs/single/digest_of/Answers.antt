use Rattle.std.proofs.Common.{sym, ◌∙◌}
use Rattle.cli_words.proofs.Commands.{no_digest, other_text}
use Rattle.cli_words.proofs.single.digest_of.Goals as goal

pub returns-in-Err : goal.returns-in-Err
returns-in-Err c = no_digest c.args.text.now _ (sym c.from_hex.ensures ∙ c.in-Err.is)

pub returns-then-not-writes : goal.returns-then-not-writes
returns-then-not-writes c = other_text c.args.text.now c.in-Ok.bytes (sym c.from_hex.ensures ∙ c.in-Ok.is) (λ same. absurd (cc (c.if-not-writes.ensures.1 same, c.if-not-writes.true)))
