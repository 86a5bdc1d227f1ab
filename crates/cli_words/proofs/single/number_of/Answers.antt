use Rattle.std.proofs.Common.{◌∙◌, ap, sym, subst}
use Rattle.cli_words.specs.Words.{IsNumberOf, starts_as_number}
use Rattle.cli_words.proofs.Commands.{number_is, no_number}
use Rattle.cli_words.proofs.single.number_of.Goals as goal

pub returns-then-not-starts_as_number : goal.returns-then-not-starts_as_number
returns-then-not-starts_as_number c = no_number c.args.text.now (ap starts_as_number (sym c.as_bytes.ensures.value) ∙ sym c.starts_as_number.ensures ∙ c.if-not-starts_as_number.true)

pub returns : goal.returns
returns c =
    let starts = ap starts_as_number (sym c.as_bytes.ensures.value) ∙ sym c.starts_as_number.ensures ∙ c.if-not-starts_as_number.false in
    subst (IsNumberOf c.args.text.now) (sym c.ok.ensures.value) (number_is c.args.text.now c.parse.result c.parse.ensures.value.0 starts)
