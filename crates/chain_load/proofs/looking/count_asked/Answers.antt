use Rattle.std.proofs.Common.{◌∙◌, ap, arith}
use Rattle.chain_load.specs.Lookups.{bytes_of_answer}
use Rattle.chain_load.proofs.Lengths.{all_counted}
use Rattle.chain_load.proofs.looking.count_asked.Goals as goal

pub returns-in-Ok-clause-entries : goal.returns-in-Ok-clause-entries
returns-in-Ok-clause-entries g c =
    c.count.ensures ∙ all_counted c.args.lineage.now.rows c.args.query.now.key c.args.query.now.at
    c.new-steps.result c.ask.new.steps c.requires.few_rows c.new-steps.ensures
    c.in-Ok.ensures.counted

pub returns-in-Ok-clause-few : goal.returns-in-Ok-clause-few
returns-in-Ok-clause-few g c =
    omega (arith, c.count.ensures, c.ask.ensures.few, c.new-steps.ensures)

pub returns-in-Ok-clause-bytes : goal.returns-in-Ok-clause-bytes
returns-in-Ok-clause-bytes g c told =
    c.bytes_of_answer.ensures.bytes ∙ ap bytes_of_answer (c.in-Ok.ensures.answered told).1
