use Rattle.cli_output.specs.Output.{edition_number}
use Rattle.chain_cli.proofs.Fmts.{long_wanted}
use Rattle.chain_cli.proofs.fmt.fmt.Goals as goal

pub returns-in_ok-bad_input-in-None-clause-outcome : goal.returns-in_ok-bad_input-in-None-clause-outcome
returns-in_ok-bad_input-in-None-clause-outcome g c =
    long_wanted (edition_number c.args.edition) (g.I.Source.left c.args.source.now) (g.I.Source.left c.read_whole.new.source) c.in_ok-read_whole.field-0 c.in_ok-bad_input-in-None.field-0 c.in-None.is c.in_ok-read_whole.ensures.whole c.in_ok-bad_input-in-None.ensures
