use Rattle.cli_words.proofs.OneCommand.{one_command, is_given}
use Rattle.cli_words.proofs.words.command_of.Goals as goal

pub returns-clause-one : goal.returns-clause-one
returns-clause-one c = one_command _ c.parse_command.result c.parse_command.ensures

pub returns-clause-given : goal.returns-clause-given
returns-clause-given c = is_given _ c.parse_command.result c.parse_command.ensures
