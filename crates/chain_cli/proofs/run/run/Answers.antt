use Rattle.std.proofs.Common.{refl, subst}
use Rattle.block_codec.specs.Reading.{block_in}
use Rattle.block_log.specs.Log.{next_in_log}
use Rattle.lc_io.specs.Scratch.{is_known}
use Rattle.block_codec.proofs.WholeBlocks.{decided}
use Rattle.chain_exec.specs.Compiled.{compiled_in}
use Rattle.cli_append.specs.recovery.Node.{next_in_chain}
use Rattle.cli_output.specs.Running.{HeldIsGiven}
use Rattle.chain_cli.proofs.Runs.{with_status}
use Rattle.chain_cli.proofs.Moments.{any_command}
use Rattle.chain_cli.proofs.OneOutput.{compiled_by}
use Rattle.chain_cli.proofs.HeldLights.{made_light_files_are_whole}
use Rattle.chain_cli.proofs.Followed.{followed_chains}
use Rattle.chain_cli.proofs.Ancestors.{ancestors_are_the_reached}
use Rattle.chain_cli.proofs.run.run.Goals as goal

pub returns-clause-output : goal.returns-clause-output
returns-clause-output g c = (
  block_in,
  decided,
  (
    compiled_in,
    compiled_by.is_compiler,
    λ command is. with_status g.M.Clock.now g.M.Clock.disk g.M.Clock.told c.args.machine.now
        c.run_words.new.machine c.run_words.result c.run_words.result
        (g.I.Source.left c.args.source.now) (g.I.Source.left c.run_words.new.source) (is_known
        (g.S.Scratch.state c.args.scratch.now)) c.command_of-command.result command
        refl (c.command_of-command.ensures.one.only command is) c.run_words.ensures.run,
  ),
)

pub returns-clause-goes_on : goal.returns-clause-goes_on
returns-clause-goes_on g c = (
  block_in,
  decided,
  (
    compiled_in,
    compiled_by.is_compiler,
    λ command is given. any_command g.M.Clock.now g.M.Clock.disk g.M.Clock.told next_in_chain
        c.command_of-command.result command
        (c.command_of-command.ensures.one.only command is) c.args.machine.now
        c.run_words.new.machine c.requires.settled c.run_words.ensures.untouched
        (λ changes. c.run_words.ensures.goes_on changes (subst (HeldIsGiven (is_known
        (g.S.Scratch.state c.args.scratch.now)))
        (c.command_of-command.ensures.one.only command is) given)),
  ),
)

pub returns-clause-log_goes_on : goal.returns-clause-log_goes_on
returns-clause-log_goes_on g c = (
  block_in,
  decided,
  λ command is. any_command g.M.Clock.now g.M.Clock.disk g.M.Clock.told next_in_log
      c.command_of-command.result command
      (c.command_of-command.ensures.one.only command is) c.args.machine.now
      c.run_words.new.machine c.requires.settled c.run_words.ensures.untouched
      c.run_words.ensures.log_goes_on,
)

pub returns-clause-light_made : goal.returns-clause-light_made
returns-clause-light_made g c = made_light_files_are_whole

pub returns-clause-followed : goal.returns-clause-followed
returns-clause-followed g c = followed_chains

pub returns-clause-ancestors : goal.returns-clause-ancestors
returns-clause-ancestors g c = ancestors_are_the_reached
