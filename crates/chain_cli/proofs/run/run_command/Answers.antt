use Rattle.std.proofs.Common.{Some, refl}
use Rattle.lc_io.specs.Scratch.{is_known}
use Rattle.block_log.specs.Log.{next_in_log}
use Rattle.cli_append.specs.recovery.Node.{next_in_chain}
use Rattle.cli_words.specs.declared.words.Command.TheVariants.{Upgrade, MakeLight, Light}
use Rattle.cli_output.specs.Telling.{status_of_result}
use Rattle.chain_cli.proofs.Ends.{done_ends, found_log, no_log_found, of_given, others_keep}
use Rattle.chain_cli.proofs.Lighted.{light_run}
use Rattle.chain_cli.proofs.Moments.{leaves_of}
use Rattle.chain_cli.proofs.Runs.{gen_run, found_run, of_command}
use Rattle.chain_cli.proofs.run.run_command.Goals as goal

pub returns-in-Gen-clause-run : goal.returns-in-Gen-clause-run
returns-in-Gen-clause-run g c =
    of_command g.M.Clock.now g.M.Clock.disk g.M.Clock.told c.args.machine.now c.generate.new.machine (status_of_result c.generate.result) (g.I.Source.left c.args.source.now) (g.I.Source.left c.args.source.now) (is_known (g.S.Scratch.state c.args.scratch.now)) c.args.command.now _ c.in-Gen.is
    (gen_run g.M.Clock.now g.M.Clock.disk g.M.Clock.told c.args.machine.now c.generate.new.machine c.in-Gen.generation c.generate.result (g.I.Source.left c.args.source.now) (is_known (g.S.Scratch.state c.args.scratch.now)) c.requires.settled c.generate.ensures.disk.stays (c.generate.ensures.lines next_in_chain) c.generate.ensures.ending)

pub returns-in-Gen-clause-ends : goal.returns-in-Gen-clause-ends
returns-in-Gen-clause-ends g c =
    done_ends c.generate.result c.args.command.now c.generate.ensures.ending c.generate.ensures.only

pub returns-in-MakeLight-clause-run : goal.returns-in-MakeLight-clause-run
returns-in-MakeLight-clause-run g c =
    of_command g.M.Clock.now g.M.Clock.disk g.M.Clock.told c.args.machine.now
    c.make_light.new.machine (status_of_result c.make_light.result)
    (g.I.Source.left c.args.source.now) (g.I.Source.left c.args.source.now)
    (is_known (g.S.Scratch.state c.args.scratch.now)) c.args.command.now MakeLight c.in-MakeLight.is
    (c.make_light.ensures.run (g.I.Source.left c.args.source.now))

pub returns-in-MakeLight-clause-ends : goal.returns-in-MakeLight-clause-ends
returns-in-MakeLight-clause-ends g c = of_given (status_of_result c.make_light.result)
    c.args.command.now MakeLight c.in-MakeLight.is c.make_light.ensures.ends

pub returns-in-Upgrade-clause-run : goal.returns-in-Upgrade-clause-run
returns-in-Upgrade-clause-run g c =
    of_command g.M.Clock.now g.M.Clock.disk g.M.Clock.told c.args.machine.now
    c.upgrade_log.new.machine (status_of_result c.upgrade_log.result)
    (g.I.Source.left c.args.source.now) (g.I.Source.left c.args.source.now)
    (is_known (g.S.Scratch.state c.args.scratch.now)) c.args.command.now Upgrade c.in-Upgrade.is
    (c.upgrade_log.ensures.run (g.I.Source.left c.args.source.now)
    (is_known (g.S.Scratch.state c.args.scratch.now)))

pub returns-in-Upgrade-clause-ends : goal.returns-in-Upgrade-clause-ends
returns-in-Upgrade-clause-ends g c = of_given (status_of_result c.upgrade_log.result)
    c.args.command.now Upgrade c.in-Upgrade.is c.upgrade_log.ensures.ends

pub returns-in-Upgrade-clause-goes_on : goal.returns-in-Upgrade-clause-goes_on
returns-in-Upgrade-clause-goes_on g c changes given content here =
    leaves_of g.M.Clock.now g.M.Clock.disk g.M.Clock.told next_in_chain c.args.command.now Upgrade
    c.in-Upgrade.is c.args.machine.now c.upgrade_log.new.machine content
    (c.upgrade_log.ensures.goes_on content here)

pub returns-in-Upgrade-clause-log_goes_on : goal.returns-in-Upgrade-clause-log_goes_on
returns-in-Upgrade-clause-log_goes_on g c changes content here =
    leaves_of g.M.Clock.now g.M.Clock.disk g.M.Clock.told next_in_log c.args.command.now Upgrade
    c.in-Upgrade.is c.args.machine.now c.upgrade_log.new.machine content
    (c.upgrade_log.ensures.log_goes_on content here)

pub returns-in-Light-clause-run : goal.returns-in-Light-clause-run
returns-in-Light-clause-run g c =
    of_command g.M.Clock.now g.M.Clock.disk g.M.Clock.told c.args.machine.now c.light.new.machine
    (status_of_result c.light.result) (g.I.Source.left c.args.source.now)
    (g.I.Source.left c.light.new.source) (is_known (g.S.Scratch.state c.args.scratch.now))
    c.args.command.now Light c.in-Light.is
    (light_run g.M.Clock.now g.M.Clock.disk g.M.Clock.told c.args.machine.now c.light.new.machine
    c.light.result (g.I.Source.left c.args.source.now) (g.I.Source.left c.light.new.source)
    (is_known (g.S.Scratch.state c.args.scratch.now)) c.requires.settled
    c.light.ensures.disk.stays
    (λ input is. c.light.ensures.says input is next_in_chain) c.light.ensures.leaves)

pub returns-in-Light-clause-ends : goal.returns-in-Light-clause-ends
returns-in-Light-clause-ends g c = of_given (status_of_result c.light.result) c.args.command.now
    Light c.in-Light.is c.light.ensures.ends

pub returns-in-Light-clause-no_log : goal.returns-in-Light-clause-no_log
returns-in-Light-clause-no_log g c none =
    absurd (found_log (status_of_result c.light.result) Light refl c.light.ensures.ends none)

pub returns-in_default-clause-run : goal.returns-in_default-clause-run
returns-in_default-clause-run g c =
    found_run g.M.Clock.now g.M.Clock.disk g.M.Clock.told c.args.machine.now c.find-found.new.machine c.tell.new.machine (Some c.args.command.now) c.find-found.result c.tell.result (g.I.Source.left c.args.source.now) (g.I.Source.left c.find-found.new.source) (is_known (g.S.Scratch.state c.args.scratch.now))
    (others_keep c.args.command.now c.in_default.not-Append c.in_default.not-Follow
    c.in_default.not-Upgrade) c.requires.settled c.find-found.ensures.machine.stays
    c.find-found.ensures.machine.wire.told c.tell.ensures.disk.stays
    (c.tell.ensures.tells next_in_chain) c.find-found.ensures.found

pub returns-in_default-clause-ends : goal.returns-in_default-clause-ends
returns-in_default-clause-ends g c =
    c.tell.ensures.ends (Some c.args.command.now) c.find-found.ensures.ends

pub returns-in_default-clause-no_log : goal.returns-in_default-clause-no_log
returns-in_default-clause-no_log g c none =
    c.find-found.ensures.no_log (no_log_found g.M.Clock.now g.M.Clock.disk g.M.Clock.told c.find-found.new.machine c.tell.new.machine c.find-found.result c.tell.result (c.tell.ensures.tells next_in_chain) none)
