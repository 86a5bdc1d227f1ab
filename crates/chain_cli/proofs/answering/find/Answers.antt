use Rattle.std.proofs.Common.{Some, refl}
use Rattle.lc_io.specs.Scratch.{is_known}
use Rattle.cli_words.specs.declared.words.Command.TheVariants.{Scan, Fmt, Pack, Load, Ask, Verify}
use Rattle.cli_output.specs.Telling.{status_of_found}
use Rattle.chain_cli.proofs.Ends.{read_ends, load_ends, of_given, found_log, is_count}
use Rattle.chain_cli.proofs.Runs.{scan_found, fmt_found, pack_found, verify_found, load_found}
use Rattle.chain_cli.proofs.Runs.{of_found}
use Rattle.chain_cli.proofs.answering.find.Goals as goal

pub returns-in-Scan-clause-found : goal.returns-in-Scan-clause-found
returns-in-Scan-clause-found g c =
    of_found (g.M.Clock.disk c.args.machine.now (g.M.Clock.now c.args.machine.now)) c.scan.result (g.I.Source.left c.args.source.now) (g.I.Source.left c.scan.new.source) (is_known (g.S.Scratch.state c.args.scratch.now)) c.args.command.now (Scan c.in-Scan.query) c.in-Scan.is
    (scan_found (g.M.Clock.disk c.args.machine.now (g.M.Clock.now c.args.machine.now)) c.scan.result (g.I.Source.left c.args.source.now) (g.I.Source.left c.scan.new.source) (is_known (g.S.Scratch.state c.args.scratch.now)) c.in-Scan.query c.scan.ensures.outcome)

pub returns-in-Scan-clause-ends : goal.returns-in-Scan-clause-ends
returns-in-Scan-clause-ends g c = of_given (status_of_found c.scan.result) c.args.command.now (Scan c.in-Scan.query) c.in-Scan.is
    (read_ends c.scan.result (Some (Scan c.in-Scan.query)) refl c.scan.ensures.ends c.scan.ensures.only)

pub returns-in-Scan-clause-no_log : goal.returns-in-Scan-clause-no_log
returns-in-Scan-clause-no_log g c none = absurd (found_log (status_of_found c.scan.result) (Scan c.in-Scan.query) refl (read_ends c.scan.result (Some (Scan c.in-Scan.query)) refl c.scan.ensures.ends c.scan.ensures.only) none)

pub returns-in-Fmt-clause-found : goal.returns-in-Fmt-clause-found
returns-in-Fmt-clause-found g c =
    of_found (g.M.Clock.disk c.args.machine.now (g.M.Clock.now c.args.machine.now)) c.fmt.result (g.I.Source.left c.args.source.now) (g.I.Source.left c.fmt.new.source) (is_known (g.S.Scratch.state c.args.scratch.now)) c.args.command.now (Fmt c.in-Fmt.edition) c.in-Fmt.is
    (fmt_found (g.M.Clock.disk c.args.machine.now (g.M.Clock.now c.args.machine.now)) c.fmt.result (g.I.Source.left c.args.source.now) (g.I.Source.left c.fmt.new.source) (is_known (g.S.Scratch.state c.args.scratch.now)) c.in-Fmt.edition c.fmt.ensures.outcome)

pub returns-in-Fmt-clause-ends : goal.returns-in-Fmt-clause-ends
returns-in-Fmt-clause-ends g c = of_given (status_of_found c.fmt.result) c.args.command.now (Fmt c.in-Fmt.edition) c.in-Fmt.is
    (read_ends c.fmt.result (Some (Fmt c.in-Fmt.edition)) refl c.fmt.ensures.ends c.fmt.ensures.only)

pub returns-in-Fmt-clause-no_log : goal.returns-in-Fmt-clause-no_log
returns-in-Fmt-clause-no_log g c none = absurd (found_log (status_of_found c.fmt.result) (Fmt c.in-Fmt.edition) refl (read_ends c.fmt.result (Some (Fmt c.in-Fmt.edition)) refl c.fmt.ensures.ends c.fmt.ensures.only) none)

pub returns-in-Pack-clause-found : goal.returns-in-Pack-clause-found
returns-in-Pack-clause-found g c =
    of_found (g.M.Clock.disk c.args.machine.now (g.M.Clock.now c.args.machine.now)) c.pack.result (g.I.Source.left c.args.source.now) (g.I.Source.left c.pack.new.source) (is_known (g.S.Scratch.state c.args.scratch.now)) c.args.command.now (Pack c.in-Pack.version) c.in-Pack.is
    (pack_found (g.M.Clock.disk c.args.machine.now (g.M.Clock.now c.args.machine.now)) c.pack.result (g.I.Source.left c.args.source.now) (g.I.Source.left c.pack.new.source) (is_known (g.S.Scratch.state c.args.scratch.now)) c.in-Pack.version c.pack.ensures.outcome)

pub returns-in-Pack-clause-ends : goal.returns-in-Pack-clause-ends
returns-in-Pack-clause-ends g c = of_given (status_of_found c.pack.result) c.args.command.now (Pack c.in-Pack.version) c.in-Pack.is
    (read_ends c.pack.result (Some (Pack c.in-Pack.version)) refl c.pack.ensures.ends c.pack.ensures.only)

pub returns-in-Pack-clause-no_log : goal.returns-in-Pack-clause-no_log
returns-in-Pack-clause-no_log g c none = absurd (found_log (status_of_found c.pack.result) (Pack c.in-Pack.version) refl (read_ends c.pack.result (Some (Pack c.in-Pack.version)) refl c.pack.ensures.ends c.pack.ensures.only) none)

pub returns-in-Ask-clause-found : goal.returns-in-Ask-clause-found
returns-in-Ask-clause-found g c =
    of_found (g.M.Clock.disk c.args.machine.now (g.M.Clock.now c.args.machine.now)) c.ask_rows.result
    (g.I.Source.left c.args.source.now) (g.I.Source.left c.args.source.now)
    (is_known (g.S.Scratch.state c.args.scratch.now)) c.args.command.now (Ask c.in-Ask.asked)
    c.in-Ask.is
    (c.ask_rows.ensures.found (g.I.Source.left c.args.source.now)
    (is_known (g.S.Scratch.state c.args.scratch.now)))

pub returns-in-Ask-clause-ends : goal.returns-in-Ask-clause-ends
returns-in-Ask-clause-ends g c = of_given (status_of_found c.ask_rows.result) c.args.command.now
    (Ask c.in-Ask.asked) c.in-Ask.is c.ask_rows.ensures.ends

pub returns-in-Verify-clause-found : goal.returns-in-Verify-clause-found
returns-in-Verify-clause-found g c =
    of_found (g.M.Clock.disk c.args.machine.now (g.M.Clock.now c.args.machine.now)) c.verify.result (g.I.Source.left c.args.source.now) (g.I.Source.left c.verify.new.source) (is_known (g.S.Scratch.state c.args.scratch.now)) c.args.command.now (Verify c.in-Verify.root c.in-Verify.question) c.in-Verify.is
    (verify_found (g.M.Clock.disk c.args.machine.now (g.M.Clock.now c.args.machine.now)) c.verify.result (g.I.Source.left c.args.source.now) (g.I.Source.left c.verify.new.source) (is_known (g.S.Scratch.state c.args.scratch.now)) c.in-Verify.root c.in-Verify.question c.verify.ensures.outcome)

pub returns-in-Verify-clause-ends : goal.returns-in-Verify-clause-ends
returns-in-Verify-clause-ends g c = of_given (status_of_found c.verify.result) c.args.command.now (Verify c.in-Verify.root c.in-Verify.question) c.in-Verify.is
    (read_ends c.verify.result (Some (Verify c.in-Verify.root c.in-Verify.question)) refl c.verify.ensures.ends c.verify.ensures.only)

pub returns-in-Verify-clause-no_log : goal.returns-in-Verify-clause-no_log
returns-in-Verify-clause-no_log g c none = absurd (found_log (status_of_found c.verify.result) (Verify c.in-Verify.root c.in-Verify.question) refl (read_ends c.verify.result (Some (Verify c.in-Verify.root c.in-Verify.question)) refl c.verify.ensures.ends c.verify.ensures.only) none)

pub load_outcome-requires : goal.load_outcome-requires
load_outcome-requires g c =
    is_count c.args.command.now c.in-Load.generation c.in-Load.is c.requires.given

pub returns-in-Load-clause-found : goal.returns-in-Load-clause-found
returns-in-Load-clause-found g c =
    of_found (g.M.Clock.disk c.args.machine.now (g.M.Clock.now c.args.machine.now)) c.load_outcome.result (g.I.Source.left c.args.source.now) (g.I.Source.left c.args.source.now) (is_known (g.S.Scratch.state c.args.scratch.now)) c.args.command.now (Load c.in-Load.generation) c.in-Load.is
    (load_found (g.M.Clock.disk c.args.machine.now (g.M.Clock.now c.args.machine.now)) c.in-Load.generation c.load_outcome.result (g.I.Source.left c.args.source.now) (is_known (g.S.Scratch.state c.args.scratch.now)) c.load_outcome.ensures.outcome)

pub returns-in-Load-clause-ends : goal.returns-in-Load-clause-ends
returns-in-Load-clause-ends g c = of_given (status_of_found c.load_outcome.result) c.args.command.now (Load c.in-Load.generation) c.in-Load.is
    (load_ends c.in-Load.generation c.load_outcome.result c.load_outcome.ensures.ending c.load_outcome.ensures.reads c.load_outcome.ensures.disk)
