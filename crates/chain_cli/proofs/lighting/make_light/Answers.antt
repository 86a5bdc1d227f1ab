use Rattle.std.proofs.Common.{Some, refl, ap}
use Rattle.disk_model.proofs.Moments.{stays_on}
use Rattle.lc_io.specs.Scratch.{is_known}
use Rattle.cli_append.specs.recovery.Node.{next_in_chain}
use Rattle.merkle_dag.specs.Lineage.{LineageState, ledger_in}
use Rattle.cli_words.specs.declared.words.Command.TheVariants.{MakeLight}
use Rattle.cli_output.proofs.Ends.{no_start_ends}
use Rattle.cli_output.proofs.Found.{no_start_found}
use Rattle.chain_cli.proofs.Ends.{done_ends}
use Rattle.chain_cli.proofs.Lighted.{make_light_run}
use Rattle.chain_cli.proofs.Runs.{found_run}
use Rattle.chain_cli.proofs.lighting.make_light.Goals as goal

pub returns-in-Ok-clause-run : goal.returns-in-Ok-clause-run
returns-in-Ok-clause-run g c left =
    make_light_run g.M.Clock.now g.M.Clock.disk g.M.Clock.told c.args.machine.now
    c.stored_roots.new.machine c.make_light-ending.new.machine
    (record {
      digests = c.in-Ok.chain.digests;
      rows = c.in-Ok.chain.rows;
      codes = c.in-Ok.chain.codes;
    })
    c.into_lineage-lineage.result.rows c.into_lineage-lineage.result.digests
    c.make_light-ending.result left (is_known (g.S.Scratch.state c.args.scratch.now))
    c.requires.settled c.stored_roots.ensures.machine.stays c.stored_roots.ensures.machine.wire.told
    c.make_light-ending.ensures.disk.stays
    (ap (λ (l : LineageState). ledger_in l) c.into_lineage-lineage.ensures)
    c.in-Ok.ensures.answer
    (c.make_light-ending.ensures.says next_in_chain)

pub returns-in-Err-clause-run : goal.returns-in-Err-clause-run
returns-in-Err-clause-run g c left =
    found_run g.M.Clock.now g.M.Clock.disk g.M.Clock.told c.args.machine.now
    c.stored_roots.new.machine c.tell.new.machine (Some MakeLight) c.start_outcome.result c.tell.result left left
    (is_known (g.S.Scratch.state c.args.scratch.now)) refl c.requires.settled
    c.stored_roots.ensures.machine.stays c.stored_roots.ensures.machine.wire.told
    c.tell.ensures.disk.stays (c.tell.ensures.tells next_in_chain)
    (no_start_found (g.M.Clock.disk c.args.machine.now (g.M.Clock.now c.args.machine.now)) MakeLight
    c.in-Err.error c.start_outcome.result left (is_known (g.S.Scratch.state c.args.scratch.now))
    refl (λ heard. c.in-Err.ensures.answer (heard refl)) c.start_outcome.ensures.outcome)

pub returns-in-Ok-clause-stays : goal.returns-in-Ok-clause-stays
returns-in-Ok-clause-stays g c = stays_on g.M.Clock.now g.M.Clock.disk c.args.machine.now
    c.stored_roots.new.machine c.make_light-ending.new.machine c.stored_roots.ensures.machine.stays
    c.make_light-ending.ensures.disk.stays

pub returns-in-Err-clause-stays : goal.returns-in-Err-clause-stays
returns-in-Err-clause-stays g c = stays_on g.M.Clock.now g.M.Clock.disk c.args.machine.now
    c.stored_roots.new.machine c.tell.new.machine c.stored_roots.ensures.machine.stays
    c.tell.ensures.disk.stays

pub returns-in-Ok-clause-ends : goal.returns-in-Ok-clause-ends
returns-in-Ok-clause-ends g c = done_ends c.make_light-ending.result MakeLight
    (c.make_light-ending.ensures.says next_in_chain).ending c.make_light-ending.ensures.only

pub returns-in-Err-clause-ends : goal.returns-in-Err-clause-ends
returns-in-Err-clause-ends g c = c.tell.ensures.ends (Some MakeLight)
    (no_start_ends c.start_outcome.result c.in-Err.error (Some MakeLight) refl
    c.start_outcome.ensures.outcome c.start_outcome.ensures.reads (λ failed. refl))
