use Rattle.std.proofs.Common.{refl, arith, ◌∙◌}
use Rattle.disk_model.proofs.Moments.{stays_on}
use Rattle.chain_cli.proofs.Generated.{begins, prefix_told, next_told, last_told}
use Rattle.chain_cli.proofs.generating.generate.Goals as goal

pub turns-init : goal.turns-init
turns-init g c = record {
  generating = begins g.M.Clock.now g.M.Clock.disk g.M.Clock.told c.args.machine.now c.args.generation.now.seed c.args.generation.now.blocks c.new-generator.result _ c.new-generator.ensures.start c.new-generator.ensures.none refl;
  disk_faults = refl;
  wire_faults = refl;
}

pub returns-in-Err-clause-lines : goal.returns-in-Err-clause-lines
returns-in-Err-clause-lines g c next =
    prefix_told g.M.Clock.now g.M.Clock.disk g.M.Clock.told c.args.machine.now c.turns.machine c.args.generation.now.seed c.args.generation.now.blocks c.turns.generator c.turns.parent c.turns.invariant.generating next

pub returns-in-Err-tell_frame-clause-lines : goal.returns-in-Err-tell_frame-clause-lines
returns-in-Err-tell_frame-clause-lines g c next =
    last_told g.M.Clock.now g.M.Clock.disk g.M.Clock.told c.args.machine.now c.turns.machine
    c.tell_frame.new.machine c.args.generation.now.seed c.args.generation.now.blocks
    c.turns.generator c.in-Ok-Some.more c.turns.parent c.in-Ok-Some.block c.as_bytes.result.now
    c.turns.invariant.generating (rw c.in-Ok-Some.field-0-is at c.in-Ok-Some.ensures.next)
    (rw c.in-Ok-Some.field-0-is at c.in-Ok-Some.ensures.goes_on) c.as_bytes.ensures
    c.tell_frame.ensures.disk.stays c.in-Err-tell_frame.ensures.lines next

pub returns-in-Err-tell_frame-clause-disk : goal.returns-in-Err-tell_frame-clause-disk
returns-in-Err-tell_frame-clause-disk g c = record {
  stays = stays_on g.M.Clock.now g.M.Clock.disk c.args.machine.now c.turns.machine
      c.tell_frame.new.machine c.turns.invariant.generating.stays c.tell_frame.ensures.disk.stays;
  faults = c.tell_frame.ensures.disk.faults ∙ c.turns.invariant.disk_faults;
}

pub turns-preserved : goal.turns-preserved
turns-preserved g c = record {
  generating = next_told g.M.Clock.now g.M.Clock.disk g.M.Clock.told c.args.machine.now
      c.turns.machine c.tell_frame.new.machine c.args.generation.now.seed
      c.args.generation.now.blocks c.turns.generator c.in-Ok-Some.more c.turns.parent
      c.block_digest-parent.result c.in-Ok-Some.block c.as_bytes.result.now
      c.as_bytes-in-Ok-Some.result.now c.turns.invariant.generating
      (rw c.in-Ok-Some.field-0-is at c.in-Ok-Some.ensures.next)
      (rw c.in-Ok-Some.field-0-is at c.in-Ok-Some.ensures.goes_on) c.as_bytes.ensures
      c.as_bytes-in-Ok-Some.ensures c.block_digest-parent.ensures
      c.tell_frame.ensures.disk.stays c.in-Ok.ensures.lines;
  disk_faults = c.tell_frame.ensures.disk.faults ∙ c.turns.invariant.disk_faults;
  wire_faults = grind (
    arith,
    c.turns.invariant.wire_faults,
    c.in-Ok.ensures.cause.told,
    c.in-Ok.ensures.cause.later,
  );
}
