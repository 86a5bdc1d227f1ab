use Rattle.std.proofs.Common.{◌≡◌, ◌-◌}
use Rattle.chain_cli.proofs.Generated.{IsGenerating}
use Rattle.chain_cli.proofs.generating.generate.Given as goal

abbrev pub invariant-turns : goal.invariant-turns
invariant-turns g l = record {
  generating : IsGenerating g.M.Clock.now g.M.Clock.disk g.M.Clock.told l.initial.machine l.machine l.fn.generation.seed l.fn.generation.blocks l.generator l.parent;
  disk_faults : g.M.Clock.disk_faults l.machine ≡ g.M.Clock.disk_faults l.initial.machine;
  wire_faults : g.M.Clock.wire_faults l.machine ≡ g.M.Clock.wire_faults l.initial.machine;
}

abbrev pub decreases-turns : goal.decreases-turns
decreases-turns g l = l.fn.generation.blocks - l.generator.given
