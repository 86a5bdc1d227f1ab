use Rattle.std.proofs.Common.{◌≡◌, ◌+◌, ◌++◌, length, take}
use Rattle.lc_io.specs.Scratch.{Retains}
use Rattle.body_store.specs.Bodies.{bodies_in}
use Rattle.body_store.specs.Agreement.{Agrees}
use Rattle.merkle_dag.proofs.adding.add_bodies.Given as goal

abbrev pub invariant-loop-bytes : goal.invariant-loop-bytes
invariant-loop-bytes g l = record {
  bodies : bodies_in l.bodies ≡ bodies_in l.initial.bodies ++ take l.bytes-index l.new;
  count : length l.bodies.kept ≡ length l.initial.bodies.kept + l.bytes-index;
  agrees : Agrees l.bodies (g.S.Scratch.state l.scratch);
  retains : Retains (g.S.Scratch.state l.initial.scratch) (g.S.Scratch.state l.scratch);
  still : g.S.Scratch.scratch_faults l.scratch ≡ g.S.Scratch.scratch_faults l.initial.scratch;
}
