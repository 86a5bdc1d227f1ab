use Rattle.std.proofs.Common.{◌≡◌, ◌+◌, ◌-◌, ◌≤◌}
use Rattle.block_codec.specs.declared.limits.TheConstants.{MAX_FRAMES}
use Rattle.chain_input.specs.Taking.{TakesFrames}
use Rattle.chain_input.proofs.taking.take_frames.Given as goal

abbrev pub invariant-turns : goal.invariant-turns
invariant-turns g l = record {
  bound : l.frames ≤ MAX_FRAMES;
  still : g.I.Source.source_faults l.source ≡ g.I.Source.source_faults l.fn.source;
  ready : g.T.FrameTaker.ready l.taker l.chain;
  same : g.T.FrameTaker.same l.fn.taker l.taker;
  taken : TakesFrames g.T.FrameTaker.turn
      (record { left = g.I.Source.left l.fn.source; taker = l.fn.taker; chain = l.fn.chain })
      l.frames (record { left = g.I.Source.left l.source; taker = l.taker; chain = l.chain });
}

abbrev pub decreases-turns : goal.decreases-turns
decreases-turns g l = MAX_FRAMES + 1 - l.frames
