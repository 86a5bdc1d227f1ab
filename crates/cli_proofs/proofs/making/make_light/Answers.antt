use Rattle.std.proofs.Common.{◌≡◌, ◌+◌, ◌*◌, ◌≤◌, ℕ, false, true, length, refl, ap, ◌∙◌, arith}
use Rattle.std.proofs.Common.{subst}
use Rattle.std.specs.Prelude.{map}
use Rattle.cli_output.specs.cli_promises.Promises.{plain, Telling}
use Rattle.disk_model.proofs.Moments.{stays_on}
use Rattle.cli_output.specs.light_client.declared.piece_limits.TheConstants.{BLOCKS_PER_PIECE}
use Rattle.cli_output.specs.Lights.{piece_count}
use Rattle.cli_proofs.proofs.Made.{first_pieces, one_piece, cut_pieces, head_told, head_cut}
use Rattle.cli_proofs.proofs.making.make_light.Goals as goal

pub returns-in-Err-clause-says : goal.returns-in-Err-clause-says
returns-in-Err-clause-says g c next = record {
  lines = head_cut g.M.Clock.now g.M.Clock.disk g.M.Clock.told next c.args.lineage.now.rows
      c.args.lineage.now.digests c.args.machine.now c.tell_piece.new.machine c.head.result
      c.block_count-count.result (piece_count (length c.args.lineage.now.digests)) c.head.ensures
      c.block_count-count.ensures (c.in-Err.ensures.lines next);
  ending = tt;
}

pub returns-in-Err-tell_blocks-clause-says : goal.returns-in-Err-tell_blocks-clause-says
returns-in-Err-tell_blocks-clause-says g c next =
    let whole : ℕ = piece_count (length c.args.lineage.now.digests) in
    let end_is : c.div_ceil-index-end.result ≡ whole =
    c.div_ceil-index-end.ensures ∙ ap piece_count c.block_count-count.ensures in
    let within : c.loop-index.index + 1 ≤ whole = omega (arith, c.loop-index-test.true, end_is) in
    let from_is : c.loop-index.index * BLOCKS_PER_PIECE ≡ BLOCKS_PER_PIECE * c.loop-index.index =
    omega arith in
    record {
      lines = cut_pieces g.M.Clock.now g.M.Clock.disk g.M.Clock.told next
          c.args.lineage.now.rows c.args.lineage.now.digests c.args.machine.now
          c.tell_blocks.new.machine (c.loop-index.index + 1) whole false within
          (one_piece g.M.Clock.now g.M.Clock.disk g.M.Clock.told next c.args.lineage.now.rows
          c.args.lineage.now.digests c.args.machine.now c.loop-index.machine
          c.tell_blocks.new.machine c.loop-index.index (c.loop-index.index * BLOCKS_PER_PIECE) false
          from_is (c.loop-index.invariant.lines next) c.tell_blocks.ensures.disk.stays
          (c.in-Err-tell_blocks.ensures.lines next));
      ending = tt;
    }

pub returns-in-Err-tell_blocks-clause-disk : goal.returns-in-Err-tell_blocks-clause-disk
returns-in-Err-tell_blocks-clause-disk g c = record {
  stays = stays_on g.M.Clock.now g.M.Clock.disk c.args.machine.now c.loop-index.machine
      c.tell_blocks.new.machine c.loop-index.invariant.disk.stays c.tell_blocks.ensures.disk.stays;
  faults = c.tell_blocks.ensures.disk.faults ∙ c.loop-index.invariant.disk.faults;
}

pub loop-index-init : goal.loop-index-init
loop-index-init g c = record {
  lines = λ next. head_told g.M.Clock.now g.M.Clock.disk g.M.Clock.told next
      c.args.lineage.now.rows c.args.lineage.now.digests c.args.machine.now
      c.tell_piece.new.machine c.head.result c.block_count-count.result c.head.ensures
      c.block_count-count.ensures (c.in-Ok.ensures.lines next);
  disk = c.tell_piece.ensures.disk;
  wire_faults = grind (arith, c.in-Ok.ensures.cause.told, c.in-Ok.ensures.cause.later);
}

pub loop-index-preserved : goal.loop-index-preserved
loop-index-preserved g c =
    let from_is : c.loop-index.index * BLOCKS_PER_PIECE ≡ BLOCKS_PER_PIECE * c.loop-index.index =
    omega arith in
    record {
      lines = λ next. one_piece g.M.Clock.now g.M.Clock.disk g.M.Clock.told next
          c.args.lineage.now.rows c.args.lineage.now.digests c.args.machine.now
          c.loop-index.machine c.tell_blocks.new.machine c.loop-index.index
          (c.loop-index.index * BLOCKS_PER_PIECE) true from_is (c.loop-index.invariant.lines next)
          c.tell_blocks.ensures.disk.stays (c.in-Ok-tell_blocks.ensures.lines next);
      disk = record {
        stays = stays_on g.M.Clock.now g.M.Clock.disk c.args.machine.now c.loop-index.machine
            c.tell_blocks.new.machine c.loop-index.invariant.disk.stays
            c.tell_blocks.ensures.disk.stays;
        faults = c.tell_blocks.ensures.disk.faults ∙ c.loop-index.invariant.disk.faults;
      };
      wire_faults = grind (
        arith,
        c.loop-index.invariant.wire_faults,
        c.in-Ok-tell_blocks.ensures.cause.told,
        c.in-Ok-tell_blocks.ensures.cause.later,
      );
    }

pub returns-clause-says : goal.returns-clause-says
returns-clause-says g c next =
    let whole : ℕ = piece_count (length c.args.lineage.now.digests) in
    let end_is : c.div_ceil-index-end.result ≡ whole =
    c.div_ceil-index-end.ensures ∙ ap piece_count c.block_count-count.ensures in
    let index_is : c.loop-index.index ≡ whole =
    omega (arith, c.loop-index-test.false, c.loop-index.auto.index-end, end_is) in
    record {
      lines = subst (λ (n : ℕ). Telling next g.M.Clock.now g.M.Clock.disk g.M.Clock.told
          c.args.machine.now c.loop-index.machine (map plain (first_pieces c.args.lineage.now.rows
          c.args.lineage.now.digests n)) true) index_is (c.loop-index.invariant.lines next);
      ending = refl;
    }
