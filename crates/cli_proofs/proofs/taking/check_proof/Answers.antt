use Rattle.std.proofs.Common.{refl, arith}
use Rattle.disk_model.proofs.Moments.{stays_here}
use Rattle.cli_output.proofs.cli_promises.Tellings.{none_told}
use Rattle.cli_proofs.proofs.taking.check_proof.Goals as goal

-- memory ran out before anything was printed
pub returns-in-Err : goal.returns-in-Err
returns-in-Err g c = record {
  lines = λ next. none_told next g.M.Clock.now g.M.Clock.disk g.M.Clock.told _ _ _ refl;
  goes_on = tt;
  leaves_disk = record {
    stays = stays_here g.M.Clock.now g.M.Clock.disk c.args.machine.now;
    faults = refl;
  };
  untold = record {
    later = omega arith;
    failed = λ is. absurd (cc is);
    told = λ differ. absurd (differ refl);
  };
  only = record {
    reads = λ is. absurd (cc is);
    writes = λ is. absurd (cc is);
    keeps = λ is. absurd (cc is);
  };
}
