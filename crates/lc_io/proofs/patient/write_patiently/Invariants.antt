-- Writes that were made again left the bytes that are known.
use Rattle.std.specs.Io.KnownBytes.{Keeps}
use Rattle.lc_io.proofs.patient.write_patiently.Given as goal

abbrev pub invariant-loop : goal.invariant-loop
invariant-loop g l = Keeps (g.W.Write.contents l.initial.writer) (g.W.Write.contents l.writer)
