-- Reads that were made again left the buffer's length and the bytes that are known.
use Rattle.std.proofs.Common.{◌≡◌, length}
use Rattle.std.specs.Io.KnownBytes.{Keeps}
use Rattle.lc_io.proofs.patient.read_patiently.Given as goal

abbrev pub invariant-loop : goal.invariant-loop
invariant-loop g l =
    (length l.buffer ≡ length l.initial.buffer)
    × Keeps (g.R.Read.remaining l.initial.reader) (g.R.Read.remaining l.reader)
