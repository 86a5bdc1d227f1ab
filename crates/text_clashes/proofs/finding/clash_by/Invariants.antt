use Rattle.text_clashes.proofs.FirstPlaces.{NoneClashes}
use Rattle.text_clashes.proofs.finding.clash_by.Given as goal

abbrev pub invariant-loop-place : goal.invariant-loop-place
invariant-loop-place l = NoneClashes l.given l.own l.place
