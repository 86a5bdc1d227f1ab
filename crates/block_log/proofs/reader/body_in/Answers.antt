use Rattle.std.proofs.Common.{◌-◌, ◌<◌, length, take, drop, sym, arith}
use Rattle.std.proofs.lemmas.Bool.Decides.{nat_tests}
use Rattle.std.proofs.lemmas.List.{length-take, length-take-le, length-drop}
use Rattle.block_log.specs.Reading.{record_size}
use Rattle.block_log.proofs.Fronts.{body_there}
use Rattle.block_log.proofs.reader.body_in.Goals as goal

pub slice_bounds-result-end-2 : goal.slice_bounds-result-end-2
slice_bounds-result-end-2 c =
    let bytes = c.args.bytes.now in
    let some : 0 < record_size c.args.found = grind (arith, nat_tests, c.if-size-eq0.false, c.record_size-size.ensures) in
    let there = body_there c.args.found bytes c.requires.there some in
    sym (length-take-le c.record_size-size.result (take (length bytes - 5) (drop 5 bytes)) (grind (arith, length-take (length bytes - 5) (drop 5 bytes), length-drop 5 bytes, there, c.record_size-size.ensures)))
