use Rattle.std.proofs.Common.{◌<◌, length, arith}
use Rattle.std.proofs.lemmas.List.{length-drop}
use Rattle.merkle_tree.proofs.Steps.{fits_back}
use Rattle.merkle_tree.proofs.plain.+hash_to.Goals as goal

pub hash_to-right-requires : goal.hash_to-right-requires
hash_to-right-requires g t c lifetimes outlives =
    let pos : 0 < c.args.height = omega arith in
    let len = rw (← c.split_at.ensures.back) at (length-drop c.half_of-half.result c.args.leaves.now) in
    (omega arith, (outlives, (rw len (fits_back c.args.height c.half_of-half.result (length c.args.leaves.now) pos c.half_of-half.ensures c.requires.few), (omega arith))))
