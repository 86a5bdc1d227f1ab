-- The texts of a part are among all texts, so a clash of parts is a clash of all.
use Rattle.proof_checks.proofs.Parts.{in_part}
use Rattle.text_clashes.specs.PartClash.{ClashOfAPart}

pub part_clashes : ClashOfAPart
part_clashes given own one other part own_part at_one at_other clash = record {
  one = clash.one;
  other = clash.other;
  in_given = in_part given one part clash.one at_one clash.in_given;
  in_own = in_part own other own_part clash.other at_other clash.in_own;
  differ = clash.differ;
  same = clash.same;
}
