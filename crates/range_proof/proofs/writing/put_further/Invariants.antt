use Rattle.std.proofs.Common.{◌≡◌, ◌++◌, take}
use Rattle.std.specs.List.{concat, flat_map}
use Rattle.range_proof.specs.Parts.{header_fields_at}
use Rattle.range_proof.proofs.writing.put_further.Given as goal

abbrev pub invariant-loop-index : goal.invariant-loop-index
invariant-loop-index g l = l.out.items ≡ l.fn.out.items
    ++ concat (flat_map (header_fields_at l.lineage.rows) (take l.index-index l.further))
