use Rattle.std.proofs.Common.{◌≡◌, ◌++◌, true, take}
use Rattle.std.specs.List.{concat, flat_map}
use Rattle.lc_io.specs.Scratch.{is_known}
use Rattle.prov_query.specs.merkle_dag.Lineage.{StaysSame}
use Rattle.range_proof.specs.Parts.{body_fields_at, AddsBodies}
use Rattle.range_proof.proofs.writing.put_bodies.Given as goal

abbrev pub invariant-loop-index : goal.invariant-loop-index
invariant-loop-index g l = record {
  same : StaysSame l.fn.lineage (g.S.Scratch.state l.fn.scratch) l.lineage
      (g.S.Scratch.state l.scratch);
  no_fault : g.S.Scratch.scratch_faults l.scratch ≡ g.S.Scratch.scratch_faults l.fn.scratch;
  own : is_known (g.S.Scratch.state l.fn.scratch) ≡ true → l.out.items ≡ l.fn.out.items
      ++ concat (flat_map (body_fields_at l.fn.lineage.rows) (take l.index-index l.indexes));
  as_many : AddsBodies l.index-index l.fn.out.items l.out.items;
}
