use Rattle.std.proofs.Common.{◌≡◌, ◌++◌, take}
use Rattle.std.specs.List.{concat, flat_map}
use Rattle.entry_store.specs.declared.entry.EntryId.{EntryId}
use Rattle.range_proof.specs.Parts.{header_fields_at}
use Rattle.range_proof.proofs.writing.put_path.Given as goal

abbrev pub invariant-loop-id : goal.invariant-loop-id
invariant-loop-id g l = l.out.items ≡ l.fn.out.items
    ++ concat (flat_map (λ (id : EntryId). header_fields_at l.lineage.rows id.0)
    (take l.id-index l.path))
