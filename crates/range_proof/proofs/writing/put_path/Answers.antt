use Rattle.std.proofs.Common.{get_or}
use Rattle.std.proofs.lemmas.List.{get_or_default}
use Rattle.entry_store.specs.declared.entry.EntryId.{EntryId}
use Rattle.proof_codec.proofs.Written.{written_one}
use Rattle.range_proof.specs.Parts.{header_fields_at}
use Rattle.range_proof.proofs.writing.put_path.Goals as goal

pub put_header-requires : goal.put_header-requires
put_header-requires g c = c.requires c.loop-id.id-index (record { 0 = 0 }) c.loop-id-test.true

pub loop-id-preserved : goal.loop-id-preserved
loop-id-preserved g c =
    let path = c.args.path.now in
    let i = c.loop-id.id-index in
    let id : EntryId = get_or path i (record { 0 = 0 }) in
    written_one (λ (id : EntryId). header_fields_at c.args.lineage.now.rows id.0)
    c.args.out.now.items c.loop-id.out.items c.put_header.new.out.items path i id
    c.loop-id-test.true (get_or_default path i (record { 0 = 0 }) id c.loop-id-test.true)
    c.in_ok-put_header.ensures c.loop-id.invariant
