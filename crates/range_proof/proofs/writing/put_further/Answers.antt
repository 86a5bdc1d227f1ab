use Rattle.std.proofs.Common.{get_or}
use Rattle.std.proofs.lemmas.List.{get_or_default}
use Rattle.proof_codec.proofs.Written.{written_one}
use Rattle.range_proof.specs.Parts.{header_fields_at}
use Rattle.range_proof.proofs.writing.put_further.Goals as goal

pub put_header-requires : goal.put_header-requires
put_header-requires g c = c.requires c.loop-index.index-index 0 c.loop-index-test.true

pub loop-index-preserved : goal.loop-index-preserved
loop-index-preserved g c =
    let further = c.args.further.now in
    let i = c.loop-index.index-index in
    let index = get_or further i 0 in
    written_one (header_fields_at c.args.lineage.now.rows) c.args.out.now.items
    c.loop-index.out.items c.put_header.new.out.items further i index c.loop-index-test.true
    (get_or_default further i 0 index c.loop-index-test.true) c.in_ok-put_header.ensures
    c.loop-index.invariant
