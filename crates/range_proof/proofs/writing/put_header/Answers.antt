use Rattle.std.proofs.Common.{◌∙◌}
use Rattle.range_proof.proofs.Written.{is_header, header_put}
use Rattle.range_proof.proofs.writing.put_header.Goals as goal

pub write_header-requires : goal.write_header-requires
write_header-requires g c =
    let is = is_header c.args.lineage.now.rows c.args.index c.in_ok-header.header
    c.row_count-typed.ensures.typed.history c.requires c.in_ok-header.ensures.row in
    is.few_links

pub returns : goal.returns
returns g c =
    header_put c.args.lineage.now.rows c.args.index c.in_ok-header.header c.args.out.now.items
    c.as_bytes.result.now c.extend_from_slice.new.self.items c.requires c.in_ok-header.ensures.row
    (c.as_bytes.ensures ∙ c.in_ok-bytes.ensures.spelled) c.in_ok-extend_from_slice.ensures.items
