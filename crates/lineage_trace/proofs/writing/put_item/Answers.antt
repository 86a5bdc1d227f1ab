use Rattle.std.proofs.Common.{◌∙◌}
use Rattle.lineage_trace.proofs.Spelled.{both_written}
use Rattle.lineage_trace.proofs.writing.put_item.Goals as goal

pub returns : goal.returns
returns c = both_written c.args.item.now c.args.out.now.items c.as_bytes.result.now
    c.as_bytes-2.result.now c.extend_from_slice.new.self.items c.extend_from_slice-2.new.self.items
    (c.as_bytes.ensures ∙ c.in_ok-header.ensures.spelled)
    (c.as_bytes-2.ensures ∙ c.in_ok-body.ensures.spelled)
    c.in_ok-extend_from_slice.ensures.items c.in_ok-extend_from_slice-2.ensures.items
