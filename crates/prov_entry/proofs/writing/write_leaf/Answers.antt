use Rattle.std.proofs.Common.{◌∙◌}
use Rattle.prov_entry.proofs.Texts.{leaf_written}
use Rattle.prov_entry.proofs.writing.write_leaf.Goals as goal

pub returns-clause-spelled : goal.returns-clause-spelled
returns-clause-spelled c =
    c.from_vec.ensures
    ∙ leaf_written c.args.leaf.now c.new-out.result.items c.put_key_or_empty.new.out.items c.put_next.new.out.items c.put_u32.new.out.items c.put_digest.new.out.items c.put_u64.new.out.items c.put_digest-2.new.out.items c.new-out.ensures.items
    c.in_ok-put_key_or_empty.ensures.written c.in_ok-put_next.ensures.written c.in_ok-put_u32.ensures.written c.in_ok-put_digest.ensures.written c.in_ok-put_u64.ensures.written c.in_ok-put_digest-2.ensures.written
