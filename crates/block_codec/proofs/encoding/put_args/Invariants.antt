use Rattle.std.proofs.Common.{take}
use Rattle.byte_fields.proofs.WrittenItems.{Written}
use Rattle.byte_fields.specs.Spelling.{value_fields, IsBlockValue}
use Rattle.block_codec.proofs.encoding.put_args.Given as goal

abbrev pub invariant-loop-value : goal.invariant-loop-value
invariant-loop-value l =
    Written value_fields (IsBlockValue l.most) l.fn.out.items l.out.items (take l.value-index l.args)
