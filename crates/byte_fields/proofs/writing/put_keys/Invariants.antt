use Rattle.std.proofs.Common.{take}
use Rattle.lc_base.specs.KeyBytes.{IsKey}
use Rattle.byte_fields.specs.Spelling.{string_fields}
use Rattle.byte_fields.proofs.WrittenItems.{Written}
use Rattle.byte_fields.proofs.writing.put_keys.Given as goal

abbrev pub invariant-loop-key : goal.invariant-loop-key
invariant-loop-key l = Written string_fields IsKey l.fn.out.items l.out.items (take l.key-index l.keys)
