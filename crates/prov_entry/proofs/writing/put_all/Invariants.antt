use Rattle.std.proofs.Common.{take}
use Rattle.byte_fields.proofs.WrittenItems.{Written}
use Rattle.prov_entry.proofs.writing.put_all.Given as goal

abbrev pub invariant-loop-item : goal.invariant-loop-item
invariant-loop-item g l = Written g.T.Spelled.fields g.T.Spelled.lawful l.fn.out.items l.out.items (take l.item-index l.items)
