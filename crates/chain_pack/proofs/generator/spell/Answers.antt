use Rattle.std.proofs.Common.{Err, ap}
use Rattle.chain_pack.proofs.generator.spell.Goals as goal

pub unreachable-requires : goal.unreachable-requires
unreachable-requires c = c.in-Err-Limit.ensures.limit (ap Err c.in-Err-Limit.field-0-is) _ c.requires
