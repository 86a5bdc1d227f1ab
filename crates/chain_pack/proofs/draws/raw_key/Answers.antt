use Rattle.std.proofs.Common.{arith}
use Rattle.chain_pack.proofs.Keys.{raw_key_is_key}
use Rattle.chain_pack.proofs.draws.raw_key.Goals as goal

pub key_of_parts-requires : goal.key_of_parts-requires
key_of_parts-requires c = rw (c.as_bytes.ensures.value, c.format.ensures.text) (raw_key_is_key c.args.number (omega (arith, c.ranges.number)))
