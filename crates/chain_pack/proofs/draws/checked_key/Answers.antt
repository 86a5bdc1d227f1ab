use Rattle.std.proofs.Common.{sym, ◌∙◌}
use Rattle.chain_pack.proofs.Keys.{key_is_taken}
use Rattle.chain_pack.proofs.draws.checked_key.Goals as goal

pub unreachable-requires : goal.unreachable-requires
unreachable-requires c =
    let same = sym c.in-Err.is ∙ c.new.ensures ∙ key_is_taken c.args.bytes.now c.requires in
    absurd cc
