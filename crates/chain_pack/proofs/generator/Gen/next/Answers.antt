use Rattle.std.proofs.Common.{refl}
use Rattle.chain_pack.proofs.Generating.{goes_on}
use Rattle.chain_pack.proofs.generator.Gen.next.Goals as goal

pub returns-clause-goes_on : goal.returns-clause-goes_on
returns-clause-goes_on c = λ seed is chained.
    let block = c.in_ok-bytes.ensures in
    goes_on seed c.args.self _ c.args.parent c.in_ok-bytes.bytes (rw (← c.self.view_is, ← c.new-draws.ensures) block.bytes) (rw (← c.self.view_is, c.state.ensures, block.state, c.new-draws.ensures) refl) is chained
