use Rattle.std.proofs.Common.{◌∙◌, ap, subst, arith}
use Rattle.lc_io.specs.Scratch.{is_known}
use Rattle.block_codec.specs.Placement.{bytes_digest}
use Rattle.block_codec.specs.Spelling.{Spells}
use Rattle.block_codec.specs.declared.block.Block.{Block}
use Rattle.rooted_chain.specs.Roots.{kept_in}
use Rattle.chain_pack.specs.Generator.{Progress, GoesOn, block_drawn}
use Rattle.chain_load.specs.Loads.{blocks_of}
use Rattle.chain_load.proofs.Placed.{gives_next, added_more}
use Rattle.chain_load.proofs.building.with_next.Goals as goal

pub with_block-requires-clause-next : goal.with_block-requires-clause-next
with_block-requires-clause-next g c =
    let given = c.requires.next in
    let building = c.args.building in
    let block : Block = (block_drawn building.generator.given building.parent
    building.generator.state).0 in
    let gives = gives_next _ given.0 given.1 given.2 (kept_in building.chain) building.generator
    building.parent given.3 given.4 given.5 c.in-Ok-Some.ensures.placed in
    let spells : Spells c.in-Ok-Some.bytes block = rw c.in-Ok-Some.field-0-is at
    c.in-Ok-Some.ensures.lawful in
    (block, rw c.as_bytes-in-Ok-Some.ensures spells, gives.room)

pub unreachable-requires : goal.unreachable-requires
unreachable-requires g c =
    let given = c.requires.next in
    let building = c.args.building in
    let gives = gives_next _ given.0 given.1 given.2 (kept_in building.chain) building.generator
    building.parent given.3 given.4 given.5 c.in-Ok-None.ensures.placed in
    let none = subst (GoesOn given.0 building.generator) c.in-Ok-None.field-0-is
    (c.in-Ok-None.ensures.goes_on given.0 gives.goes_is gives.parent_is) in
    let count_is = ap (λ (g : Progress). g.count) given.3.generator_is in
    let given_is = gives.given_is in
    let less = given.4 in
    omega (arith, none, count_is, given_is, less)

pub returns-in-Ok-clause-added : goal.returns-in-Ok-clause-added
returns-in-Ok-clause-added g c seed count added has more few =
    let building = c.args.building in
    let block : Block = (block_drawn building.generator.given building.parent
    building.generator.state).0 in
    let told = is_known (g.S.Scratch.state c.args.scratch.now) in
    let gives = gives_next told seed count added (kept_in building.chain) building.generator
    building.parent has more few c.in-Ok-Some.ensures.placed in
    let spells : Spells c.in-Ok-Some.bytes block = rw c.in-Ok-Some.field-0-is at
    c.in-Ok-Some.ensures.lawful in
    let spelled : Spells c.as_bytes-in-Ok-Some.result.now block = rw c.as_bytes-in-Ok-Some.ensures
    spells in
    let goes = subst (GoesOn seed building.generator) c.in-Ok-Some.field-0-is
    (c.in-Ok-Some.ensures.goes_on seed gives.goes_is gives.parent_is) in
    added_more told seed count added (kept_in building.chain) (kept_in c.in-Ok.chain)
    building.generator c.in-Ok-Some.generator building.parent c.block_digest-parent.result block
    has gives
    (c.in-Ok.ensures.digests block spelled)
    (λ t. c.in-Ok.ensures.stands t (blocks_of added seed) block (has.stands t) spelled
    (gives.next t))
    (c.in-Ok.ensures.few block spelled) c.in-Ok-Some.ensures.few goes.2
    (c.block_digest-parent.ensures ∙ ap bytes_digest c.as_bytes.ensures ∙ goes.1)
