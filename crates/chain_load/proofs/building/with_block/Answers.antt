use Rattle.std.proofs.Common.{◌≡◌, ◌∙◌, ◌+◌, ◌*◌, ◌≤◌, ◌++◌, ◌∷◌, [], length, sym, ap, subst}
use Rattle.block_codec.specs.Placement.{bytes_digest}
use Rattle.block_codec.specs.Spelling.{Spells}
use Rattle.block_codec.specs.declared.block.Block.{Block}
use Rattle.dep_capture.specs.declared.limits.TheConstants.{MAX_KEYS_PUT}
use Rattle.rooted_chain.specs.chain_replay.Chain.{StandsFor}
use Rattle.rooted_chain.specs.Roots.{kept_in}
use Rattle.rooted_chain.proofs.merkle_dag.Causes.{unblamed, blameless}
use Rattle.chain_load.proofs.building.with_block.Given.{Over}
use Rattle.chain_load.proofs.building.with_block.Goals as goal
use Rattle.chain_load.proofs.building.with_block.Goals.{After-drop-block}

-- Only one block is spelled by the bytes: the one that was decoded.
is_decoded : (g : Over) (c : After-drop-block g) (block : Block) → Spells c.args.bytes.now block
    → c.in-Ok.block ≡ block
is_decoded g c block spells =
    let both = c.in-Ok.ensures.only block spells in
    let same : block ≡ c.in-Ok.block = cc in
    sym same

pub returns-in-Ok-with_rows-clause-stands : goal.returns-in-Ok-with_rows-clause-stands
returns-in-Ok-with_rows-clause-stands g c known blocks block stands spells next =
    let same = is_decoded g c block spells in
    subst (λ (b : Block). StandsFor (kept_in c.in-Ok-with_rows.longer) (blocks ++ b ∷ [])) same
    (c.in-Ok-with_rows.ensures.stands known blocks stands
    (c.block_digest-digest.ensures ∙ ap bytes_digest c.in-Ok.ensures.found.spelled) (rw same next))

pub returns-in-Ok-with_rows-clause-few : goal.returns-in-Ok-with_rows-clause-few
returns-in-Ok-with_rows-clause-few g c block spells =
    subst (λ (b : Block). length c.in-Ok-with_rows.longer.rows ≤ length c.args.chain.rows + MAX_KEYS_PUT * length b.txs)
    (is_decoded g c block spells) c.in-Ok-with_rows.ensures.few

pub returns-in-Ok-with_rows-clause-cause : goal.returns-in-Ok-with_rows-clause-cause
returns-in-Ok-with_rows-clause-cause g c =
    blameless _ _ (unblamed _ _ c.in-Ok-with_rows.ensures.cause)
