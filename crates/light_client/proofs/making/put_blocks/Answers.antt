use Rattle.std.proofs.Common.{◌≡◌, ◌∙◌, ◌+◌, ◌++◌, ℕ, List, ap}
use Rattle.light_client.specs.declared.block_root.BlockRoot.{BlockRoot}
use Rattle.light_client.specs.Format.{block_root_bytes}
use Rattle.light_client.specs.Making.{block_root_of}
use Rattle.light_client.proofs.Made.{bytes_between, one_more}
use Rattle.light_client.proofs.making.put_blocks.Goals as goal

pub loop-at-preserved : goal.loop-at-preserved
loop-at-preserved c =
    let rows = c.args.lineage.now.rows in
    let digests = c.args.lineage.now.digests in
    let at = c.loop-at.at in
    let out = c.loop-at.out.items in
    let appended : c.put_block_root.new.out.items ≡ out ++ block_root_bytes
    (block_root_of rows digests at) =
    c.in_ok-put_block_root.ensures
    ∙ ap (λ (one : BlockRoot). out ++ block_root_bytes one) c.block_root.ensures in
    ap (λ (bytes : List ℕ). bytes ++ bytes_between rows digests (at + 1) c.args.until) appended
    ∙ one_more rows digests at c.args.until out _ c.loop-at-test.true c.requires c.loop-at.invariant
