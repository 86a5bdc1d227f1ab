use Rattle.std.proofs.Common.{ap, ◌∙◌}
use Rattle.sha2.specs.Sha256.{sha256}
use Rattle.prov_entry.proofs.Texts.{leaf_text_is}
use Rattle.prov_entry.proofs.digests.leaf_digest.Goals as goal

pub returns-clause-digest : goal.returns-clause-digest
returns-clause-digest c =
    c.finish.ensures _ (c.add-4.ensures _ (c.add-3.ensures _ (c.add-2.ensures _ (c.add.ensures _ (c.add_next.ensures.added _ (c.add_key_or_empty.ensures.added _ c.new-hasher.ensures)))))) ∙ ap sha256 (leaf_text_is c.args.leaf.now c.to_be_bytes.result c.to_be_bytes-2.result c.to_be_bytes.ensures c.to_be_bytes-2.ensures)
