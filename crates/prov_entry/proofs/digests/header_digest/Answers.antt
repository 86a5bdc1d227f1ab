use Rattle.std.proofs.Common.{ap, ◌∙◌}
use Rattle.sha2.specs.Sha256.{sha256}
use Rattle.prov_entry.proofs.Texts.{header_text_is}
use Rattle.prov_entry.proofs.digests.header_digest.Goals as goal

pub returns-clause-digest : goal.returns-clause-digest
returns-clause-digest c =
    c.finish.ensures _ (c.add_links.ensures.added _ (c.add-6.ensures _ (c.add-5.ensures _ (c.add-4.ensures _ (c.add-3.ensures _ (c.add-2.ensures _ (c.add.ensures _ (c.add_key.ensures.added _ c.new-hasher.ensures))))))))
    ∙ ap sha256 (header_text_is c.args.header.now c.to_be_bytes.result c.to_be_bytes-2.result c.to_be_bytes-3.result c.len.result c.as_slice.result.now c.to_be_bytes.ensures c.to_be_bytes-2.ensures c.to_be_bytes-3.ensures c.len.ensures c.as_slice.ensures)
