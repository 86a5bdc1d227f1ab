use Rattle.std.proofs.lemmas.List.{get_or_default}
use Rattle.prov_entry.specs.Spelling.{IsLink, link_fields}
use Rattle.prov_entry.proofs.Hashing.{added_more}
use Rattle.prov_entry.proofs.digests.add_links.Goals as goal

pub loop-link-preserved : goal.loop-link-preserved
loop-link-preserved c = added_more link_fields IsLink _ _ _ c.args.links.now c.loop-link.link-index _ c.loop-link-test.true (get_or_default c.args.links.now c.loop-link.link-index _ _ c.loop-link-test.true) c.add_link.ensures.added c.add_link.ensures.lawful c.loop-link.invariant
