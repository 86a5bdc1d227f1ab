use Rattle.std.proofs.Common.{take}
use Rattle.prov_entry.specs.Spelling.{IsLink, link_fields}
use Rattle.prov_entry.proofs.Hashing.{Added}
use Rattle.prov_entry.proofs.digests.add_links.Given as goal

abbrev pub invariant-loop-link : goal.invariant-loop-link
invariant-loop-link l = Added link_fields IsLink l.fn.hasher l.hasher (take l.link-index l.links)
