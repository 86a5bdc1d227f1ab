use Rattle.std.proofs.Common.{◌≡◌, map, take}
use Rattle.entry_store.specs.Entries.{named_link}
use Rattle.entry_store.proofs.facts.links_of.Given as goal

abbrev pub invariant-loop-hop : goal.invariant-loop-hop
invariant-loop-hop l = l.links ≡ map (named_link l.entries) (take l.hop-index l.hops)
