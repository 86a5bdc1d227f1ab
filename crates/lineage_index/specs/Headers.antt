-- Headers that are made again from entries.
use Rattle.std.specs.Prelude.{List, map}
use Rattle.entry_views.specs.prov_entry.declared.entry.Header.{Header}
use Rattle.skip_list.specs.entry_store.Entries.{Entry, named_link}

-- The header of an entry: its links have the digests of the headers that its hops lead to.
abbrev pub header_made : List Entry → Entry → Header
header_made entries entry = record {
  key = entry.facts.key;
  block = entry.facts.block;
  tx = entry.facts.tx;
  body = entry.facts.body;
  closed = entry.facts.closed;
  closed_digest = entry.facts.closed_digest;
  links = map (named_link entries) entry.links.hops;
}
