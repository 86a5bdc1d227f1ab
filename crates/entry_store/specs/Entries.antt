-- The entries of a store: what is kept of a version, and what holds of all.
use Rattle.std.specs.Prelude.{◌≡◌, ℕ, ◌<◌, ◌≤◌, ◌∷◌, List, length, map, replicate, take, Option, Some, None, slice_get, IsSomeAnd}
use Rattle.std.specs.List.{All}
use Rattle.sha2.specs.Sha256.{sha256}
use Rattle.lc_base.specs.declared.digest.Digest.{Digest}
use Rattle.lc_base.specs.declared.limits.TheConstants.{MAX_ROWS}
use Rattle.prov_entry.specs.declared.entry.Header.{Header}
use Rattle.prov_entry.specs.declared.entry.Link.{Link}
use Rattle.prov_entry.specs.declared.limits.TheConstants.{BODY, MAX_LINKS}
use Rattle.prov_entry.specs.Spelling.{header_text}
use Rattle.entry_store.specs.declared.entry.Hop.{Hop}
use Rattle.entry_store.specs.declared.entry.Links.{Links}
use Rattle.entry_store.specs.declared.entry.Facts.{Facts}

-- What is kept of a version: what lookups read, the other facts of its header, and the bytes of its
-- body.
pub record Entry : Type 0 where
  pub links : Links
  pub facts : Facts
  pub body : List ℕ

-- ---- what is computed of a new entry

-- The digest of the header of an entry; zeros if there is no such entry.
abbrev pub entry_digest : Option Entry → Digest
entry_digest None = record { 0 = replicate 32 0 }
entry_digest (Some entry) = entry.facts.digest

-- A hop with the digest of the header that it leads to.
abbrev pub named_link : List Entry → Hop → Link
named_link entries hop = record { block = hop.block; digest = entry_digest (slice_get entries hop.id.0) }

-- The header of a new entry, from the entries before it.
abbrev pub new_header : List Entry → List ℕ → ℕ → ℕ → List Hop → ℕ → Digest → List ℕ → Header
new_header entries key block tx hops closed closed_digest body = record {
  key = key;
  block = block;
  tx = tx;
  body = record { 0 = sha256 (BODY ∷ body) };
  closed = closed;
  closed_digest = closed_digest;
  links = map (named_link entries) hops;
}

-- What is kept of a header: its fields but for the links, and its digest.
abbrev pub facts_of : Header → Facts
facts_of header = record {
  key = header.key;
  block = header.block;
  tx = header.tx;
  body = header.body;
  closed = header.closed;
  closed_digest = header.closed_digest;
  digest = record { 0 = sha256 (header_text header) };
}

-- A new entry, from the entries before it.
abbrev pub new_entry : List Entry → List ℕ → ℕ → ℕ → List Hop → ℕ → Digest → List ℕ → Entry
new_entry entries key block tx hops closed closed_digest body = record {
  links = record { block = block; hops = hops };
  facts = facts_of (new_header entries key block tx hops closed closed_digest body);
  body = body;
}

-- ---- what holds of all entries

-- A hop leads to an entry of this key in the hop's block, which is earlier than this one.
abbrev pub LeadsBack : List Entry → List ℕ → ℕ → Hop → Type 0
LeadsBack entries key block hop = (hop.block < block) × IsSomeAnd (slice_get entries hop.id.0) (λ older. (older.facts.key ≡ key) × (older.links.block ≡ hop.block))

-- The hops of an entry lead to entries before it, of its key and of blocks before its own.
pub record IsLinked (before : List Entry) (entry : Entry) : Type 0 where
  pub same_block : entry.facts.block ≡ entry.links.block
  pub few : length entry.links.hops ≤ MAX_LINKS
  pub back : All (LeadsBack before entry.facts.key entry.links.block) entry.links.hops

-- The entries of a store are at most MAX_ROWS, and each has links to entries before it.
pub record AreEntries (entries : List Entry) : Type 0 where
  pub few : length entries ≤ MAX_ROWS
  pub linked : (index : ℕ) (entry : Entry) → slice_get entries index ≡ Some entry → IsLinked (take index entries) entry
