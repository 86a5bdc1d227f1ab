-- The headers and bodies of the rows of a history, which name older versions by the digests of their
-- headers.
use Rattle.std.specs.Prelude.{ℕ, zero, suc, ◌==◌, ◌&&◌, Bool, List, [], ◌++◌, length, map, filter, reverse, replicate, Option, Some, None}
use Rattle.std.specs.List.{find}
use Rattle.std.specs.Cmp.Lexicographic.{pointwise}
use Rattle.prov_entry.specs.merkle_tree.Levels.{digest_of}
use Rattle.lc_base.specs.declared.digest.Digest.{Digest}
use Rattle.lc_base.specs.declared.row.Dep.{Dep}
use Rattle.lc_base.specs.declared.row.Row.{Row}
use Rattle.lc_base.specs.History.{below, up_to, newest, uses}
use Rattle.skip_links.specs.Links.{links}
use Rattle.prov_entry.specs.declared.entry.Link.{Link}
use Rattle.prov_entry.specs.declared.entry.Header.{Header}
use Rattle.prov_entry.specs.declared.entry.BodyDep.{BodyDep}
use Rattle.prov_entry.specs.declared.entry.Body.{Body}
use Rattle.prov_entry.specs.Spelling.{header_text, body_text}
use Rattle.prov_entry.specs.ForwardLists.{uses_digest}

-- The digest of a forward list.
abbrev pub digest_of_uses : List Dep → Digest
digest_of_uses uses = record { 0 = uses_digest uses }

-- ---- closed forward lists

-- The uses of a version among these rows; none if there is no version.
abbrev pub uses_of : List Row → List ℕ → Option Row → List Dep
uses_of rows key None = []
uses_of rows key (Some version) = uses rows key version.block

-- The forward list that a version of the key in this block closes: the uses, among these rows, of
-- the key's version before it; none for a first version.
abbrev pub closed_uses : List Row → List ℕ → ℕ → List Dep
closed_uses rows key block = uses_of rows key (newest (below rows block) key)

-- ---- headers and bodies, from the header digests of older versions

-- Whether this is the version of the key in this block.
abbrev pub is_named : List ℕ → ℕ → BodyDep → Bool
is_named key block name = pointwise ◌==◌ name.key key && name.block == block

-- The digest of a version's header; zeros if there is no such version.
abbrev pub digest_or_zeros : Option BodyDep → Digest
digest_or_zeros None = record { 0 = replicate 32 0 }
digest_or_zeros (Some name) = name.digest

-- The digest of the header of the key's version in this block, from these named versions.
abbrev pub digest_among : List BodyDep → List ℕ → ℕ → Digest
digest_among named key block = digest_or_zeros (find (is_named key block) (reverse named))

-- A dependency with the digest of its header.
abbrev pub with_digest : List BodyDep → Dep → BodyDep
with_digest named dep = record { key = dep.key; block = dep.block; digest = digest_among named dep.key dep.block }

-- The body of a row, from these named versions.
abbrev pub body_among : List BodyDep → Row → Body
body_among named row = record { value = row.value; deps = map (with_digest named) row.deps }

-- A link of the key to its version in this block.
abbrev pub link_among : List BodyDep → List ℕ → ℕ → Link
link_among named key block = record { block = block; digest = digest_among named key block }

-- The header of a row, from the rows up to its block and the named versions before it.
abbrev pub header_among : List Row → List BodyDep → Row → Header
header_among rows named row = record {
  key = row.key;
  block = row.block;
  tx = row.tx;
  body = digest_of (body_text (body_among named row));
  closed = length (closed_uses rows row.key row.block);
  closed_digest = digest_of_uses (closed_uses rows row.key row.block);
  links = map (link_among named row.key) (links rows row.key row.block);
}

-- ---- by recursion on the block

-- The version that a row is, with the digest of its header.
unfoldable pub named_by : List Row → List BodyDep → Row → BodyDep
named_by rows named row = record { key = row.key; block = row.block; digest = digest_of (header_text (header_among rows named row)) }

-- Whether a row is of this block.
abbrev pub is_of_block : ℕ → Row → Bool
is_of_block block row = row.block == block

-- The versions of the blocks before this one, each with the digest of its header. What a block's rows
-- name by digests is of the blocks before it.
unfoldable pub named_before : List Row → ℕ → List BodyDep
named_before rows zero = []
named_before rows (suc block) =
    named_before rows block ++ map (named_by (up_to rows block) (named_before rows block)) (filter (is_of_block block) rows)

-- The digest of the header of the key's version in this block.
abbrev pub header_digest : List Row → List ℕ → ℕ → Digest
header_digest rows key block = digest_among (named_before rows (suc block)) key block

-- The header of a row of a history.
abbrev pub header_of : List Row → Row → Header
header_of rows row = header_among (up_to rows row.block) (named_before rows row.block) row

-- The body of a row of a history.
abbrev pub body_of : List Row → Row → Body
body_of rows row = body_among (named_before rows row.block) row
