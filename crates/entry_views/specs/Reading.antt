-- Reading headers, bodies and leaves from their bytes, field by field.
use Rattle.std.specs.Prelude.{ℕ, zero, suc, nat_le, nat_lt, List, Option, Some, None}
use Rattle.std.specs.Int.{w16, w32, w64}
use Rattle.lc_base.specs.declared.limits.TheConstants.{MAX_DEPS}
use Rattle.lc_base.specs.declared.digest.Digest.{Digest}
use Rattle.lc_base.specs.declared.row.Dep.{Dep}
use Rattle.lc_base.specs.declared.value.Value.{Value}
use Rattle.byte_fields.specs.Reading.{Field, ret_at, bind_at, then_at, made_at, ruled_at, items_at, number_at, byte_at, bytes_at, key_at, key_or_empty_at, body_value_at}
use Rattle.prov_entry.specs.declared.limits.TheConstants.{MAX_LINKS}
use Rattle.prov_entry.specs.declared.entry.Link.{Link}
use Rattle.prov_entry.specs.declared.entry.Header.{Header}
use Rattle.prov_entry.specs.declared.entry.BodyDep.{BodyDep}
use Rattle.prov_entry.specs.declared.entry.Body.{Body}
use Rattle.prov_entry.specs.declared.entry.Leaf.{Leaf}

-- ---- items of lists

-- The digest with these bytes.
abbrev pub digest_of_bytes : List ℕ → Digest
digest_of_bytes bytes = record { 0 = bytes }

-- A digest.
unfoldable pub digest_at : List ℕ → Field Digest
digest_at = made_at digest_of_bytes (bytes_at 32)

-- The use with these parts.
abbrev pub use_of : List ℕ × ℕ → Dep
use_of parts = record { key = parts.0; block = parts.1 }

-- A use.
unfoldable pub use_at : List ℕ → Field Dep
use_at = made_at use_of (then_at key_at (number_at w32))

-- At most `most` items, after a byte with their number.
unfoldable pub short_list_at : {A : Type 0} → ℕ → (List ℕ → Field A) → List ℕ → Field (List A)
short_list_at most item = bind_at (ruled_at (λ n. nat_le n most) byte_at) (items_at item)

-- ---- headers

-- The link with these parts.
abbrev pub link_of : ℕ × List ℕ → Link
link_of parts = record { block = parts.0; digest = record { 0 = parts.1 } }

-- A link.
unfoldable pub link_at : List ℕ → Field Link
link_at = made_at link_of (then_at (number_at w32) (bytes_at 32))

-- At most `MAX_LINKS` links, after their number.
abbrev pub links_at : List ℕ → Field (List Link)
links_at = short_list_at MAX_LINKS link_at

-- The header with these parts.
abbrev pub header_of : List ℕ × (ℕ × (ℕ × (List ℕ × (ℕ × (List ℕ × List Link))))) → Header
header_of parts = record {
  key = parts.0;
  block = parts.1.0;
  tx = parts.1.1.0;
  body = record { 0 = parts.1.1.1.0 };
  closed = parts.1.1.1.1.0;
  closed_digest = record { 0 = parts.1.1.1.1.1.0 };
  links = parts.1.1.1.1.1.1;
}

-- A header.
unfoldable pub header_at : List ℕ → Field Header
header_at = made_at header_of (then_at key_at (then_at (number_at w32) (then_at (number_at w16) (then_at (bytes_at 32) (then_at (number_at w64) (then_at (bytes_at 32) links_at))))))

-- ---- bodies

-- The dependency with these parts.
abbrev pub body_dep_of : List ℕ × (ℕ × List ℕ) → BodyDep
body_dep_of parts = record { key = parts.0; block = parts.1.0; digest = record { 0 = parts.1.1 } }

-- A dependency.
unfoldable pub body_dep_at : List ℕ → Field BodyDep
body_dep_at = made_at body_dep_of (then_at key_at (then_at (number_at w32) (bytes_at 32)))

-- At most `MAX_DEPS` dependencies, after their number.
abbrev pub body_deps_at : List ℕ → Field (List BodyDep)
body_deps_at = short_list_at MAX_DEPS body_dep_at

-- The body with these parts.
abbrev pub body_of : Value × List BodyDep → Body
body_of parts = record { value = parts.0; deps = parts.1 }

-- A body.
unfoldable pub body_at : List ℕ → Field Body
body_at = made_at body_of (then_at body_value_at body_deps_at)

-- ---- leaves

-- What follows the flag of a next key.
abbrev pub flagged_at : ℕ → List ℕ → Field (Option (List ℕ))
flagged_at zero = ret_at None
flagged_at (suc flag) = made_at Some key_at

-- A next key, or none: the flag, and after the flag 1 the key.
unfoldable pub next_at : List ℕ → Field (Option (List ℕ))
next_at = bind_at (ruled_at (λ flag. nat_lt flag 2) byte_at) flagged_at

-- The leaf with these parts.
abbrev pub leaf_of : Option (List ℕ) × (Option (List ℕ) × (ℕ × (List ℕ × (ℕ × List ℕ)))) → Leaf
leaf_of parts = record {
  key = parts.0;
  next = parts.1.0;
  newest_block = parts.1.1.0;
  newest = record { 0 = parts.1.1.1.0 };
  open_count = parts.1.1.1.1.0;
  open_digest = record { 0 = parts.1.1.1.1.1 };
}

-- A leaf.
unfoldable pub leaf_at : List ℕ → Field Leaf
leaf_at = made_at leaf_of (then_at key_or_empty_at (then_at next_at (then_at (number_at w32) (then_at (bytes_at 32) (then_at (number_at w64) (bytes_at 32))))))
