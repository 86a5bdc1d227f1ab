-- How headers, bodies and leaves are spelled, each as its list of fields, and what is hashed of
-- them. Numbers are big-endian.
use Rattle.std.specs.Prelude.{◌≡◌, ℕ, ◌^◌, ◌<◌, ◌≤◌, List, [], ◌∷◌, ◌++◌, length, Option, Some, None}
use Rattle.std.specs.List.{concat, flat_map, AllByRecursion}
use Rattle.std.specs.Int.{w16, w32, w64, to_be_bytes}
use Rattle.lc_base.specs.KeyBytes.{IsKey}
use Rattle.lc_base.specs.declared.limits.TheConstants.{MAX_DEPS}
use Rattle.byte_fields.specs.Spelling.{string_fields, value_fields, IsValue}
use Rattle.prov_entry.specs.declared.limits.TheConstants.{HEADER, BODY, ROOT, MAX_LINKS}
use Rattle.prov_entry.specs.declared.entry.Link.{Link}
use Rattle.prov_entry.specs.declared.entry.Header.{Header}
use Rattle.prov_entry.specs.declared.entry.BodyDep.{BodyDep}
use Rattle.prov_entry.specs.declared.entry.Body.{Body}
use Rattle.prov_entry.specs.declared.entry.Leaf.{Leaf}

-- ---- what they may be

-- A block number of 32 bits, and a digest of 32 bytes.
pub record IsLink (link : Link) : Type 0 where
  pub block_fits : link.block < 2 ^ 32
  pub digest_fits : length link.digest.0 ≡ 32

-- A key, numbers that fit, digests of 32 bytes, and at most `MAX_LINKS` links.
pub record IsHeader (header : Header) : Type 0 where
  pub key_is_key : IsKey header.key
  pub block_fits : header.block < 2 ^ 32
  pub tx_fits : header.tx < 2 ^ 16
  pub body_fits : length header.body.0 ≡ 32
  pub closed_fits : header.closed < 2 ^ 64
  pub closed_digest_fits : length header.closed_digest.0 ≡ 32
  pub few_links : length header.links ≤ MAX_LINKS
  pub links_are_links : AllByRecursion IsLink header.links

-- A key, a block number of 32 bits, and a digest of 32 bytes.
pub record IsBodyDep (dep : BodyDep) : Type 0 where
  pub key_is_key : IsKey dep.key
  pub block_fits : dep.block < 2 ^ 32
  pub digest_fits : length dep.digest.0 ≡ 32

-- A value, and at most `MAX_DEPS` dependencies.
pub record IsBody (body : Body) : Type 0 where
  pub value_is_value : IsValue body.value
  pub few_deps : length body.deps ≤ MAX_DEPS
  pub deps_are_deps : AllByRecursion IsBodyDep body.deps

-- A key, if there is one.
abbrev pub IsKeyIfAny : Option (List ℕ) → Type 0
IsKeyIfAny None = Unit {0}
IsKeyIfAny (Some key) = IsKey key

-- Keys, if there are any, numbers that fit, and digests of 32 bytes.
pub record IsLeaf (leaf : Leaf) : Type 0 where
  pub key_is_key : IsKeyIfAny leaf.key
  pub next_is_key : IsKeyIfAny leaf.next
  pub newest_block_fits : leaf.newest_block < 2 ^ 32
  pub newest_fits : length leaf.newest.0 ≡ 32
  pub open_count_fits : leaf.open_count < 2 ^ 64
  pub open_digest_fits : length leaf.open_digest.0 ≡ 32

-- ---- how they are spelled, field by field

-- A block, and the digest of a header.
abbrev pub link_fields : Link → List (List ℕ)
link_fields link = to_be_bytes w32 link.block ∷ link.digest.0 ∷ []

-- The key, the block, the transaction, the digest of the body, the number of closed uses and their
-- digest, the number of links in one byte, and these.
abbrev pub header_fields : Header → List (List ℕ)
header_fields header =
    string_fields header.key ++ to_be_bytes w32 header.block ∷ to_be_bytes w16 header.tx ∷ header.body.0
    ∷ to_be_bytes w64 header.closed ∷ header.closed_digest.0 ∷ (length header.links ∷ []) ∷ flat_map link_fields header.links

-- The key, the block, and the digest of the header.
abbrev pub body_dep_fields : BodyDep → List (List ℕ)
body_dep_fields dep = string_fields dep.key ++ to_be_bytes w32 dep.block ∷ dep.digest.0 ∷ []

-- The value, the number of dependencies in one byte, and these.
abbrev pub body_fields : Body → List (List ℕ)
body_fields body = value_fields body.value ++ (length body.deps ∷ []) ∷ flat_map body_dep_fields body.deps

-- The key, or the empty string for the sentinel.
abbrev pub key_or_empty : Option (List ℕ) → List ℕ
key_or_empty None = []
key_or_empty (Some key) = key

-- The byte 0; or the byte 1 and the next key.
abbrev pub next_fields : Option (List ℕ) → List (List ℕ)
next_fields None = (0 ∷ []) ∷ []
next_fields (Some key) = (1 ∷ []) ∷ string_fields key

-- The key, the next key, the block of the newest version and the digest of its header, and the
-- number of open uses and their digest.
abbrev pub leaf_fields : Leaf → List (List ℕ)
leaf_fields leaf =
    string_fields (key_or_empty leaf.key) ++ next_fields leaf.next ++ to_be_bytes w32 leaf.newest_block ∷ leaf.newest.0
    ∷ to_be_bytes w64 leaf.open_count ∷ leaf.open_digest.0 ∷ []

-- ---- what is hashed

-- The text of a header.
abbrev pub header_text : Header → List ℕ
header_text header = HEADER ∷ concat (header_fields header)

-- The text of a body.
abbrev pub body_text : Body → List ℕ
body_text body = BODY ∷ concat (body_fields body)

-- A leaf, as the tree hashes it after its own first byte.
abbrev pub leaf_bytes : Leaf → List ℕ
leaf_bytes leaf = concat (leaf_fields leaf)

-- The text of a root: its tag, the block, the block's digest, the number of leaves, and their tree
-- hash.
abbrev pub text_of_root : ℕ → List ℕ → ℕ → List ℕ → List ℕ
text_of_root block digest count hash =
    ROOT ∷ to_be_bytes w32 block ++ digest ++ to_be_bytes w32 count ++ hash
