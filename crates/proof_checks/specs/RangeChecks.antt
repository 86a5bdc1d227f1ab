-- Which range proofs are accepted, and which versions they show. The first check that fails decides
-- the fault. Up to the headers the checks are those of a lookup's proof; the headers go on by
-- another rule.
use Rattle.std.specs.Prelude.{ℕ, suc, ◌==◌, ◌&&◌, Bool, nat_le, if◌then◌else◌, List, [], ◌∷◌, map}
use Rattle.std.specs.Prelude.{filter, reverse, slice_get, Option, Some, None, Result, Ok, Err}
use Rattle.std.specs.List.{zip}
use Rattle.std.specs.Option.{option_map, option_or}
use Rattle.std.specs.Cmp.Lexicographic.{pointwise}
use Rattle.sha2.specs.Sha256.{sha256}
use Rattle.lc_base.specs.declared.row.Version.{Version}
use Rattle.proof_codec.specs.merkle_tree.Levels.{digest_of}
use Rattle.root_laws.specs.prov_entry.declared.entry.Link.{Link}
use Rattle.root_laws.specs.prov_entry.declared.entry.Header.{Header}
use Rattle.root_laws.specs.prov_entry.declared.entry.Body.{Body}
use Rattle.root_laws.specs.prov_entry.Spelling.{body_text}
use Rattle.proof_checks.specs.declared.reject.Reject.{Reject}
use Rattle.proof_checks.specs.declared.reject.Reject.TheVariants as faults
use Rattle.proof_checks.specs.Checks.{root_fault, leaf_fault, expected_first, expected_after}
use Rattle.proof_checks.specs.Checks.{headers_fault}
use Rattle.proof_checks.specs.declared.range_proof.RangeProof.{RangeProof}
use Rattle.proof_checks.specs.declared.range_reject.RangeReject.{RangeReject}
use Rattle.proof_checks.specs.declared.range_reject.RangeReject.TheVariants as rejects

-- ---- the query

-- Whether a range proof is of this key and these blocks.
abbrev pub is_same_range : List ℕ → ℕ → ℕ → RangeProof → Bool
is_same_range key from to range =
    pointwise ◌==◌ range.key key && (range.from == from && range.to == to)

-- The range proof is of another key or of other blocks.
abbrev pub query_fault : List ℕ → ℕ → ℕ → RangeProof → Option RangeReject
query_fault key from to range =
    if is_same_range key from to range then None else Some rejects.OtherQuery

-- ---- the leaf proof and the headers

-- A fault of a leaf proof or of headers as one of a range proof. The last two are none of theirs.
abbrev pub as_range_reject : Reject → RangeReject
as_range_reject (faults.Malformed at) = rejects.Malformed at
as_range_reject faults.OtherQuery = rejects.OtherQuery
as_range_reject (faults.RootDiffers computed) = rejects.RootDiffers computed
as_range_reject faults.LeafShape = rejects.LeafShape
as_range_reject (faults.LinkDiffers step computed) = rejects.LinkDiffers step computed
as_range_reject (faults.PathShape step) = rejects.PathShape step
as_range_reject (faults.BodyDiffers computed) = rejects.BodyDiffers 0 computed
as_range_reject (faults.ListDiffers computed) = rejects.BodyDiffers 0 computed

-- A link, if it leads to a block from `from` on.
abbrev pub if_from : ℕ → Option Link → Option Link
if_from from None = None
if_from from (Some link) = if nat_le from link.block then Some link else None

-- The version before that of a header, if both are of blocks from `from` on: the lowest link leads
-- to it.
abbrev pub version_before : ℕ → Header → Option Link
version_before from header =
    if nat_le from header.block then if_from from (slice_get header.links 0) else None

-- The version whose header must follow this one; `None` if none must. From a block after `to` it is
-- that of a lookup up to `to`, and from there on the version before.
abbrev pub next_in_range : ℕ → ℕ → Header → Option Link
next_in_range from to header =
    if nat_le header.block to then version_before from header else expected_after to header

-- The first fault of the headers.
abbrev pub path_fault : RangeProof → Option Reject
path_fault range =
    headers_fault (next_in_range range.from range.to) range.key
    (expected_first range.key range.leaf_proof.leaf) range.headers

-- The first fault of the leaf proof and of the headers.
abbrev pub shown_fault : List ℕ → RangeProof → Option Reject
shown_fault root range =
    option_or (root_fault root range.leaf_proof)
    (option_or (leaf_fault range.key range.leaf_proof) (path_fault range))

-- ---- the bodies

-- Whether a header is of a block from `from` to `to`.
abbrev pub is_within : ℕ → ℕ → Header → Bool
is_within from to header = nat_le from header.block && nat_le header.block to

-- The headers of versions between the blocks: each has a body.
abbrev pub headers_within : RangeProof → List Header
headers_within range = filter (is_within range.from range.to) range.headers

-- What is wrong with the body at this index.
abbrev pub body_fault : ℕ → Header → Body → Option RangeReject
body_fault item header body =
    if pointwise ◌==◌ (sha256 (body_text body)) header.body.0 then None
    else Some (rejects.BodyDiffers item (digest_of (body_text body)))

-- The first body that isn't the one that its header names, from this index on.
abbrev pub bodies_fault : ℕ → List Header → List Body → Option RangeReject
bodies_fault item [] bodies = None
bodies_fault item (header ∷ headers) [] = None
bodies_fault item (header ∷ headers) (body ∷ bodies) =
    option_or (body_fault item header body) (bodies_fault (suc item) headers bodies)

-- ---- the verdict

-- The first check of a range proof by its own query that fails, or `None` if it passes.
unfoldable pub fault_in : List ℕ → RangeProof → Option RangeReject
fault_in root range =
    option_or (option_map as_range_reject (shown_fault root range))
    (bodies_fault 0 (headers_within range) range.bodies)

-- The version of a header with its body.
abbrev pub version_shown : (Header × Body) → Version
version_shown (header, body) =
    record { block = header.block; tx = header.tx; value = body.value }

-- The versions that a range proof shows, the first one first.
abbrev pub versions_in : RangeProof → List Version
versions_in range = reverse (map version_shown (zip (headers_within range) range.bodies))

-- The fault if there is one, else the rest.
abbrev pub after : {A : Type 0} → Option RangeReject → Result A RangeReject → Result A RangeReject
after None rest = rest
after (Some fault) rest = Err fault

-- What a range proof shows of its own key and blocks, or the first check that fails.
abbrev pub range_judgement : List ℕ → RangeProof → Result (List Version) RangeReject
range_judgement root range = after (fault_in root range) (Ok (versions_in range))

-- What a range proof shows of a key between two blocks, or the first check that fails: that it is
-- of this key and these blocks is checked first.
abbrev pub range_verdict : List ℕ → List ℕ → ℕ → ℕ → RangeProof
    → Result (List Version) RangeReject
range_verdict root key from to range =
    after (query_fault key from to range) (range_judgement root range)
