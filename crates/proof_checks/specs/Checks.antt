-- Which proofs are accepted, and what they answer. Each check is of the whole proof; the first
-- check that fails decides the fault.
use Rattle.std.specs.Prelude.{ℕ, zero, suc, ◌+◌, ◌==◌, ◌&&◌, ◌||◌, Bool, true, false, nat_lt}
use Rattle.std.specs.Prelude.{nat_le, if◌then◌else◌, List, [], ◌∷◌, length, map, reverse, slice_get}
use Rattle.std.specs.Prelude.{Option, Some, None, Result, Ok, Err}
use Rattle.std.specs.List.{find, range_with_len}
use Rattle.std.specs.Option.{option_or, option_and_then}
use Rattle.std.specs.Cmp.Lexicographic.{pointwise}
use Rattle.sha2.specs.Sha256.{sha256}
use Rattle.lc_base.specs.declared.row.Dep.{Dep}
use Rattle.lc_base.specs.declared.answer.Kind.{Kind}
use Rattle.lc_base.specs.declared.answer.Kind.TheVariants as kinds
use Rattle.lc_base.specs.declared.answer.Query.{Query}
use Rattle.lc_base.specs.declared.answer.Answer.{Answer}
use Rattle.lc_base.specs.declared.answer.Answer.TheVariants as answers
use Rattle.proof_codec.specs.merkle_tree.Tree.{leaf_text, Climb}
use Rattle.proof_codec.specs.merkle_tree.Climbing.{bytes_of, top_of}
use Rattle.proof_codec.specs.merkle_tree.Levels.{digest_of}
use Rattle.root_laws.specs.prov_entry.declared.entry.Link.{Link}
use Rattle.root_laws.specs.prov_entry.declared.entry.Header.{Header}
use Rattle.root_laws.specs.prov_entry.declared.entry.BodyDep.{BodyDep}
use Rattle.root_laws.specs.prov_entry.declared.entry.Body.{Body}
use Rattle.root_laws.specs.prov_entry.declared.entry.Leaf.{Leaf}
use Rattle.root_laws.specs.prov_entry.Spelling.{key_or_empty, leaf_bytes, header_text, body_text}
use Rattle.root_laws.specs.prov_entry.Spelling.{text_of_root}
use Rattle.root_laws.specs.prov_entry.ForwardLists.{uses_digest}
use Rattle.root_laws.specs.Root.{is_below}
use Rattle.proof_codec.specs.declared.proof.LeafProof.{LeafProof}
use Rattle.proof_codec.specs.declared.proof.Proof.{Proof}
use Rattle.proof_codec.specs.Spelling.{kind_byte, last_of}
use Rattle.proof_checks.specs.declared.claim.Claim.{Claim}
use Rattle.proof_checks.specs.declared.reject.Reject.{Reject}
use Rattle.proof_checks.specs.declared.reject.Reject.TheVariants as rejects

-- The first fault of a list, or `None` if there is none.
abbrev pub first_fault : List (Option Reject) → Option Reject
first_fault [] = None
first_fault (fault ∷ faults) = option_or fault (first_fault faults)

-- The fault, unless the test passes.
abbrev pub unless : Bool → Reject → Option Reject
unless true fault = None
unless false fault = Some fault

-- ---- the query

-- Whether the proof's own query is the one that is asked.
abbrev pub is_same_query : Query → Query → Bool
is_same_query asked own = kind_byte own.kind == kind_byte asked.kind && pointwise ◌==◌ own.key asked.key && own.at == asked.at

-- The proof is for another query.
abbrev pub query_fault : Query → Proof → Option Reject
query_fault query proof = unless (is_same_query query proof.query) rejects.OtherQuery

-- ---- the root

-- Where the climb from the leaf to the root begins.
abbrev pub climb_of : LeafProof → Climb
climb_of leaf_proof = record { hash = sha256 (leaf_text (leaf_bytes leaf_proof.leaf)); left = bytes_of leaf_proof.audit }

-- The text of the root that a leaf proof leads to.
abbrev pub root_text_of : LeafProof → List ℕ
root_text_of leaf_proof = text_of_root leaf_proof.root_at leaf_proof.block_digest.0 leaf_proof.leaf_count (top_of leaf_proof.leaf_index leaf_proof.leaf_count (climb_of leaf_proof))

-- A leaf proof leads to another root.
abbrev pub root_fault : List ℕ → LeafProof → Option Reject
root_fault root leaf_proof = unless (pointwise ◌==◌ (sha256 (root_text_of leaf_proof)) root) (rejects.RootDiffers (digest_of (root_text_of leaf_proof)))

-- ---- the leaf

-- Whether a leaf is the key's own.
abbrev pub is_of_key : List ℕ → Option (List ℕ) → Bool
is_of_key key None = false
is_of_key key (Some other) = pointwise ◌==◌ other key

-- Whether the key is smaller than the next one; true if there is no next key.
abbrev pub is_before_next : List ℕ → Option (List ℕ) → Bool
is_before_next key None = true
is_before_next key (Some next) = is_below key next

-- Whether a leaf is the key's own, or the one after which a leaf of the key would be inserted.
abbrev pub covers : List ℕ → Leaf → Bool
covers key leaf =
    is_of_key key leaf.key || (is_below (key_or_empty leaf.key) key && is_before_next key leaf.next)

-- The leaf doesn't cover the key.
abbrev pub leaf_fault : List ℕ → LeafProof → Option Reject
leaf_fault key leaf_proof = unless (covers key leaf_proof.leaf) rejects.LeafShape

-- ---- the headers

-- The link to follow: the highest one to a block after `at`, or else the lowest one.
abbrev pub next_link : ℕ → List Link → Option Link
next_link at links =
    option_or (find (λ (link : Link). nat_lt at link.block) (reverse links)) (slice_get links 0)

-- The version whose header must follow this one; `None` if this version answers or has no link.
abbrev pub expected_after : ℕ → Header → Option Link
expected_after at header = if nat_le header.block at then None else next_link at header.links

-- The version whose header must be first: the leaf's newest version, if the leaf is the key's.
abbrev pub expected_first : List ℕ → Leaf → Option Link
expected_first key leaf = if is_of_key key leaf.key then Some (record { block = leaf.newest_block; digest = leaf.newest }) else None

-- The version whose header must be at a step: `first` at step 0, and later the one that `next` finds
-- from the header before.
abbrev pub expected_at : (Header → Option Link) → Option Link → List Header → ℕ → Option Link
expected_at next first headers zero = first
expected_at next first headers (suc step) = option_and_then next (slice_get headers step)

-- What is wrong with a header at a step where this version's is expected.
abbrev pub header_fault : List ℕ → ℕ → Link → Header → Option Reject
header_fault key step expected header =
    if pointwise ◌==◌ (sha256 (header_text header)) expected.digest.0
    then unless (pointwise ◌==◌ header.key key && header.block == expected.block) (rejects.PathShape step)
    else Some (rejects.LinkDiffers step (digest_of (header_text header)))

-- What is wrong at a step, given the version that is expected there and the header that is there.
abbrev pub fault_of_step : List ℕ → ℕ → Option Link → Option Header → Option Reject
fault_of_step key step None None = None
fault_of_step key step None (Some header) = Some (rejects.PathShape step)
fault_of_step key step (Some expected) None = Some (rejects.PathShape step)
fault_of_step key step (Some expected) (Some header) = header_fault key step expected header

-- What is wrong at a step of a walk over headers, which begins at `first` and goes on by `next`.
abbrev pub step_fault : (Header → Option Link) → List ℕ → Option Link → List Header → ℕ
    → Option Reject
step_fault next key first headers step =
    fault_of_step key step (expected_at next first headers step) (slice_get headers step)

-- The first fault of all steps. The last step comes after the headers: no further header must be
-- expected there.
abbrev pub headers_fault : (Header → Option Link) → List ℕ → Option Link → List Header
    → Option Reject
headers_fault next key first headers =
    first_fault (map (step_fault next key first headers) (range_with_len 0 (length headers + 1)))

-- The first fault of the headers of a proof.
abbrev pub path_fault : Proof → Option Reject
path_fault proof = headers_fault (expected_after proof.query.at) proof.query.key (expected_first proof.query.key proof.leaf_proof.leaf) proof.headers

-- ---- the body

-- What is wrong with a body that a header names by its digest.
abbrev pub fault_of_body : Option Header → Option Body → Option Reject
fault_of_body None body = None
fault_of_body (Some header) None = None
fault_of_body (Some header) (Some body) = unless (pointwise ◌==◌ (sha256 (body_text body)) header.body.0) (rejects.BodyDiffers (digest_of (body_text body)))

-- The body isn't the one that the last header names.
abbrev pub body_fault : Proof → Option Reject
body_fault proof = fault_of_body (last_of proof.headers) proof.body

-- ---- the uses

-- What a leaf records of the uses of the newest version.
abbrev pub claim_of_leaf : Leaf → Claim
claim_of_leaf leaf = record { count = leaf.open_count; digest = leaf.open_digest }

-- What a header records of the uses of the version before its own.
abbrev pub claim_of_header : Header → Claim
claim_of_header header = record { count = header.closed; digest = header.closed_digest }

-- What is recorded of the uses of the last header's version: by the header before it, or by `claim`
-- if there is one header or none.
abbrev pub claim_before : Claim → List Header → Claim
claim_before claim [] = claim
claim_before claim (header ∷ []) = claim
claim_before claim (header ∷ last ∷ headers) =
    claim_before (claim_of_header header) (last ∷ headers)

-- What is wrong with uses that have this claim.
abbrev pub fault_of_uses : Claim → Option (List Dep) → Option Reject
fault_of_uses claim None = None
fault_of_uses claim (Some uses) =
    unless (length uses == claim.count && pointwise ◌==◌ (uses_digest uses) claim.digest.0) (rejects.ListDiffers (record { 0 = uses_digest uses }))

-- The number or the digest of the uses isn't what is recorded of them.
abbrev pub uses_fault : Proof → Option Reject
uses_fault proof =
    fault_of_uses (claim_before (claim_of_leaf proof.leaf_proof.leaf) proof.headers) proof.uses

-- ---- the verdict

-- The first check of a proof by its own query that fails, or `None` if the proof passes.
unfoldable pub fault_in : List ℕ → Proof → Option Reject
fault_in root proof = first_fault (
    root_fault root proof.leaf_proof ∷ leaf_fault proof.query.key proof.leaf_proof ∷ path_fault proof ∷ body_fault proof ∷ uses_fault proof ∷ [])

-- A dependency without its digest.
abbrev pub dep_of : BodyDep → Dep
dep_of dep = record { key = dep.key; block = dep.block }

-- What a version answers, given its header, its body, and its uses if they are asked for.
abbrev pub answer_by : Kind → Header → Body → Option (List Dep) → Answer
answer_by kinds.Hist header body uses = answers.Hist header.block header.tx body.value
answer_by kinds.Back header body uses = answers.Back header.block (map dep_of body.deps)
answer_by kinds.Fwd header body None = answers.Nothing
answer_by kinds.Fwd header body (Some uses) = answers.Fwd header.block uses

-- What the last header, the body, and the uses answer.
abbrev pub answer_from : Kind → Option Header → Option Body → Option (List Dep) → Answer
answer_from kind None body uses = answers.Nothing
answer_from kind (Some header) None uses = answers.Nothing
answer_from kind (Some header) (Some body) uses = answer_by kind header body uses

-- What a proof answers: `Nothing` if it has no body.
unfoldable pub answer_in : Proof → Answer
answer_in proof = answer_from proof.query.kind (last_of proof.headers) proof.body proof.uses

-- The fault if there is one, else the rest.
abbrev pub after : {A : Type 0} → Option Reject → Result A Reject → Result A Reject
after None rest = rest
after (Some fault) rest = Err fault

-- What a proof answers to its own query, or the first check that fails.
abbrev pub judgement : List ℕ → Proof → Result Answer Reject
judgement root proof = after (fault_in root proof) (Ok (answer_in proof))

-- What a proof answers to a query, or the first check that fails: that it is for this query is
-- checked first.
abbrev pub verdict : List ℕ → Query → Proof → Result Answer Reject
verdict root query proof = after (query_fault query proof) (judgement root proof)
