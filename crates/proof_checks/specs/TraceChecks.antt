-- Which proofs of ancestors are accepted, and what they show. The start is checked first, and then
-- one item after another; the first check that fails decides the fault.
use Rattle.std.specs.Prelude.{ℕ, suc, ◌==◌, Bool, true, false, ◌&&◌, not, nat_lt}
use Rattle.std.specs.Prelude.{List, [], ◌∷◌, map, reverse, Option, Some, None, Result, Ok, Err}
use Rattle.std.specs.List.{list_any}
use Rattle.std.specs.Cmp.Lexicographic.{pointwise}
use Rattle.sha2.specs.Sha256.{sha256}
use Rattle.lc_base.specs.declared.digest.Digest.{Digest}
use Rattle.lc_base.specs.declared.row.Dep.{Dep}
use Rattle.lc_base.specs.declared.answer.Kind.TheVariants.{Back}
use Rattle.lc_base.specs.declared.answer.Query.{Query}
use Rattle.lc_base.specs.declared.answer.Answer.{Answer}
use Rattle.proof_codec.specs.merkle_tree.Levels.{digest_of}
use Rattle.root_laws.specs.prov_entry.declared.entry.Header.{Header}
use Rattle.root_laws.specs.prov_entry.declared.entry.BodyDep.{BodyDep}
use Rattle.root_laws.specs.prov_entry.declared.entry.Body.{Body}
use Rattle.root_laws.specs.prov_entry.Spelling.{header_text, body_text}
use Rattle.proof_codec.specs.Spelling.{last_of}
use Rattle.root_laws.specs.Naming.{is_named}
use Rattle.proof_checks.specs.declared.reject.Reject.{Reject}
use Rattle.proof_checks.specs.Checks.{verdict, dep_of}
use Rattle.root_laws.specs.declared.trace.Trace.{Trace}
use Rattle.root_laws.specs.Ancestors.{inserted}
use Rattle.proof_checks.specs.declared.trace_proof.TraceItem.{TraceItem}
use Rattle.proof_checks.specs.declared.trace_proof.TraceProof.{TraceProof}
use Rattle.proof_checks.specs.declared.trace_reject.TraceReject.{TraceReject}
use Rattle.proof_checks.specs.declared.trace_reject.TraceReject.TheVariants as rejects

-- What comes next, given what was found; the fault if there is one.
abbrev pub and_then : {A B : Type 0} → Result A TraceReject → (A → Result B TraceReject)
    → Result B TraceReject
and_then (Ok found) next = next found
and_then (Err fault) next = Err fault

-- The rest if the test passes, else the fault.
abbrev pub tested : {A : Type 0} → Bool → TraceReject → Result A TraceReject → Result A TraceReject
tested true fault rest = rest
tested false fault rest = Err fault

-- The rest if the text has this digest, else the fault that tells the digest that it has.
abbrev pub digest_tested : {A : Type 0} → List ℕ → Digest → (Digest → TraceReject)
    → Result A TraceReject → Result A TraceReject
digest_tested text digest fault rest =
    tested (pointwise ◌==◌ (sha256 text) digest.0) (fault (digest_of text)) rest

-- ---- what is wanted: versions with the digests of their headers, the last version first

-- Whether this version is wanted by another digest.
abbrev pub has_other_digest : BodyDep → BodyDep → Bool
has_other_digest dep wanted =
    is_named dep.key dep.block wanted && not (pointwise ◌==◌ wanted.digest.0 dep.digest.0)

-- What is wanted, and a dependency of the item with this number, whose version is in this block.
-- The dependency must be of an earlier block, and not be wanted by another digest. If it is wanted
-- already, nothing changes.
abbrev pub with_dep : ℕ → ℕ → BodyDep → List BodyDep → Result (List BodyDep) TraceReject
with_dep number block dep wanted =
    tested (nat_lt dep.block block) (rejects.Late number)
    (tested (not (list_any (has_other_digest dep) wanted)) (rejects.Two number)
    (Ok (inserted dep_of dep wanted)))

-- What is wanted, and all dependencies of the item, in the order of its body.
abbrev pub with_deps : ℕ → ℕ → List BodyDep → List BodyDep → Result (List BodyDep) TraceReject
with_deps number block [] wanted = Ok wanted
with_deps number block (dep ∷ deps) wanted =
    and_then (with_dep number block dep wanted) (with_deps number block deps)

-- ---- the items

-- What is wanted after the item with this number, given what was wanted before it. It must be the
-- last version that is wanted, which is wanted no more, and what it was derived from is.
abbrev pub after_item : ℕ → TraceItem → List BodyDep → Result (List BodyDep) TraceReject
after_item number item [] = Err (rejects.Extra number)
after_item number item (last ∷ wanted) =
    tested (is_named item.header.key item.header.block last) (rejects.Order number)
    (digest_tested (header_text item.header) last.digest (rejects.Header number)
    (digest_tested (body_text item.body) item.header.body (rejects.Body number)
    (with_deps number item.header.block item.body.deps wanted)))

-- All items are checked, of which the first one has this number. Nothing must be wanted after the
-- last one.
abbrev pub after_items : ℕ → List TraceItem → List BodyDep → Result (Unit {0}) TraceReject
after_items number [] [] = Ok tt
after_items number [] (last ∷ wanted) = Err (rejects.Missing number)
after_items number (item ∷ items) wanted =
    and_then (after_item number item wanted) (after_items (suc number) items)

-- ---- the start

-- The query that the start must answer: what the last version of the key up to a block was derived
-- from.
abbrev pub start_query : List ℕ → ℕ → Query
start_query key at = record { kind = Back; key = key; at = at }

-- What the start wants, given its last header and its body: its dependencies. Nothing is wanted if
-- it has no body, so if it answers `Nothing`.
abbrev pub wanted_by_start : Option Header → Option Body → Result (List BodyDep) TraceReject
wanted_by_start None body = Ok []
wanted_by_start (Some header) None = Ok []
wanted_by_start (Some header) (Some body) = with_deps 0 header.block body.deps []

-- The rest if the start is accepted, else its fault.
abbrev pub after_start : {A : Type 0} → Result Answer Reject → Result A TraceReject
    → Result A TraceReject
after_start (Ok answer) rest = rest
after_start (Err fault) rest = Err (rejects.Start fault)

-- ---- the verdict

-- The version of an item.
abbrev pub version_of_item : TraceItem → Dep
version_of_item item = record { key = item.header.key; block = item.header.block }

-- What is shown, given the start's last header, its body, and the items: the block of the start's
-- version and, as its ancestors, the items from the last to the first. `None` if the start has no
-- body, so if it answers `Nothing`.
abbrev pub trace_shown : Option Header → Option Body → List TraceItem → Option Trace
trace_shown None body items = None
trace_shown (Some header) None items = None
trace_shown (Some header) (Some body) items =
    Some (record { block = header.block; ancestors = map version_of_item (reverse items) })

-- What a proof whose start is accepted shows, or the first check of its start's dependencies and of
-- its items that fails.
abbrev pub items_verdict : TraceProof → Result (Option Trace) TraceReject
items_verdict trace =
    and_then (wanted_by_start (last_of trace.start.headers) trace.start.body) (λ wanted.
    and_then (after_items 1 trace.items wanted) (λ none.
    Ok (trace_shown (last_of trace.start.headers) trace.start.body trace.items)))

-- What a proof shows of the last version of a key up to a block, or the first check that fails.
unfoldable pub trace_verdict : List ℕ → List ℕ → ℕ → TraceProof → Result (Option Trace) TraceReject
trace_verdict root key at trace =
    after_start (verdict root (start_query key at) trace.start) (items_verdict trace)
