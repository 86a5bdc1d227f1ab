-- What checking an item, or all items, returns.
use Rattle.std.specs.Prelude.{ℕ, Bool, true, false, ◌==◌, List, map, reverse, Option, Some, None}
use Rattle.std.specs.Prelude.{Result, Ok}
use Rattle.std.specs.Cmp.Lexicographic.{pointwise}
use Rattle.sha2.specs.Sha256.{sha256}
use Rattle.lc_base.specs.declared.row.Dep.{Dep}
use Rattle.merkle_tree.specs.Levels.{digest_of}
use Rattle.prov_entry.specs.declared.entry.BodyDep.{BodyDep}
use Rattle.prov_entry.specs.declared.entry.Body.{Body}
use Rattle.prov_entry.specs.Spelling.{header_text, body_text}
use Rattle.root_laws.specs.Naming.{is_named}
use Rattle.root_laws.specs.declared.trace.Trace.{Trace}
use Rattle.proof_verifier.specs.proof_checks.declared.trace_proof.TraceItem.{TraceItem}
use Rattle.proof_verifier.specs.proof_checks.declared.trace_reject.TraceReject.{TraceReject}
use Rattle.proof_verifier.specs.proof_checks.declared.trace_reject.TraceReject.TheVariants as rejects
use Rattle.proof_verifier.specs.proof_checks.TraceChecks.{and_then, after_items, version_of_item}
use Rattle.trace_verifier.specs.Starting.{wanted_in}

-- The later fault if the test passes, else this one.
abbrev pub fault_unless : Bool → TraceReject → Option TraceReject → Option TraceReject
fault_unless true fault later = later
fault_unless false fault later = Some fault

-- What is wrong with an item where this is the last version that is wanted.
abbrev pub item_fault : ℕ → TraceItem → BodyDep → Option TraceReject
item_fault number item last =
    fault_unless (is_named item.header.key item.header.block last) (rejects.Order number)
    (fault_unless (pointwise ◌==◌ (sha256 (header_text item.header)) last.digest.0)
    (rejects.Header number (digest_of (header_text item.header)))
    (fault_unless (pointwise ◌==◌ (sha256 (body_text item.body)) item.header.body.0)
    (rejects.Body number (digest_of (body_text item.body))) None))

-- The versions of the items if all checks of them pass, given what is wanted before the first one;
-- else the first check that fails.
abbrev pub items_passed : List TraceItem → List BodyDep → Result (List Dep) TraceReject
items_passed items wanted =
    and_then (after_items 1 items wanted) (λ none. Ok (map version_of_item items))

-- What is shown of a version in this block, given the versions of its items in their order; `None`
-- if there is no version.
abbrev pub shown_in : Option ℕ → List Dep → Option Trace
shown_in None versions = None
shown_in (Some block) versions = Some (record { block = block; ancestors = reverse versions })

-- What is shown, or the first check that fails, given the block of the start's version, its body,
-- and the items.
abbrev pub shown_after : Option ℕ → Option Body → List TraceItem
    → Result (Option Trace) TraceReject
shown_after block body items =
    and_then (wanted_in block body) (λ wanted.
    and_then (items_passed items wanted) (λ versions.
    Ok (shown_in block versions)))
