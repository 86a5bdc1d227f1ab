-- The verdict on a proof of ancestors, check by check: of its start, of what the start wants, and
-- of the items.
use Rattle.std.proofs.Common.{◌≡◌, ◌∙◌, ℕ, List, map, Option, Some, None, Result, Ok, Err}
use Rattle.std.proofs.Common.{refl, sym, ap, subst}
use Rattle.std.specs.Prelude.{IsOk, IfErr}
use Rattle.lc_base.specs.Answers.{Answers}
use Rattle.lc_base.specs.declared.row.Dep.{Dep}
use Rattle.lc_base.specs.declared.answer.Answer.{Answer}
use Rattle.prov_entry.specs.declared.entry.BodyDep.{BodyDep}
use Rattle.prov_entry.specs.declared.entry.Header.{Header}
use Rattle.prov_entry.specs.declared.entry.Body.{Body}
use Rattle.proof_codec.specs.declared.proof.Proof.{Proof}
use Rattle.proof_codec.specs.Spelling.{last_of}
use Rattle.proof_verifier.specs.proof_checks.declared.reject.Reject.{Reject}
use Rattle.proof_verifier.specs.proof_checks.Checks.{verdict}
use Rattle.root_laws.proofs.Lists.{map_reverse}
use Rattle.root_laws.specs.declared.trace.Trace.{Trace}
use Rattle.proof_verifier.specs.proof_checks.declared.trace_proof.TraceItem.{TraceItem}
use Rattle.proof_verifier.specs.proof_checks.declared.trace_proof.TraceProof.{TraceProof}
use Rattle.proof_verifier.specs.proof_checks.declared.trace_reject.TraceReject.{TraceReject}
use Rattle.proof_verifier.specs.proof_checks.declared.trace_reject.TraceReject.TheVariants.{Start}
use Rattle.proof_verifier.specs.proof_checks.TraceChecks.{and_then, after_items, wanted_by_start}
use Rattle.proof_verifier.specs.proof_checks.TraceChecks.{start_query}
use Rattle.proof_verifier.specs.proof_checks.TraceChecks.{after_start, version_of_item, trace_shown}
use Rattle.proof_verifier.specs.proof_checks.TraceChecks.{items_verdict}
use Rattle.proof_verifier.specs.proof_checks.TraceChecks.{trace_verdict}
use Rattle.trace_verifier.specs.declared.error.TraceError.{TraceError}
use Rattle.trace_verifier.specs.Errors.{fault_told}
use Rattle.trace_verifier.specs.Starting.{block_of_answer, block_if}
use Rattle.trace_verifier.specs.Items.{items_passed, shown_in, shown_after}
use Rattle.trace_verifier.specs.Wanting.{AnyWants, Wants, MayRunOut}
use Rattle.trace_verifier.proofs.Starts.{block_shown, block_is, same_wanted}
use Rattle.trace_verifier.proofs.Wanting.{may_by_header}

-- ---- the start

record IsAccepted (r : Result Answer Reject) (block : Option ℕ) : Type 0 where
  pub answer : Answer
  pub accepted : r ≡ Ok answer
  pub block_is : block ≡ block_of_answer answer

is_accepted : (r : Result Answer Reject) (block : Option ℕ) → Ok block ≡ block_if r
    → IsAccepted r block
is_accepted (Ok own) block e =
    let same : block ≡ block_of_answer own = cc in
    record { answer = own; accepted = refl; block_is = same }
is_accepted (Err fault) block e = absurd cc

-- ---- what is shown

abbrev traced : ℕ → List Dep → Option Trace
traced block ancestors = Some (record { block = block; ancestors = ancestors })

same_shown : (last : Option Header) (body : Option Body) (items : List TraceItem)
    → trace_shown last body items ≡ shown_in (block_shown last body) (map version_of_item items)
same_shown None body items = refl
same_shown (Some header) None items = refl
same_shown (Some header) (Some body) items =
    ap (traced header.block) (sym (map_reverse version_of_item items))

-- What is shown once it is known what the start wants.
abbrev shown_from : Option ℕ → List TraceItem → List BodyDep → Result (Option Trace) TraceReject
shown_from block items wanted =
    and_then (items_passed items wanted) (λ versions. Ok (shown_in block versions))

module _ (trace : TraceProof) where
  abbrev last : Option Header
  last = last_of trace.start.headers

  abbrev block : Option ℕ
  block = block_shown last trace.start.body

  shown : (passed : Result (Unit {0}) TraceReject)
      → and_then passed (λ none. Ok (trace_shown last trace.start.body trace.items))
      ≡ and_then (and_then passed (λ none. Ok (map version_of_item trace.items)))
      (λ versions. Ok (shown_in block versions))
  shown (Ok none) =
      ap (λ (found : Option Trace). Ok found) (same_shown last trace.start.body trace.items)
  shown (Err fault) = refl

  items_judged : (wanted : Result (List BodyDep) TraceReject)
      → and_then wanted (λ wanted.
      and_then (after_items 1 trace.items wanted) (λ none.
      Ok (trace_shown last trace.start.body trace.items)))
      ≡ and_then wanted (shown_from block trace.items)
  items_judged (Ok wanted) = shown (after_items 1 trace.items wanted)
  items_judged (Err fault) = refl

  verdict_is : items_verdict trace ≡ shown_after block trace.start.body trace.items
  verdict_is =
      items_judged (wanted_by_start last trace.start.body)
      ∙ ap (λ (r : Result (List BodyDep) TraceReject). and_then r (shown_from block trace.items))
      (same_wanted last trace.start.body)

-- The block that an accepted start shows is that of its last header.
shown_block : (root key : List ℕ) (at : ℕ) (trace : TraceProof) (shown : Option ℕ)
    → Ok shown ≡ block_if (verdict root (start_query key at) trace.start)
    → shown ≡ block trace
shown_block root key at trace shown e =
    let start = verdict root (start_query key at) trace.start in
    let is = is_accepted start shown e in
    is.block_is ∙ block_is root key at trace.start is.answer is.accepted

-- The verdict on a proof whose start is accepted, by the block that the start shows.
judged : (root key : List ℕ) (at : ℕ) (trace : TraceProof) (shown : Option ℕ)
    → Ok shown ≡ block_if (verdict root (start_query key at) trace.start)
    → trace_verdict root key at trace ≡ shown_after shown trace.start.body trace.items
unfolding trace_verdict
judged root key at trace shown e =
    let start = verdict root (start_query key at) trace.start in
    let is = is_accepted start shown e in
    let own = shown_block root key at trace shown e in
    ap (λ (r : Result Answer Reject). after_start r (items_verdict trace)) is.accepted
    ∙ verdict_is trace
    ∙ ap (λ (block : Option ℕ). shown_after block trace.start.body trace.items) (sym own)

-- ---- the ways out

refused_is : (r : Result Answer Reject) (fault : Reject) → Err fault ≡ block_if r → r ≡ Err fault
refused_is (Ok answer) fault e = absurd cc
refused_is (Err own) fault e = cc

module _ (root key : List ℕ) (at : ℕ) (trace : TraceProof) (start : Proof)
    (same : start ≡ trace.start) where
  own_start : block_if (verdict root (start_query key at) start)
      ≡ block_if (verdict root (start_query key at) trace.start)
  own_start = ap (λ (proof : Proof). block_if (verdict root (start_query key at) proof)) same

  pub start_fails : (fault : Reject)
      → Err fault ≡ block_if (verdict root (start_query key at) start)
      → trace_verdict root key at trace ≡ Err (Start fault)
  unfolding trace_verdict
  start_fails fault e =
      let own = verdict root (start_query key at) trace.start in
      ap (λ (r : Result Answer Reject). after_start r (items_verdict trace))
      (refused_is own fault (e ∙ own_start))

  pub start_passes : (block : Option ℕ) (result : Result (Option Trace) TraceError)
      → Ok block ≡ block_if (verdict root (start_query key at) start)
      → Answers (λ shown. shown) fault_told result
      (shown_after block trace.start.body trace.items)
      → Answers (λ shown. shown) fault_told result (trace_verdict root key at trace)
  start_passes block result e told =
      let shows = λ (r : Result (Option Trace) TraceReject).
      Answers (λ shown. shown) fault_told result r in
      subst shows (sym (judged root key at trace block (e ∙ own_start))) told

  pub start_refuses : (block : Option ℕ) (result : Result (Option Trace) TraceError)
      → Ok block ≡ block_if (verdict root (start_query key at) start)
      → IfErr result (MayRunOut (AnyWants block trace.start.body trace.items)
      (IsOk (shown_after block trace.start.body trace.items)))
      → IfErr result (MayRunOut (Wants trace) (IsOk (trace_verdict root key at trace)))
  start_refuses _ (Ok found) e may = tt
  start_refuses shown (Err error) e may =
      let own = shown_block root key at trace shown (e ∙ own_start) in
      let shows = λ (ok : IsOk (shown_after shown trace.start.body trace.items)).
      subst (λ (r : Result (Option Trace) TraceReject). IsOk r)
      (sym (judged root key at trace shown (e ∙ own_start))) ok in
      may_by_header (last_of trace.start.headers) trace.start.body trace.items shown
      (IsOk (shown_after shown trace.start.body trace.items))
      (IsOk (trace_verdict root key at trace)) error own shows may
