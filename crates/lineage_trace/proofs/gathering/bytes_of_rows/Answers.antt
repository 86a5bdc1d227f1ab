use Rattle.std.proofs.Common.{◌∙◌, ◌≤◌, List, length, subst, sym}
use Rattle.lc_base.specs.declared.limits.TheConstants.{MAX_ROWS}
use Rattle.std.specs.List.{AllByRecursion}
use Rattle.proof_checks.specs.Making.{made_proof}
use Rattle.answer_proof.specs.Proving.{IsButForBody}
use Rattle.answer_proof.proofs.Gathered.{all_up_to_last}
use Rattle.proof_checks.specs.TraceChecks.{start_query}
use Rattle.proof_checks.specs.TraceTexts.{IsTraceItem}
use Rattle.proof_checks.specs.declared.trace_proof.TraceItem.{TraceItem}
use Rattle.lineage_trace.proofs.Made.{few_gathered, gathered, gathered_always, start_short}
use Rattle.lineage_trace.proofs.gathering.bytes_of_rows.Goals as goal

pub write_trace-requires-clause-start_fits : goal.write_trace-requires-clause-start_fits
write_trace-requires-clause-start_fits g c =
    let lineage = c.args.lineage.now in
    start_short lineage.rows lineage.digests c.args.root_at c.args.key.now c.args.at
    c.as_bytes.result.now (subst (IsButForBody (made_proof lineage.rows lineage.digests
    c.args.root_at (start_query c.args.key.now c.args.at))) (sym c.as_bytes.ensures)
    c.in_ok-start.ensures.always)

pub write_trace-requires-clause-few : goal.write_trace-requires-clause-few
write_trace-requires-clause-few g c =
    subst (λ (items : List TraceItem). length items ≤ MAX_ROWS) (sym c.as_slice-2.ensures)
    (few_gathered c.args.lineage.now.rows c.start_bytes.new.lineage.rows
    c.in_ok-trace.trace c.as_slice.result.now c.in_ok-items.items
    c.start_bytes.ensures.leaves.same.rows
    c.row_count-rows.ensures.ledger.lawful.few c.in_ok-trace.ensures.short
    (c.as_slice.ensures.value ∙ c.from_last-versions.ensures) c.in_ok-items.ensures.few)

pub write_trace-requires-clause-lawful : goal.write_trace-requires-clause-lawful
write_trace-requires-clause-lawful g c =
    subst (AllByRecursion IsTraceItem) (sym c.as_slice-2.ensures) c.in_ok-items.ensures.lawful

pub returns-clause-bytes : goal.returns-clause-bytes
returns-clause-bytes g c known =
    let lineage = c.args.lineage.now in
    let first = c.start_bytes.ensures.leaves.same in
    let second = c.trace_rows.ensures.leaves.same in
    gathered lineage.rows c.start_bytes.new.lineage.rows c.trace_rows.new.lineage.rows
    lineage.digests c.args.root_at c.args.key.now c.args.at c.in_ok-trace.trace
    c.as_slice.result.now c.as_slice-2.result.now c.as_bytes.result.now c.in_ok-bytes.bytes
    first.rows second.rows
    (all_up_to_last lineage.rows c.args.root_at (length lineage.digests) c.requires.last
    c.row_count-rows.ensures.ledger.within)
    c.row_count-rows.ensures.ledger.lawful
    (c.as_bytes.ensures ∙ c.in_ok-start.ensures.bytes known)
    (c.in_ok-trace.ensures.traced (first.retains.known ∙ known))
    (c.as_slice.ensures.value ∙ c.from_last-versions.ensures)
    (λ last. c.as_slice-2.ensures ∙ c.in_ok-items.ensures.items
    (second.retains.known ∙ first.retains.known ∙ known) last)
    c.in_ok-bytes.ensures

pub returns-clause-always : goal.returns-clause-always
returns-clause-always g c =
    let lineage = c.args.lineage.now in
    gathered_always lineage.rows lineage.digests c.args.root_at c.args.key.now c.args.at
    c.as_slice-2.result.now c.as_bytes.result.now c.in_ok-bytes.bytes
    (subst (IsButForBody (made_proof lineage.rows lineage.digests
    c.args.root_at (start_query c.args.key.now c.args.at))) (sym c.as_bytes.ensures)
    c.in_ok-start.ensures.always)
    (subst (λ (items : List TraceItem). length items ≤ MAX_ROWS) (sym c.as_slice-2.ensures)
    (few_gathered lineage.rows c.start_bytes.new.lineage.rows
    c.in_ok-trace.trace c.as_slice.result.now c.in_ok-items.items
    c.start_bytes.ensures.leaves.same.rows
    c.row_count-rows.ensures.ledger.lawful.few c.in_ok-trace.ensures.short
    (c.as_slice.ensures.value ∙ c.from_last-versions.ensures) c.in_ok-items.ensures.few))
    (subst (AllByRecursion IsTraceItem) (sym c.as_slice-2.ensures) c.in_ok-items.ensures.lawful)
    c.in_ok-bytes.ensures
