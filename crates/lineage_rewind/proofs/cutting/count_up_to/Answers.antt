use Rattle.std.proofs.Common.{◌≡◌, ◌<◌, ◌≤◌, length, take, ap, subst, sym, arith}
use Rattle.std.specs.List.{All}
use Rattle.std.proofs.lemmas.List.{length-drop}
use Rattle.std.proofs.lemmas.List.Elements.{All-more}
use Rattle.std.proofs.lemmas.Option.{get_or_from_slice_get}
use Rattle.lc_base.specs.declared.row.Row.{Row}
use Rattle.lineage_index.specs.entry_store.declared.entry.Facts.{Facts}
use Rattle.lineage_index.proofs.BlockSteps.{as_many_entries}
use Rattle.lineage_index.proofs.NewestRows.{row_at}
use Rattle.lineage_rewind.proofs.Reading.{facts_read}
use Rattle.lineage_rewind.proofs.Cut.{later_from}
use Rattle.lineage_rewind.proofs.cutting.count_up_to.Goals as goal

pub returns-then-facts-at : goal.returns-then-facts-at
returns-then-facts-at c rows store =
    let i = c.loop-index.index in
    let many = as_many_entries rows c.args.store.now store.entries_are in
    let row = row_at rows i (omega
    (arith, many, c.count-index-end.ensures.count, c.loop-index-test.true)) in
    let block : c.facts.result.block ≡ row.0.block = ap (λ (f : Facts). f.block)
    (facts_read rows c.args.store.now i row.0 c.facts.result store row.1 c.facts.ensures) in
    record {
      within = omega (arith, many, c.count-index-end.ensures.count, c.loop-index-test.true);
      first = c.loop-index.invariant rows store;
      later = later_from rows c.args.at i row.0 store.lawful row.1
          (omega (arith, block, c.if-facts-at.true));
    }

pub loop-index-preserved : goal.loop-index-preserved
loop-index-preserved c rows store =
    let i = c.loop-index.index in
    let many = as_many_entries rows c.args.store.now store.entries_are in
    let within : i < length rows = omega
    (arith, many, c.count-index-end.ensures.count, c.loop-index-test.true) in
    let row = row_at rows i within in
    let block : c.facts.result.block ≡ row.0.block = ap (λ (f : Facts). f.block)
    (facts_read rows c.args.store.now i row.0 c.facts.result store row.1 c.facts.ensures) in
    All-more (λ (r : Row). r.block ≤ c.args.at) rows i row.0 within
    (c.loop-index.invariant rows store)
    (subst (λ (r : Row). r.block ≤ c.args.at) (sym (get_or_from_slice_get rows i row.0 row.0 row.1))
    (omega (arith, block, c.if-facts-at.false)))

pub returns : goal.returns
returns c rows store =
    let many = as_many_entries rows c.args.store.now store.entries_are in
    let all : c.count.result ≡ length rows = omega (arith, many, c.count.ensures.count) in
    let end : c.loop-index.index ≡ c.count.result = omega (
      arith,
      c.loop-index-test.false,
      c.loop-index.auto.index-end,
      c.count-index-end.ensures.count,
      c.count.ensures.count,
    ) in
    record {
      within = omega (arith, all);
      first = subst (λ n. All (λ (row : Row). row.block ≤ c.args.at) (take n rows)) end
          (c.loop-index.invariant rows store);
      later = λ k d l. absurd (omega (arith, l, length-drop c.count.result rows, all));
    }
