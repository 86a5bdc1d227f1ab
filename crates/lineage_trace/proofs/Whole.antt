-- All lookups of a trace, and what is known of it whatever the bodies say.
use Rattle.std.proofs.Common.{◌≡◌, ◌∙◌, ℕ, ◌+◌, ◌-◌, ◌*◌, ◌<◌, ◌≤◌, List, [], length, Option}
use Rattle.std.proofs.Common.{Some, None, refl, sym, ap, arith}
use Rattle.std.specs.Option.{option_map}
use Rattle.std.proofs.lemmas.List.Elements.{All-weaker}
use Rattle.std.proofs.lemmas.Option.{none-some, same_Some}
use Rattle.lc_base.specs.declared.digest.Digest.{Digest}
use Rattle.lc_base.specs.declared.row.Dep.{Dep}
use Rattle.lc_base.specs.declared.row.Row.{Row}
use Rattle.lc_base.specs.History.{latest}
use Rattle.skip_links.specs.Paths.{path}
use Rattle.entry_store.specs.Steps.{raised_count}
use Rattle.prov_query.specs.merkle_dag.Ledger.{IsLedger, most_looked_at}
use Rattle.root_laws.specs.Ancestors.{trace_of}
use Rattle.root_laws.specs.AncestorSteps.{steps_of, ancestors_if_any, trace_steps, TraceStepsAreFew}
use Rattle.row_walks.specs.declared.finding.Derived.{Derived}
use Rattle.row_walks.specs.Finding.{derived_of}
use Rattle.lineage_trace.specs.Finding.{IsButForDeps}
use Rattle.lineage_trace.specs.Tracing.{IsButForAncestors}
use Rattle.lineage_trace.proofs.Counts.{steps_reverse, few_risen}
use Rattle.row_walks.proofs.OneMore.{all_reached}

none_ancestors : (rows : List Row) (version : Option Row) → None ≡ option_map derived_of version
    → ancestors_if_any rows version ≡ []
none_ancestors rows None is = refl
none_ancestors rows (Some row) is = absurd (none-some (derived_of row) is)

module _ (rows : List Row) (key : List ℕ) (at : ℕ) (derived : Derived) (row : Row)
    (version : latest rows key at ≡ Some row) (own : derived ≡ derived_of row) where
  -- All lookups are counted.
  pub all_steps : length (path rows key at) + steps_of rows (all_reached rows row.deps)
      ≡ trace_steps rows key at
  all_steps =
      ap (λ (n : ℕ). length (path rows key at) + n)
      (sym (steps_reverse rows (all_reached rows row.deps))
      ∙ ap (λ (o : Option Row). steps_of rows (ancestors_if_any rows o)) (sym version))

pub no_more_steps : (rows : List Row) (key : List ℕ) (at : ℕ)
    → None ≡ option_map derived_of (latest rows key at)
    → length (path rows key at) ≡ trace_steps rows key at
no_more_steps rows key at is =
    let none : steps_of rows (ancestors_if_any rows (latest rows key at)) ≡ 0 =
    ap (steps_of rows) (none_ancestors rows (latest rows key at) is) in
    omega (arith, none)

-- ---- whatever the bodies say

pub none_but : (version : Option Row) (rows : List Row) → IsButForDeps version None
    → IsButForAncestors (trace_of rows version) None
none_but None rows is = refl
none_but (Some row) rows is =
    let derived : Derived = record { block = row.block; deps = is.0 } in
    absurd (none-some derived is.1)

pub some_but : (version : Option Row) (rows : List Row) (derived : Derived) (told : List Dep)
    → IsButForDeps version (Some derived) → IsButForAncestors (trace_of rows version)
    (Some (record { block = derived.block; ancestors = told }))
some_but None rows derived told is = absurd (none-some derived (sym is))
some_but (Some row) rows derived told is =
    let same : derived ≡ record { block = row.block; deps = is.0 } =
    same_Some derived (record { block = row.block; deps = is.0 }) is.1 in
    (told, ap (λ (d : Derived). Some (record { block = d.block; ancestors = told })) same)

-- ---- few steps

pub few_lookups : (rows : List Row) (digests : List Digest) (key : List ℕ) (at before after : ℕ)
    → TraceStepsAreFew → IsLedger rows digests
    → after ≤ raised_count before (trace_steps rows key at)
    → after ≤ before + (length (ancestors_if_any rows (latest rows key at)) + 1)
    * most_looked_at digests
few_lookups rows digests key at before after law ledger risen =
    few_risen (trace_steps rows key at)
    ((length (ancestors_if_any rows (latest rows key at)) + 1) * most_looked_at digests)
    before after low risen
  where
    low : trace_steps rows key at
        ≤ (length (ancestors_if_any rows (latest rows key at)) + 1) * most_looked_at digests
    low = law rows key at (length digests - 1) ledger.lawful
        (All-weaker (λ (row : Row). row.block < length digests)
        (λ (row : Row). row.block ≤ length digests - 1)
        (λ row below. omega (arith, below)) rows ledger.within)
        (omega (arith, ledger.few))
