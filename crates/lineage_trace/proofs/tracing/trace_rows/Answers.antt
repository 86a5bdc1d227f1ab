use Rattle.std.proofs.Common.{◌≡◌, ◌≤◌, ◌+◌, ◌*◌, ◌∙◌, ℕ, List, Option, length, ap}
use Rattle.std.proofs.Common.{sym, subst, arith}
use Rattle.std.specs.List.{Contains}
use Rattle.std.specs.Option.{option_map}
use Rattle.std.proofs.lemmas.List.{length-reverse}
use Rattle.lc_base.specs.declared.digest.Digest.{Digest}
use Rattle.lc_base.specs.declared.row.Row.{Row}
use Rattle.lc_base.specs.History.{latest}
use Rattle.skip_links.specs.Paths.{path}
use Rattle.entry_store.specs.Steps.{raised_count}
use Rattle.prov_query.specs.merkle_dag.Ledger.{most_looked_at}
use Rattle.root_laws.specs.AncestorSteps.{steps_of, trace_steps}
use Rattle.row_walks.specs.declared.finding.Derived.{Derived}
use Rattle.lineage_trace.specs.Counting.{RisesUpTo}
use Rattle.row_walks.specs.Finding.{derived_of}
use Rattle.lineage_trace.specs.Finding.{IsButForDeps}
use Rattle.lineage_trace.proofs.Counts.{then_counted, then_rises, first_rises, all_rises, few_first}
use Rattle.lineage_trace.proofs.Counts.{steps_reverse}
use Rattle.row_walks.proofs.OneMore.{all_reached}
use Rattle.row_walks.proofs.Whole.{row_of_found, none_traced, traced}
use Rattle.lineage_trace.proofs.Whole.{all_steps, no_more_steps, none_but, some_but}
use Rattle.lineage_trace.proofs.tracing.trace_rows.Goals as goal

-- ---- no version

pub returns-in-None-clause-traced : goal.returns-in-None-clause-traced
returns-in-None-clause-traced g c known =
    let rows = c.args.lineage.now.rows in
    let version = latest rows c.args.key.now c.args.at in
    none_traced rows version (subst (λ (found : Option Derived). found ≡ option_map derived_of
    version) c.in-None.is (c.in_ok-found.ensures.derived known))

pub returns-in-None-clause-counted : goal.returns-in-None-clause-counted
returns-in-None-clause-counted g c known =
    let rows = c.args.lineage.now.rows in
    let version = latest rows c.args.key.now c.args.at in
    c.look_up.ensures.count
    ∙ ap (raised_count c.args.steps.now) (no_more_steps rows c.args.key.now c.args.at
    (subst (λ (found : Option Derived). found ≡ option_map derived_of version) c.in-None.is
    (c.in_ok-found.ensures.derived known)))

pub returns-in-None-clause-always : goal.returns-in-None-clause-always
returns-in-None-clause-always g c =
    let rows = c.args.lineage.now.rows in
    let version = latest rows c.args.key.now c.args.at in
    none_but version rows (subst (IsButForDeps version) c.in-None.is
    c.in_ok-found.ensures.always)

pub returns-in-None-clause-told : goal.returns-in-None-clause-told
returns-in-None-clause-told g c = omega (arith, c.look_up.ensures.few)

-- ---- a version

pub returns-in_ok-ancestors-in-Some-clause-traced :
    goal.returns-in_ok-ancestors-in-Some-clause-traced
returns-in_ok-ancestors-in-Some-clause-traced g c known =
    let rows = c.args.lineage.now.rows in
    let key = c.args.key.now in
    let found = row_of_found rows key c.args.at c.in-Some.derived
    (subst (λ (o : Option Derived). o ≡ option_map derived_of (latest rows key c.args.at))
    c.in-Some.is (c.in_ok-found.ensures.derived known)) in
    let same = c.look_up.ensures.leaves.same in
    let told = c.in_ok-ancestors-in-Some.ancestors in
    traced rows key c.args.at c.in-Some.derived found.0 found.2 found.3 told c.reversed.result
    (subst (λ (rs : List Row). told ≡ all_reached rs found.0.deps) same.rows
    (c.in_ok-ancestors-in-Some.ensures.reached (same.retains.known ∙ known) found.0
    (subst (λ (rs : List Row). Contains rs found.0) (sym same.rows) found.1)
    (c.as_slice.ensures ∙ ap (λ (d : Derived). d.deps) found.3))) c.reversed.ensures

pub returns-in_ok-ancestors-in-Some-clause-counted :
    goal.returns-in_ok-ancestors-in-Some-clause-counted
returns-in_ok-ancestors-in-Some-clause-counted g c known =
    let rows = c.args.lineage.now.rows in
    let key = c.args.key.now in
    let found = row_of_found rows key c.args.at c.in-Some.derived
    (subst (λ (o : Option Derived). o ≡ option_map derived_of (latest rows key c.args.at))
    c.in-Some.is (c.in_ok-found.ensures.derived known)) in
    let same = c.look_up.ensures.leaves.same in
    then_counted c.args.steps.now (length (path rows key c.args.at)) c.look_up.new.steps
    (steps_of rows (all_reached rows found.0.deps)) c.reached.new.steps
    c.look_up.ensures.count
    (subst (λ (rs : List Row). c.reached.new.steps ≡ raised_count
    c.look_up.new.steps (steps_of rs (all_reached rs found.0.deps))) same.rows
    (c.in_ok-ancestors-in-Some.ensures.counted (same.retains.known ∙ known) found.0
    (subst (λ (rs : List Row). Contains rs found.0) (sym same.rows) found.1)
    (c.as_slice.ensures ∙ ap (λ (d : Derived). d.deps) found.3)))
    ∙ ap (raised_count c.args.steps.now)
    (all_steps rows key c.args.at c.in-Some.derived found.0 found.2 found.3)

pub returns-in_ok-ancestors-in-Some-clause-always :
    goal.returns-in_ok-ancestors-in-Some-clause-always
returns-in_ok-ancestors-in-Some-clause-always g c =
    let rows = c.args.lineage.now.rows in
    let version = latest rows c.args.key.now c.args.at in
    some_but version rows c.in-Some.derived c.reversed.result
    (subst (IsButForDeps version) c.in-Some.is c.in_ok-found.ensures.always)

pub returns-in_ok-ancestors-in-Some-clause-short : goal.returns-in_ok-ancestors-in-Some-clause-short
returns-in_ok-ancestors-in-Some-clause-short g c =
    let same = c.look_up.ensures.leaves.same in
    let long : length c.reversed.result ≡ length c.in_ok-ancestors-in-Some.ancestors =
    ap length c.reversed.ensures ∙ length-reverse c.in_ok-ancestors-in-Some.ancestors in
    omega (arith, long, c.in_ok-ancestors-in-Some.ensures.short, ap length same.rows)

pub returns-in_ok-ancestors-in-Some-clause-told : goal.returns-in_ok-ancestors-in-Some-clause-told
returns-in_ok-ancestors-in-Some-clause-told g c =
    let same = c.look_up.ensures.leaves.same in
    let most = most_looked_at c.args.lineage.now.digests in
    let long : length c.reversed.result ≡ length c.in_ok-ancestors-in-Some.ancestors =
    ap length c.reversed.ensures ∙ length-reverse c.in_ok-ancestors-in-Some.ancestors in
    subst (λ (n : ℕ). c.reached.new.steps ≤ c.args.steps.now + (n + 1) * most) (sym long)
    (few_first (length c.in_ok-ancestors-in-Some.ancestors) most c.args.steps.now
    c.look_up.new.steps c.reached.new.steps c.look_up.ensures.few
    (subst (λ (digests : List Digest). c.reached.new.steps ≤ c.look_up.new.steps
    + length c.in_ok-ancestors-in-Some.ancestors * most_looked_at digests) same.digests
    c.in_ok-ancestors-in-Some.ensures.few))

-- ---- in any case

pub returns-in-None-clause-looked_up : goal.returns-in-None-clause-looked_up
returns-in-None-clause-looked_up g c =
    let steps = length (path c.args.lineage.now.rows c.args.key.now c.args.at) in
    let alone : steps ≡ steps + 0 = omega arith in
    c.look_up.ensures.count ∙ ap (raised_count c.args.steps.now) alone

pub returns-in_ok-ancestors-in-Some-clause-looked_up :
    goal.returns-in_ok-ancestors-in-Some-clause-looked_up
returns-in_ok-ancestors-in-Some-clause-looked_up g c =
    let rows = c.args.lineage.now.rows in
    let first = length (path rows c.args.key.now c.args.at) in
    let found = c.in_ok-ancestors-in-Some.ancestors in
    let turned : steps_of rows c.reversed.result ≡ steps_of rows found =
    ap (steps_of rows) c.reversed.ensures ∙ steps_reverse rows found in
    then_counted c.args.steps.now first c.look_up.new.steps (steps_of rows found)
    c.reached.new.steps c.look_up.ensures.count
    (subst (λ (rs : List Row). c.reached.new.steps ≡ raised_count c.look_up.new.steps
    (steps_of rs found)) c.look_up.ensures.leaves.same.rows
    c.in_ok-ancestors-in-Some.ensures.looked_up)
    ∙ ap (λ (n : ℕ). raised_count c.args.steps.now (first + n)) (sym turned)

pub returns-in-None-clause-rises : goal.returns-in-None-clause-rises
returns-in-None-clause-rises g c known =
    let rows = c.args.lineage.now.rows in
    let version = latest rows c.args.key.now c.args.at in
    all_rises c.args.steps.now (trace_steps rows c.args.key.now c.args.at) c.look_up.new.steps
    (omega (arith, c.count-count.type_inv, c.count-count.ensures))
    (c.look_up.ensures.count
    ∙ ap (raised_count c.args.steps.now) (no_more_steps rows c.args.key.now c.args.at
    (subst (λ (found : Option Derived). found ≡ option_map derived_of version) c.in-None.is
    (c.in_ok-found.ensures.derived known))))

pub returns-in-None-clause-bounded : goal.returns-in-None-clause-bounded
returns-in-None-clause-bounded g c =
    few_first (length c.args.lineage.now.rows) (most_looked_at c.args.lineage.now.digests)
    c.args.steps.now c.look_up.new.steps c.look_up.new.steps c.look_up.ensures.few (omega arith)

pub returns-in_err-found-clause-rises : goal.returns-in_err-found-clause-rises
returns-in_err-found-clause-rises g c known =
    first_rises c.args.steps.now
    (length (path c.args.lineage.now.rows c.args.key.now c.args.at)) c.look_up.new.steps _
    (omega (arith, c.count-count.type_inv, c.count-count.ensures)) c.look_up.ensures.count

pub returns-in_err-found-clause-bounded : goal.returns-in_err-found-clause-bounded
returns-in_err-found-clause-bounded g c =
    few_first (length c.args.lineage.now.rows) (most_looked_at c.args.lineage.now.digests)
    c.args.steps.now c.look_up.new.steps c.look_up.new.steps c.look_up.ensures.few (omega arith)

pub returns-in_ok-ancestors-in-Some-clause-rises : goal.returns-in_ok-ancestors-in-Some-clause-rises
returns-in_ok-ancestors-in-Some-clause-rises g c known =
    let rows = c.args.lineage.now.rows in
    let key = c.args.key.now in
    let found = row_of_found rows key c.args.at c.in-Some.derived
    (subst (λ (o : Option Derived). o ≡ option_map derived_of (latest rows key c.args.at))
    c.in-Some.is (c.in_ok-found.ensures.derived known)) in
    let same = c.look_up.ensures.leaves.same in
    subst (λ (n : ℕ). RisesUpTo n c.args.steps.now c.reached.new.steps)
    (all_steps rows key c.args.at c.in-Some.derived found.0 found.2 found.3)
    (then_rises c.args.steps.now (length (path rows key c.args.at)) c.look_up.new.steps
    (steps_of rows (all_reached rows found.0.deps)) c.reached.new.steps
    (omega (arith, c.count-count.type_inv, c.count-count.ensures)) c.look_up.ensures.count
    (subst (λ (rs : List Row). RisesUpTo (steps_of rs (all_reached rs found.0.deps))
    c.look_up.new.steps c.reached.new.steps) same.rows
    (c.reached.ensures.rises (same.retains.known ∙ known) found.0
    (subst (λ (rs : List Row). Contains rs found.0) (sym same.rows) found.1)
    (c.as_slice.ensures ∙ ap (λ (d : Derived). d.deps) found.3))))

pub returns-in_ok-ancestors-in-Some-clause-bounded :
    goal.returns-in_ok-ancestors-in-Some-clause-bounded
returns-in_ok-ancestors-in-Some-clause-bounded g c =
    let same = c.look_up.ensures.leaves.same in
    few_first (length c.args.lineage.now.rows) (most_looked_at c.args.lineage.now.digests)
    c.args.steps.now c.look_up.new.steps c.reached.new.steps c.look_up.ensures.few
    (subst (λ (digests : List Digest). c.reached.new.steps ≤ c.look_up.new.steps
    + length c.args.lineage.now.rows * most_looked_at digests) same.digests
    (subst (λ (rs : List Row). c.reached.new.steps ≤ c.look_up.new.steps
    + length rs * most_looked_at c.look_up.new.lineage.digests) same.rows
    c.reached.ensures.bounded))

pub returns-in_err-ancestors-in-Some-clause-rises :
    goal.returns-in_err-ancestors-in-Some-clause-rises
returns-in_err-ancestors-in-Some-clause-rises g c known =
    let rows = c.args.lineage.now.rows in
    let key = c.args.key.now in
    let found = row_of_found rows key c.args.at c.in-Some.derived
    (subst (λ (o : Option Derived). o ≡ option_map derived_of (latest rows key c.args.at))
    c.in-Some.is (c.in_ok-found.ensures.derived known)) in
    let same = c.look_up.ensures.leaves.same in
    subst (λ (n : ℕ). RisesUpTo n c.args.steps.now c.reached.new.steps)
    (all_steps rows key c.args.at c.in-Some.derived found.0 found.2 found.3)
    (then_rises c.args.steps.now (length (path rows key c.args.at)) c.look_up.new.steps
    (steps_of rows (all_reached rows found.0.deps)) c.reached.new.steps
    (omega (arith, c.count-count.type_inv, c.count-count.ensures)) c.look_up.ensures.count
    (subst (λ (rs : List Row). RisesUpTo (steps_of rs (all_reached rs found.0.deps))
    c.look_up.new.steps c.reached.new.steps) same.rows
    (c.reached.ensures.rises (same.retains.known ∙ known) found.0
    (subst (λ (rs : List Row). Contains rs found.0) (sym same.rows) found.1)
    (c.as_slice.ensures ∙ ap (λ (d : Derived). d.deps) found.3))))

pub returns-in_err-ancestors-in-Some-clause-bounded :
    goal.returns-in_err-ancestors-in-Some-clause-bounded
returns-in_err-ancestors-in-Some-clause-bounded g c =
    let same = c.look_up.ensures.leaves.same in
    few_first (length c.args.lineage.now.rows) (most_looked_at c.args.lineage.now.digests)
    c.args.steps.now c.look_up.new.steps c.reached.new.steps c.look_up.ensures.few
    (subst (λ (digests : List Digest). c.reached.new.steps ≤ c.look_up.new.steps
    + length c.args.lineage.now.rows * most_looked_at digests) same.digests
    (subst (λ (rs : List Row). c.reached.new.steps ≤ c.look_up.new.steps
    + length rs * most_looked_at c.look_up.new.lineage.digests) same.rows
    c.reached.ensures.bounded))
