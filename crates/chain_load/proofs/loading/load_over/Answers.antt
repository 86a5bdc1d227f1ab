use Rattle.std.proofs.Common.{◌≤◌, ◌+◌, ◌-◌, ◌*◌, ◌∙◌, ℕ, length, ap, subst}
use Rattle.skip_links.specs.Paths.{binary_digits}
use Rattle.rooted_chain.specs.merkle_dag.Lineage.{LineageState}
use Rattle.rooted_chain.specs.Roots.{kept_in}
use Rattle.chain_load.proofs.Told.{load_is}
use Rattle.chain_load.proofs.loading.load_over.Goals as goal

pub returns-in-Ok-clause-load : goal.returns-in-Ok-clause-load
returns-in-Ok-clause-load g c told seed stands is =
    load_is (kept_in c.args.chain) c.args.generator c.args.blocks seed c.row_count-rows.result
    c.into_lineage-lineage.result.rows c.last_root-root.result c.in-Ok.looked stands is
    (ap (λ (lineage : LineageState). lineage.rows) c.into_lineage-lineage.ensures)
    c.row_count-rows.ensures.count (c.last_root-root.ensures seed stands) c.in-Ok.ensures.looked
    (c.in-Ok.ensures.bytes told)

pub returns-in-Ok-clause-most : goal.returns-in-Ok-clause-most
returns-in-Ok-clause-most g c =
    subst (λ (count : ℕ). c.in-Ok.looked.most ≤ 2 * binary_digits (count - 1) + 2)
    (ap (λ (lineage : LineageState). length lineage.digests) c.into_lineage-lineage.ensures
    ∙ c.requires.blocks)
    c.in-Ok.ensures.few
