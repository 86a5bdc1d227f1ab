use Rattle.std.proofs.Common.{ℕ, List, [], ◌∷◌, ◌++◌, refl, ap, subst, ◌∙◌}
use Rattle.std.specs.Prelude.{◌==◌}
use Rattle.std.specs.Map.{lookup}
use Rattle.std.specs.Cmp.Lexicographic.{pointwise}
use Rattle.lc_base.specs.History.{IsLawful}
use Rattle.world_state.specs.declared.held.Held.{Held}
use Rattle.chain_replay.specs.Chain.{IsAfter, IsKeptChain}
use Rattle.chain_replay.proofs.Chains.{is_after}
use Rattle.prov_query.proofs.merkle_dag.Causes.{unblamed, blameless}
use Rattle.rooted_chain.specs.Roots.{RootedState, kept_in}
use Rattle.rooted_chain.proofs.HasRun.{run_lawful, run_kept}
use Rattle.rooted_chain.proofs.chain.LineageChain.run_and_commit.Goals as goal

pub returns-in-Ok-commit-clause-after : goal.returns-in-Ok-commit-clause-after
returns-in-Ok-commit-clause-after g c told digest =
    subst (λ (r : RootedState). IsAfter (kept_in r) c.args.block.now digest (record { digests = r.digests ++ digest ∷ []; rows = r.rows ++ c.in-Ok.run'.rows; codes = c.in-Ok-commit.world.codes }) c.in-Ok.run') c.self.view_is
    (is_after c.self.inside.lineage.digests _ c.self.inside.lineage.rows _ c.self.inside.world c.run_next.new.world c.in-Ok-commit.world c.args.block.now digest c.in-Ok.run'
    (c.in-Ok.ensures.effects told) c.in-Ok.ensures.codes c.in-Ok-commit.ensures.codes refl refl)

pub returns-in-Ok-commit-clause-digests : goal.returns-in-Ok-commit-clause-digests
returns-in-Ok-commit-clause-digests g c = c.in-Ok.ensures.leaves.same.digests ∙ ap (λ (r : RootedState). r.digests) c.self.view_is

pub returns-in-Ok-commit-clause-rows : goal.returns-in-Ok-commit-clause-rows
returns-in-Ok-commit-clause-rows g c = c.in-Ok.ensures.leaves.same.rows ∙ ap (λ (r : RootedState). r.rows) c.self.view_is

pub returns-in-Ok-commit-clause-lawful : goal.returns-in-Ok-commit-clause-lawful
returns-in-Ok-commit-clause-lawful g c =
    subst (λ (r : RootedState). IsLawful (r.rows ++ c.in-Ok.run'.rows)) c.self.view_is
    (run_lawful c.self.inside.lineage c.self.inside.world c.args.self c.self.view_is c.self.invariant c.args.block.now c.requires.room c.requires.is_block.few_txs c.in-Ok.run'.rows c.in-Ok.ensures.lawful)

pub returns-in-Ok-commit-clause-kept : goal.returns-in-Ok-commit-clause-kept
returns-in-Ok-commit-clause-kept g c digest =
    let before = λ (key : List ℕ). ap (λ (newest : List (List ℕ × Held)). lookup (pointwise ◌==◌ key) newest) c.in-Ok.ensures.newest ∙ c.self.invariant.stands key in
    let stands = c.in-Ok-commit.ensures.rows c.self.inside.lineage.rows c.in-Ok.run'.rows before c.in-Ok.ensures.staged in
    subst (λ (r : RootedState). IsKeptChain (r.digests ++ digest ∷ []) (r.rows ++ c.in-Ok.run'.rows) c.in-Ok-commit.world) c.self.view_is
    (run_kept c.self.inside.lineage c.self.inside.world c.args.self c.self.view_is c.self.invariant c.args.block.now c.requires.room c.requires.is_block.few_txs c.in-Ok.run'.rows c.in-Ok.ensures.lawful
    c.in-Ok-commit.world digest _ _ stands c.in-Ok-commit.ensures.no_rows c.in-Ok-commit.ensures.no_codes refl refl)

pub returns-in-Ok-commit-clause-cause : goal.returns-in-Ok-commit-clause-cause
returns-in-Ok-commit-clause-cause g c = blameless _ _ (unblamed _ _ c.in-Ok.ensures.leaves.cause)
