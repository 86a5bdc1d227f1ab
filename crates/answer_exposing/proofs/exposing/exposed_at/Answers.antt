use Rattle.std.proofs.Common.{◌∙◌, ℕ, List, sym, ap, subst}
use Rattle.std.specs.Prelude.{IfOk}
use Rattle.std.proofs.lemmas.Option.{slice_get_within}
use Rattle.merkle_dag.specs.Ledger.{Ledger}
use Rattle.merkle_dag.specs.Staying.{stays_beside}
use Rattle.proof_checks.specs.ProofTexts.{proof_texts}
use Rattle.answer_exposing.specs.Exposing.{IsFound}
use Rattle.answer_exposing.proofs.Exposed.{texts_of_part, all_up_to_head}
use Rattle.answer_exposing.proofs.exposing.exposed_at.Goals as goal

pub returns-then-eq-clause-found : goal.returns-then-eq-clause-found
returns-then-eq-clause-found g c told =
    subst (λ (texts : List (List ℕ)). IfOk c.exposed_by_rows.result
    (IsFound (proof_texts c.args.view.now) texts))
    (texts_of_part c.args.lineage.now.rows c.args.lineage.now.rows c.args.lineage.now.digests
    c.args.root_at c.args.block_digest.now
    (all_up_to_head c.args.lineage.now.rows c.args.lineage.now.digests c.head.result c.args.root_at
    (sym c.if-eq.true ∙ c.eq.ensures) c.head.ensures c.row_count-ledger.ensures.typed.within)
    c.requires.within)
    (c.exposed_by_rows.ensures.found told)

pub rewind-requires : goal.rewind-requires
rewind-requires g c = slice_get_within c.args.lineage.now.digests c.args.root_at
    c.args.block_digest.now c.requires.within

pub exposed_by_rows-found-requires-clause-agrees : goal.exposed_by_rows-found-requires-clause-agrees
exposed_by_rows-found-requires-clause-agrees g c = c.in-Ok.ensures.agrees
    (g.S.Scratch.state c.args.scratch.now) c.requires.agrees

pub returns-in-Ok-clause-found : goal.returns-in-Ok-clause-found
returns-in-Ok-clause-found g c told =
    subst (λ (texts : List (List ℕ)). IfOk c.exposed_by_rows-found.result
    (IsFound (proof_texts c.args.view.now) texts))
    (texts_of_part c.args.lineage.now.rows c.in-Ok.rewound.rows c.args.lineage.now.digests
    c.args.root_at c.args.block_digest.now
    (sym (ap (λ (l : Ledger). l.rows) c.in-Ok.ensures.rewound)) c.requires.within)
    (c.exposed_by_rows-found.ensures.found told)

pub returns-in-Ok-clause-leaves : goal.returns-in-Ok-clause-leaves
returns-in-Ok-clause-leaves g c =
    let leaves = c.exposed_by_rows-found.ensures.leaves in
    record {
      same = stays_beside c.args.lineage.now (g.S.Scratch.state c.args.scratch.now)
          (g.S.Scratch.state c.exposed_by_rows-found.new.scratch) leaves.same.retains;
      cause = leaves.cause;
    }
