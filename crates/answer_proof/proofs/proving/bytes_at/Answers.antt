use Rattle.std.proofs.Common.{◌∙◌, ◌+◌, length, sym, ap}
use Rattle.std.proofs.lemmas.Bool.{eqb-true}
use Rattle.std.proofs.lemmas.Option.{slice_get_within}
use Rattle.merkle_dag.specs.Ledger.{Ledger}
use Rattle.merkle_dag.specs.Staying.{stays_beside}
use Rattle.proof_checks.specs.Making.{made_of, made_proof}
use Rattle.answer_proof.proofs.Gathered.{bytes_of, but_for_body_of, all_up_to_last, made_of_rows}
use Rattle.answer_proof.proofs.proving.bytes_at.Goals as goal

pub returns-then-is_last-clause-bytes : goal.returns-then-is_last-clause-bytes
returns-then-is_last-clause-bytes g c told =
    bytes_of c.bytes_of_rows.result (made_of c.args.lineage.now.rows c.args.asked.now.root_at c.args.asked.now.block_digest.0 c.args.asked.now.query) (made_proof c.args.lineage.now.rows c.args.lineage.now.digests c.args.asked.now.root_at c.args.asked.now.query)
    (made_of_rows c.args.lineage.now.rows c.args.lineage.now.rows c.args.lineage.now.digests c.args.asked.now.root_at c.args.asked.now.block_digest c.args.asked.now.query
    (all_up_to_last c.args.lineage.now.rows c.args.asked.now.root_at (length c.args.lineage.now.digests) (eqb-true (c.args.asked.now.root_at + 1) (length c.args.lineage.now.digests) (sym c.is_last.ensures ∙ c.if-is_last.true)) c.check_types.ensures.ledger.within)
    c.requires.within)
    (c.bytes_of_rows.ensures.bytes told)

pub returns-then-is_last-clause-always : goal.returns-then-is_last-clause-always
returns-then-is_last-clause-always g c =
    but_for_body_of c.bytes_of_rows.result
    (made_of c.args.lineage.now.rows c.args.asked.now.root_at c.args.asked.now.block_digest.0
    c.args.asked.now.query) (made_proof c.args.lineage.now.rows c.args.lineage.now.digests
    c.args.asked.now.root_at c.args.asked.now.query)
    (made_of_rows c.args.lineage.now.rows c.args.lineage.now.rows c.args.lineage.now.digests
    c.args.asked.now.root_at c.args.asked.now.block_digest c.args.asked.now.query
    (all_up_to_last c.args.lineage.now.rows c.args.asked.now.root_at
    (length c.args.lineage.now.digests)
    (eqb-true (c.args.asked.now.root_at + 1) (length c.args.lineage.now.digests)
    (sym c.is_last.ensures ∙ c.if-is_last.true)) c.check_types.ensures.ledger.within)
    c.requires.within)
    c.bytes_of_rows.ensures.always

pub rewind-requires : goal.rewind-requires
rewind-requires g c = slice_get_within c.args.lineage.now.digests c.args.asked.now.root_at c.args.asked.now.block_digest c.requires.within

pub bytes_of_rows-bytes-requires-clause-agrees : goal.bytes_of_rows-bytes-requires-clause-agrees
bytes_of_rows-bytes-requires-clause-agrees g c = c.in-Ok.ensures.agrees (g.S.Scratch.state c.args.scratch.now) c.requires.agrees

pub returns-in-Ok-clause-bytes : goal.returns-in-Ok-clause-bytes
returns-in-Ok-clause-bytes g c told =
    bytes_of c.bytes_of_rows-bytes.result (made_of c.in-Ok.rewound.rows c.args.asked.now.root_at c.args.asked.now.block_digest.0 c.args.asked.now.query) (made_proof c.args.lineage.now.rows c.args.lineage.now.digests c.args.asked.now.root_at c.args.asked.now.query)
    (made_of_rows c.args.lineage.now.rows c.in-Ok.rewound.rows c.args.lineage.now.digests c.args.asked.now.root_at c.args.asked.now.block_digest c.args.asked.now.query (sym (ap (λ (l : Ledger). l.rows) c.in-Ok.ensures.rewound)) c.requires.within)
    (c.bytes_of_rows-bytes.ensures.bytes told)

pub returns-in-Ok-clause-always : goal.returns-in-Ok-clause-always
returns-in-Ok-clause-always g c =
    but_for_body_of c.bytes_of_rows-bytes.result
    (made_of c.in-Ok.rewound.rows c.args.asked.now.root_at c.args.asked.now.block_digest.0
    c.args.asked.now.query) (made_proof c.args.lineage.now.rows c.args.lineage.now.digests
    c.args.asked.now.root_at c.args.asked.now.query)
    (made_of_rows c.args.lineage.now.rows c.in-Ok.rewound.rows c.args.lineage.now.digests
    c.args.asked.now.root_at c.args.asked.now.block_digest c.args.asked.now.query
    (sym (ap (λ (l : Ledger). l.rows) c.in-Ok.ensures.rewound)) c.requires.within)
    c.bytes_of_rows-bytes.ensures.always

pub returns-in-Ok-clause-leaves : goal.returns-in-Ok-clause-leaves
returns-in-Ok-clause-leaves g c =
    let leaves = c.bytes_of_rows-bytes.ensures.leaves in
    record {
      same = stays_beside c.args.lineage.now (g.S.Scratch.state c.args.scratch.now)
          (g.S.Scratch.state c.bytes_of_rows-bytes.new.scratch) leaves.same.retains;
      cause = leaves.cause;
    }
