use Rattle.std.proofs.Common.{◌∙◌, ◌+◌, length, sym, ap, arith}
use Rattle.std.proofs.lemmas.Bool.{eqb-true}
use Rattle.std.proofs.lemmas.List.{length-take-le}
use Rattle.std.proofs.lemmas.Option.{slice_get_within}
use Rattle.prov_query.specs.merkle_dag.Ledger.{Ledger}
use Rattle.prov_query.specs.merkle_dag.Staying.{stays_beside}
use Rattle.proof_checks.specs.RangeMaking.{made_range}
use Rattle.range_proof.proofs.Made.{bytes_of, but_for_bodies_of, made_again, last_taken}
use Rattle.range_proof.proofs.proving.bytes_at.Goals as goal

pub bytes_of_rows-requires-clause-last : goal.bytes_of_rows-requires-clause-last
bytes_of_rows-requires-clause-last g c =
    eqb-true (c.args.asked.now.root_at + 1) (length c.args.lineage.now.digests)
    (sym c.is_last.ensures ∙ c.if-is_last.true)

pub rewind-requires : goal.rewind-requires
rewind-requires g c =
    slice_get_within c.args.lineage.now.digests c.args.asked.now.root_at
    c.args.asked.now.block_digest c.requires.within

pub bytes_of_rows-bytes-requires-clause-last : goal.bytes_of_rows-bytes-requires-clause-last
bytes_of_rows-bytes-requires-clause-last g c =
    let within = slice_get_within c.args.lineage.now.digests c.args.asked.now.root_at
    c.args.asked.now.block_digest c.requires.within in
    sym (ap (λ (l : Ledger). length l.digests) c.in-Ok.ensures.rewound
    ∙ length-take-le (c.args.asked.now.root_at + 1) c.args.lineage.now.digests
    (omega (arith, within)))

pub bytes_of_rows-bytes-requires-clause-digest : goal.bytes_of_rows-bytes-requires-clause-digest
bytes_of_rows-bytes-requires-clause-digest g c =
    last_taken c.args.lineage.now.digests c.in-Ok.rewound.digests c.args.asked.now.root_at
    c.args.asked.now.block_digest (ap (λ (l : Ledger). l.digests) c.in-Ok.ensures.rewound)
    c.requires.within

pub bytes_of_rows-bytes-requires-clause-agrees : goal.bytes_of_rows-bytes-requires-clause-agrees
bytes_of_rows-bytes-requires-clause-agrees g c =
    c.in-Ok.ensures.agrees (g.S.Scratch.state c.args.scratch.now) c.requires.agrees

pub returns-in-Ok-clause-bytes : goal.returns-in-Ok-clause-bytes
returns-in-Ok-clause-bytes g c known =
    let lineage = c.args.lineage.now in
    let part = c.in-Ok.rewound in
    let asked = c.args.asked.now in
    bytes_of c.bytes_of_rows-bytes.result
    (made_range part.rows part.digests asked.root_at asked.key asked.from asked.to)
    (made_range lineage.rows lineage.digests asked.root_at asked.key asked.from asked.to)
    (made_again lineage.rows part.rows lineage.digests part.digests asked.root_at asked.key
    asked.from asked.to (ap (λ (l : Ledger). l.rows) c.in-Ok.ensures.rewound)
    (ap (λ (l : Ledger). l.digests) c.in-Ok.ensures.rewound))
    (c.bytes_of_rows-bytes.ensures.bytes known)

pub returns-in-Ok-clause-always : goal.returns-in-Ok-clause-always
returns-in-Ok-clause-always g c =
    let lineage = c.args.lineage.now in
    let part = c.in-Ok.rewound in
    let asked = c.args.asked.now in
    but_for_bodies_of c.bytes_of_rows-bytes.result
    (made_range part.rows part.digests asked.root_at asked.key asked.from asked.to)
    (made_range lineage.rows lineage.digests asked.root_at asked.key asked.from asked.to)
    (made_again lineage.rows part.rows lineage.digests part.digests asked.root_at asked.key
    asked.from asked.to (ap (λ (l : Ledger). l.rows) c.in-Ok.ensures.rewound)
    (ap (λ (l : Ledger). l.digests) c.in-Ok.ensures.rewound))
    c.bytes_of_rows-bytes.ensures.always

pub returns-in-Ok-clause-leaves : goal.returns-in-Ok-clause-leaves
returns-in-Ok-clause-leaves g c =
    let leaves = c.bytes_of_rows-bytes.ensures.leaves in
    record {
      same = stays_beside c.args.lineage.now (g.S.Scratch.state c.args.scratch.now)
          (g.S.Scratch.state c.bytes_of_rows-bytes.new.scratch) leaves.same.retains;
      cause = leaves.cause;
    }
