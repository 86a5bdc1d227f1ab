use Rattle.std.proofs.Common.{◌≡◌, ◌∙◌, get_or, take, ap, arith, length}
use Rattle.std.proofs.Math.Seq.{take-length}
use Rattle.std.specs.List.{filter_map}
use Rattle.std.proofs.lemmas.Option.{slice_get-get_or, slice_get_within}
use Rattle.entry_store.specs.declared.entry.EntryId.{EntryId}
use Rattle.proof_checks.specs.Making.{header_in}
use Rattle.answer_proof.proofs.Walks.{as_long, row_in, header_more}
use Rattle.answer_proof.proofs.walking.headers_of.Goals as goal

pub header-requires : goal.header-requires
header-requires g c =
    let given = c.requires in
    let rows = c.args.lineage.now.rows in
    let ids = c.args.ids.now in
    let i = c.loop-id.id-index in
    let id : EntryId = get_or ids i (record { 0 = 0 }) in
    let at = slice_get-get_or ids i (record { 0 = 0 }) c.loop-id-test.true in
    let found = row_in rows given.0 given.1 ids i id given.2 at in
    slice_get_within rows id.0 found.0 found.2

pub loop-id-preserved : goal.loop-id-preserved
loop-id-preserved g c key blocks are =
    let rows = c.args.lineage.now.rows in
    let ids = c.args.ids.now in
    let i = c.loop-id.id-index in
    let id : EntryId = get_or ids i (record { 0 = 0 }) in
    let at = slice_get-get_or ids i (record { 0 = 0 }) c.loop-id-test.true in
    c.in_ok-push.ensures.ok
    ∙ header_more rows key blocks ids i id c.in_ok-header.header c.loop-id.headers
    c.row_count-rows.ensures.ledger.lawful are at c.in_ok-header.ensures.row
    (c.loop-id.invariant key blocks are)

pub returns : goal.returns
returns g c key blocks are =
    let rows = c.args.lineage.now.rows in
    let all : c.loop-id.id-index ≡ length blocks =
    omega (
      arith,
      c.loop-id-test.false,
      c.loop-id.auto.id-index-end,
      as_long rows key blocks c.args.ids.now are,
    ) in
    c.loop-id.invariant key blocks are
    ∙ ap (filter_map (header_in rows key)) (ap (λ n. take n blocks) all ∙ take-length blocks)
