use Rattle.std.proofs.Common.{List, sym, subst}
use Rattle.skip_links.specs.Paths.{path}
use Rattle.entry_store.specs.declared.entry.EntryId.{EntryId}
use Rattle.merkle_dag.specs.lineage_index.OnPath.{AreEntriesIn}
use Rattle.answer_proof.proofs.walking.path_headers.Goals as goal

pub headers_of-requires : goal.headers_of-requires
headers_of-requires g c =
    let rows = c.args.lineage.now.rows in
    let key = c.args.key.now in (
      key,
      path rows key c.args.at,
      subst (λ (ids : List EntryId). AreEntriesIn rows key (path rows key c.args.at) ids)
          (sym c.as_slice.ensures) c.in_ok-ids.ensures.path,
    )

pub returns : goal.returns
returns g c =
    let rows = c.args.lineage.now.rows in
    let key = c.args.key.now in
    c.headers_of.ensures key (path rows key c.args.at)
    (subst (λ (ids : List EntryId). AreEntriesIn rows key (path rows key c.args.at) ids)
    (sym c.as_slice.ensures) c.in_ok-ids.ensures.path)
