use Rattle.std.proofs.Common.{◌≡◌, true, Some, arith}
use Rattle.std.specs.List.{concat}
use Rattle.std.specs.Rc.{rc_slice_items}
use Rattle.std.proofs.lemmas.Result.{IfOk-weaker}
use Rattle.lc_io.specs.Scratch.{is_known}
use Rattle.body_store.specs.Bodies.{body_at_index}
use Rattle.lineage_rewind.specs.prov_entry.Spelling.{body_fields}
use Rattle.lineage_rewind.specs.root_laws.Naming.{body_of}
use Rattle.merkle_dag.specs.Kept.{rows_kept}
use Rattle.merkle_dag.proofs.RowBodies.{as_many_bodies, body_is}
use Rattle.merkle_dag.proofs.lineage.Lineage.body_of.Goals as goal

pub body-requires-clause-within : goal.body-requires-clause-within
body-requires-clause-within g c =
    let kept = c.self.inside.kept in
    omega (
      arith,
      as_many_bodies (rows_kept kept.index) kept.index.store kept.bodies
          c.self.invariant.index_is.store.entries_are c.self.invariant.bodies_are,
      rw
          (← c.self.view_is) at c.requires.within,
    )

pub returns-clause-body : goal.returns-clause-body
returns-clause-body g c = rw (← c.self.view_is) (λ row at told.
    let kept = c.self.inside.kept in
    let rows = rows_kept kept.index in
    IfOk-weaker c.body.result
    (λ bytes. is_known (g.S.Scratch.state c.args.scratch.now) ≡ true
    → body_at_index kept.bodies c.args.id.0 ≡ Some (rc_slice_items bytes))
    (λ bytes. rc_slice_items bytes ≡ concat (body_fields (body_of rows row)))
    (λ bytes read. body_is rows kept.index.store kept.bodies c.args.id.0 row (rc_slice_items bytes)
    c.self.invariant.index_is.store.entries_are c.self.invariant.bodies_are at (read told))
    c.body.ensures.body)
