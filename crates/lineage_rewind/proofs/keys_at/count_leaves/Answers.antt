use Rattle.std.proofs.Common.{◌∙◌, ◌-◌, ap, arith, length, sym}
use Rattle.lc_base.specs.History.{up_to}
use Rattle.lineage_rewind.proofs.KeysAt.{as_many_leaves, fewer_keys, key_is_first, key_is_later}
use Rattle.lineage_rewind.proofs.keys_at.count_leaves.Goals as goal

pub key_of_leaf-key-requires : goal.key_of_leaf-key-requires
key_of_leaf-key-requires c =
    let given = c.requires in
    let rows = given.0 in (
      rows,
      given.1,
      given.2,
      (
        c.loop-leaf.invariant.0,
        omega (
          arith,
          c.loop-leaf-test.true,
          c.count-end.ensures.count,
          ap length (c.tree.ensures rows given.1 given.2),
          as_many_leaves rows,
        ),
      ),
    )

pub loop-leaf-init : goal.loop-leaf-init
loop-leaf-init c = (
  omega arith,
  λ rows n is. omega (arith, as_many_leaves (up_to rows c.args.at)),
)

pub loop-leaf-preserved : goal.loop-leaf-preserved
loop-leaf-preserved c = (
  omega (arith, c.loop-leaf.invariant.0),
  λ rows n is.
      let first = key_is_first rows c.args.at is.store.lawful (c.loop-leaf.leaf - 1)
      c.key_of_leaf-key.result (c.key_of_leaf-key.ensures rows n is)
      (sym (c.has_row.ensures rows n is) ∙ c.if-not-has_row.false) in
      omega (arith, first, c.loop-leaf.invariant.0, as_many_leaves (up_to rows c.args.at)),
)

pub returns-then-not-has_row : goal.returns-then-not-has_row
returns-then-not-has_row c rows n is =
    let later = key_is_later rows c.args.at is.store.lawful (c.loop-leaf.leaf - 1)
    c.key_of_leaf-key.result (c.key_of_leaf-key.ensures rows n is)
    (sym (c.has_row.ensures rows n is) ∙ c.if-not-has_row.true) in
    omega (
      arith,
      later,
      c.loop-leaf.invariant.0,
      c.loop-leaf.invariant.1 rows n is,
      as_many_leaves (up_to rows c.args.at),
    )

pub returns : goal.returns
returns c rows n is = omega (
  arith,
  c.loop-leaf-test.false,
  c.loop-leaf.invariant.1 rows n is,
  c.count-end.ensures.count,
  ap length (c.tree.ensures rows n is),
  as_many_leaves rows,
  as_many_leaves (up_to rows c.args.at),
  fewer_keys rows c.args.at is.store.lawful,
)
