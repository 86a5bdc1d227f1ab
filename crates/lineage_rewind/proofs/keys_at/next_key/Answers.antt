use Rattle.std.proofs.Common.{◌≡◌, ◌∙◌, ℕ, ◌-◌, take, ap, arith, refl}
use Rattle.lineage_index.specs.root_laws.Root.{keys_of, next_key}
use Rattle.lineage_rewind.proofs.KeysAt.{as_many_leaves, next_more}
use Rattle.lineage_rewind.proofs.keys_at.next_key.Goals as goal

pub key_of_leaf-key-requires : goal.key_of_leaf-key-requires
key_of_leaf-key-requires c =
    let given = c.requires.index in (
      given.0,
      given.1,
      given.2,
      (
        c.loop-leaf.invariant.0,
        omega (arith, c.loop-leaf-test.true, given.3, as_many_leaves given.0),
      ),
    )

pub loop-leaf-init : goal.loop-leaf-init
loop-leaf-init c = (omega arith, λ rows n is. refl)

pub loop-leaf-preserved : goal.loop-leaf-preserved
loop-leaf-preserved c = (
  omega (arith, c.loop-leaf.invariant.0),
  λ rows n is. c.next_with-next.ensures
      ∙ next_more (keys_of rows) c.args.after.now c.key_of_leaf-key.result c.loop-leaf.next
      c.loop-leaf.leaf c.loop-leaf.invariant.0 (c.key_of_leaf-key.ensures rows n is)
      (c.loop-leaf.invariant.1 rows n is),
)

pub returns : goal.returns
returns c rows n is =
    let end : c.loop-leaf.leaf ≡ c.args.count = omega (
      arith,
      c.requires.some,
      c.loop-leaf-test.false,
      c.loop-leaf.auto.leaf-end,
    ) in
    c.loop-leaf.invariant.1 rows n is
    ∙ ap (λ (k : ℕ). next_key (take (k - 1) (keys_of rows)) c.args.after.now) end
