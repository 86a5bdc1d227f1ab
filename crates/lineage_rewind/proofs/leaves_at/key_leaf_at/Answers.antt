use Rattle.std.proofs.Common.{◌∙◌, ◌-◌, ap, arith, sym, take}
use Rattle.std.proofs.lemmas.Option.{none-some, slice_get_within}
use Rattle.lineage_index.specs.root_laws.Root.{keys_of, next_key}
use Rattle.lineage_index.proofs.BlockSteps.{as_many_entries}
use Rattle.lineage_rewind.proofs.Cut.{store_of}
use Rattle.lineage_rewind.proofs.LeavesAt.{as_many, count_within, has_latest, is_leaf_index, leaf_read}
use Rattle.lineage_rewind.proofs.Reading.{facts_read}
use Rattle.lineage_rewind.proofs.leaves_at.key_leaf_at.Goals as goal

pub key_of_leaf-key-requires : goal.key_of_leaf-key-requires
key_of_leaf-key-requires c =
    let given = c.requires in
    let a = given.1 in (
      a.rows,
      a.block_count,
      a.index_is,
      is_leaf_index c.args.index.now c.args.at c.args.count given.0 a c.args.leaf given.2 given.3,
    )

pub unreachable-requires : goal.unreachable-requires
unreachable-requires c =
    let given = c.requires in
    let a = given.1 in
    let key = c.key_of_leaf-key.ensures a.rows a.block_count a.index_is in
    let latest = has_latest c.args.index.now c.args.at c.args.count given.0 a c.args.leaf
    c.key_of_leaf-key.result given.2 given.3 key in
    none-some latest.0 (sym (c.in-None.ensures a.rows a.block_count a.index_is) ∙ latest.1)

pub facts-facts-requires : goal.facts-facts-requires
facts-facts-requires c =
    let a = c.requires.1 in
    let found = c.in-Some.ensures a.rows a.block_count a.index_is in
    omega (
      arith,
      slice_get_within a.rows c.in-Some.row found.0 found.2,
      as_many_entries a.rows c.store.result.now (c.store.ensures a.rows a.block_count a.index_is),
    )

pub told_uses-told-requires : goal.told_uses-told-requires
told_uses-told-requires c =
    let a = c.requires.1 in
    let found = c.in-Some.ensures a.rows a.block_count a.index_is in
    (a.rows, a.block_count, a.index_is, slice_get_within a.rows c.in-Some.row found.0 found.2)

pub next_key-requires-clause-index : goal.next_key-requires-clause-index
next_key-requires-clause-index c =
    let given = c.requires in
    let a = given.1 in (
      a.rows,
      a.block_count,
      a.index_is,
      count_within c.args.index.now c.args.at c.args.count given.0 a,
    )

pub next_key-requires-clause-some : goal.next_key-requires-clause-some
next_key-requires-clause-some c =
    let given = c.requires in
    omega (arith, as_many c.args.index.now c.args.at c.args.count given.0 given.1)

pub returns : goal.returns
returns c list a pos within =
    let rows = a.rows in
    let found = c.in-Some.ensures rows a.block_count a.index_is in
    let facts = facts_read rows c.store.result.now c.in-Some.row found.0 c.facts-facts.result
    (store_of rows a.block_count c.args.index.now c.store.result.now a.index_is
    (c.store.ensures rows a.block_count a.index_is)) found.2 c.facts-facts.ensures in
    let told = c.told_uses-told.ensures rows a.block_count found.0 a.index_is found.2 in
    leaf_read c.args.index.now c.args.at c.args.count list a c.args.leaf c.key_of_leaf-key.result
    found.0 c.facts-facts.result c.told_uses-told.result c.next_key.result pos within
    (c.key_of_leaf-key.ensures rows a.block_count a.index_is) found.1 facts told
    (c.next_key.ensures rows a.block_count a.index_is
    ∙ ap (next_key (take (c.args.count - 1) (keys_of rows))) c.as_bytes.ensures.bytes)
