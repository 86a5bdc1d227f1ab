use Rattle.std.proofs.Common.{◌++◌, ◌∷◌, [], ◌∙◌, List, take, ap, sym, arith}
use Rattle.std.proofs.lemmas.List.{take_all, take_more}
use Rattle.lc_base.specs.declared.row.Row.{Row}
use Rattle.lineage_index.specs.Entries.{entries_of}
use Rattle.lineage_index.proofs.NewEntries.{body_at, entries_first, next_at}
use Rattle.lineage_index.proofs.new_entries.add_entries.Goals as goal

pub loop-index-init : goal.loop-index-init
loop-index-init c rows n a are = are ∙ entries_first rows c.args.new.now n a.grows

pub add_entry-requires-clause-body : goal.add_entry-requires-clause-body
add_entry-requires-clause-body c =
    body_at c.args.tree.now c.args.new.now c.args.bodies.now c.loop-index.index c.index-new-index.result c.index-bodies-index.result c.requires.bodies c.loop-index-test.true c.index-new-index.is c.index-bodies-index.is

pub add_entry-requires-clause-next : goal.add_entry-requires-clause-next
add_entry-requires-clause-next c =
    let given = c.requires.next in
    let i = c.loop-index.index in
    let new = c.args.new.now in
    (given.0, new, take i new, given.1, given.2, next_at given.0 new i c.index-new-index.result c.loop-index.store c.loop-index-test.true c.index-new-index.is (c.loop-index.invariant given.0 given.1 given.2 given.3))

pub loop-index-preserved : goal.loop-index-preserved
loop-index-preserved c rows n a are =
    let i = c.loop-index.index in
    let new = c.args.new.now in
    let row = c.index-new-index.result in
    c.in_ok-add_entry.ensures rows new (take i new) n a (next_at rows new i row c.loop-index.store c.loop-index-test.true c.index-new-index.is (c.loop-index.invariant rows n a are))
    ∙ ap (λ (done : List Row). entries_of (rows ++ new) (rows ++ done)) (ap (λ (r : Row). take i new ++ r ∷ []) c.index-new-index.is ∙ sym (take_more new i row c.loop-index-test.true))

pub returns : goal.returns
returns c rows n a are =
    let new = c.args.new.now in
    c.loop-index.invariant rows n a are ∙ ap (λ (done : List Row). entries_of (rows ++ new) (rows ++ done)) (take_all c.loop-index.index new (omega (arith, c.loop-index-test.false)))
