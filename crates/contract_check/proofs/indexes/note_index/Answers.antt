use Rattle.std.proofs.Common.{sym}
use Rattle.std.specs.Ordering.{nat_cmp}
use Rattle.std.specs.BTreeMap.{get}
use Rattle.contract_check.proofs.Noting.{unseen, newly_noted}
use Rattle.contract_check.proofs.indexes.note_index.Goals as goal

pub returns-in_ok-insert-clause-ok : goal.returns-in_ok-insert-clause-ok
returns-in_ok-insert-clause-ok c =
    newly_noted c.args.indexes.now c.insert.new.self c.args.name.now c.code_of-code.result c.args.index c.code_of-code.ensures.code c.code_of-code.ensures.is_name (unseen (get nat_cmp c.args.indexes.now c.code_of-code.result) (sym c.if-not-contains_key.ensures))
    c.in_ok-insert.ensures.updates.0
