use Rattle.std.proofs.Common.{rules, ◌≡◌, length}
use Rattle.contract_check.proofs.Noting.{one_more_noted}
use Rattle.contract_check.proofs.table.NameTable.push.Goals as goal

pub invariant_of-self-in-Ok : goal.invariant_of-self-in-Ok
invariant_of-self-in-Ok g c =
    let last : c.len-index.result ≡ length c.self.inside.entries.items = search rules in
    rw c.in_ok-push.ensures.items (one_more_noted c.self.inside.entries.items c.self.inside.indexes c.note_index.new.indexes c.args.name.now c.args.value c.len-index.result c.self.invariant last c.in-Ok.ensures.ok)
