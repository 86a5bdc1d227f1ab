use Rattle.std.proofs.Common.{arith}
use Rattle.skip_list.proofs.PathTurns.{looks_first, looks_on, looked_at, all_looked, all_told, none_read, one_read}
use Rattle.skip_list.proofs.path.path_entries.Goals as goal

pub loop-next-init : goal.loop-next-init
loop-next-init g c = record {
  looked = λ versions towered. rw c.new-ids.ensures (looks_first c.args.store.now versions c.args.at c.args.newest towered);
  count = rw c.new-ids.ensures (none_read c.args.steps.now (omega (arith, c.count-count.type_inv, c.count-count.ensures)));
}

pub path_next-requires : goal.path_next-requires
path_next-requires g c =
    let given = c.requires.towered in
    record { towered = looked_at c.args.store.now given.0 c.args.at c.loop-next.ids c.in-Some.id (rw c.in-Some.is at (c.loop-next.invariant.looked given.0 given.1)) }

pub loop-next-preserved : goal.loop-next-preserved
loop-next-preserved g c = record {
  looked = λ versions towered.
      rw (c.next_entry-next.ensures, c.in_ok-push.ensures.ok)
      (looks_on c.args.store.now versions c.args.at c.loop-next.ids c.in-Some.id c.path_next.result (rw c.in-Some.is at (c.loop-next.invariant.looked versions towered)) c.path_next.ensures.turn);
  count = rw c.in_ok-push.ensures.ok (one_read c.args.steps.now c.loop-next.steps c.path_next.new.steps c.loop-next.ids c.in-Some.id c.loop-next.invariant.count c.path_next.ensures.step);
}

pub returns-clause-path : goal.returns-clause-path
returns-clause-path g c versions towered = all_looked c.args.store.now versions c.args.at c.loop-next.ids c.loop-next.next (c.loop-next.invariant.looked versions towered) c.in_default.is

pub returns-clause-among : goal.returns-clause-among
returns-clause-among g c versions towered = λ says all. all_told c.args.store.now versions c.args.at c.loop-next.ids c.loop-next.next says (c.loop-next.invariant.looked versions towered) all
