use Rattle.std.proofs.Common.{refl, sym, subst}
use Rattle.rooted_chain.specs.merkle_dag.Lineage.{AgreesWith}
use Rattle.rooted_chain.specs.Roots.{kept_in}
use Rattle.recovery.specs.Node.{NodeState, IsNodeOf, lineage_in, stored_placement, logged_in}
use Rattle.recovery.specs.contracts.node.Node.{the_view}
use Rattle.recovery.proofs.Upgraded.{marked_chain, marked_node}
use Rattle.recovery.proofs.node.Node.upgrade.Goals as goal

pub invariant_of-result : goal.invariant_of-result
invariant_of-result g c = marked_chain (kept_in c.self.inside.chain) c.self.inside.log c.in-Ok.log
    c.self.invariant c.in-Ok.ensures.marked

pub returns-in-Ok-clause-of : goal.returns-in-Ok-clause-of
returns-in-Ok-clause-of g c blocks is =
    let inner : IsNodeOf (the_view c.self.inside)
    (g.M.Clock.disk c.args.machine.now (g.M.Clock.now c.args.machine.now)) blocks = subst
    (λ (n : NodeState). IsNodeOf n
    (g.M.Clock.disk c.args.machine.now (g.M.Clock.now c.args.machine.now)) blocks)
    (sym c.self.view_is) is in
    marked_node (the_view c.self.inside) (kept_in c.self.inside.chain) c.in-Ok.log
    (g.M.Clock.disk c.args.machine.now (g.M.Clock.now c.args.machine.now))
    (g.M.Clock.disk c.mark_log.new.machine (g.M.Clock.now c.mark_log.new.machine)) blocks refl
    inner c.in-Ok.ensures.marked c.in-Ok.ensures.still_known c.in-Ok.ensures.agrees
    (λ content told by. c.in-Ok.ensures.stands stored_placement content
    (logged_in c.self.inside.log blocks) told by)

pub returns-in-Ok-clause-ready : goal.returns-in-Ok-clause-ready
returns-in-Ok-clause-ready g c scratch ready = record {
  agrees = subst (λ (n : NodeState). AgreesWith (lineage_in n) scratch) (sym c.self.view_is)
      ready.agrees;
  log = c.in-Ok.ensures.agrees;
  of = λ told.
      let node = ready.of told in
      (node.0, returns-in-Ok-clause-of g c node.0 node.1);
}
