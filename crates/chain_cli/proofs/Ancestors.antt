-- The ancestors of a version are those that are reached from it.
use Rattle.root_laws.proofs.Reaching.{each_is_reached, reached_is_ancestor, ancestors_in_order}
use Rattle.cli_output.specs.Showing.{AncestorsAreTheReached}

pub ancestors_are_the_reached : AncestorsAreTheReached
ancestors_are_the_reached = record {
  reached = each_is_reached;
  all = reached_is_ancestor;
  rise = ancestors_in_order;
}
