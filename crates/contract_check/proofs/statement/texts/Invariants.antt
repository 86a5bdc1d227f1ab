use Rattle.std.proofs.Common.{◌≡◌, map, drop}
use Rattle.contract_tree.specs.Tree.{tree_of, trees}
use Rattle.contract_check.specs.Faults.{text_expressions}
use Rattle.contract_check.proofs.statement.texts.Given as goal

abbrev pub invariant-loop-part : goal.invariant-loop-part
invariant-loop-part l = text_expressions l.scope (trees (map tree_of (drop l.part-index l.parts))) ≡ text_expressions l.scope (trees (map tree_of l.parts))
