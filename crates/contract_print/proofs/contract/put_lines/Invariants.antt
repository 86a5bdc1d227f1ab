use Rattle.std.proofs.Common.{◌≡◌, ◌++◌, take, codes}
use Rattle.std.specs.List.{flat_map}
use Rattle.contract_tree.specs.Tree.{statement_of}
use Rattle.contract_print.specs.Canonical.{statement_text}
use Rattle.contract_print.proofs.contract.put_lines.Given as goal

abbrev pub invariant-loop-x : goal.invariant-loop-x
invariant-loop-x l = l.out.items ≡ l.fn.out.items ++ flat_map (λ x. statement_text (codes "  ") (statement_of x)) (take l.x-index l.body)
