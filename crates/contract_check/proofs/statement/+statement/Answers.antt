use Rattle.std.proofs.Common.{◌∙◌, sym, ap, map, take, Ok}
use Rattle.contract_tree.specs.Tree.{statement_of, statement_list}
use Rattle.contract_check.proofs.Scopes.{kept}
use Rattle.contract_check.proofs.statement.+statement.Goals as goal

pub block-returns : goal.block-returns
block-returns t c =
    kept (statement_list (map statement_of c.args.body.now)) c.args.scope.now c.statements.new.scope c.in_ok-statements.ensures ∙ ap Ok (sym (c.keep.ensures ∙ ap (λ n. take n c.statements.new.scope) c.len-count.ensures))
