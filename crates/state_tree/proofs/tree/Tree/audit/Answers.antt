use Rattle.std.proofs.Common.{◌≡◌, ◌∙◌, sym, arith}
use Rattle.std.proofs.lemmas.Bool.{eqb-true}
use Rattle.std.proofs.lemmas.Result.{IfOk-weaker}
use Rattle.root_laws.specs.merkle_tree.Tree.{audit_path}
use Rattle.root_laws.specs.merkle_tree.Climbing.{bytes_of}
use Rattle.state_tree.specs.Leaves.{leaf_texts}
use Rattle.state_tree.proofs.Together.{texts_hashed}
use Rattle.state_tree.proofs.tree.Tree.audit.Goals as goal

pub returns-then-is_empty : goal.returns-then-is_empty
returns-then-is_empty c =
    let texts = texts_hashed c.self.inside.leaves c.args.self.now c.self.inside.levels c.self.inside.stale.list c.self.invariant.hashed
    (omega (arith, eqb-true _ 0 (sym c.is_empty.ensures ∙ c.if-is_empty.true))) c.self.view_is in
    IfOk-weaker c.audit.result _ (λ path. bytes_of path ≡ audit_path c.args.index (leaf_texts c.args.self.now)) (λ path so. so (leaf_texts c.args.self.now) texts) c.audit.ensures
