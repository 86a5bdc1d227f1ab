use Rattle.std.proofs.Common.{◌==◌, ◌∙◌, ◌∷◌, [], ◌++◌, ap}
use Rattle.std.specs.Cmp.Lexicographic.{pointwise}
use Rattle.indexmap.proofs.CallerLemmas.{insert_entry-new}
use Rattle.state_tree.specs.declared.threaded.LeafEntry.{LeafEntry}
use Rattle.state_tree.proofs.threaded.add_entry.Goals as goal

pub returns-clause-ok : goal.returns-clause-ok
returns-clause-ok c =
    c.in_ok-insert.ensures.entries
    ∙ insert_entry-new (pointwise ◌==◌) c.args.entries.now c.args.key c.fresh_entry.result c.requires
    ∙ ap (λ (entry : LeafEntry). c.args.entries.now.entries ++
    (c.args.key, entry) ∷ []) c.fresh_entry.ensures
