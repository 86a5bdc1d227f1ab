use Rattle.std.proofs.Common.{◌≡◌, drop}
use Rattle.root_laws.specs.Ancestors.{all_inserted, itself}
use Rattle.row_walks.proofs.wanted.insert_all.Given as goal

abbrev pub invariant-loop-version : goal.invariant-loop-version
invariant-loop-version l = all_inserted itself (drop l.version-index l.versions) l.wanted
    ≡ all_inserted itself l.versions l.fn.wanted
