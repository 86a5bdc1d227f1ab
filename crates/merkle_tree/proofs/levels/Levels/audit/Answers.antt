use Rattle.std.proofs.Common.{◌∙◌, sym, ap, List, Vec, Global}
use Rattle.lc_base.specs.declared.digest.Digest.{Digest}
use Rattle.merkle_tree.specs.Climbing.{bytes_of}
use Rattle.merkle_tree.specs.Levels.{hashes_in, siblings_up}
use Rattle.merkle_tree.proofs.Siblings.{audit_is}
use Rattle.merkle_tree.proofs.levels.Levels.audit.Goals as goal

pub returns : goal.returns
returns c texts of =
    let below = rw (← c.self.view_is) at c.requires in
    let read = c.in_ok-path.ensures ∙ ap (λ (vs : List (Vec Digest Global)). siblings_up c.args.index (hashes_in vs)) c.as_slice.ensures.value in
    ap bytes_of (c.from_vec.ensures ∙ read) ∙ audit_is (hashes_in c.self.inside.levels.items) texts c.args.index c.self.invariant (of ∙ sym c.self.view_is) below
