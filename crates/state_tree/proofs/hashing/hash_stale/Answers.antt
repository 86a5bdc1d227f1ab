use Rattle.std.proofs.Common.{List, ◌∙◌, subst, sym}
use Rattle.root_laws.specs.merkle_tree.declared.setting_all.HashAt.{HashAt}
use Rattle.root_laws.specs.merkle_tree.Levels.{Renews}
use Rattle.state_tree.specs.Leaves.{leaf_hashes}
use Rattle.state_tree.proofs.Together.{hash_count, renews, stale_sorted}
use Rattle.state_tree.proofs.hashing.hash_stale.Goals as goal

pub hashes_at-requires : goal.hashes_at-requires
hashes_at-requires c =
    (stale_sorted c.args.leaves.now c.args.levels.now c.args.stale.now c.as_slice.result.now
    c.requires (rw c.as_slice.ensures.value c.in_ok-indexes.ensures)).within

pub renew-requires-clause-renews : goal.renew-requires-clause-renews
renew-requires-clause-renews c =
    let leaves = c.args.leaves.now in
    let but = stale_sorted leaves c.args.levels.now c.args.stale.now c.as_slice.result.now
    c.requires (rw c.as_slice.ensures.value c.in_ok-indexes.ensures) in
    let set = renews leaves c.args.levels.now c.as_slice.result.now but in
    (leaf_hashes leaves, hash_count leaves ∙ sym c.count.ensures.count, subst (λ (hashes : List HashAt). Renews c.args.levels.now (leaf_hashes leaves) hashes) (sym c.in_ok-hashes.ensures) set)

pub returns-clause-ok : goal.returns-clause-ok
returns-clause-ok c =
    let leaves = c.args.leaves.now in
    let but = stale_sorted leaves c.args.levels.now c.args.stale.now c.as_slice.result.now
    c.requires (rw c.as_slice.ensures.value c.in_ok-indexes.ensures) in
    let set = renews leaves c.args.levels.now c.as_slice.result.now but in
    c.renew.ensures.ok (leaf_hashes leaves) (hash_count leaves ∙ sym c.count.ensures.count) (subst (λ (hashes : List HashAt). Renews c.args.levels.now (leaf_hashes leaves) hashes) (sym c.in_ok-hashes.ensures) set)
