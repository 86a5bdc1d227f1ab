use Rattle.std.proofs.Common.{◌∙◌, sym, arith}
use Rattle.merkle_tree.proofs.Top.{level_count, top_is, root_is, none_is}
use Rattle.merkle_tree.specs.Levels.{leaf_level, hashes_in}
use Rattle.merkle_tree.proofs.levels.Levels.root.Goals as goal

pub index-requires : goal.index-requires
index-requires c = let count = level_count c.self.inside.levels.items c.self.invariant in omega arith

pub returns-in-Some : goal.returns-in-Some
returns-in-Some c texts of =
    let is = c.deref.ensures.value ∙ top_is c.self.inside.levels.items c.index.result.now c.self.invariant c.index.ensures in
    root_is c.deref.result.now (leaf_level (hashes_in c.self.inside.levels.items)) texts c.in-Some.hash.now is (of ∙ sym c.self.view_is) c.self.invariant.few (c.in-Some.ensures.item.1) (c.in-Some.ensures.item.3.0)

pub returns-in-None : goal.returns-in-None
returns-in-None c texts of =
    let is = c.deref.ensures.value ∙ top_is c.self.inside.levels.items c.index.result.now c.self.invariant c.index.ensures in
    c.empty_hash.ensures ∙ none_is c.deref.result.now (leaf_level (hashes_in c.self.inside.levels.items)) texts is (of ∙ sym c.self.view_is) c.self.invariant.few (omega (arith, c.in-None.ensures.item.3))
