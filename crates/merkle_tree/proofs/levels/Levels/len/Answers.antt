use Rattle.std.proofs.Common.{◌≡◌, ◌∙◌, ap, arith, length, List}
use Rattle.merkle_tree.specs.Levels.{leaf_level, hashes_in}
use Rattle.lc_base.specs.declared.digest.Digest.{Digest}
use Rattle.merkle_tree.proofs.Top.{level_count, lowest_is}
use Rattle.merkle_tree.proofs.levels.Levels.len.Goals as goal

pub index-requires : goal.index-requires
index-requires c = let count = level_count c.self.inside.levels.items c.self.invariant in omega arith

length_is : (c : goal.After-len) → c.len.result ≡ length (leaf_level (hashes_in c.self.inside.levels.items))
length_is c =
    let count = level_count c.self.inside.levels.items c.self.invariant in
    let is = lowest_is c.self.inside.levels.items c.index.result.now (omega arith) c.index.ensures in
    c.len.ensures ∙ c.index.result.now.ok.0 ∙ ap (λ (l : List Digest). length l) is

pub overflow_cast-result : goal.overflow_cast-result
overflow_cast-result c = let is = length_is c in let few = c.self.invariant.few in omega arith

pub returns : goal.returns
returns c = length_is c ∙ ap (λ (l : List Digest). length l) c.self.view_is
