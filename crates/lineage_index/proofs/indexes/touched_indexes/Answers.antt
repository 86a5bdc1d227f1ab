use Rattle.std.proofs.Common.{◌≡◌, ℕ, List, [], ◌∷◌, ◌++◌, ◌∙◌, map, take, ap, subst, sym, arith}
use Rattle.std.specs.List.{Contains}
use Rattle.std.proofs.lemmas.List.{append-nil, append_assoc, take_all}
use Rattle.std.proofs.lemmas.List.Filters.{dedup_is}
use Rattle.std.proofs.lemmas.List.Kept.{Contains-dedup_nat, Contains-from_dedup}
use Rattle.std.proofs.lemmas.List.Sorted.{Contains-permutation, IsPermutation-sym}
use Rattle.std.proofs.lemmas.Map.Keys.{IsStrictlyIncreasing-dedup}
use Rattle.lc_base.specs.declared.row.Row.{Row}
use Rattle.lineage_index.specs.Growth.{deps_touched, keys_touched}
use Rattle.lineage_index.specs.Leaves.{leaf_indexes}
use Rattle.lineage_index.proofs.Touched.{indexes_more, one_key_touched}
use Rattle.lineage_index.proofs.indexes.touched_indexes.Goals as goal

pub loop-row-init : goal.loop-row-init
loop-row-init c = c.requires
    ∙ ap (leaf_indexes c.args.tree.now) (sym (append-nil (deps_touched c.args.new.now)))

pub loop-row-preserved : goal.loop-row-preserved
loop-row-preserved c =
    let tree = c.args.tree.now in
    let new = c.args.new.now in
    let deps = deps_touched new in
    let i = c.loop-row.row-index in
    let row : Row = c.row-item.result in
    let key_of : Row → List ℕ = λ (r : Row). r.key in
    c.in_ok-add_index.ensures
    ∙ ap (λ (indexes : List ℕ). indexes ++ leaf_indexes tree (row.key ∷ [])) c.loop-row.invariant
    ∙ indexes_more tree [] (deps ++ map key_of (take i new)) (row.key ∷ [])
    ∙ ap (leaf_indexes tree) (append_assoc deps (map key_of (take i new)) (row.key ∷ [])
    ∙ ap (λ (keys : List (List ℕ)). deps ++ keys)
    (one_key_touched key_of new i row c.loop-row-test.true c.row-item.is))

listed : (c : goal.After-dedup)
    → c.loop-row.indexes.items ≡ leaf_indexes c.args.tree.now (keys_touched c.args.new.now)
listed c = c.loop-row.invariant
    ∙ ap (λ (new : List Row). leaf_indexes c.args.tree.now (deps_touched c.args.new.now ++
    map (λ (row : Row). row.key) new))
    (take_all c.loop-row.row-index c.args.new.now (omega (arith, c.loop-row-test.false)))

pub returns-clause-all : goal.returns-clause-all
returns-clause-all c =
    let is = dedup_is _ _ _ c.dedup.ensures.filtered in
    let moved = c.sort_unstable.ensures.permutation in
    record {
      there = λ item among. rw is (Contains-dedup_nat _ item (Contains-permutation _ _ item moved (subst (λ (indexes : List ℕ). Contains indexes item) (sym (listed c)) among)));
      back = λ item among. subst (λ (indexes : List ℕ). Contains indexes item) (listed c) (Contains-permutation _ _ item (IsPermutation-sym _ _ moved) (Contains-from_dedup _ _ item (rw is at among)));
    }

pub returns-clause-ascending : goal.returns-clause-ascending
returns-clause-ascending c = let is = dedup_is _ _ _ c.dedup.ensures.filtered in rw is (IsStrictlyIncreasing-dedup _ c.sort_unstable.ensures.sorted)
