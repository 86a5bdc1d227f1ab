use Rattle.std.proofs.Common.{◌≡◌, ◌==◌, ◌∙◌, ℕ, List, ap, sym, map-id}
use Rattle.std.specs.Map.{lookup}
use Rattle.std.specs.Option.{option_or}
use Rattle.world_state.specs.Rows.{newest_staged}
use Rattle.std.specs.Vec.Iter.{into_iter_steps}
use Rattle.std.specs.Cmp.Lexicographic.{pointwise}
use Rattle.std.proofs.iter.Yields.{gives_Drains}
use Rattle.std.proofs.lemmas.Iterator.Adapters.{YieldsList-from_vec}
use Rattle.indexmap.specs.IndexMap.{insert_all}
use Rattle.world_state.specs.declared.held.Held.{Held}
use Rattle.world_state.proofs.Newest.{newest_after_all}
use Rattle.world_state.proofs.world.add_newest.Goals as goal

pub returns-clause-order : goal.returns-clause-order
returns-clause-order c =
    let ran = c.in_ok-extend.ensures.ran in
    let all : ran.1 ≡ c.args.entries.items = sym (map-id ran.1) ∙ gives_Drains into_iter_steps (λ x. x) ran.1 _ ran.0 (YieldsList-from_vec c.args.entries.items ran.2.0 (ran.2.1 ∙ c.args.entries.ok.0)).runs ran.4 in
    ran.3.0 ∙ ap (insert_all (pointwise ◌==◌) c.args.newest.now.entries) all

pub returns-clause-newest : goal.returns-clause-newest
returns-clause-newest c =
    let ran = c.in_ok-extend.ensures.ran in
    let all : ran.1 ≡ c.args.entries.items = sym (map-id ran.1) ∙ gives_Drains into_iter_steps (λ x. x) ran.1 _ ran.0 (YieldsList-from_vec c.args.entries.items ran.2.0 (ran.2.1 ∙ c.args.entries.ok.0)).runs ran.4 in
    let before = λ (k : List ℕ). lookup (pointwise ◌==◌ k) c.args.newest.now.entries in
    λ key. ran.3.1.0 key ∙ newest_after_all before ran.1 key ∙ ap (λ (entries : List (List ℕ × Held)). option_or (newest_staged entries key) (before key)) all
