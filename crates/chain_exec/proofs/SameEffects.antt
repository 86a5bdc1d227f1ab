-- What a transaction does in a world is what it does on the history that the world stands for.
use Rattle.std.proofs.Common.{◌≡◌, ◌==◌, ℕ, Bool, true, false, cond, ◌||◌, List, [], ◌∷◌, map, reverse, Option, Some, None, is_some, refl, sym, ap, ◌∙◌, inl, inr}
use Rattle.std.specs.Option.{option_map}
use Rattle.std.specs.List.{find, filter_map}
use Rattle.std.specs.Map.{lookup}
use Rattle.std.specs.Cmp.Lexicographic.{pointwise, bytes_decides}
use Rattle.std.proofs.lemmas.Bool.{cases_Bool}
use Rattle.lc_base.specs.Deps.{without_repeats}
use Rattle.lc_base.specs.History.{newest, version_of}
use Rattle.lc_base.specs.declared.row.Dep.{Dep}
use Rattle.lc_base.specs.declared.row.Row.{Row}
use Rattle.contract_tree.specs.declared.tree.Contract.{Contract}
use Rattle.contract_tree.specs.Tree.{contract_of}
use Rattle.contract_eval.specs.contract_semantics.Scenes.{scene_of}
use Rattle.contract_eval.specs.contract_semantics.declared.site.CallSite.{CallSite}
use Rattle.block_codec.specs.declared.block.Tx.{Tx}
use Rattle.block_codec.specs.declared.block.Tx.TheVariants.{Set, Deploy, Call}
use Rattle.world_state.specs.Known.{Known}
use Rattle.world_state.specs.Rows.{entry_of, held_of, is_staged}
use Rattle.world_state.specs.World as world
use Rattle.world_state.specs.World.{code_of, is_raw, is_taken, StandsForRows}
use Rattle.world_state.specs.declared.held.Held.{Held}
use Rattle.chain_exec.specs.Compiled.{compiled_in}
use Rattle.chain_exec.specs.Effect.{is_written, meets_conflict, version_to_depend_on, deps_on, code_in, is_taken_in, set_effect, deploy_effect, call_effect, effect_of}
use Rattle.chain_exec.specs.Running.{codes_seen, history_in, dep_in, deps_in, effect_in}

-- ---- what is written

staged_rows : (staged : List Row) (key : List ℕ) → is_staged (map entry_of staged) key ≡ is_written staged key
staged_rows [] key = refl
staged_rows (row ∷ staged) key = ap (λ b. pointwise ◌==◌ row.key key || b) (staged_rows staged key)

module _ (w : Known Contract) (staged : List Row) (are : w.staged ≡ map entry_of staged) where
  written_is : world.is_written w ≡ is_written staged
  written_is = λ i key. (ap (λ entries. is_staged entries key) are ∙ staged_rows staged key) i

-- ---- dependencies

-- what is found under a key has this key
found_is : (key : List ℕ) (rows : List Row) (row : Row) → find (λ (r : Row). pointwise ◌==◌ r.key key) rows ≡ Some row → row.key ≡ key
found_is key [] row e = absurd cc
found_is key (r ∷ rows) row e =
    elim (cases_Bool (pointwise ◌==◌ r.key key)) [
      | inl same ↦
          let here : Some r ≡ Some row = sym (ap (λ (b : Bool). cond b (Some r) (find (λ (q : Row). pointwise ◌==◌ q.key key) rows)) same) ∙ e in
          let is : r ≡ row = cc in
          ap (λ (q : Row). q.key) (sym is) ∙ (bytes_decides r.key key).0 same
      | inr other ↦ found_is key rows row (sym (ap (λ (b : Bool). cond b (Some r) (find (λ (q : Row). pointwise ◌==◌ q.key key) rows)) other) ∙ e)
    ]

-- the dependency on a version, by what is held of it
abbrev dep_held : List ℕ → Option Held → Option Dep
dep_held key held = option_map (λ (h : Held). record { key = key; block = h.block }) held

dep_found : (rows : List Row) (key : List ℕ) (found : Option Row) → newest rows key ≡ found → dep_held key (option_map held_of found) ≡ option_map version_of found
dep_found rows key None e = refl
dep_found rows key (Some row) e = ap (λ (k : List ℕ). Some (record { key = k; block = row.block })) (sym (found_is key (reverse rows) row e))

module _ (w : Known Contract) (rows : List Row) (stands : StandsForRows w rows) where
  dep_is : (key : List ℕ) → dep_in w key ≡ version_to_depend_on rows key
  dep_is key = ap (dep_held key) (stands key) ∙ dep_found rows key (newest rows key) refl

  deps_are : (keys : List (List ℕ)) → deps_in w keys ≡ deps_on rows keys
  deps_are keys = let same : dep_in w ≡ version_to_depend_on rows = λ i key. dep_is key i in ap (λ f. without_repeats (filter_map f keys)) same

-- ---- codes

code_cond : (b : Bool) (contract : Contract) (code : Option Contract) → cond b (Some (contract_of contract)) (option_map contract_of code) ≡ option_map contract_of (cond b (Some contract) code)
code_cond true contract code = refl
code_cond false contract code = refl

code_is : (codes : List (List ℕ × Contract)) (name : List ℕ) → code_in (codes_seen codes) name ≡ option_map contract_of (lookup (pointwise ◌==◌ name) codes)
code_is [] name = refl
code_is (code ∷ codes) name =
    ap (cond (pointwise ◌==◌ name code.0) (Some (contract_of code.1))) (code_is codes name) ∙ code_cond (pointwise ◌==◌ name code.0) code.1 (lookup (pointwise ◌==◌ name) codes)

some_map : (code : Option Contract) → is_some (option_map contract_of code) ≡ is_some code
some_map None = refl
some_map (Some contract) = refl

some_code : (codes : List (List ℕ × Contract)) (name : List ℕ) → is_some (code_in (codes_seen codes) name) ≡ is_some (lookup (pointwise ◌==◌ name) codes)
some_code codes name = ap is_some (code_is codes name) ∙ some_map (lookup (pointwise ◌==◌ name) codes)

taken_is : (w : Known Contract) (name : List ℕ) → is_taken_in (codes_seen w.codes) (codes_seen w.staged_codes) name ≡ is_taken w name
taken_is w name =
    ap (λ b. is_raw name || (b || is_some (code_in (codes_seen w.staged_codes) name))) (some_code w.codes name)
    ∙ ap (λ b. is_raw name || (is_some (code_of w name) || b)) (some_code w.staged_codes name)

-- ---- effects

module _ (w : Known Contract) (rows staged : List Row) (stands : StandsForRows w rows) (are : w.staged ≡ map entry_of staged) (edition number at : ℕ) where
  pub effect_is : (tx : Tx) → effect_in rows w edition number at tx ≡ effect_of (compiled_in edition) (history_in rows w) staged (codes_seen w.staged_codes) number at tx
  effect_is (Set sender key value deps) =
      let row : List Dep → Row = λ ds. record { key = key; block = number; tx = at; value = value; deps = ds } in
      ap (λ written. set_effect (meets_conflict written key deps) (row (deps_in w deps))) (written_is w staged are)
      ∙ ap (λ ds. set_effect (meets_conflict (is_written staged) key deps) (row ds)) (deps_are w rows stands deps)
  effect_is (Deploy sender name source) = ap (λ taken. deploy_effect taken name (compiled_in edition source)) (sym (taken_is w name))
  effect_is (Call sender contract function args budget) =
      let site : CallSite = record { contract = contract; function = function; sender = sender; number = number; budget = budget } in
      ap (λ code. call_effect code (scene_of rows (world.is_written w) site) args at) (sym (code_is w.codes contract))
      ∙ ap (λ written. call_effect (code_in (codes_seen w.codes) contract) (scene_of rows written site) args at) (written_is w staged are)
