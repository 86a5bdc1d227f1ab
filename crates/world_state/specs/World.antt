-- What a world knows, and when it stands for rows.
use Rattle.std.specs.Prelude.{◌≡◌, ◌==◌, ◌||◌, ℕ, Bool, List, Option, is_some, codes}
use Rattle.std.specs.Map.{lookup}
use Rattle.std.specs.Option.{option_or}
use Rattle.std.specs.Cmp.Lexicographic.{pointwise}
use Rattle.lc_base.specs.declared.row.Row.{Row}
use Rattle.world_state.specs.declared.held.Held.{Held}
use Rattle.world_state.specs.Known.{Known}
use Rattle.world_state.specs.Rows.{is_staged, newest_staged, held_in}

-- The newest version of the key before the block at work.
abbrev pub newest_of : {C : Type 0} → Known C → List ℕ → Option Held
newest_of world key = lookup (pointwise ◌==◌ key) world.newest

-- Whether the block at work has written the key.
abbrev pub is_written : {C : Type 0} → Known C → List ℕ → Bool
is_written world key = is_staged world.staged key

-- The newest version of the key once the block at work is done.
abbrev pub newest_after : {C : Type 0} → Known C → List ℕ → Option Held
newest_after world key = option_or (newest_staged world.staged key) (newest_of world key)

-- The code of the contract of this name that can be called.
abbrev pub code_of : {C : Type 0} → Known C → List ℕ → Option C
code_of world name = lookup (pointwise ◌==◌ name) world.codes

-- Whether the name is `raw`.
abbrev pub is_raw : List ℕ → Bool
is_raw name = pointwise ◌==◌ name (codes "raw")

-- Whether no contract of this name can be deployed.
abbrev pub is_taken : {C : Type 0} → Known C → List ℕ → Bool
is_taken world name =
    is_raw name || (is_some (code_of world name)
    || is_some (lookup (pointwise ◌==◌ name) world.staged_codes))

-- The world knows of each key the newest version in these rows.
abbrev pub StandsForRows : {C : Type 0} → Known C → List Row → Type 0
StandsForRows world rows = (key : List ℕ) → newest_of world key ≡ held_in rows key
