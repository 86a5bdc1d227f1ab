-- A scene is everything that a call can depend on besides the functions of its contract and its
-- arguments.
use Rattle.std.specs.Prelude.{ℕ, Bool, List, Option}
use Rattle.lc_base.specs.declared.row.Row.{Row}
use Rattle.world_state.specs.declared.held.Held.{Held}
use Rattle.world_state.specs.Rows.{held_in}
use Rattle.contract_semantics.specs.declared.site.CallSite.{CallSite}

-- What keys hold: the newest version of each before the block, and whether the block has written it
-- so far.
pub record Place : Type 0 where
  pub newest : List ℕ → Option Held
  pub written : List ℕ → Bool

-- What a contract can learn where it runs: the rows of the blocks before, what keys hold, and who
-- calls which function in which block.
pub record Scene : Type 0 where
  pub rows : List Row
  pub place : Place
  pub site : CallSite

-- The scene over a history: `rows` are the rows of the blocks before.
abbrev pub scene_of : List Row → (List ℕ → Bool) → CallSite → Scene
scene_of rows written site =
    record { rows = rows; place = record { newest = held_in rows; written = written }; site = site }
