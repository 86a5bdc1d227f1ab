-- What is known of the file at the path.
use Rattle.std.specs.Prelude.{◌≡◌, ℕ, Bool, true, false, Option, Some, None}
use Rattle.file_machine.specs.declared.calls.Stat.{Stat}
use Rattle.file_machine.specs.Looks.{is_node, is_file_of}
use Rattle.file_machine.specs.declared.log_file.Found.{Found}
use Rattle.file_machine.specs.declared.log_file.Found.TheVariants.{NotLooked, Absent, Open, Locked}

-- The file has been looked for.
abbrev pub IsLooked : Found → Type 0
IsLooked NotLooked = ⊥
IsLooked Absent = Unit {0}
IsLooked (Open node len) = Unit {0}
IsLooked (Locked node len) = Unit {0}

-- The file's lock is held.
abbrev pub IsLocked : Found → Type 0
IsLocked NotLooked = ⊥
IsLocked Absent = ⊥
IsLocked (Open node len) = ⊥
IsLocked (Locked node len) = Unit {0}

-- The file's lock is held, or there is no file.
abbrev pub IsHeld : Found → Type 0
IsHeld NotLooked = ⊥
IsHeld Absent = Unit {0}
IsHeld (Open node len) = ⊥
IsHeld (Locked node len) = Unit {0}

-- A path at which this was seen leads to the file that was opened, or to none if there was none,
-- and a locked file has the length that it must have.
abbrev pub is_in_place : Found → Option Stat → Bool
is_in_place NotLooked seen = false
is_in_place Absent None = true
is_in_place Absent (Some stat) = false
is_in_place (Open node len) None = false
is_in_place (Open node len) (Some stat) = is_node stat.node node
is_in_place (Locked node len) seen = is_file_of node len seen

-- The length of what was seen; 0 if nothing was.
abbrev pub len_of : Option Stat → ℕ
len_of None = 0
len_of (Some stat) = stat.len

-- The file was seen in its place, with this length.
pub record IsSeen (found : Found) (seen : Option Stat) (len : ℕ) : Type 0 where
  pub in_place : is_in_place found seen ≡ true
  pub same : len ≡ len_of seen
