-- What a disk holds at each moment.
use Rattle.std.specs.Prelude.{◌≡◌, ℕ, ◌≤◌, ◌<◌, List, Option}

-- A disk: its content, its length when it was last synced, the greatest length since then, and the
-- offset and length of each write since then.
pub record DiskState : Type 0 where
  pub content : List ℕ
  pub synced : ℕ
  pub most : ℕ
  pub pending : List (ℕ × ℕ)

-- The disk has this state at each moment after a call's entry, up to its exit, and the moments up
-- to the entry keep the state that they had. So a call that changes the disk also raises the
-- moment.
pub record Turns {D : Type 0} (now : D → ℕ) (disk : D → ℕ → Option DiskState) (old new : D) (state : Option DiskState) : Type 0 where
  pub later : now old ≤ now new
  pub past : (t : ℕ) → t ≤ now old → disk new t ≡ disk old t
  pub here : (t : ℕ) → now old < t → t ≤ now new → disk new t ≡ state
  pub last : disk new (now new) ≡ state

-- A call leaves the disk as it was.
abbrev pub Stays : {D : Type 0} → (D → ℕ) → (D → ℕ → Option DiskState) → D → D → Type 0
Stays now disk old new = Turns now disk old new (disk old (now old))
