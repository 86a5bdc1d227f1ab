-- What is promised of versions though it is not known which bytes the scratch device holds.
use Rattle.std.specs.Prelude.{◌≡◌, ℕ, List, map}
use Rattle.lc_base.specs.declared.row.Version.{Version}

-- The number of a version's block, and the index of its transaction there.
abbrev pub place_of : Version → ℕ × ℕ
place_of version = (version.block, version.tx)

-- As many versions as these, in the same blocks and of the same transactions. Their values may be
-- others.
abbrev pub AreButForValues : List Version → List Version → Type 0
AreButForValues versions told = map place_of told ≡ map place_of versions
