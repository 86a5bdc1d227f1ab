-- Whether a key has older versions, for the laws of links.
use Rattle.std.specs.Prelude.{ℕ, Bool, ◌&&◌, ◌==◌, List}
use Rattle.std.specs.List.{list_any}
use Rattle.lc_base.specs.declared.row.Row.{Row}
use Rattle.skip_links.specs.Links.{is_older}

-- Whether a version of the key is in an earlier block.
abbrev pub has_older : List Row → List ℕ → ℕ → Bool
has_older rows key block = list_any (is_older key block) rows

-- Whether a version of the key is in this one of the earlier blocks.
abbrev pub has_older_in : List Row → List ℕ → ℕ → ℕ → Bool
has_older_in rows key block older = list_any (λ row. is_older key block row && row.block == older) rows
