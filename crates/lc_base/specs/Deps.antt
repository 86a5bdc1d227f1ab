-- Dependencies of a version, without repeats.
use Rattle.std.specs.Prelude.{Bool, ◌&&◌, not, ◌==◌, if◌then◌else◌, List, [], ◌∷◌, ◌++◌, filter}
use Rattle.std.specs.List.{list_any}
use Rattle.std.specs.Cmp.Lexicographic.{pointwise}
use Rattle.lc_base.specs.declared.row.Dep.{Dep}

-- Whether two dependencies are the same.
abbrev pub is_same_dep : Dep → Dep → Bool
is_same_dep a b = pointwise ◌==◌ a.key b.key && a.block == b.block

-- Each dependency once, at its first place.
abbrev pub without_repeats : List Dep → List Dep
without_repeats [] = []
without_repeats (dep ∷ deps) =
    dep ∷ filter (λ other. not (is_same_dep dep other)) (without_repeats deps)

-- Whether a dependency is among others.
abbrev pub is_among : List Dep → Dep → Bool
is_among deps dep = list_any (λ other. is_same_dep other dep) deps

-- The dependency after the others, unless it is among them.
abbrev pub with_once : List Dep → Dep → List Dep
with_once deps dep = if is_among deps dep then deps else deps ++ dep ∷ []
