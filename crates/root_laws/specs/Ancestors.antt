-- The ancestors of a version: what it was derived from, what that was derived from, and so on.
use Rattle.std.specs.Prelude.{ℕ, zero, suc, ◌==◌, ◌&&◌, ◌||◌, nat_lt, Bool, if◌then◌else◌}
use Rattle.std.specs.Prelude.{List, [], ◌∷◌, length, reverse, Option, Some, None}
use Rattle.std.specs.List.{find}
use Rattle.lc_base.specs.declared.row.Dep.{Dep}
use Rattle.lc_base.specs.declared.row.Row.{Row}
use Rattle.lc_base.specs.History.{latest}
use Rattle.root_laws.specs.Root.{is_below}
use Rattle.root_laws.specs.WalkLaws.{is_version_in}
use Rattle.root_laws.specs.declared.trace.Trace.{Trace}

-- ---- versions in order, the last one first

-- Whether a version comes after another: its block is later; or both are of the same block, and its
-- key is greater in byte order.
abbrev pub comes_after : Dep → Dep → Bool
comes_after a b = nat_lt b.block a.block || (a.block == b.block && is_below b.key a.key)

-- Items in order of their versions, the last one first, with one more inserted. If an item of the
-- same version is among them, they stay as they are.
abbrev pub inserted : {A : Type 0} → (A → Dep) → A → List A → List A
inserted version_of item [] = item ∷ []
inserted version_of item (first ∷ others) =
    if comes_after (version_of first) (version_of item) then first ∷ inserted version_of item others
    else (if comes_after (version_of item) (version_of first) then item ∷ first ∷ others
    else first ∷ others)

-- The same with several items inserted, one after another.
abbrev pub all_inserted : {A : Type 0} → (A → Dep) → List A → List A → List A
all_inserted version_of [] others = others
all_inserted version_of (item ∷ items) others =
    all_inserted version_of items (inserted version_of item others)

-- A version stands for itself.
abbrev pub itself : Dep → Dep
itself version = version

-- ---- ancestors

-- The row of a version; `None` if the history has none.
abbrev pub row_in : List Row → Dep → Option Row
row_in rows version = find (is_version_in version.key version.block) (reverse rows)

-- What a row was derived from directly; nothing if there is no row.
abbrev pub deps_of : Option Row → List Dep
deps_of None = []
deps_of (Some row) = row.deps

-- What a version of a history was derived from directly.
abbrev pub deps_in : List Row → Dep → List Dep
deps_in rows version = deps_of (row_in rows version)

-- Some versions and all that they were derived from, the last one first, and at most n of them: the
-- last version comes first, and after it come the other versions, those that it was derived from,
-- and all that these were derived from.
unfoldable pub reached_from : ℕ → List Row → List Dep → List Dep
reached_from zero rows versions = []
reached_from (suc n) rows [] = []
reached_from (suc n) rows (last ∷ others) =
    last ∷ reached_from n rows (all_inserted itself (deps_in rows last) others)

-- The ancestors of a row, the first one first: all that is reached from the versions that it was
-- derived from directly. There are no more than rows.
abbrev pub ancestors : List Row → Row → List Dep
ancestors rows row = reverse (reached_from (length rows) rows (all_inserted itself row.deps []))

-- A row's block and its ancestors; `None` if there is no row.
abbrev pub trace_of : List Row → Option Row → Option Trace
trace_of rows None = None
trace_of rows (Some row) = Some (record { block = row.block; ancestors = ancestors rows row })

-- The block of the last version of a key in a block up to `at`, and its ancestors; `None` if there
-- is no such version.
abbrev pub trace_at : List Row → List ℕ → ℕ → Option Trace
trace_at rows key at = trace_of rows (latest rows key at)
