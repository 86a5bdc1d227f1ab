-- Histories: the written versions of all keys, in order.
use Rattle.std.specs.Prelude.{◌≡◌, ℕ, ◌<◌, ◌≤◌, ◌≢◌, ◌⊎◌, Bool, ◌&&◌, ◌==◌, nat_lt, nat_le, List, length, filter, map, reverse, Option, None, Some, IsSomeAnd}
use Rattle.std.specs.List.{find, list_any, All, AllPairs}
use Rattle.std.specs.Cmp.Lexicographic.{pointwise}
use Rattle.lc_base.specs.declared.limits.TheConstants.{MAX_DEPS, MAX_ROWS}
use Rattle.lc_base.specs.declared.row.Dep.{Dep}
use Rattle.lc_base.specs.declared.row.Row.{Row}
use Rattle.lc_base.specs.declared.answer.Query.{Query}
use Rattle.lc_base.specs.declared.answer.Answer.{Answer}
use Rattle.lc_base.specs.declared.answer.Answer.TheVariants as answers
use Rattle.lc_base.specs.declared.answer.Kind.{Kind}
use Rattle.lc_base.specs.declared.answer.Kind.TheVariants as kinds

-- The rows of blocks before this one.
abbrev pub below : List Row → ℕ → List Row
below rows block = filter (λ row. nat_lt row.block block) rows

-- The rows of blocks up to this one.
abbrev pub up_to : List Row → ℕ → List Row
up_to rows block = filter (λ row. nat_le row.block block) rows

-- The last row of a key.
abbrev pub newest : List Row → List ℕ → Option Row
newest rows key = find (λ row. pointwise ◌==◌ row.key key) (reverse rows)

-- Whether a row is a version of the key in a block up to this one.
abbrev pub is_version : List ℕ → ℕ → Row → Bool
is_version key at row = pointwise ◌==◌ row.key key && nat_le row.block at

-- The last row of the key with a block up to this one.
abbrev pub latest : List Row → List ℕ → ℕ → Option Row
latest rows key at = find (is_version key at) (reverse rows)

-- ---- lawful histories

-- One row is before another: its block is earlier; or both are of the same block, its transaction
-- is no later, and its key is another.
abbrev pub StandsBefore : Row → Row → Type 0
StandsBefore a b = (a.block < b.block) ⊎ ((a.block ≡ b.block) × (a.tx ≤ b.tx) × (a.key ≢ b.key))

-- A dependency of a row: it names the newest version of its key before the row's block.
abbrev pub IsRecordedFrom : List Row → Row → Dep → Type 0
IsRecordedFrom rows row dep = IsSomeAnd (newest (below rows row.block) dep.key) (λ version. version.block ≡ dep.block)

-- At most MAX_DEPS dependencies, without repeats, each the newest version of its key before the
-- row's block.
pub record HasLawfulDeps (rows : List Row) (row : Row) : Type 0 where
  pub few : length row.deps ≤ MAX_DEPS
  pub once : AllPairs ◌≢◌ row.deps
  pub newest : All (IsRecordedFrom rows row) row.deps

-- A lawful history: the rows are in order of block and transaction, no block writes a key twice,
-- and each row has lawful dependencies.
pub record IsLawful (rows : List Row) : Type 0 where
  pub few : length rows ≤ MAX_ROWS
  pub ordered : AllPairs StandsBefore rows
  pub lawful_deps : All (HasLawfulDeps rows) rows

-- ---- answers

-- Whether a row was derived from the version of this key in this block.
abbrev pub depends_on : List ℕ → ℕ → Row → Bool
depends_on key block row = list_any (λ dep. pointwise ◌==◌ dep.key key && dep.block == block) row.deps

-- A version as a dependency of others.
abbrev pub version_of : Row → Dep
version_of row = record { key = row.key; block = row.block }

-- The versions that were derived from the version of this key in this block, in the order of their
-- rows.
abbrev pub uses : List Row → List ℕ → ℕ → List Dep
uses rows key block = map version_of (filter (depends_on key block) rows)

-- The answer of this kind about the version of a row.
abbrev pub answer_about : List Row → Kind → List ℕ → Row → Answer
answer_about rows kinds.Hist key row = answers.Hist row.block row.tx row.value
answer_about rows kinds.Back key row = answers.Back row.block row.deps
answer_about rows kinds.Fwd key row = answers.Fwd row.block (uses rows key row.block)

-- The answer about a version, or `Nothing` if there is no version.
abbrev pub answer_of : List Row → Query → Option Row → Answer
answer_of rows query None = answers.Nothing
answer_of rows query (Some row) = answer_about rows query.kind query.key row

-- The answer to a question, found by scanning all rows.
abbrev pub scan : List Row → Query → Answer
scan rows query = answer_of rows query (latest rows query.key query.at)
