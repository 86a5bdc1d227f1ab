-- What always holds of the reads and puts of a transaction.
use Rattle.std.specs.Prelude.{◌≢◌, ◌≤◌, List, length, Some}
use Rattle.std.specs.List.{All, AllPairs, Contains}
use Rattle.lc_base.specs.declared.limits.TheConstants.{MAX_DEPS}
use Rattle.lc_base.specs.declared.row.Dep.{Dep}
use Rattle.lc_base.specs.declared.row.Row.{Row}
use Rattle.dep_capture.specs.declared.limits.TheConstants.{MAX_KEYS_READ, MAX_KEYS_PUT}
use Rattle.dep_capture.specs.declared.access.Read.{Read}
use Rattle.dep_capture.specs.declared.access.Put.{Put}

-- The keys read, in order of first read, and the keys put, in order of first put.
pub record Captured : Type 0 where
  pub reads : List Read
  pub puts : List Put

-- A dependency is backed: its key was read, and had its version in the block of the dependency.
abbrev pub WasBacked : List Read → Dep → Type 0
WasBacked reads dep = Contains reads (record { key = dep.key; version = Some dep.block })

-- At most MAX_DEPS dependencies, none twice, each backed by the reads.
pub record AreBackedDeps (reads : List Read) (deps : List Dep) : Type 0 where
  pub few : length deps ≤ MAX_DEPS
  pub once : AllPairs ◌≢◌ deps
  pub backed : All (WasBacked reads) deps

-- At most MAX_KEYS_READ reads and MAX_KEYS_PUT puts, no two reads and no two puts of one key, and
-- the dependencies of each put are backed by the reads.
pub record IsCapture (reads : List Read) (puts : List Put) : Type 0 where
  pub few_reads : length reads ≤ MAX_KEYS_READ
  pub few_puts : length puts ≤ MAX_KEYS_PUT
  pub reads_once : AllPairs (λ (a b : Read). a.key ≢ b.key) reads
  pub puts_once : AllPairs (λ (a b : Put). a.key ≢ b.key) puts
  pub backed_deps : All (λ (put : Put). AreBackedDeps reads put.deps) puts

-- At most MAX_KEYS_PUT rows, no two of one key, and the dependencies of each are backed by the
-- reads.
pub record AreLawfulRows (reads : List Read) (rows : List Row) : Type 0 where
  pub few : length rows ≤ MAX_KEYS_PUT
  pub keys_once : AllPairs (λ (a b : Row). a.key ≢ b.key) rows
  pub backed_deps : All (λ (row : Row). AreBackedDeps reads row.deps) rows
