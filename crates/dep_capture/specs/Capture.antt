-- What reads and puts do to a capture, and what a put depends on.
use Rattle.std.specs.Prelude.{ℕ, Bool, true, not, ◌&&◌, ◌==◌, nat_le, nat_lt, if◌then◌else◌, List}
use Rattle.std.specs.Prelude.{[], ◌∷◌, ◌++◌, length, map, find, filter_map, Option, Some, None}
use Rattle.std.specs.Prelude.{option_map, Result, Ok, Err}
use Rattle.std.specs.List.{list_any, list_all}
use Rattle.std.specs.Option.{option_and_then}
use Rattle.std.specs.Cmp.Lexicographic.{pointwise}
use Rattle.lc_base.specs.Deps.{without_repeats}
use Rattle.lc_base.specs.declared.limits.TheConstants.{MAX_DEPS}
use Rattle.lc_base.specs.declared.row.Dep.{Dep}
use Rattle.lc_base.specs.declared.row.Row.{Row}
use Rattle.lc_base.specs.declared.value.Value.{Value}
use Rattle.dep_capture.specs.declared.limits.TheConstants.{MAX_KEYS_READ, MAX_KEYS_PUT}
use Rattle.dep_capture.specs.declared.access.Read.{Read}
use Rattle.dep_capture.specs.declared.access.Put.{Put}
use Rattle.dep_capture.specs.declared.error.CaptureError.{CaptureError}
use Rattle.dep_capture.specs.declared.error.CaptureError.TheVariants as errors
use Rattle.dep_capture.specs.Captured.{Captured}
use Rattle.dep_capture.specs.Keyed.{place_of, with_item_at}

-- ---- what was read and put

-- Whether the key was read.
abbrev pub was_read : List Read → List ℕ → Bool
was_read reads key = list_any (λ (read : Read). pointwise ◌==◌ read.key key) reads

-- The read of the key, if it was read.
abbrev pub read_of : List Read → List ℕ → Option Read
read_of reads key = find (λ (read : Read). pointwise ◌==◌ read.key key) reads

-- Whether the key was put.
abbrev pub was_put : List Put → List ℕ → Bool
was_put puts key = list_any (λ (put : Put). pointwise ◌==◌ put.key key) puts

-- The index of the put of the key, if it was put.
abbrev pub index_of : List Put → List ℕ → Option ℕ
index_of puts key = place_of (λ (put : Put). put.key) puts key

-- The value that was put to the key, if it was put.
abbrev pub pending : List Put → List ℕ → Option Value
pending puts key = option_map (λ (put : Put). put.value) (find (λ (put : Put). pointwise ◌==◌ put.key key) puts)

-- ---- what a put depends on

-- The dependency on a key that was read: its version, if it had one.
abbrev pub dep_of_read : Read → Option Dep
dep_of_read read = option_map (λ (block : ℕ). record { key = read.key; block = block }) read.version

-- The dependency on the key, if it was read and had a version.
abbrev pub dep_named : List Read → List ℕ → Option Dep
dep_named reads key = option_and_then dep_of_read (read_of reads key)

-- The dependencies of a put, repeats dropped: on all keys read, in order of first read, if none are
-- named; else on the named keys, in their order.
abbrev pub deps_of : List Read → Option (List (List ℕ)) → List Dep
deps_of reads None = without_repeats (filter_map dep_of_read reads)
deps_of reads (Some keys) = without_repeats (filter_map (dep_named reads) keys)

-- Whether each of the named keys was read, if keys are named.
abbrev pub are_read : List Read → Option (List (List ℕ)) → Bool
are_read reads None = true
are_read reads (Some keys) = list_all (was_read reads) keys

-- ---- what calls do

-- Nothing read and nothing put.
abbrev pub captured_none : Captured
captured_none = record { reads = []; puts = [] }

-- The capture after a read of a key, or why it is refused.
abbrev pub captured_after_read : Captured → List ℕ → Option ℕ → Result Captured CaptureError
captured_after_read captured key version =
    if was_read captured.reads key then Ok captured
    else (if nat_le MAX_KEYS_READ (length captured.reads) then Err errors.TooMany
    else Ok (record captured { reads = captured.reads ++ record { key = key; version = version } ∷ [] }))

-- A put at an index, or after the others if there is no index.
abbrev pub with_put_at : List Put → Option ℕ → Put → List Put
with_put_at puts place put = with_item_at puts place put

-- A put in the place of the earlier put of its key, or else after the others.
abbrev pub with_put : List Put → Put → List Put
with_put puts put = with_put_at puts (index_of puts put.key) put

-- The capture after a put of a value to a key, or why it is refused.
abbrev pub captured_after_put : Captured → List ℕ → Value → Option (List (List ℕ)) → Result Captured CaptureError
captured_after_put captured key value named =
    if not (was_put captured.puts key) && nat_le MAX_KEYS_PUT (length captured.puts) then Err errors.TooMany
    else (if not (are_read captured.reads named) then Err errors.NotRead
    else (if nat_lt MAX_DEPS (length (deps_of captured.reads named)) then Err errors.TooMany
    else Ok (record captured { puts = with_put captured.puts (record { key = key; value = value; deps = deps_of captured.reads named }) })))

-- What an error says of the read or the put: nothing if it is out of memory.
abbrev pub fault_of : CaptureError → Option CaptureError
fault_of errors.NotRead = Some errors.NotRead
fault_of errors.TooMany = Some errors.TooMany
fault_of errors.Memory = None

-- ---- rows

-- The row of a put.
abbrev pub row_of_put : ℕ → ℕ → Put → Row
row_of_put block tx put = record { key = put.key; block = block; tx = tx; value = put.value; deps = put.deps }

-- The rows of puts, in their order.
abbrev pub rows_of_puts : ℕ → ℕ → List Put → List Row
rows_of_puts block tx puts = map (row_of_put block tx) puts
