-- Forward lists: which versions were derived from a version, in the order of their rows, and the
-- digest of such a list.
use Rattle.std.specs.Prelude.{ℕ, List, [], ◌∷◌, ◌++◌}
use Rattle.std.specs.List.{concat, fold}
use Rattle.std.specs.Int.{w32, to_be_bytes}
use Rattle.sha2.specs.Sha256.{sha256}
use Rattle.lc_base.specs.declared.row.Dep.{Dep}
use Rattle.byte_fields.specs.Spelling.{string_fields}
use Rattle.prov_entry.specs.declared.limits.TheConstants.{FORWARD_START, FORWARD_LINK}

-- The text whose digest the empty list has.
abbrev pub start_text : List ℕ
start_text = FORWARD_START ∷ []

-- The digest of the empty list.
abbrev pub no_uses : List ℕ
no_uses = sha256 start_text

-- The fields of one use: its key, and its block.
abbrev pub use_fields : Dep → List (List ℕ)
use_fields use_ = string_fields use_.key ++ to_be_bytes w32 use_.block ∷ []

-- The text that is hashed for one use more, behind those that have this digest.
abbrev pub use_text : List ℕ → Dep → List ℕ
use_text digest use_ = FORWARD_LINK ∷ digest ++ concat (use_fields use_)

-- The digest of a list with one use more.
abbrev pub with_use : List ℕ → Dep → List ℕ
with_use digest use_ = sha256 (use_text digest use_)

-- The digest of a list.
abbrev pub uses_digest : List Dep → List ℕ
uses_digest uses = fold with_use no_uses uses
