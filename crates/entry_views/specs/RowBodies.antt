-- The body that bytes spell; it is total, so that each list of bytes is read as some body.
use Rattle.std.specs.Prelude.{pos, [], Option, Some, None, Ok, Err}
use Rattle.lc_base.specs.declared.row.Dep.{Dep}
use Rattle.lc_base.specs.declared.value.Value.TheVariants.{Int}
use Rattle.byte_fields.specs.Reading.{Field}
use Rattle.prov_entry.specs.declared.entry.Body.{Body}
use Rattle.prov_entry.specs.declared.entry.BodyDep.{BodyDep}
use Rattle.entry_views.specs.Placed.{Placed}

-- The value 0 without dependencies.
abbrev pub no_body : Body
no_body = record { value = Int (pos 0); deps = [] }

-- The body that was read; the value 0 without dependencies if none was.
abbrev pub body_read : Field Body → Body
body_read (Ok read) = read.0
body_read (Err left) = no_body

-- The body that was found in bytes; the value 0 without dependencies if none was.
abbrev pub body_standing : Option (Placed Body) → Body
body_standing (Some body) = body.value
body_standing None = no_body

-- A dependency without the digest.
abbrev pub dep_without_digest : BodyDep → Dep
dep_without_digest dep = record { key = dep.key; block = dep.block }
