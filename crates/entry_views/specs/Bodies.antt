-- Bytes are read as a body exactly if they begin with its spelling.
use Rattle.std.proofs.Common.{ℕ, List, refl, arith}
use Rattle.byte_fields.proofs.Laws.{IsField, renamed, then_field, made_field}
use Rattle.byte_fields.proofs.Pieces.{piece_field, number_piece, bytes_piece, wide32}
use Rattle.byte_fields.proofs.Fields.{key_field, body_value_field}
use Rattle.lc_base.specs.declared.limits.TheConstants.{MAX_DEPS}
use Rattle.lc_base.specs.declared.value.Value.{Value}
use Rattle.prov_entry.specs.declared.entry.BodyDep.{BodyDep}
use Rattle.prov_entry.specs.declared.entry.Body.{Body}
use Rattle.prov_entry.specs.Spelling.{IsBodyDep, IsBody, body_dep_fields, body_fields}
use Rattle.entry_views.specs.Codecs.{Codec}
use Rattle.entry_views.specs.Reading.{body_dep_of, body_dep_at, body_of, body_at}
use Rattle.entry_views.specs.ShortLists.{short_list_field}

abbrev body_dep_parts : BodyDep → List ℕ × (ℕ × List ℕ)
body_dep_parts dep = (dep.key, (dep.block, dep.digest.0))

-- What is read as a dependency of a body is spelled so, and the other way round.
pub body_dep_field : IsField body_dep_at body_dep_fields IsBodyDep
unfolding body_dep_at
body_dep_field =
    renamed (made_field body_dep_of body_dep_parts (then_field key_field (then_field (piece_field (number_piece wide32)) (piece_field (bytes_piece 32)))) (λ parts is. refl))
    (λ dep is. record { key_is_key = is.0.0; block_fits = is.0.1.0; digest_fits = is.0.1.1 }) (λ dep is. ((is.key_is_key, (is.block_fits, is.digest_fits)), refl)) (λ dep is. refl)

abbrev body_parts : Body → Value × List BodyDep
body_parts body = (body.value, body.deps)

-- What is read as a body is spelled so, and the other way round.
pub body_field : IsField body_at body_fields IsBody
unfolding body_at
body_field =
    renamed (made_field body_of body_parts (then_field body_value_field (short_list_field MAX_DEPS (omega arith) body_dep_field)) (λ parts is. refl))
    (λ body is. record { value_is_value = is.0.0; few_deps = is.0.1.0; deps_are_deps = is.0.1.1 })
    (λ body is. ((is.value_is_value, (is.few_deps, is.deps_are_deps)), refl))
    (λ body is. refl)

-- How bodies are spelled and read.
abbrev pub body_codec : Codec Body
body_codec = record { fields = body_fields; lawful = IsBody; read = body_at; agrees = body_field }
