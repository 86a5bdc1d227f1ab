-- What a reader of bodies finds at the start of bytes is the body that they spell.
use Rattle.std.proofs.Common.{◌≡◌, ℕ, ◌+◌, List, [], ◌∷◌, ◌++◌, map, take, Result, Ok, Err, Some}
use Rattle.std.proofs.Common.{refl, sym, ap, ◌∙◌}
use Rattle.std.specs.List.{concat, slice_get}
use Rattle.std.specs.Option.{option_map}
use Rattle.std.proofs.lemmas.List.{append-nil, take_more, map_push}
use Rattle.std.proofs.lemmas.Option.{slice_get-map, slice_get_within, get_or_from_slice_get}
use Rattle.lc_base.specs.declared.row.Dep.{Dep}
use Rattle.byte_fields.specs.Reading.{Field}
use Rattle.prov_entry.specs.declared.entry.Body.{Body}
use Rattle.prov_entry.specs.declared.entry.BodyDep.{BodyDep}
use Rattle.prov_entry.specs.Spelling.{IsBody, body_fields}
use Rattle.entry_views.specs.declared.fault.FieldError.{FieldError}
use Rattle.entry_views.specs.Placed.{Placed}
use Rattle.entry_views.specs.Reading.{body_at}
use Rattle.entry_views.specs.Standing.{placed_value, read_from}
use Rattle.entry_views.specs.Bodies.{body_field}
use Rattle.entry_views.specs.RowBodies.{no_body, body_read, dep_without_digest}

-- the fields of a body are read as the body
pub body_back : (body : Body) → IsBody body → body_read (body_at (concat (body_fields body))) ≡ body
body_back body is =
    ap (λ (bytes : List ℕ). body_read (body_at bytes))
    (sym (append-nil (concat (body_fields body)))) ∙ ap body_read (body_field.again body [] is)

-- the body that a reader of bodies returns
abbrev body_given : Result (Placed Body) FieldError → Body
body_given (Ok body) = body.value
body_given (Err error) = no_body

given_is : (offset total : ℕ) (read : Field Body)
    → body_given (placed_value offset total read) ≡ body_read read
given_is offset total (Ok read) = refl
given_is offset total (Err left) = refl

pub is_read : (bytes : List ℕ) (body : Placed Body) → Ok body ≡ read_from body_at bytes 0
    → body.value ≡ body_read (body_at bytes)
is_read bytes body is = ap body_given is ∙ given_is _ _ (body_at bytes)

pub is_none : (bytes : List ℕ) (error : FieldError) → Err error ≡ read_from body_at bytes 0
    → no_body ≡ body_read (body_at bytes)
is_none bytes error is = ap body_given is ∙ given_is _ _ (body_at bytes)

pub dep_is : (deps : List BodyDep) (index : ℕ)
    → slice_get (map dep_without_digest deps) index ≡ option_map dep_without_digest
    (slice_get deps index)
dep_is deps index = slice_get-map dep_without_digest deps index

-- ---- lists of dependencies

take_one : (deps : List BodyDep) (i : ℕ) (dep : BodyDep) → Some dep ≡ slice_get deps i
    → take i deps ++ dep ∷ [] ≡ take (i + 1) deps
take_one deps i dep is =
    ap (λ (d : BodyDep). take i deps ++ d ∷ [])
    (sym (get_or_from_slice_get deps i dep dep (sym is)))
    ∙ sym (take_more deps i dep (slice_get_within deps i dep (sym is)))

-- one dependency more
pub one_more : (deps list : List BodyDep) (i : ℕ) (dep : BodyDep) → list ≡ take i deps
    → Some dep ≡ slice_get deps i → list ++ dep ∷ [] ≡ take (i + 1) deps
one_more deps list i dep before is = ap (λ (l : List BodyDep). l ++ dep ∷ []) before
    ∙ take_one deps i dep is

pub one_more_named : (deps : List BodyDep) (list : List Dep) (i : ℕ) (dep : BodyDep)
    → list ≡ map dep_without_digest (take i deps) → Some dep ≡ slice_get deps i
    → list ++ dep_without_digest dep ∷ [] ≡ map dep_without_digest (take (i + 1) deps)
one_more_named deps list i dep before is =
    ap (λ (l : List Dep). l ++ dep_without_digest dep ∷ []) before
    ∙ sym (map_push dep_without_digest (take i deps) dep)
    ∙ ap (map dep_without_digest) (take_one deps i dep is)
