-- The digests by which later texts name versions.
use Rattle.std.proofs.Common.{◌≡◌, ◌∙◌, ℕ, suc, ◌<◌, List, map, sym, ap, ap₂, arith}
use Rattle.std.specs.List.{Contains}
use Rattle.lc_base.specs.declared.digest.Digest.{Digest}
use Rattle.lc_base.specs.declared.row.Row.{Row}
use Rattle.lc_base.specs.declared.row.Dep.{Dep}
use Rattle.lc_base.specs.History.{IsLawful}
use Rattle.root_laws.specs.prov_entry.declared.entry.BodyDep.{BodyDep}
use Rattle.root_laws.specs.Naming.{named_before, digest_among, with_digest, body_of}
use Rattle.root_laws.specs.NamingLaws.{digest_of_row}
use Rattle.root_laws.proofs.Lists.{all_weaker, map_on}
use Rattle.root_laws.proofs.Headers.{row_is_named}
use Rattle.root_laws.proofs.Versions.{IsVersion, IsEarlier, deps_are_earlier}

-- A version with the digest of its header.
abbrev pub named : List Row → Dep → BodyDep
named rows version = with_digest (named_before rows (suc version.block)) version

digest_is : (rows : List Row) (version : Dep) (m : ℕ) → IsLawful rows
    → (is : IsVersion rows version) → version.block < m
    → digest_among (named_before rows m) version.key version.block ≡ digest_of_row rows is.row
digest_is rows version m lawful is low =
    ap₂ (λ (key : List ℕ) (block : ℕ). digest_among (named_before rows m) key block) (sym is.key_is)
    (sym is.block_is) ∙ row_is_named rows is.row m lawful is.there
    (omega (arith, low, is.block_is))

pub named_is : (rows : List Row) (version : Dep) → IsLawful rows → (is : IsVersion rows version)
    → (named rows version).digest ≡ digest_of_row rows is.row
named_is rows version lawful is = digest_is rows version (suc version.block) lawful is (omega arith)

abbrev name_of : Dep → Digest → BodyDep
name_of version digest = record { key = version.key; block = version.block; digest = digest }

-- Bodies name dependencies so.
pub deps_are_named : (rows : List Row) (row : Row) → IsLawful rows → Contains rows row
    → (body_of rows row).deps ≡ map (named rows) row.deps
deps_are_named rows row lawful has =
    map_on (with_digest (named_before rows row.block)) (named rows) row.deps
    (all_weaker (IsEarlier rows row.block)
    (λ (dep : Dep). with_digest (named_before rows row.block) dep ≡ named rows dep)
    (λ dep is. ap (name_of dep)
    (digest_is rows dep row.block lawful is.is_version is.before
    ∙ sym (named_is rows dep lawful is.is_version)))
    row.deps (deps_are_earlier rows row lawful has))
