-- What is known if nothing fails, and that nothing fails if it is so.
use Rattle.std.proofs.Common.{◌≡◌, ◌∙◌, ℕ, Bool, true, false, ◌==◌, List, [], ◌∷◌, not, nat_lt}
use Rattle.std.proofs.Common.{Result, Ok, Err, refl, sym, ap}
use Rattle.std.specs.List.{list_any}
use Rattle.std.specs.Cmp.Lexicographic.{pointwise}
use Rattle.sha2.specs.Sha256.{sha256}
use Rattle.lc_base.specs.declared.digest.Digest.{Digest}
use Rattle.proof_codec.specs.merkle_tree.Levels.{digest_of}
use Rattle.root_laws.proofs.Keys.{same_key, key_is_key}
use Rattle.root_laws.specs.prov_entry.declared.entry.BodyDep.{BodyDep}
use Rattle.proof_checks.specs.Checks.{dep_of}
use Rattle.root_laws.specs.Ancestors.{inserted, all_inserted}
use Rattle.proof_checks.specs.declared.trace_reject.TraceReject.{TraceReject}
use Rattle.proof_checks.specs.declared.trace_reject.TraceReject.TheVariants as rejects
use Rattle.proof_checks.specs.TraceChecks.{and_then, tested, digest_tested, has_other_digest}
use Rattle.proof_checks.specs.TraceChecks.{with_dep}
use Rattle.proof_checks.specs.TraceChecks.{with_deps}

abbrev pub ok : {A : Type 0} → A → Result A TraceReject
ok x = Ok x

pub same_ok : {A : Type 0} (x y : A) → ok x ≡ Ok y → x ≡ y
same_ok x y e = cc

pub tested_ok : {A : Type 0} (test : Bool) (fault : TraceReject) (rest : Result A TraceReject)
    (x : A) → tested test fault rest ≡ Ok x → (test ≡ true) × (rest ≡ Ok x)
tested_ok true fault rest x e = (refl, e)
tested_ok false fault rest x e = absurd cc

pub digest_ok : {A : Type 0} (text : List ℕ) (digest : Digest) (fault : Digest → TraceReject)
    (rest : Result A TraceReject) (x : A) → digest_tested text digest fault rest ≡ Ok x
    → (sha256 text ≡ digest.0) × (rest ≡ Ok x)
digest_ok text digest fault rest x e =
    let passed = tested_ok (pointwise ◌==◌ (sha256 text) digest.0) (fault (digest_of text)) rest x
    e in
    (same_key (sha256 text) digest.0 passed.0, passed.1)

pub and_then_ok : {A B : Type 0} (first : Result A TraceReject) (next : A → Result B TraceReject)
    (y : B) → and_then first next ≡ Ok y → (x : A) × (first ≡ Ok x) × (next x ≡ Ok y)
and_then_ok (Ok x) next y e = (x, refl, e)
and_then_ok (Err fault) next y e = absurd cc

with_dep_ok : (number block : ℕ) (dep : BodyDep) (wanted next : List BodyDep)
    → with_dep number block dep wanted ≡ Ok next → inserted dep_of dep wanted ≡ next
with_dep_ok number block dep wanted next e =
    let early = tested_ok (nat_lt dep.block block) (rejects.Late number)
    (tested (not (list_any (has_other_digest dep) wanted)) (rejects.Two number)
    (Ok (inserted dep_of dep wanted))) next e in
    let one = tested_ok (not (list_any (has_other_digest dep) wanted)) (rejects.Two number)
    (Ok (inserted dep_of dep wanted)) next early.1 in
    same_ok (inserted dep_of dep wanted) next one.1

pub with_deps_ok : (number block : ℕ) (deps wanted next : List BodyDep)
    → with_deps number block deps wanted ≡ Ok next → all_inserted dep_of deps wanted ≡ next
with_deps_ok number block [] wanted next e = same_ok wanted next e
with_deps_ok number block (dep ∷ deps) wanted next e =
    let first = and_then_ok (with_dep number block dep wanted) (with_deps number block deps) next
    e in
    ap (λ (w : List BodyDep). all_inserted dep_of deps w)
    (with_dep_ok number block dep wanted first.0 first.1)
    ∙ with_deps_ok number block deps first.0 next first.2

-- ---- nothing fails

pub test_passes : {A : Type 0} (test : Bool) (fault : TraceReject) (rest : Result A TraceReject)
    → test ≡ true → tested test fault rest ≡ rest
test_passes test fault rest t = rw t refl

pub digest_passes : {A : Type 0} (text : List ℕ) (digest : Digest) (fault : Digest → TraceReject)
    (rest : Result A TraceReject) → sha256 text ≡ digest.0
    → digest_tested text digest fault rest ≡ rest
digest_passes text digest fault rest e =
    test_passes (pointwise ◌==◌ (sha256 text) digest.0) (fault (digest_of text)) rest
    (ap (λ (own : List ℕ). pointwise ◌==◌ (sha256 text) own) (sym e) ∙ key_is_key (sha256 text))
