-- A dependency passes both of its checks, and becomes wanted.
use Rattle.std.proofs.Common.{◌≡◌, ℕ, ◌<◌, false, List, Ok}
use Rattle.std.proofs.Common.{Result, Err, OnErr, refl}
use Rattle.std.specs.List.{list_any}
use Rattle.std.proofs.lemmas.Bool.{lt-ltb}
use Rattle.prov_entry.specs.declared.entry.BodyDep.{BodyDep}
use Rattle.proof_verifier.specs.proof_checks.Checks.{dep_of}
use Rattle.root_laws.specs.Ancestors.{inserted}
use Rattle.root_laws.specs.Naming.{is_named}
use Rattle.proof_verifier.specs.proof_checks.TraceChecks.{has_other_digest, with_dep}
use Rattle.trace_verifier.specs.Wanting.{BecomesWanted}

pub one_added : (item block : ℕ) (dep : BodyDep) (wanted : List BodyDep) → dep.block < block
    → list_any (has_other_digest dep) wanted ≡ false
    → with_dep item block dep wanted ≡ Ok (inserted dep_of dep wanted)
one_added item block dep wanted low other = rw (lt-ltb dep.block block low, other) refl

pub becomes_wanted : (block : ℕ) (dep : BodyDep) (wanted : List BodyDep) → dep.block < block
    → list_any (is_named dep.key dep.block) wanted ≡ false → BecomesWanted block dep wanted
becomes_wanted block dep wanted low none = record { earlier = low; not_yet = none }

-- What holds anyway holds if there is an error.
pub on_error : {T E : Type 0} (result : Result T E) (P : Type 0) → P → OnErr result P
on_error (Ok done) P is = tt
on_error (Err error) P is = is
