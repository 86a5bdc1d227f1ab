-- What is known if no check fails.
use Rattle.std.proofs.Common.{◌≡◌, ℕ, ◌==◌, ◌&&◌, List, Option, Some, None, Result, Ok, refl}
use Rattle.std.proofs.Common.{sym, inl, inr}
use Rattle.std.specs.Option.{option_map, option_or}
use Rattle.std.specs.Cmp.Lexicographic.{pointwise}
use Rattle.std.proofs.lemmas.Bool.{cases_Bool, and_parts, eqb-true}
use Rattle.std.proofs.lemmas.Option.{none-some}
use Rattle.sha2.specs.Sha256.{sha256}
use Rattle.root_laws.proofs.Keys.{same_key}
use Rattle.proof_codec.specs.merkle_tree.Levels.{digest_of}
use Rattle.root_laws.specs.prov_entry.declared.entry.Header.{Header}
use Rattle.root_laws.specs.prov_entry.declared.entry.Body.{Body}
use Rattle.root_laws.specs.prov_entry.Spelling.{body_text}
use Rattle.proof_checks.specs.declared.reject.Reject.{Reject}
use Rattle.proof_checks.specs.Checks.{root_fault, leaf_fault}
use Rattle.proof_checks.proofs.Tests.{neither as neither_check}
use Rattle.proof_checks.specs.declared.range_proof.RangeProof.{RangeProof}
use Rattle.proof_checks.specs.declared.range_reject.RangeReject.{RangeReject}
use Rattle.proof_checks.specs.declared.range_reject.RangeReject.TheVariants as rejects
use Rattle.proof_checks.specs.RangeChecks.{is_same_range, query_fault, as_range_reject, path_fault}
use Rattle.proof_checks.specs.RangeChecks.{shown_fault, headers_within, body_fault, bodies_fault}
use Rattle.proof_checks.specs.RangeChecks.{fault_in, after}

pub neither : (a b : Option RangeReject) → option_or a b ≡ None → (a ≡ None) × (b ≡ None)
neither None b e = (refl, e)
neither (Some fault) b e = absurd cc

-- A result that comes after a check that may fail.
pub goes_on : {A : Type 0} (fault : Option RangeReject) (rest : Result A RangeReject) (x : A)
    → after fault rest ≡ Ok x → (fault ≡ None) × (rest ≡ Ok x)
goes_on None rest x e = (refl, e)
goes_on (Some fault) rest x e = absurd cc

none_mapped : (fault : Option Reject) → option_map as_range_reject fault ≡ None → fault ≡ None
none_mapped None e = refl
none_mapped (Some fault) e = absurd (none-some (as_range_reject fault) (sym e))

-- The range proof has this key and these blocks.
pub record IsOf (key : List ℕ) (from to : ℕ) (range : RangeProof) : Type 0 where
  pub key_is : range.key ≡ key
  pub from_is : range.from ≡ from
  pub to_is : range.to ≡ to

pub is_of : (key : List ℕ) (from to : ℕ) (range : RangeProof) → query_fault key from to range ≡ None
    → IsOf key from to range
is_of key from to range e = elim (cases_Bool (is_same_range key from to range)) [
  | inr f ↦
      let no : Some rejects.OtherQuery ≡ None = rw f at e in
      absurd (none-some rejects.OtherQuery (sym no))
  | inl t ↦
      let query = and_parts (pointwise ◌==◌ range.key key) (range.from == from && range.to == to)
      t in
      let blocks = and_parts (range.from == from) (range.to == to) query.1 in
      record {
        key_is = same_key range.key key query.0;
        from_is = eqb-true range.from from blocks.0;
        to_is = eqb-true range.to to blocks.1;
      }
]

pub body_passed : (item : ℕ) (header : Header) (body : Body) → body_fault item header body ≡ None
    → sha256 (body_text body) ≡ header.body.0
body_passed item header body e =
    elim (cases_Bool (pointwise ◌==◌ (sha256 (body_text body)) header.body.0)) [
      | inl t ↦ same_key (sha256 (body_text body)) header.body.0 t
      | inr f ↦
          let no : Some (rejects.BodyDiffers item (digest_of (body_text body))) ≡ None =
          rw f at e in
          absurd (none-some (rejects.BodyDiffers item (digest_of (body_text body))) (sym no))
    ]

-- No check fails.
pub record Passes (root : List ℕ) (range : RangeProof) : Type 0 where
  pub root_passes : root_fault root range.leaf_proof ≡ None
  pub leaf_passes : leaf_fault range.key range.leaf_proof ≡ None
  pub path_passes : path_fault range ≡ None
  pub bodies_pass : bodies_fault 0 (headers_within range) range.bodies ≡ None

pub passes : (root : List ℕ) (range : RangeProof) → fault_in root range ≡ None → Passes root range
unfolding fault_in
passes root range e =
    let both = neither (option_map as_range_reject (shown_fault root range))
    (bodies_fault 0 (headers_within range) range.bodies) e in
    let one = neither_check (root_fault root range.leaf_proof)
    (option_or (leaf_fault range.key range.leaf_proof) (path_fault range))
    (none_mapped (shown_fault root range) both.0) in
    let two = neither_check (leaf_fault range.key range.leaf_proof) (path_fault range) one.1 in
    record {
      root_passes = one.0;
      leaf_passes = two.0;
      path_passes = two.1;
      bodies_pass = both.1;
    }

-- If no check fails, there is no fault.
pub no_fault : (root : List ℕ) (range : RangeProof) → Passes root range → fault_in root range ≡ None
unfolding fault_in
no_fault root range pass =
    rw (pass.root_passes, pass.leaf_passes, pass.path_passes) pass.bodies_pass
