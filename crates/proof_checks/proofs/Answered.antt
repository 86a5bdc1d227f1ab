-- If the header before the last records the uses that the proof has, and the last header its body,
-- the proof answers what the latest version does.
use Rattle.std.proofs.Common.{◌≡◌, ◌∙◌, ℕ, true, ◌==◌, List, [], ◌∷◌, ◌++◌, length, map, drop}
use Rattle.std.proofs.Common.{Option, Some, None, is_some, refl, sym, ap}
use Rattle.std.specs.List.{All, AllByRecursion, Contains, concat}
use Rattle.std.specs.Cmp.Lexicographic.{pointwise}
use Rattle.std.proofs.lemmas.Bool.{and_parts, eqb-true}
use Rattle.std.proofs.lemmas.List.{append_cancel_left}
use Rattle.std.proofs.lemmas.Option.{same_Some}
use Rattle.sha2.specs.Sha256.{sha256}
use Rattle.sha2.proofs.Facts256.{length-sha256}
use Rattle.lc_base.specs.declared.row.Row.{Row}
use Rattle.lc_base.specs.declared.row.Dep.{Dep}
use Rattle.lc_base.specs.declared.answer.Kind.{Kind}
use Rattle.lc_base.specs.declared.answer.Kind.TheVariants.{Hist, Back, Fwd}
use Rattle.lc_base.specs.declared.answer.Answer.TheVariants as answers
use Rattle.lc_base.specs.History.{IsLawful, uses, answer_about}
use Rattle.proof_codec.specs.merkle_tree.Clash.{Agree}
use Rattle.proof_codec.specs.merkle_tree.Chains.{AreToldApart}
use Rattle.proof_codec.proofs.merkle_tree.Chained.{list_sound}
use Rattle.proof_codec.proofs.merkle_tree.Sound.{same_front}
use Rattle.root_laws.specs.prov_entry.declared.entry.Header.{Header}
use Rattle.root_laws.specs.prov_entry.declared.entry.BodyDep.{BodyDep}
use Rattle.root_laws.specs.prov_entry.declared.entry.Body.{Body}
use Rattle.root_laws.specs.prov_entry.Spelling.{IsBody, body_text}
use Rattle.root_laws.specs.prov_entry.ForwardLists.{start_text, no_uses, use_text, use_fields}
use Rattle.root_laws.specs.prov_entry.ForwardLists.{uses_digest}
use Rattle.proof_codec.proofs.entry_views.Determined.{determined}
use Rattle.root_laws.specs.Naming.{header_of, body_of, named_before, with_digest}
use Rattle.root_laws.proofs.Lists.{contained}
use Rattle.root_laws.proofs.Keys.{same_key}
use Rattle.proof_codec.specs.Spelling.{IsUse, AreUses, IsIfAny, asks_uses}
use Rattle.proof_codec.proofs.Uses.{use_field}
use Rattle.proof_checks.specs.declared.claim.Claim.{Claim}
use Rattle.proof_checks.specs.declared.reject.Reject.TheVariants as rejects
use Rattle.root_laws.specs.TypedLedger.{IsTypedRow}
use Rattle.proof_checks.specs.ProofTexts.{texts_of_uses, uses_texts, body_texts}
use Rattle.proof_checks.specs.Checks.{fault_of_body, fault_of_uses, answer_by, answer_from, dep_of}
use Rattle.proof_checks.proofs.Tests.{passed}
use Rattle.proof_checks.proofs.Parts.{alone}
use Rattle.proof_checks.proofs.Told.{body_told}
use Rattle.proof_checks.proofs.Uses.{uses_are_uses}
use Rattle.proof_checks.proofs.Onward.{claim_of_uses}

-- ---- the body

-- The body that is there is the row's.
pub shown_body : (rows : List Row) (row : Row) (last : Header) (body : Option Body) → IsLawful rows → All IsTypedRow rows → Contains rows row → last ≡ header_of rows row → is_some body ≡ true → IsIfAny IsBody body
    → fault_of_body (Some last) body ≡ None → Agree (body_texts body) (body_text (body_of rows row) ∷ []) → body ≡ Some (body_of rows row)
shown_body rows row last None lawful are has last_is there is passes agree = absurd cc
shown_body rows row last (Some body) lawful are has last_is there is passes agree =
    let digests : sha256 (body_text body) ≡ last.body.0 = same_key (sha256 (body_text body)) last.body.0 (passed _ _ passes) in
    ap (λ (b : Body). Some b)
    (body_told rows lawful are (body_text body ∷ []) (body_text (body_of rows row) ∷ []) agree row has body is (alone (body_text body)) (alone (body_text (body_of rows row))) (digests ∙ ap (λ (h : Header). h.body.0) last_is))

deps_are : (named : List BodyDep) (deps : List Dep)
    → map dep_of (map (with_digest named) deps) ≡ deps
deps_are named [] = refl
deps_are named (dep ∷ deps) = ap (λ (t : List Dep). dep ∷ t) (deps_are named deps)

-- ---- without a body

pub no_body_fault : (last : Option Header) (body : Option Body) → body ≡ None
    → fault_of_body last body ≡ None
no_body_fault None body e = refl
no_body_fault (Some last) None e = refl
no_body_fault (Some last) (Some body) e = absurd cc

pub no_answer : (kind : Kind) (last : Option Header) (body : Option Body) (list : Option (List Dep))
    → body ≡ None → answer_from kind last body list ≡ answers.Nothing
no_answer kind None body list e = refl
no_answer kind (Some last) None list e = refl
no_answer kind (Some last) (Some body) list e = absurd cc

-- ---- the uses

uses_told_apart : (xs ys : List Dep) → AllByRecursion IsUse xs → AllByRecursion IsUse ys
    → AreToldApart use_text xs ys
uses_told_apart xs ys all all' = record {
  apart = λ d e x y in_xs in_ys d_long e_long same.
      let tails : d ++ concat (use_fields x) ≡ e ++ concat (use_fields y) = ap (drop 1) same in
      let digests : d ≡ e = same_front d (concat (use_fields x)) e (concat (use_fields y)) (d_long ∙ sym e_long) tails in
      let fields : concat (use_fields x) ≡ concat (use_fields y) = append_cancel_left d (concat (use_fields x)) (concat (use_fields y)) (tails ∙ ap (λ (t : List ℕ). t ++ concat (use_fields y)) (sym digests)) in
      (digests, (determined use_field x y [] [] (contained IsUse xs x all in_xs) (contained IsUse ys y all' in_ys) (ap (λ (t : List ℕ). t ++ []) fields)).0);
}

same_uses : (xs ys : List Dep) → AllByRecursion IsUse xs → AllByRecursion IsUse ys
    → Agree (texts_of_uses xs) (texts_of_uses ys)
    → fault_of_uses (claim_of_uses ys) (Some xs) ≡ None → xs ≡ ys
same_uses xs ys all all' agree e =
    let parts = and_parts (length xs == length ys) (pointwise ◌==◌ (uses_digest xs) (uses_digest ys)) (passed _ (rejects.ListDiffers (record { 0 = uses_digest xs })) e) in
    (list_sound use_text no_uses no_uses xs ys (uses_told_apart xs ys all all') (eqb-true (length xs) (length ys) parts.0) (length-sha256 start_text) (length-sha256 start_text) agree (same_key (uses_digest xs) (uses_digest ys) parts.1)).1

-- ---- the answer

-- What is known of a proof whose last header is that of the version that answers.
pub record IsKnown (rows : List Row) (key : List ℕ) (kind : Kind) (row : Row) (last : Header) (claim : Claim) (body : Option Body) (list : Option (List Dep)) : Type 0 where
  pub there : Contains rows row
  pub last_is : last ≡ header_of rows row
  pub claim_is : claim ≡ claim_of_uses (uses rows key row.block)
  pub body_there : is_some body ≡ true
  pub body_is_body : IsIfAny IsBody body
  pub uses_there : is_some list ≡ asks_uses kind (is_some body)
  pub uses_are_uses : IsIfAny AreUses list
  pub body_passes : fault_of_body (Some last) body ≡ None
  pub uses_pass : fault_of_uses claim list ≡ None
  pub bodies_agree : Agree (body_texts body) (body_text (body_of rows row) ∷ [])
  pub uses_agree : Agree (uses_texts list) (texts_of_uses (uses rows key row.block))

pub answer_is : (rows : List Row) (key : List ℕ) (kind : Kind) (row : Row) (last : Header) (body : Body) (list : Option (List Dep)) → last ≡ header_of rows row → body ≡ body_of rows row
    → is_some list ≡ asks_uses kind true → ((own : List Dep) → list ≡ Some own → own ≡ uses rows key row.block) → answer_by kind last body list ≡ answer_about rows kind key row
answer_is rows key Hist row last body list last_is body_is there uses_are =
    rw (last_is, body_is) refl
answer_is rows key Back row last body list last_is body_is there uses_are = rw (last_is, body_is) (ap (answers.Back row.block) (deps_are (named_before rows row.block) row.deps))
answer_is rows key Fwd row last body None last_is body_is there uses_are = absurd cc
answer_is rows key Fwd row last body (Some own) last_is body_is there uses_are =
    rw last_is (ap (answers.Fwd row.block) (uses_are own refl))

pub answered : (rows : List Row) (key : List ℕ) (kind : Kind) (row : Row) (last : Header) (claim : Claim) (body : Option Body) (list : Option (List Dep)) → IsLawful rows → All IsTypedRow rows
    → IsKnown rows key kind row last claim body list → answer_from kind (Some last) body list ≡ answer_about rows kind key row
answered rows key kind row last claim None list lawful are told =
    absurd (let no = told.body_there in cc)
answered rows key kind row last claim (Some body) list lawful are told =
    let body_is : body ≡ body_of rows row = same_Some body (body_of rows row) (shown_body rows row last (Some body) lawful are told.there told.last_is refl told.body_is_body told.body_passes told.bodies_agree) in
    answer_is rows key kind row last body list told.last_is body_is told.uses_there (same_list list told.uses_are_uses told.uses_agree (ap (λ (c : Claim). fault_of_uses c list) (sym told.claim_is) ∙ told.uses_pass))
  where
    same_list : (list : Option (List Dep)) → IsIfAny AreUses list → Agree (uses_texts list) (texts_of_uses (uses rows key row.block)) → fault_of_uses (claim_of_uses (uses rows key row.block)) list ≡ None
        → (own : List Dep) → list ≡ Some own → own ≡ uses rows key row.block
    same_list None is agree e own there = absurd cc
    same_list (Some xs) is agree e own there =
        let same : xs ≡ own = cc in
        sym same ∙ same_uses xs (uses rows key row.block) is.uses_are_uses (uses_are_uses rows are key row.block) agree e
