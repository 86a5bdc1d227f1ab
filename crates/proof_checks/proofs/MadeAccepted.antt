-- The proof made of a history passes every check, and its answer is the history's.
use Rattle.std.proofs.Common.{◌≡◌, ◌∙◌, ◌⊎◌, ℕ, suc, Bool, true, false, nat_le, List, [], ◌∷◌}
use Rattle.std.proofs.Common.{length, Option, Some, None, Result, Ok, is_some, refl, sym, ap, ap₂}
use Rattle.std.proofs.Common.{subst, arith, inl, inr}
use Rattle.std.specs.List.{All, Contains, filter_map}
use Rattle.std.specs.Option.{option_map}
use Rattle.std.proofs.lemmas.Bool.{cases_Bool, eq-eqb}
use Rattle.std.proofs.lemmas.Option.{none-some}
use Rattle.sha2.specs.Sha256.{sha256}
use Rattle.lc_base.specs.declared.row.Row.{Row}
use Rattle.lc_base.specs.declared.row.Dep.{Dep}
use Rattle.lc_base.specs.declared.answer.Kind.{Kind}
use Rattle.lc_base.specs.declared.answer.Kind.TheVariants.{Hist, Back, Fwd}
use Rattle.lc_base.specs.declared.answer.Answer.{Answer}
use Rattle.lc_base.specs.History.{IsLawful, up_to, newest, latest, uses, answer_of, scan}
use Rattle.root_laws.specs.prov_entry.declared.entry.Header.{Header}
use Rattle.root_laws.specs.prov_entry.declared.entry.Body.{Body}
use Rattle.root_laws.specs.prov_entry.Spelling.{body_text}
use Rattle.root_laws.specs.prov_entry.ForwardLists.{uses_digest}
use Rattle.root_laws.specs.Naming.{header_of, body_of}
use Rattle.root_laws.specs.Root.{leaves, root_text, digest_at, root_of}
use Rattle.root_laws.proofs.Keys.{key_is_key}
use Rattle.proof_codec.specs.declared.proof.Proof.{Proof}
use Rattle.proof_codec.specs.Spelling.{last_of, asks_uses}
use Rattle.proof_checks.specs.declared.reject.Reject.{Reject}
use Rattle.proof_checks.specs.declared.reject.Reject.TheVariants as rejects
use Rattle.proof_checks.specs.Checks.{unless, first_fault, fault_in, answer_in, answer_from, after}
use Rattle.proof_checks.specs.Checks.{judgement, root_fault, leaf_fault, path_fault, body_fault}
use Rattle.proof_checks.specs.Checks.{uses_fault, fault_of_body, fault_of_uses, is_of_key}
use Rattle.proof_checks.specs.Checks.{expected_first, expected_after, claim_of_leaf, claim_before}
use Rattle.root_laws.specs.TypedLedger.{IsTypedRow}
use Rattle.skip_links.specs.Paths.{path_from}
use Rattle.skip_links.proofs.OverRows.{path_turns, path_none}
use Rattle.skip_links.specs.Links.{links}
use Rattle.proof_checks.specs.Making.{header_in, uses_if, IsMade, MadeProofsAreAccepted}
use Rattle.root_laws.proofs.Parts.{lawful_up_to, rows_up_to}
use Rattle.proof_checks.proofs.Rows.{latest_none}
use Rattle.root_laws.proofs.Spellings.{IsOneOf, newest_of_key}
use Rattle.proof_checks.proofs.Beginning.{no_version_of, own_key, begins, stands}
use Rattle.proof_checks.proofs.Onward.{claim_of_uses}
use Rattle.proof_checks.proofs.Walked.{walk_fault, path_is, Ends}
use Rattle.proof_checks.proofs.Answered.{answer_is, no_answer, no_body_fault}
use Rattle.proof_checks.proofs.MadeWalks.{made_walk}
use Rattle.proof_checks.proofs.MadeLeaf.{made_root, made_one}
use Rattle.proof_checks.proofs.Tests.{own_verdict}

abbrev pub given : Answer → Result Answer Reject
given answer = Ok answer

-- If none of the five checks fails, there is no fault.
none_fails : (a b c d e : Option Reject) → a ≡ None → b ≡ None → c ≡ None → d ≡ None → e ≡ None
    → first_fault (a ∷ b ∷ c ∷ d ∷ e ∷ []) ≡ None
none_fails a b c d e a_is b_is c_is d_is e_is = rw (a_is, b_is, c_is, d_is, e_is) refl

-- A claim made from a list passes the check of that list.
own_claim : (list : List Dep) → fault_of_uses (claim_of_uses list) (Some list) ≡ None
own_claim list = rw (eq-eqb (length list) (length list) refl, key_is_key (uses_digest list)) refl

own_body : (rows : List Row) (row : Row)
    → fault_of_body (Some (header_of rows row)) (Some (body_of rows row)) ≡ None
own_body rows row = rw (key_is_key (sha256 (body_text (body_of rows row)))) refl

module _ (rows : List Row) (block : ℕ) (digest : List ℕ) (proof : Proof) (lawful : IsLawful rows) (are : All IsTypedRow rows) (made : IsMade rows block digest proof) where
  abbrev key : List ℕ
  key = proof.query.key

  abbrev at : ℕ
  at = proof.query.at

  abbrev root : List ℕ
  root = sha256 (root_text block digest (leaves rows))

  root_passes : root_fault root proof.leaf_proof ≡ None
  root_passes = made_root rows block digest key proof.leaf_proof lawful made.leaf_proof_is

  leaf_passes : leaf_fault key proof.leaf_proof ≡ None
  leaf_passes = ap (λ (test : Bool). unless test rejects.LeafShape) made.leaf_proof_is.leaf_covers

  one : IsOneOf rows lawful are proof.leaf_proof.leaf
  one = made_one rows block digest key proof.leaf_proof lawful made.leaf_proof_is are

  -- If the headers pass and no version answers, the answer is the scan's.
  nothing : path_fault proof ≡ None → latest rows key at ≡ None
      → judgement root proof ≡ Ok (scan rows proof.query)
  unfolding fault_in answer_in
  nothing passes none =
      let body : proof.body ≡ None = made.body_is ∙ ap (option_map (body_of rows)) none in
      let list : proof.uses ≡ None = made.uses_are ∙ ap (λ (o : Option Row). uses_if proof.query.kind (option_map (λ (row : Row). uses rows key row.block) o)) none ∙ no_list proof.query.kind in
      let all = none_fails _ _ _ _ _ root_passes leaf_passes passes (no_body_fault (last_of proof.headers) proof.body body) (ap (fault_of_uses (claim_before (claim_of_leaf proof.leaf_proof.leaf) proof.headers)) list) in
      ap (λ (fault : Option Reject). after fault (given (answer_from proof.query.kind (last_of proof.headers) proof.body proof.uses))) all
      ∙ ap (λ (answer : Answer). given answer) (no_answer proof.query.kind (last_of proof.headers) proof.body proof.uses body ∙ sym (ap (answer_of rows proof.query) none))
    where
      no_list : (kind : Kind) → uses_if kind None ≡ None
      no_list Hist = refl
      no_list Back = refl
      no_list Fwd = refl

  -- If the headers pass and a version answers, the answer is the scan's.
  something : path_fault proof ≡ None → (row : Row) → latest rows key at ≡ Some row → last_of proof.headers ≡ Some (header_of rows row) → claim_before (claim_of_leaf proof.leaf_proof.leaf) proof.headers ≡ claim_of_uses (uses rows key row.block)
      → judgement root proof ≡ Ok (scan rows proof.query)
  unfolding fault_in answer_in
  something passes row found last claim =
      let body : proof.body ≡ Some (body_of rows row) = made.body_is ∙ ap (option_map (body_of rows)) found in
      let list : proof.uses ≡ uses_if proof.query.kind (Some (uses rows key row.block)) = made.uses_are ∙ ap (λ (o : Option Row). uses_if proof.query.kind (option_map (λ (r : Row). uses rows key r.block) o)) found in
      let body_passes : body_fault proof ≡ None = ap₂ fault_of_body last body ∙ own_body rows row in
      let uses_pass : uses_fault proof ≡ None = ap₂ fault_of_uses claim list ∙ own_list proof.query.kind in
      let all = none_fails _ _ _ _ _ root_passes leaf_passes passes body_passes uses_pass in
      ap (λ (fault : Option Reject). after fault (given (answer_from proof.query.kind (last_of proof.headers) proof.body proof.uses))) all
      ∙ ap (λ (answer : Answer). given answer) (
      ap (λ (o : Option Header). answer_from proof.query.kind o proof.body proof.uses) last
      ∙ ap (λ (o : Option Body). answer_from proof.query.kind (Some (header_of rows row)) o proof.uses) body
      ∙ ap (λ (o : Option (List Dep)). answer_from proof.query.kind (Some (header_of rows row)) (Some (body_of rows row)) o) list
      ∙ answer_is rows key proof.query.kind row (header_of rows row) (body_of rows row) (uses_if proof.query.kind (Some (uses rows key row.block))) refl refl (asked proof.query.kind) (same_list proof.query.kind)
      ∙ sym (ap (answer_of rows proof.query) found))
    where
      own_list : (kind : Kind)
          → fault_of_uses (claim_of_uses (uses rows key row.block)) (uses_if kind (Some (uses rows key row.block))) ≡ None
      own_list Hist = refl
      own_list Back = refl
      own_list Fwd = own_claim (uses rows key row.block)

      asked : (kind : Kind)
          → is_some (uses_if kind (Some (uses rows key row.block))) ≡ asks_uses kind true
      asked Hist = refl
      asked Back = refl
      asked Fwd = refl

      same_list : (kind : Kind) (own : List Dep)
          → uses_if kind (Some (uses rows key row.block)) ≡ Some own → own ≡ uses rows key row.block
      same_list Hist own e = absurd (none-some own e)
      same_list Back own e = absurd (none-some own e)
      same_list Fwd own e = cc

  by_end : path_fault proof ≡ None
      → Ends rows key at (claim_of_leaf proof.leaf_proof.leaf) proof.headers
      → judgement root proof ≡ Ok (scan rows proof.query)
  by_end passes end = go end.how
    where
      go : ((latest rows key at ≡ None) × (nat_le end.last.block at ≡ false))
          ⊎ ((row : Row) × Contains rows row × (latest rows key at ≡ Some row) × (end.last ≡ header_of rows row) × (nat_le row.block at ≡ true) × (claim_before (claim_of_leaf proof.leaf_proof.leaf) proof.headers ≡ claim_of_uses (uses rows key row.block)))
          → judgement root proof ≡ Ok (scan rows proof.query)
      go (inl none) = nothing passes none.0
      go (inr (row, has, found, last, low, claim)) = something passes row found (end.last_is ∙ ap (λ (h : Header). Some h) last) claim

  -- If the leaf is the key's, the headers pass, and end at the version that answers, or too late if
  -- none does.
  by_key : is_of_key key proof.leaf_proof.leaf.key ≡ true
      → (path_fault proof ≡ None) × Ends rows key at (claim_of_leaf proof.leaf_proof.leaf) proof.headers
  by_key t =
      let own = own_key rows lawful are key proof.leaf_proof.leaf one t in
      let row = newest_of_key rows lawful are key own.0 in
      let walked = made_walk (suc row.0.block) rows key at 0 (claim_of_leaf proof.leaf_proof.leaf) row.0 lawful (stands rows lawful are key at proof.leaf_proof.leaf row.0 row.1 own.1) (omega arith) in
      let headers : proof.headers ≡ filter_map (header_in rows key) (path_from (suc row.0.block) (links rows key) at (Some row.0.block)) =
      made.headers_are ∙ ap (filter_map (header_in rows key)) (path_turns rows key at row.0 lawful row.1) in (
        path_is proof ∙ ap₂ (walk_fault (expected_after at) key 0) (begins rows lawful are key proof.leaf_proof.leaf row.0 row.1 own.1 t) headers ∙ walked.0,
        subst (λ (hs : List Header). Ends rows key at (claim_of_leaf proof.leaf_proof.leaf) hs) (sym headers) walked.1,
      )

  no_headers : newest rows key ≡ None → proof.headers ≡ []
  no_headers none =
      made.headers_are ∙ ap (filter_map (header_in rows key)) (path_none rows key at none)

  -- The headers end like that; or there are none, and the key has no version.
  pub made_ends : ((proof.headers ≡ []) × (newest rows key ≡ None)) ⊎ Ends rows key at (claim_of_leaf proof.leaf_proof.leaf) proof.headers
  made_ends = elim (cases_Bool (is_of_key key proof.leaf_proof.leaf.key)) [
    | inl t ↦ inr (by_key t).1
    | inr f ↦ let none : newest rows key ≡ None = no_version_of rows lawful are key proof.leaf_proof.leaf one made.leaf_proof_is.leaf_covers f in inl (no_headers none, none)
  ]

  of_key : is_of_key key proof.leaf_proof.leaf.key ≡ true
      → judgement root proof ≡ Ok (scan rows proof.query)
  of_key t = let walked = by_key t in by_end walked.0 walked.1

  of_another : is_of_key key proof.leaf_proof.leaf.key ≡ false
      → judgement root proof ≡ Ok (scan rows proof.query)
  of_another f =
      let none : newest rows key ≡ None = no_version_of rows lawful are key proof.leaf_proof.leaf one made.leaf_proof_is.leaf_covers f in
      let first : expected_first key proof.leaf_proof.leaf ≡ None = rw f refl in
      nothing (path_is proof ∙ ap₂ (walk_fault (expected_after at) key 0) first (no_headers none)) (latest_none rows key at none)

  accepted_of : judgement root proof ≡ Ok (scan rows proof.query)
  accepted_of = elim (cases_Bool (is_of_key key proof.leaf_proof.leaf.key)) [
    | inl t ↦ of_key t
    | inr f ↦ of_another f
  ]

pub made_is_accepted : MadeProofsAreAccepted
unfolding root_of
made_is_accepted rows digests block proof history made =
    own_verdict (root_of rows digests block) proof
    ∙ accepted_of (up_to rows block) block (digest_at digests block) proof (lawful_up_to rows block history.lawful) (rows_up_to rows block history.typed) made
