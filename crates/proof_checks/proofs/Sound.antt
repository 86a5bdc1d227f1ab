-- An accepted proof answers what the history does, unless two different texts have one digest.
use Rattle.std.proofs.Common.{◌≡◌, ◌∙◌, ◌⊎◌, ℕ, zero, suc, ◌<◌, ◌^◌, true, false, nat_le, List, []}
use Rattle.std.proofs.Common.{◌∷◌, map, Option, Some, None, is_some, refl, sym, ap, subst, arith}
use Rattle.std.proofs.Common.{inl, inr}
use Rattle.std.specs.List.{All, Contains, flat_map}
use Rattle.std.proofs.lemmas.Bool.{cases_Bool}
use Rattle.sha2.specs.Sha256.{sha256}
use Rattle.lc_base.specs.declared.digest.Digest.{Digest}
use Rattle.lc_base.specs.declared.row.Row.{Row}
use Rattle.lc_base.specs.declared.answer.Query.{Query}
use Rattle.lc_base.specs.declared.answer.Answer.TheVariants as answers
use Rattle.lc_base.specs.History.{IsLawful, up_to, latest, uses, answer_of, scan}
use Rattle.root_laws.specs.prov_entry.declared.entry.Link.{Link}
use Rattle.proof_codec.specs.merkle_tree.Clash.{Agree, Clash}
use Rattle.proof_codec.proofs.merkle_tree.Agreeing.{agree_or_clash}
use Rattle.root_laws.specs.prov_entry.declared.entry.Header.{Header}
use Rattle.root_laws.specs.prov_entry.declared.entry.Body.{Body}
use Rattle.root_laws.specs.prov_entry.Spelling.{header_text, body_text}
use Rattle.root_laws.specs.prov_entry.ForwardLists.{start_text}
use Rattle.root_laws.specs.Naming.{header_of, body_of}
use Rattle.root_laws.specs.WalkLaws.{header_texts}
use Rattle.root_laws.specs.Root.{leaves, root_text, root_of, digest_at}
use Rattle.proof_codec.specs.declared.proof.Proof.{Proof}
use Rattle.proof_codec.specs.Spelling.{IsProof, is_answer, last_of}
use Rattle.proof_checks.specs.declared.reject.Reject.TheVariants as rejects
use Rattle.proof_checks.specs.Checks.{fault_in, answer_in, answer_from, query_fault, root_fault}
use Rattle.proof_checks.specs.Checks.{leaf_fault, path_fault, body_fault, uses_fault, fault_of_body}
use Rattle.proof_checks.specs.Checks.{covers, is_of_key, expected_first, expected_after}
use Rattle.proof_checks.specs.Checks.{claim_of_leaf, claim_before, judgement}
use Rattle.proof_checks.specs.ProofTexts.{joined_texts, leaf_proof_parts, proof_parts, proof_texts}
use Rattle.proof_checks.specs.ProofTexts.{body_texts, uses_texts, texts_of_uses}
use Rattle.proof_checks.specs.LedgerTexts.{texts_of_row, texts_of_row_uses, history_parts}
use Rattle.proof_checks.specs.LedgerTexts.{ledger_texts}
use Rattle.root_laws.specs.TypedLedger.{IsTypedRow, IsTypedHistory}
use Rattle.proof_checks.specs.Soundness.{AnswersOrClashes, AcceptedProofsAreSound}
use Rattle.proof_checks.specs.Soundness.{JudgedProofsAreSound, ShowsVersion}
use Rattle.proof_checks.specs.Soundness.{AcceptedProofsShowVersions}
use Rattle.proof_checks.proofs.Tests.{passed, neither, goes_on, accepted, query_is}
use Rattle.proof_checks.proofs.Parts.{in_part, in_front, in_flat, agree_parts}
use Rattle.proof_checks.proofs.Rows.{latest_none, latest_key}
use Rattle.root_laws.proofs.Parts.{lawful_up_to, rows_up_to}
use Rattle.root_laws.proofs.Spellings.{IsOneOf, newest_of_key}
use Rattle.proof_checks.proofs.Beginning.{no_version_of, own_key, begins, stands}
use Rattle.proof_checks.proofs.Onward.{claim_of_uses}
use Rattle.proof_checks.proofs.Walked.{walk_fault, path_is, Ends, ends, no_more}
use Rattle.proof_checks.proofs.Answered.{answered, shown_body}
use Rattle.proof_checks.proofs.LeafTold.{leaf_told}

-- No check fails.
pub record Passes (root : List ℕ) (proof : Proof) : Type 0 where
  pub root_passes : root_fault root proof.leaf_proof ≡ None
  pub leaf_passes : leaf_fault proof.query.key proof.leaf_proof ≡ None
  pub path_passes : path_fault proof ≡ None
  pub body_passes : body_fault proof ≡ None
  pub uses_pass : uses_fault proof ≡ None

pub passes : (root : List ℕ) (proof : Proof) → fault_in root proof ≡ None → Passes root proof
unfolding fault_in
passes root proof e =
    let one = neither (root_fault root proof.leaf_proof) _ e in
    let two = neither (leaf_fault proof.query.key proof.leaf_proof) _ one.1 in
    let three = neither (path_fault proof) _ two.1 in
    let four = neither (body_fault proof) _ three.1 in
    let five = neither (uses_fault proof) None four.1 in
    record { root_passes = one.0; leaf_passes = two.0; path_passes = three.0; body_passes = four.0; uses_pass = five.0 }

-- ---- for a history and a proof

module _ (root : List ℕ) (proof : Proof) (rows : List Row) (block : ℕ) (digest : List ℕ) (is : IsProof proof) (pass : Passes root proof) (lawful : IsLawful rows) (are : All IsTypedRow rows) (block_fits : block < 2 ^ 32)
    (root_is : sha256 (root_text block digest (leaves rows)) ≡ root) (agree : Agree (joined_texts (proof_parts proof)) (joined_texts (history_parts rows block digest))) where
  abbrev key : List ℕ
  key = proof.query.key

  abbrev at : ℕ
  at = proof.query.at

  one : IsOneOf rows lawful are proof.leaf_proof.leaf
  one = leaf_told rows block digest root lawful are block_fits root_is at proof.leaf_proof is.leaf_proof_is pass.root_passes
      (agree_parts (joined_texts (proof_parts proof)) (joined_texts (history_parts rows block digest)) (joined_texts (leaf_proof_parts proof.leaf_proof)) (joined_texts (history_parts rows block digest)) agree
      (λ text has. in_front (leaf_proof_parts proof.leaf_proof) (map header_text proof.headers ∷ body_texts proof.body ∷ (start_text ∷ []) ∷ uses_texts proof.uses ∷ []) text has)
      (λ text has. has))

  -- The walk over the headers has no fault.
  path_passes : walk_fault (expected_after at) key 0 (expected_first key proof.leaf_proof.leaf) proof.headers ≡ None
  path_passes = sym (path_is proof) ∙ pass.path_passes

  -- ---- the texts of the parts agree

  own_headers : Agree (map header_text proof.headers) (header_texts rows)
  own_headers = agree_parts (joined_texts (proof_parts proof)) (joined_texts (history_parts rows block digest)) (map header_text proof.headers) (header_texts rows) agree
      (λ text has. in_part (proof_parts proof) 3 (map header_text proof.headers) text refl has)
      (λ text has. in_part (history_parts rows block digest) 3 (flat_map (texts_of_row rows) rows) text refl (in_rows rows text has))
    where
      in_rows : (rs : List Row) (text : List ℕ)
          → Contains (map (λ (row : Row). header_text (header_of rows row)) rs) text
          → Contains (flat_map (texts_of_row rows) rs) text
      in_rows [] text (k, below, t) = absurd (omega (arith, below))
      in_rows (row ∷ rs) text (zero, below, t) = (0, omega arith, t)
      in_rows (row ∷ rs) text (suc k, below, t) = let deep = in_rows rs text (k, omega (arith, below), t) in (suc (suc deep.0), omega (arith, deep.1), deep.2)

  own_body : (row : Row) → Contains rows row
      → Agree (body_texts proof.body) (body_text (body_of rows row) ∷ [])
  own_body row has = agree_parts (joined_texts (proof_parts proof)) (joined_texts (history_parts rows block digest)) (body_texts proof.body) (body_text (body_of rows row) ∷ []) agree
      (λ text there. in_part (proof_parts proof) 4 (body_texts proof.body) text refl there)
      (λ text there. in_part (history_parts rows block digest) 3 (flat_map (texts_of_row rows) rows) text refl (in_flat (texts_of_row rows) rows row text has (second text there)))
    where
      second : (text : List ℕ) → Contains (body_text (body_of rows row) ∷ []) text
          → Contains (texts_of_row rows row) text
      second text (k, below, t) = (suc k, omega (arith, below), t)

  own_uses : (row : Row) → Contains rows row → row.key ≡ key
      → Agree (uses_texts proof.uses) (texts_of_uses (uses rows key row.block))
  own_uses row has k = agree_parts (joined_texts (proof_parts proof)) (joined_texts (history_parts rows block digest)) (uses_texts proof.uses) (texts_of_uses (uses rows key row.block)) agree
      (λ text there. in_part (proof_parts proof) 6 (uses_texts proof.uses) text refl there)
      (λ text there. in_part (history_parts rows block digest) 5 (flat_map (texts_of_row_uses rows) rows) text refl
      (in_flat (texts_of_row_uses rows) rows row text has (subst (λ (x : List ℕ). Contains (texts_of_uses (uses rows x row.block)) text) (sym k) there)))

  -- ---- the version that answers

  -- No version answers, and there is no body.
  abbrev HasNone : Type 0
  HasNone = (latest rows key at ≡ None) × (is_some proof.body ≡ false)

  -- The last header is that of the version that answers, there is a body, and the uses of that
  -- version are recorded before it.
  abbrev HasVersion : Type 0
  HasVersion = (row : Row) × Contains rows row × (latest rows key at ≡ Some row) × (last_of proof.headers ≡ Some (header_of rows row)) × (is_some proof.body ≡ true) × (claim_before (claim_of_leaf proof.leaf_proof.leaf) proof.headers ≡ claim_of_uses (uses rows key row.block))

  by_end : Ends rows key at (claim_of_leaf proof.leaf_proof.leaf) proof.headers
      → HasNone ⊎ HasVersion
  by_end end = go end.how
    where
      there : is_some proof.body ≡ nat_le end.last.block at
      there = is.body_if_answered ∙ ap (is_answer at) end.last_is

      go : ((latest rows key at ≡ None) × (nat_le end.last.block at ≡ false))
          ⊎ ((row : Row) × Contains rows row × (latest rows key at ≡ Some row) × (end.last ≡ header_of rows row) × (nat_le row.block at ≡ true) × (claim_before (claim_of_leaf proof.leaf_proof.leaf) proof.headers ≡ claim_of_uses (uses rows key row.block)))
          → HasNone ⊎ HasVersion
      go (inl none) = inl (none.0, there ∙ none.1)
      go (inr (row, has, e, last, low, claim)) = inr (row, has, e, end.last_is ∙ ap (λ (h : Header). Some h) last, there ∙ ap (λ (h : Header). nat_le h.block at) last ∙ low, claim)

  -- If the leaf is another key's, there is no header.
  of_another : is_of_key key proof.leaf_proof.leaf.key ≡ false → HasNone
  of_another f =
      let none : expected_first key proof.leaf_proof.leaf ≡ None = rw f refl in
      let nil : proof.headers ≡ [] = no_more (expected_after at) key 0 proof.headers (sym (ap (λ (o : Option Link). walk_fault (expected_after at) key 0 o proof.headers) none) ∙ path_passes) in
      (latest_none rows key at (no_version_of rows lawful are key proof.leaf_proof.leaf one (passed (covers key proof.leaf_proof.leaf) rejects.LeafShape pass.leaf_passes) f), is.body_if_answered ∙ ap (λ (hs : List Header). is_answer at (last_of hs)) nil)

  of_key : is_of_key key proof.leaf_proof.leaf.key ≡ true → HasNone ⊎ HasVersion
  of_key t =
      let own = own_key rows lawful are key proof.leaf_proof.leaf one t in
      let row = newest_of_key rows lawful are key own.0 in
      by_end (ends proof.headers rows key at 0 (claim_of_leaf proof.leaf_proof.leaf) row.0 lawful are own_headers is.headers_are_headers (stands rows lawful are key at proof.leaf_proof.leaf row.0 row.1 own.1)
      (sym (ap (λ (o : Option Link). walk_fault (expected_after at) key 0 o proof.headers) (begins rows lawful are key proof.leaf_proof.leaf row.0 row.1 own.1 t)) ∙ path_passes))

  found : HasNone ⊎ HasVersion
  found = elim (cases_Bool (is_of_key key proof.leaf_proof.leaf.key)) [
    | inl t ↦ of_key t
    | inr f ↦ inl (of_another f)
  ]

  last_passes : (row : Row) → last_of proof.headers ≡ Some (header_of rows row)
      → fault_of_body (Some (header_of rows row)) proof.body ≡ None
  last_passes row last =
      sym (ap (λ (o : Option Header). fault_of_body o proof.body) last) ∙ pass.body_passes

  -- ---- what it answers, and what it shows

  same_answer : answer_in proof ≡ scan rows proof.query
  unfolding answer_in
  same_answer = go found
    where
      no_body : (last : Option Header) (body : Option Body) → is_some body ≡ false
          → answer_from proof.query.kind last body proof.uses ≡ answers.Nothing
      no_body None body e = refl
      no_body (Some last) None e = refl
      no_body (Some last) (Some body) e = absurd cc

      go : HasNone ⊎ HasVersion
          → answer_from proof.query.kind (last_of proof.headers) proof.body proof.uses ≡ scan rows proof.query
      go (inl none) = no_body (last_of proof.headers) proof.body none.1 ∙ sym (ap (answer_of rows proof.query) none.0)
      go (inr (row, has, e, last, there, claim)) =
          ap (λ (o : Option Header). answer_from proof.query.kind o proof.body proof.uses) last
          ∙ answered rows key proof.query.kind row (header_of rows row) (claim_before (claim_of_leaf proof.leaf_proof.leaf) proof.headers) proof.body proof.uses lawful are (record {
            there = has;
            last_is = refl;
            claim_is = claim;
            body_there = there;
            body_is_body = is.body_is_body;
            uses_there = is.uses_if_asked;
            uses_are_uses = is.uses_are_uses;
            body_passes = last_passes row last;
            uses_pass = pass.uses_pass;
            bodies_agree = own_body row has;
            uses_agree = own_uses row has (latest_key rows key at row e);
          })
          ∙ sym (ap (answer_of rows proof.query) e)

  shows : ShowsVersion rows proof
  shows = go found
    where
      empty : (body : Option Body) → is_some body ≡ false → body ≡ None
      empty None e = refl
      empty (Some body) e = absurd cc

      go : HasNone ⊎ HasVersion → ShowsVersion rows proof
      go (inl none) = inl (none.0, empty proof.body none.1)
      go (inr (row, has, e, last, there, claim)) = inr (row, e, last, shown_body rows row (header_of rows row) proof.body lawful are has refl there is.body_is_body (last_passes row last) (own_body row has))

-- ---- the law

-- What a proof that passes shows, if no two texts clash.
abbrev IsShown : List Row → Proof → Type 0
IsShown rows proof = (answer_in proof ≡ scan rows proof.query) × ShowsVersion rows proof

shows_all : (root : List ℕ) (proof : Proof) → IsProof proof → fault_in root proof ≡ None
    → (rows : List Row) (digests : List Digest) (block : ℕ) → IsTypedHistory rows → block < 2 ^ 32 → root_of rows digests block ≡ root
    → IsShown (up_to rows block) proof ⊎ Clash (proof_texts proof) (ledger_texts rows digests block)
unfolding proof_texts ledger_texts root_of
shows_all root proof is e rows digests block history fits root_is =
    let pass = passes root proof e in
    let lawful = lawful_up_to rows block history.lawful in
    let typed = rows_up_to rows block history.typed in
    elim (agree_or_clash (proof_texts proof) (ledger_texts rows digests block)) [
      | inr clash ↦ inr clash
      | inl agree ↦ inl (
        same_answer root proof (up_to rows block) block (digest_at digests block) is pass lawful typed fits root_is agree,
        shows root proof (up_to rows block) block (digest_at digests block) is pass lawful typed fits root_is agree,
      )
    ]

pub judged_is_sound : JudgedProofsAreSound
judged_is_sound root proof answer is e rows digests block history fits root_is =
    let accept = accepted (fault_in root proof) (answer_in proof) answer e in
    elim (shows_all root proof is accept.0 rows digests block history fits root_is) [
      | inr clash ↦ inr clash
      | inl shown ↦ inl (sym accept.1 ∙ shown.0)
    ]

pub accepted_shows : AcceptedProofsShowVersions
accepted_shows root proof answer is e rows digests block history fits root_is =
    let accept = accepted (fault_in root proof) (answer_in proof) answer e in
    elim (shows_all root proof is accept.0 rows digests block history fits root_is) [
      | inr clash ↦ inr clash
      | inl shown ↦ inl shown.1
    ]

pub accepted_is_sound : AcceptedProofsAreSound
accepted_is_sound root query proof answer is e rows digests block history fits root_is =
    let judged = goes_on (query_fault query proof) (judgement root proof) answer e in
    let own : proof.query ≡ query = query_is query proof.query (passed _ rejects.OtherQuery judged.0) in
    subst (λ (q : Query). AnswersOrClashes rows digests block q (proof_texts proof) answer) own
    (judged_is_sound root proof answer is judged.1 rows digests block history fits root_is)
