-- A proof made of a history is lawful, so it can be spelled.
use Rattle.std.proofs.Common.{◌≡◌, ◌∙◌, ◌⊎◌, ℕ, ◌<◌, ◌≤◌, ◌^◌, Bool, true, false, nat_le, List, []}
use Rattle.std.proofs.Common.{length, reverse, Option, Some, None, is_some, refl, sym, ap, subst}
use Rattle.std.proofs.Common.{arith, inl, inr}
use Rattle.std.specs.List.{find, All, AllByRecursion, Contains}
use Rattle.std.specs.Option.{option_map}
use Rattle.std.proofs.lemmas.Option.{none-some, same_Some}
use Rattle.lc_base.specs.KeyBytes.{IsKey}
use Rattle.lc_base.specs.declared.row.Row.{Row}
use Rattle.lc_base.specs.declared.row.Dep.{Dep}
use Rattle.lc_base.specs.declared.answer.Kind.{Kind}
use Rattle.lc_base.specs.declared.answer.Kind.TheVariants.{Hist, Back, Fwd}
use Rattle.lc_base.specs.History.{IsLawful, up_to, newest, latest, uses, is_version}
use Rattle.root_laws.specs.prov_entry.declared.entry.Header.{Header}
use Rattle.root_laws.specs.prov_entry.declared.entry.Body.{Body}
use Rattle.root_laws.specs.prov_entry.Spelling.{IsHeader, IsBody}
use Rattle.root_laws.specs.Naming.{header_of, body_of}
use Rattle.root_laws.specs.Root.{digest_at}
use Rattle.root_laws.specs.WalkLaws.{is_version_in}
use Rattle.root_laws.proofs.Lists.{all_contained, all_reverse, all_filter_map, found_has}
use Rattle.proof_codec.specs.Spelling.{IsProof, AreUses, IsIfAny, last_of, is_answer, asks_uses}
use Rattle.skip_links.specs.Paths.{path}
use Rattle.skip_links.proofs.OverRows.{path_short, path_none}
use Rattle.skip_links.proofs.Walks.{digits_hold}
use Rattle.root_laws.specs.TypedLedger.{IsTypedRow}
use Rattle.root_laws.proofs.Parts.{parts_typed, blocks_typed}
use Rattle.proof_codec.specs.declared.proof.Proof.{Proof}
use Rattle.proof_checks.specs.Making.{header_in, uses_if, IsMade, MadeProofsAreProofs}
use Rattle.proof_checks.specs.Checks.{claim_of_leaf, claim_before}
use Rattle.proof_checks.proofs.Rows.{latest_none}
use Rattle.root_laws.proofs.Spellings.{is_row, few_uses, header_lawful, body_lawful, newest_there}
use Rattle.root_laws.proofs.Spellings.{map_short}
use Rattle.proof_checks.proofs.Uses.{uses_are_uses}
use Rattle.proof_checks.proofs.Onward.{claim_of_uses}
use Rattle.proof_checks.proofs.Walked.{Ends}
use Rattle.proof_checks.proofs.MadeLeaf.{made_leaf_is_lawful}
use Rattle.proof_checks.proofs.MadeAccepted.{made_ends}

-- ---- the version that answers

some_mapped : {A B C : Type 0} (f : A → B) (g : A → C) (o : Option A)
    → is_some (option_map f o) ≡ is_some (option_map g o)
some_mapped f g None = refl
some_mapped f g (Some x) = refl

asked : (kind : Kind) (list : Option (List Dep)) (there : Bool) → is_some list ≡ there
    → is_some (uses_if kind list) ≡ asks_uses kind there
asked Hist list there e = refl
asked Back list there e = refl
asked Fwd list there e = e

lawful_if : (kind : Kind) (list : Option (List Dep)) → IsIfAny AreUses list
    → IsIfAny AreUses (uses_if kind list)
lawful_if Hist list are = tt
lawful_if Back list are = tt
lawful_if Fwd list are = are

pub made_is_lawful : (rows : List Row) (block : ℕ) (digest : List ℕ) (proof : Proof) → IsLawful rows → All IsTypedRow rows → block < 2 ^ 32 → proof.query.at ≤ block → IsKey proof.query.key → length digest ≡ 32
    → IsMade rows block digest proof → IsProof proof
made_is_lawful rows block digest proof lawful are fits within key long made =
    let key_of : List ℕ = proof.query.key in
    let at : ℕ = proof.query.at in
    let short = path_fits (newest rows key_of) refl in
    let fewer = map_short (header_in rows key_of) (path rows key_of at) in
    record {
      key_is_key = key;
      leaf_proof_is = made_leaf_is_lawful rows block digest proof.query.key proof.leaf_proof lawful made.leaf_proof_is are fits proof.query.at within long;
      few_headers = omega (arith, short, fewer, ap (λ (hs : List Header). length hs) made.headers_are);
      headers_are_headers = subst (AllByRecursion IsHeader) (sym made.headers_are) (all_filter_map IsHeader (header_in rows key_of) (path rows key_of at) (λ b header e. one_header b header e));
      body_if_answered = ap (λ (body : Option Body). is_some body) made.body_is ∙ there (made_ends rows block digest proof lawful are made);
      body_is_body = subst (IsIfAny IsBody) (sym made.body_is) (body_of_latest (latest rows key_of at) refl);
      uses_if_asked =
          ap (λ (list : Option (List Dep)). is_some list) made.uses_are
          ∙ asked proof.query.kind (option_map (λ (row : Row). uses rows key_of row.block) (latest rows key_of at)) (is_some proof.body)
          (some_mapped (λ (row : Row). uses rows key_of row.block) (body_of rows) (latest rows key_of at) ∙ sym (ap (λ (body : Option Body). is_some body) made.body_is));
      uses_are_uses = subst (IsIfAny AreUses) (sym made.uses_are) (lawful_if proof.query.kind (option_map (λ (row : Row). uses rows key_of row.block) (latest rows key_of at)) (uses_of_latest (latest rows key_of at)));
    }
  where
    path_fits : (o : Option Row) → newest rows proof.query.key ≡ o
        → length (path rows proof.query.key proof.query.at) < 2 ^ 8
    path_fits None none = rw (path_none rows proof.query.key proof.query.at none) (omega arith)
    path_fits (Some row) is =
        let fits = (is_row rows lawful are row (newest_there rows lawful are proof.query.key row is)).block_fits in
        let digits = digits_hold 31 row.block fits in
        let bound = path_short rows proof.query.key proof.query.at row lawful is fits in
        omega (arith, bound, digits.1)

    one_header : (b : ℕ) (header : Header) → header_in rows proof.query.key b ≡ Some header
        → IsHeader header
    one_header b header e = go (find (is_version_in proof.query.key b) (reverse rows)) refl e
      where
        go : (o : Option Row) → find (is_version_in proof.query.key b) (reverse rows) ≡ o
            → option_map (header_of rows) o ≡ Some header → IsHeader header
        go None found e = absurd (none-some header e)
        go (Some row) found e =
            let has : Contains rows row = found_has (Contains rows) (is_version_in proof.query.key b) (reverse rows) row (all_reverse (Contains rows) rows (all_contained rows)) found in
            subst IsHeader (same_Some (header_of rows row) header e) (header_lawful rows lawful are row has)

    body_of_latest : (o : Option Row) → latest rows proof.query.key proof.query.at ≡ o
        → IsIfAny IsBody (option_map (body_of rows) (latest rows proof.query.key proof.query.at))
    body_of_latest None found = rw found tt
    body_of_latest (Some row) found =
        let has : Contains rows row = found_has (Contains rows) (is_version proof.query.key proof.query.at) (reverse rows) row (all_reverse (Contains rows) rows (all_contained rows)) found in
        rw found (body_lawful rows lawful are row has)

    uses_of_latest : (o : Option Row)
        → IsIfAny AreUses (option_map (λ (row : Row). uses rows proof.query.key row.block) o)
    uses_of_latest None = tt
    uses_of_latest (Some row) = record { counted = few_uses rows lawful are proof.query.key row.block; uses_are_uses = uses_are_uses rows are proof.query.key row.block }

    there : ((proof.headers ≡ []) × (newest rows proof.query.key ≡ None)) ⊎ Ends rows proof.query.key proof.query.at (claim_of_leaf proof.leaf_proof.leaf) proof.headers
        → is_some (option_map (body_of rows) (latest rows proof.query.key proof.query.at)) ≡ is_answer proof.query.at (last_of proof.headers)
    there (inl none) =
        ap (λ (o : Option Row). is_some (option_map (body_of rows) o)) (latest_none rows proof.query.key proof.query.at none.1)
        ∙ sym (ap (λ (hs : List Header). is_answer proof.query.at (last_of hs)) none.0)
    there (inr end) = go end.how
      where
        last_is : is_answer proof.query.at (last_of proof.headers) ≡ nat_le end.last.block proof.query.at
        last_is = ap (is_answer proof.query.at) end.last_is

        go : ((latest rows proof.query.key proof.query.at ≡ None) × (nat_le end.last.block proof.query.at ≡ false))
            ⊎ ((row : Row) × Contains rows row × (latest rows proof.query.key proof.query.at ≡ Some row) × (end.last ≡ header_of rows row) × (nat_le row.block proof.query.at ≡ true)
            × (claim_before (claim_of_leaf proof.leaf_proof.leaf) proof.headers ≡ claim_of_uses (uses rows proof.query.key row.block)))
            → is_some (option_map (body_of rows) (latest rows proof.query.key proof.query.at)) ≡ is_answer proof.query.at (last_of proof.headers)
        go (inl none) = ap (λ (o : Option Row). is_some (option_map (body_of rows) o)) none.0 ∙ sym (last_is ∙ none.1)
        go (inr (row, has, found, last, low, claim)) = ap (λ (o : Option Row). is_some (option_map (body_of rows) o)) found ∙ sym (last_is ∙ ap (λ (h : Header). nat_le h.block proof.query.at) last ∙ low)

pub made_is_proof : MadeProofsAreProofs
made_is_proof rows digests block proof ledger within key early made =
    let part = parts_typed rows block ledger.history in
    let typed = blocks_typed rows digests block ledger within in
    made_is_lawful (up_to rows block) block (digest_at digests block) proof part.lawful part.typed typed.0 early key typed.1 made
