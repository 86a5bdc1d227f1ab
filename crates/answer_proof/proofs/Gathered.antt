-- The parts that are gathered over the rows are the proof that is made of them.
use Rattle.std.proofs.Common.{◌≡◌, ◌∙◌, ℕ, ◌+◌, ◌<◌, ◌≤◌, ◌^◌, true, nat_le, List, [], length}
use Rattle.std.proofs.Common.{slice_get, Option, Some, None, is_some, Result, refl, sym, ap, subst}
use Rattle.std.proofs.Common.{arith}
use Rattle.std.specs.Prelude.{IfOk}
use Rattle.std.specs.List.{All, concat}
use Rattle.std.specs.Option.{option_map}
use Rattle.std.proofs.lemmas.Bool.{le-leb}
use Rattle.std.proofs.lemmas.List.Elements.{recursion_from_All}
use Rattle.std.proofs.lemmas.Option.{get_or_from_slice_get}
use Rattle.lc_base.specs.KeyBytes.{IsKey}
use Rattle.lc_base.specs.declared.digest.Digest.{Digest}
use Rattle.lc_base.specs.declared.row.Row.{Row}
use Rattle.lc_base.specs.declared.row.Dep.{Dep}
use Rattle.lc_base.specs.declared.answer.Kind.{Kind}
use Rattle.lc_base.specs.declared.answer.Query.{Query}
use Rattle.lc_base.specs.History.{up_to, latest, uses}
use Rattle.plain_rows.specs.Places.{IsRowAt}
use Rattle.merkle_tree.specs.Tree.{audit_path}
use Rattle.merkle_tree.specs.Climbing.{bytes_of as bytes_of_digests}
use Rattle.prov_entry.specs.declared.entry.Header.{Header}
use Rattle.prov_entry.specs.declared.entry.Body.{Body}
use Rattle.prov_entry.specs.declared.entry.Leaf.{Leaf}
use Rattle.prov_entry.specs.Spelling.{IsBody}
use Rattle.root_laws.specs.Naming.{body_of}
use Rattle.root_laws.specs.Root.{leaves, digest_at}
use Rattle.root_laws.proofs.Lists.{all_weaker, keep_all}
use Rattle.root_laws.specs.TypedLedger.{IsTypedHistory}
use Rattle.state_tree.specs.Leaves.{leaf_texts}
use Rattle.state_tree.specs.Covering.{Covers}
use Rattle.proof_codec.specs.declared.proof.Proof.{Proof}
use Rattle.proof_codec.specs.Spelling.{IsProof, IsIfAny, asks_uses, proof_fields}
use Rattle.proof_checks.specs.Making.{path_headers, uses_if, made_of, made_proof, IsMade}
use Rattle.proof_checks.proofs.Rows.{latest_key}
use Rattle.proof_checks.proofs.MadeOnce.{made_once}
use Rattle.proof_checks.proofs.MadeThere.{made_of_is_made}
use Rattle.proof_checks.proofs.MadeLawful.{made_is_lawful}
use Rattle.answer_proof.specs.Proving.{IsButForBody}
use Rattle.answer_proof.proofs.Covered.{covers_key}

-- ---- the rows

-- If all rows are of blocks up to `block`, the rows up to it are all rows.
pub all_up_to : (rows : List Row) (block : ℕ) → All (λ (row : Row). row.block < block + 1) rows
    → up_to rows block ≡ rows
all_up_to rows block within =
    let are = recursion_from_All (λ (row : Row). row.block < block + 1) rows within in
    keep_all (λ (row : Row). nat_le row.block block) rows
    (all_weaker (λ (row : Row). row.block < block + 1) (λ (row : Row). nat_le row.block block ≡ true) (λ row low. le-leb row.block block (omega (arith, low))) rows are)

-- The proof made of a ledger at a block is the one made of the rows up to it.
pub made_of_rows : (rows part : List Row) (digests : List Digest) (block : ℕ) (digest : Digest) (query : Query) → up_to rows block ≡ part → slice_get digests block ≡ Some digest
    → made_of part block digest.0 query ≡ made_proof rows digests block query
unfolding made_proof
made_of_rows rows part digests block digest query is at =
    let none : Digest = record { 0 = [] } in
    let same : digest_at digests block ≡ digest.0 = ap (λ (d : Digest). d.0) (get_or_from_slice_get digests block digest none at) in
    ap (λ (d : List ℕ). made_of part block d query) (sym same) ∙ ap (λ (r : List Row). made_of r block (digest_at digests block) query) (sym is)

-- ---- the uses

-- The uses of the version that answers are those of its own key.
pub own_uses : (rows : List Row) (kind : Kind) (key : List ℕ) (at : ℕ)
    → uses_if kind (option_map (λ (row : Row). uses rows row.key row.block) (latest rows key at)) ≡ uses_if kind (option_map (λ (row : Row). uses rows key row.block) (latest rows key at))
own_uses rows kind key at = ap (uses_if kind) (go (latest rows key at) refl)
  where
    go : (o : Option Row) → latest rows key at ≡ o
        → option_map (λ (row : Row). uses rows row.key row.block) o ≡ option_map (λ (row : Row). uses rows key row.block) o
    go None e = refl
    go (Some row) e =
        ap (λ (k : List ℕ). Some (uses rows k row.block)) (latest_key rows key at row e)

-- Up to the last block, the rows are all rows.
pub all_up_to_last : (rows : List Row) (block count : ℕ) → block + 1 ≡ count
    → All (λ (row : Row). row.block < count) rows → up_to rows block ≡ rows
all_up_to_last rows block count last within = all_up_to rows block (subst (λ (n : ℕ). All (λ (row : Row). row.block < n) rows) (sym last) within)

-- ---- the bytes

pub bytes_of : {E : Type 0} (result : Result (List ℕ) E) (proof other : Proof) → proof ≡ other
    → IfOk result (λ bytes. bytes ≡ concat (proof_fields proof))
    → IfOk result (λ bytes. bytes ≡ concat (proof_fields other))
bytes_of result proof other same are =
    subst (λ (p : Proof). IfOk result (λ bytes. bytes ≡ concat (proof_fields p))) same are

pub but_for_body_of : {E : Type 0} (result : Result (List ℕ) E) (proof other : Proof) → proof
    ≡ other → IfOk result (IsButForBody proof) → IfOk result (IsButForBody other)
but_for_body_of result proof other same are = subst (λ (p : Proof). IfOk result (IsButForBody p))
    same are

pub some_body : (rows : List Row) (o : Option Row) → is_some (option_map (body_of rows) o)
    ≡ is_some o
some_body rows None = refl
some_body rows (Some row) = refl

-- ---- all parts together

-- A proof stays lawful if another lawful body replaces its own.
other_body : (proof : Proof) (body : Option Body) → IsProof proof
    → is_some body ≡ is_some proof.body → IsIfAny IsBody body
    → IsProof (record proof { body = body })
other_body proof body is there lawful = record {
  key_is_key = is.key_is_key;
  leaf_proof_is = is.leaf_proof_is;
  few_headers = is.few_headers;
  headers_are_headers = is.headers_are_headers;
  body_if_answered = there ∙ is.body_if_answered;
  body_is_body = lawful;
  uses_if_asked = is.uses_if_asked ∙ ap (asks_uses proof.query.kind) (sym there);
  uses_are_uses = is.uses_are_uses;
}

module _ (rows : List Row) (block : ℕ) (digest : Digest) (query : Query) (tree : List Leaf) (count index : ℕ) (leaf : Leaf) (audit : List Digest) (headers : List Header) (answer : Option ℕ) (body : Option Body) (list : Option (List Dep))
    (history : IsTypedHistory rows) (key : IsKey query.key) (tree_is : tree ≡ leaves rows) (count_is : count ≡ length tree) (covering : Covers tree query.key index) (leaf_is : slice_get tree index ≡ Some leaf)
    (audit_is : bytes_of_digests audit ≡ audit_path index (leaf_texts tree)) (headers_are : headers ≡ path_headers rows query.key query.at)
    (stands : IsRowAt rows answer (latest rows query.key query.at))
    (list_is : (version : Option Row) → IsRowAt rows answer version → list ≡ uses_if query.kind (option_map (λ (row : Row). uses rows row.key row.block) version)) where
  abbrev own_body : Option Body
  own_body = option_map (body_of rows) (latest rows query.key query.at)

  abbrev with_body : Option Body → Proof
  with_body one = record {
    query = query;
    leaf_proof = record { root_at = block; block_digest = digest; leaf_count = count; leaf_index = index; leaf = leaf; audit = audit };
    headers = headers;
    body = one;
    uses = list;
  }

  some : 0 < length query.key
  some = omega (arith, key.some)

  at_leaf : slice_get (leaves rows) index ≡ Some leaf
  at_leaf = ap (λ (ls : List Leaf). slice_get ls index) (sym tree_is) ∙ leaf_is

  is_made : IsMade rows block digest.0 (with_body own_body)
  is_made = record {
    leaf_proof_is = record {
      root_at_is = refl;
      block_digest_is = refl;
      leaf_count_is = count_is ∙ ap (λ (ls : List Leaf). length ls) tree_is;
      leaf_is = at_leaf;
      leaf_covers = covers_key rows query.key index leaf history.lawful history.typed some at_leaf (subst (λ (ls : List Leaf). Covers ls query.key index) tree_is covering);
      audit_is = audit_is ∙ ap (λ (ls : List Leaf). audit_path index (leaf_texts ls)) tree_is;
    };
    headers_are = headers_are;
    body_is = refl;
    uses_are = list_is (latest rows query.key query.at) stands ∙ own_uses rows query.kind query.key query.at;
  }

  pub gathered : body ≡ own_body → with_body body ≡ made_of rows block digest.0 query
  gathered is =
      ap with_body is ∙ made_once rows block digest.0 (made_of rows block digest.0 query) (with_body own_body) history.lawful history.typed (made_of_is_made rows block digest.0 query some) is_made refl

  pub gathered_always : with_body body ≡ record (made_of rows block digest.0 query) { body = body }
  gathered_always =
      ap (λ (p : Proof). record p { body = body })
      (made_once rows block digest.0 (made_of rows block digest.0 query) (with_body own_body)
      history.lawful history.typed (made_of_is_made rows block digest.0 query some) is_made
      refl)

  pub gathered_lawful : is_some body ≡ is_some (latest rows query.key query.at)
      → IsIfAny IsBody body → block < 2 ^ 32 → query.at ≤ block → length digest.0 ≡ 32
      → IsProof (with_body body)
  gathered_lawful there lawful fits early long =
      other_body (with_body own_body) body (made_is_lawful rows block digest.0 (with_body own_body) history.lawful history.typed fits early key long is_made)
      (there ∙ sym (some_body rows (latest rows query.key query.at))) lawful
