-- A proof of what a version was derived from has few bytes, since each part of it has.
use Rattle.std.proofs.Common.{◌≡◌, ◌∙◌, ℕ, suc, ◌+◌, ◌*◌, ◌<◌, ◌≤◌, ◌^◌, ◌-◌, zero, false, nat_lt}
use Rattle.std.proofs.Common.{List, [], ◌∷◌, ◌++◌, length, Option, Some, None, is_some, refl, sym}
use Rattle.std.proofs.Common.{ap, subst, arith, length-append, inl, inr}
use Rattle.std.specs.List.{AllByRecursion, concat, flat_map}
use Rattle.std.proofs.Math.Nat.{suc-mul}
use Rattle.std.proofs.lemmas.Bool.{cases_Bool}
use Rattle.std.specs.Int.{w32, w64, to_be_bytes}
use Rattle.lc_base.specs.KeyBytes.{IsKey}
use Rattle.lc_base.specs.declared.digest.Digest.{Digest}
use Rattle.lc_base.specs.declared.row.Dep.{Dep}
use Rattle.lc_base.specs.declared.answer.Kind.{Kind}
use Rattle.lc_base.specs.declared.answer.Kind.TheVariants.{Back}
use Rattle.lc_base.specs.declared.answer.Query.{Query}
use Rattle.lc_base.specs.declared.value.Value.{Value}
use Rattle.lc_base.specs.declared.value.Value.TheVariants.{Int, Text, Gone}
use Rattle.byte_fields.specs.Spelling.{IsValue, value_fields}
use Rattle.proof_codec.specs.merkle_tree.Tree.{audit_length_to}
use Rattle.proof_codec.specs.merkle_tree.declared.limits.TheConstants.{MAX_HEIGHT}
use Rattle.root_laws.specs.prov_entry.declared.entry.Link.{Link}
use Rattle.root_laws.specs.prov_entry.declared.entry.Header.{Header}
use Rattle.root_laws.specs.prov_entry.declared.entry.BodyDep.{BodyDep}
use Rattle.root_laws.specs.prov_entry.declared.entry.Body.{Body}
use Rattle.root_laws.specs.prov_entry.declared.entry.Leaf.{Leaf}
use Rattle.root_laws.specs.prov_entry.Spelling.{IsLink, IsHeader, IsBodyDep, IsBody, IsKeyIfAny}
use Rattle.root_laws.specs.prov_entry.Spelling.{IsLeaf}
use Rattle.root_laws.specs.prov_entry.Spelling.{link_fields, header_fields, body_dep_fields}
use Rattle.root_laws.specs.prov_entry.Spelling.{body_fields}
use Rattle.root_laws.specs.prov_entry.Spelling.{key_or_empty, next_fields, leaf_fields}
use Rattle.proof_codec.specs.declared.proof.LeafProof.{LeafProof}
use Rattle.proof_codec.specs.declared.proof.Proof.{Proof}
use Rattle.proof_codec.specs.Spelling.{IsIfAny, IsDigest, IsLeafProof, IsProof, asks_uses}
use Rattle.proof_codec.specs.Spelling.{audit_fields, leaf_proof_fields, headers_fields, uses_fields}
use Rattle.proof_codec.specs.Spelling.{fields_if_any, front_fields, proof_fields}

-- ---- the bytes of fields

-- The number of bytes of some fields.
abbrev total : List (List ℕ) → ℕ
total [] = 0
total (field ∷ fields) = length field + total fields

total_is : (fields : List (List ℕ)) → length (concat fields) ≡ total fields
total_is [] = refl
total_is (field ∷ fields) = let rest =
    total_is fields in omega (arith, rest, length-append field (concat fields))

total_both : (first second : List (List ℕ)) → total (first ++ second) ≡ total first + total second
total_both [] second = omega arith
total_both (field ∷ first) second = let rest = total_both first second in omega (arith, rest)

-- If each item has few bytes, a list of items has.
total_all : {A : Type 0} (fields : A → List (List ℕ)) (Is : A → Type 0) (most : ℕ)
    → ((x : A) → Is x → total (fields x) ≤ most) → (xs : List A) → AllByRecursion Is xs
    → total (flat_map fields xs) ≤ length xs * most
total_all fields Is most each [] all = omega arith
total_all fields Is most each (x ∷ xs) all =
    subst (λ (n : ℕ). n ≤ suc (length xs) * most) (sym (total_both (fields x) (flat_map fields xs)))
    (sum_low (total (fields x)) (total (flat_map fields xs)) most (length xs) (each x all.0)
    (total_all fields Is most each xs all.1))
  where
    sum_low : (a b m n : ℕ) → a ≤ m → b ≤ n * m → a + b ≤ suc n * m
    sum_low a b m n x y = omega (arith, x, y, suc-mul n m)

-- ---- the parts of a proof

link_short : (link : Link) → IsLink link → total (link_fields link) ≤ 36
link_short link is = omega (arith, is.digest_fits)

header_short : (header : Header) → IsHeader header → total (header_fields header) ≤ 2000
header_short header is =
    let links = total_all link_fields IsLink 36 link_short header.links is.links_are_links in
    omega (arith, links, is.few_links, is.key_is_key.short, is.body_fits, is.closed_digest_fits)

body_dep_short : (dep : BodyDep) → IsBodyDep dep → total (body_dep_fields dep) ≤ 102
body_dep_short dep is = omega (arith, is.key_is_key.short, is.digest_fits)

value_short : (value : Value) → IsValue value → total (value_fields value) ≤ 9000
value_short (Int number) is = omega arith
value_short (Text text) is = omega (arith, is.short)
value_short Gone is = omega arith

body_short : (body : Body) → IsBody body → total (body_fields body) ≤ 20000
body_short body is =
    let value = value_short body.value is.value_is_value in
    let deps = total_all body_dep_fields IsBodyDep 102 body_dep_short body.deps is.deps_are_deps in
    omega (
      arith,
      value,
      deps,
      is.few_deps,
      total_both (value_fields body.value)
          ((length body.deps ∷ []) ∷ flat_map body_dep_fields body.deps),
    )

key_short : (key : Option (List ℕ)) → IsKeyIfAny key → length (key_or_empty key) ≤ 64
key_short None is = omega arith
key_short (Some key) is = is.short

next_short : (next : Option (List ℕ)) → IsKeyIfAny next → total (next_fields next) ≤ 67
next_short None is = omega arith
next_short (Some key) is = omega (arith, is.short)

leaf_short : (leaf : Leaf) → IsLeaf leaf → total (leaf_fields leaf) ≤ 300
leaf_short leaf is =
    let key = key_short leaf.key is.key_is_key in
    let next = next_short leaf.next is.next_is_key in
    omega (
      arith,
      key,
      next,
      is.newest_fits,
      is.open_digest_fits,
      total_both (next_fields leaf.next)
          (to_be_bytes w32 leaf.newest_block ∷ leaf.newest.0 ∷ to_be_bytes w64 leaf.open_count
          ∷ leaf.open_digest.0 ∷ []),
    )

digest_short : (digest : Digest) → IsDigest digest → total (digest.0 ∷ []) ≤ 32
digest_short digest is = omega (arith, is)

audit_low : (height index count : ℕ) → audit_length_to height index count ≤ height
unfolding audit_length_to
audit_low zero index count = omega arith
audit_low (suc height) index count =
    let near = audit_low height index (2 ^ height) in
    let far = audit_low height (index - 2 ^ height) (count - 2 ^ height) in
    let low = audit_low height index count in
    elim (cases_Bool (nat_lt (2 ^ height) count)) [
      | inr f ↦ rw f (omega (arith, low))
      | inl t ↦ elim (cases_Bool (nat_lt index (2 ^ height))) [
        | inl u ↦ rw (t, u) (omega (arith, near))
        | inr u ↦ rw (t, u) (omega (arith, far))
      ]
    ]

leaf_proof_short : (least : ℕ) (leaf_proof : LeafProof) → IsLeafProof least leaf_proof
    → total (leaf_proof_fields leaf_proof) ≤ 2000
leaf_proof_short least leaf_proof is =
    let leaf = leaf_short leaf_proof.leaf is.leaf_is_leaf in
    let audit = total_all (λ (digest : Digest). digest.0 ∷ []) IsDigest 32 digest_short
    leaf_proof.audit is.audit_fits in
    let few = audit_low MAX_HEIGHT leaf_proof.leaf_index leaf_proof.leaf_count in
    omega (
      arith,
      leaf,
      audit,
      few,
      is.audit_counted,
      is.block_digest_fits,
      total_both
          (leaf_fields leaf_proof.leaf) (audit_fields leaf_proof.audit),
    )

headers_short : (headers : List Header) → length headers < 2 ^ 8 → AllByRecursion IsHeader headers
    → total (headers_fields headers) ≤ 600000
headers_short headers few are =
    let short = total_all header_fields IsHeader 2000 header_short headers are in
    omega (arith, short, few)

any_body_short : (body : Option Body) → IsIfAny IsBody body
    → total (fields_if_any body_fields body) ≤ 20000
any_body_short None is = omega arith
any_body_short (Some body) is = body_short body is

no_uses_short : (uses : Option (List Dep)) → is_some uses ≡ false
    → total (fields_if_any uses_fields uses) ≡ 0
no_uses_short None none = refl
no_uses_short (Some uses) none = absurd cc

front_short : (query : Query) → IsKey query.key → total (front_fields query) ≤ 100
front_short query is = omega (arith, is.short)

-- ---- the whole

total_five : (a b c d e : List (List ℕ))
    → total (a ++ b ++ c ++ d ++ e) ≡ total a + total b + total c + total d + total e
total_five a b c d e =
    total_both (a ++ b ++ c ++ d) e
    ∙ ap (λ (n : ℕ). n + total e) (total_both (a ++ b ++ c) d
    ∙ ap (λ (n : ℕ). n + total d) (total_both (a ++ b) c
    ∙ ap (λ (n : ℕ). n + total c) (total_both a b)))

sum_fits : (n a b c d e : ℕ) → n ≡ a + b + c + d + e → a ≤ 100 → b ≤ 2000 → c ≤ 600000
    → d ≤ 20000 → e ≡ 0 → n < 2 ^ 32
sum_fits n a b c d e sum a_low b_low c_low d_low none =
    omega (arith, sum, a_low, b_low, c_low, d_low, none)

pub back_is_short : (proof : Proof) → IsProof proof → proof.query.kind ≡ Back
    → length (concat (proof_fields proof)) < 2 ^ 32
back_is_short proof is kind =
    let front : List (List ℕ) = front_fields proof.query in
    let leaf : List (List ℕ) = leaf_proof_fields proof.leaf_proof in
    let headers : List (List ℕ) = headers_fields proof.headers in
    let body : List (List ℕ) = fields_if_any body_fields proof.body in
    let uses : List (List ℕ) = fields_if_any uses_fields proof.uses in
    sum_fits (length (concat (proof_fields proof))) (total front) (total leaf) (total headers)
    (total body) (total uses)
    (total_is (proof_fields proof) ∙ total_five front leaf headers body uses)
    (front_short proof.query is.key_is_key)
    (leaf_proof_short proof.query.at proof.leaf_proof is.leaf_proof_is)
    (headers_short proof.headers is.few_headers is.headers_are_headers)
    (any_body_short proof.body is.body_is_body)
    (no_uses_short proof.uses
    (is.uses_if_asked ∙ ap (λ (k : Kind). asks_uses k (is_some proof.body)) kind))
