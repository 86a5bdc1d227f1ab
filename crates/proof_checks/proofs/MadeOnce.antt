-- Only one proof is made for a query, since only one leaf covers its key.
use Rattle.std.proofs.Common.{◌≡◌, ◌∙◌, ◌⊎◌, ℕ, zero, suc, ◌<◌, true, false, List, [], ◌∷◌, length}
use Rattle.std.proofs.Common.{map, slice_get, Option, Some, None, refl, sym, ap, subst, arith, inl}
use Rattle.std.proofs.Common.{inr}
use Rattle.std.specs.List.{All, filter_map}
use Rattle.std.specs.Option.{option_map}
use Rattle.std.proofs.lemmas.Bool.{cases_Bool, cases_lt, and_parts}
use Rattle.std.proofs.lemmas.Option.{none-some, same_Some, slice_get-map, slice_get_within}
use Rattle.std.proofs.lemmas.Option.{get_or_from_slice_get}
use Rattle.std.proofs.lemmas.List.Elements.{recursion_from_All}
use Rattle.lc_base.specs.declared.digest.Digest.{Digest}
use Rattle.lc_base.specs.declared.row.Row.{Row}
use Rattle.lc_base.specs.declared.row.Dep.{Dep}
use Rattle.lc_base.specs.declared.answer.Query.{Query}
use Rattle.lc_base.specs.History.{IsLawful, up_to, latest, uses}
use Rattle.proof_codec.specs.merkle_tree.Tree.{audit_path}
use Rattle.proof_codec.specs.merkle_tree.Climbing.{bytes_of}
use Rattle.skip_links.specs.Paths.{path}
use Rattle.root_laws.specs.prov_entry.declared.entry.Leaf.{Leaf}
use Rattle.root_laws.specs.prov_entry.declared.entry.Header.{Header}
use Rattle.root_laws.specs.prov_entry.declared.entry.Body.{Body}
use Rattle.root_laws.specs.prov_entry.Spelling.{IsLeaf, key_or_empty}
use Rattle.root_laws.specs.KeyLaws.{IsNext}
use Rattle.root_laws.specs.Naming.{body_of}
use Rattle.root_laws.specs.Root.{is_among, keys_of, is_below, sentinel, leaf_of, leaves, digest_at}
use Rattle.root_laws.proofs.Lists.{not_both}
use Rattle.root_laws.proofs.Keys.{same_key, keys_distinct}
use Rattle.root_laws.proofs.NextKeys.{next_is, order, below_trans, not_itself}
use Rattle.root_laws.specs.TypedLedger.{IsTypedRow}
use Rattle.root_laws.proofs.Parts.{lawful_up_to, rows_up_to}
use Rattle.root_laws.proofs.Spellings.{IsOneOf, leaf_cases, one_lawful, is_among_keys}
use Rattle.proof_codec.specs.declared.proof.LeafProof.{LeafProof}
use Rattle.proof_codec.specs.declared.proof.Proof.{Proof}
use Rattle.proof_codec.specs.entry_views.Reading.{digest_of_bytes}
use Rattle.proof_checks.specs.Checks.{is_of_key, is_before_next, covers}
use Rattle.proof_checks.specs.LedgerTexts.{texts_of_leaves}
use Rattle.proof_checks.specs.Making.{header_in, uses_if, IsMadeLeaf, IsMade, MadeProofsAreUnique}
use Rattle.proof_checks.proofs.Covering.{of_one}

-- ---- the leaf that covers a key

-- The leaf's own key is `key`, or it is smaller and the next key is greater.
abbrev CoversBy : List ℕ → Leaf → Type 0
CoversBy key leaf = (key_or_empty leaf.key ≡ key) ⊎ ((is_below (key_or_empty leaf.key) key ≡ true) × (is_before_next key leaf.next ≡ true))

covers_by : (key : List ℕ) (leaf : Leaf) → covers key leaf ≡ true → CoversBy key leaf
covers_by key leaf t = elim (cases_Bool (is_of_key key leaf.key)) [
  | inl own ↦ inl (of_key leaf.key own)
  | inr f ↦
      let both = rw f at t in
      inr (and_parts (is_below (key_or_empty leaf.key) key) (is_before_next key leaf.next) both)
]
  where
    of_key : (own : Option (List ℕ)) → is_of_key key own ≡ true → key_or_empty own ≡ key
    of_key None e = absurd cc
    of_key (Some own) e = same_key own key e

-- `other` is at most `key`.
abbrev IsUpTo : List ℕ → List ℕ → Type 0
IsUpTo key other = (other ≡ key) ⊎ (is_below other key ≡ true)

up_to_key : (key : List ℕ) (leaf : Leaf) → CoversBy key leaf → IsUpTo key (key_or_empty leaf.key)
up_to_key key leaf (inl own) = inl own
up_to_key key leaf (inr between) = inr between.0

-- No key of the list lies after the own key of a covering leaf and is at most the key that it
-- covers.
none_after : (keys : List (List ℕ)) (key low other : List ℕ) (next : Option (List ℕ)) → IsNext keys low next
    → (low ≡ key) ⊎ ((is_below low key ≡ true) × (is_before_next key next ≡ true))
    → is_below low other ≡ true → is_among keys other ≡ true → IsUpTo key other → ⊥
none_after keys key low other next is (inl own) below among (inl same) =
    not_both (is_below low other) below (ap (is_below low) (same ∙ sym own) ∙ not_itself low)
none_after keys key low other next is (inl own) below among (inr less) = not_both (is_below low low) (below_trans low other low below (ap (is_below other) own ∙ less)) (not_itself low)
none_after keys key low other None is (inr between) below among up =
    not_both (is_below low other) below (of_one (λ (k : List ℕ). is_below low k ≡ false) keys other (recursion_from_All (λ (k : List ℕ). is_below low k ≡ false) keys is) among)
none_after keys key low other (Some next) is (inr between) below among up =
    let P : List ℕ → Type 0 = λ (k : List ℕ). is_below low k ≡ true → is_below k next ≡ false in
    let not_less : is_below other next ≡ false = of_one P keys other (recursion_from_All P keys is.2) among below in
    go up not_less
  where
    go : IsUpTo key other → is_below other next ≡ false → ⊥
    go (inl same) f =
        not_both (is_below other next) (ap (λ (k : List ℕ). is_below k next) same ∙ between.1) f
    go (inr less) f = not_both (is_below other next) (below_trans other key next less between.1) f

not_below_none : (key : List ℕ) → is_below key [] ≡ true → ⊥
not_below_none [] e = cc
not_below_none (byte ∷ key) e = cc

module _ (rows : List Row) (lawful : IsLawful rows) (are : All IsTypedRow rows) where
  next_of : (leaf : Leaf) → IsOneOf rows lawful are leaf
      → IsNext (keys_of rows) (key_or_empty leaf.key) leaf.next
  next_of leaf (inl first) = subst (λ (l : Leaf). IsNext (keys_of rows) (key_or_empty l.key) l.next) (sym first) (next_is (keys_of rows) [])
  next_of leaf (inr of_key) = subst (λ (l : Leaf). IsNext (keys_of rows) (key_or_empty l.key) l.next) (sym of_key.2) (next_is (keys_of rows) of_key.0)

  -- A leaf's key that is above another key is among the keys.
  greater_among : (low : List ℕ) (leaf : Leaf) → IsOneOf rows lawful are leaf
      → is_below low (key_or_empty leaf.key) ≡ true
      → is_among (keys_of rows) (key_or_empty leaf.key) ≡ true
  greater_among low leaf (inl first) below = absurd (not_below_none low (ap (λ (l : Leaf). is_below low (key_or_empty l.key)) (sym first) ∙ below))
  greater_among low leaf (inr of_key) below = ap (λ (l : Leaf). is_among (keys_of rows) (key_or_empty l.key)) of_key.2 ∙ is_among_keys rows lawful are of_key.0 of_key.1

  not_greater : (key : List ℕ) (leaf other : Leaf) → IsOneOf rows lawful are leaf
      → IsOneOf rows lawful are other → CoversBy key leaf → CoversBy key other
      → is_below (key_or_empty leaf.key) (key_or_empty other.key) ≡ true → ⊥
  not_greater key leaf other one two by by' below =
      none_after (keys_of rows) key (key_or_empty leaf.key) (key_or_empty other.key) leaf.next (next_of leaf one) by below (greater_among (key_or_empty leaf.key) other two below) (up_to_key key other by')

  same_own_key : (key : List ℕ) (leaf other : Leaf) → IsOneOf rows lawful are leaf
      → IsOneOf rows lawful are other → CoversBy key leaf → CoversBy key other
      → key_or_empty leaf.key ≡ key_or_empty other.key
  same_own_key key leaf other one two by by' = elim (order (key_or_empty leaf.key) (key_or_empty other.key)) [
    | inl below ↦ absurd (not_greater key leaf other one two by by' below)
    | inr (inl same) ↦ same
    | inr (inr above) ↦ absurd (not_greater key other leaf two one by' by above)
  ]

  -- ---- the index of the leaf

  one_at : (index : ℕ) (leaf : Leaf) → slice_get (leaves rows) index ≡ Some leaf
      → IsOneOf rows lawful are leaf
  one_at index leaf e = leaf_cases rows lawful are leaf (index, slice_get_within (leaves rows) index leaf e, get_or_from_slice_get (leaves rows) index leaf leaf e)

  key_at : (index : ℕ) (leaf : Leaf) → slice_get (leaves rows) (suc index) ≡ Some leaf
      → slice_get (keys_of rows) index ≡ Some (key_or_empty leaf.key)
  key_at index leaf e = go (slice_get (keys_of rows) index) refl (sym (slice_get-map (leaf_of rows) (keys_of rows) index) ∙ e)
    where
      go : (o : Option (List ℕ)) → slice_get (keys_of rows) index ≡ o
          → option_map (leaf_of rows) o ≡ Some leaf
          → slice_get (keys_of rows) index ≡ Some (key_or_empty leaf.key)
      go None found mapped = absurd (none-some leaf mapped)
      go (Some key) found mapped = found ∙ ap (λ (l : Leaf). Some (key_or_empty l.key)) (same_Some (leaf_of rows key) leaf mapped)

  has_key : (index : ℕ) (leaf : Leaf) → slice_get (leaves rows) (suc index) ≡ Some leaf
      → 0 < length (key_or_empty leaf.key)
  has_key index leaf e = go (slice_get (keys_of rows) index) (sym (slice_get-map (leaf_of rows) (keys_of rows) index) ∙ e) (one_lawful rows lawful are leaf (one_at (suc index) leaf e))
    where
      go : (o : Option (List ℕ)) → option_map (leaf_of rows) o ≡ Some leaf → IsLeaf leaf
          → 0 < length (key_or_empty leaf.key)
      go None mapped is = absurd (none-some leaf mapped)
      go (Some key) mapped is =
          let same = same_Some (leaf_of rows key) leaf mapped in
          let own = (subst IsLeaf (sym same) is).key_is_key in
          subst (λ (l : Leaf). 0 < length (key_or_empty l.key)) same (omega (arith, own.some))

  first_key : (leaf : Leaf) → slice_get (leaves rows) 0 ≡ Some leaf → key_or_empty leaf.key ≡ []
  first_key leaf e =
      ap (λ (l : Leaf). key_or_empty l.key) (sym (same_Some (sentinel (keys_of rows)) leaf e))

  not_twice : (i j : ℕ) (key : List ℕ) → i < j → slice_get (keys_of rows) i ≡ Some key
      → slice_get (keys_of rows) j ≡ Some key → ⊥
  not_twice i j key less first second =
      keys_distinct rows i j [] less (slice_get_within (keys_of rows) j key second)
      (get_or_from_slice_get (keys_of rows) i key [] first ∙ sym (get_or_from_slice_get (keys_of rows) j key [] second))

  same_index : (i j : ℕ) (leaf other : Leaf) → slice_get (leaves rows) i ≡ Some leaf
      → slice_get (leaves rows) j ≡ Some other → key_or_empty leaf.key ≡ key_or_empty other.key
      → i ≡ j
  same_index zero zero leaf other e f same = refl
  same_index zero (suc j) leaf other e f same =
      let some = has_key j other f in
      absurd (omega (arith, some, ap (λ (k : List ℕ). length k) (sym same ∙ first_key leaf e)))
  same_index (suc i) zero leaf other e f same =
      let some = has_key i leaf e in
      absurd (omega (arith, some, ap (λ (k : List ℕ). length k) (same ∙ first_key other f)))
  same_index (suc i) (suc j) leaf other e f same =
      let first = key_at i leaf e in
      let second = key_at j other f ∙ ap (λ (k : List ℕ). Some k) (sym same) in
      elim (cases_lt i j) [
        | inl less ↦ absurd (not_twice i j (key_or_empty leaf.key) less first second)
        | inr more ↦ elim (cases_lt j i) [
          | inl less ↦ absurd (not_twice j i (key_or_empty leaf.key) less second first)
          | inr less ↦ omega (arith, more, less)
        ]
      ]

-- ---- the proof

abbrev build_leaf : ℕ → Digest → ℕ → ℕ → Leaf → List Digest → LeafProof
build_leaf root_at block_digest leaf_count leaf_index leaf audit = record { root_at = root_at; block_digest = block_digest; leaf_count = leaf_count; leaf_index = leaf_index; leaf = leaf; audit = audit }

same_leaf_parts : (r r' : ℕ) (d d' : Digest) (c c' i i' : ℕ) (l l' : Leaf) (a a' : List Digest)
    → r ≡ r' → d ≡ d' → c ≡ c' → i ≡ i' → l ≡ l' → a ≡ a'
    → build_leaf r d c i l a ≡ build_leaf r' d' c' i' l' a'
same_leaf_parts r r' d d' c c' i i' l l' a a' r_is d_is c_is i_is l_is a_is =
    rw (r_is, d_is, c_is, i_is, l_is, a_is) refl

abbrev build : Query → LeafProof → List Header → Option Body → Option (List Dep) → Proof
build query leaf_proof headers body uses = record { query = query; leaf_proof = leaf_proof; headers = headers; body = body; uses = uses }

same_parts : (q q' : Query) (l l' : LeafProof) (h h' : List Header) (b b' : Option Body) (u u' : Option (List Dep))
    → q ≡ q' → l ≡ l' → h ≡ h' → b ≡ b' → u ≡ u' → build q l h b u ≡ build q' l' h' b' u'
same_parts q q' l l' h h' b b' u u' q_is l_is h_is b_is u_is =
    rw (q_is, l_is, h_is, b_is, u_is) refl

digests_back : (digests : List Digest) → map digest_of_bytes (bytes_of digests) ≡ digests
digests_back [] = refl
digests_back (digest ∷ digests) = ap (λ (rest : List Digest). digest ∷ rest) (digests_back digests)

same_digests : (digests others : List Digest) → bytes_of digests ≡ bytes_of others
    → digests ≡ others
same_digests digests others e =
    sym (digests_back digests) ∙ ap (map digest_of_bytes) e ∙ digests_back others

-- Only one leaf proof is made for a key.
pub made_leaf_once : (rows : List Row) (block : ℕ) (digest key : List ℕ) (leaf_proof other : LeafProof)
    → IsLawful rows → All IsTypedRow rows → IsMadeLeaf rows block digest key leaf_proof
    → IsMadeLeaf rows block digest key other → other ≡ leaf_proof
made_leaf_once rows block digest key leaf_proof other lawful are made made' =
    let texts : List (List ℕ) = texts_of_leaves (leaves rows) in
    let own = same_own_key rows lawful are key other.leaf leaf_proof.leaf (one_at rows lawful are other.leaf_index other.leaf made'.leaf_is) (one_at rows lawful are leaf_proof.leaf_index leaf_proof.leaf made.leaf_is)
    (covers_by key other.leaf made'.leaf_covers) (covers_by key leaf_proof.leaf made.leaf_covers) in
    let index : other.leaf_index ≡ leaf_proof.leaf_index = same_index rows lawful are other.leaf_index leaf_proof.leaf_index other.leaf leaf_proof.leaf made'.leaf_is made.leaf_is own in
    let leaf : other.leaf ≡ leaf_proof.leaf = same_Some other.leaf leaf_proof.leaf (sym made'.leaf_is ∙ ap (slice_get (leaves rows)) index ∙ made.leaf_is) in
    same_leaf_parts other.root_at leaf_proof.root_at other.block_digest leaf_proof.block_digest other.leaf_count leaf_proof.leaf_count other.leaf_index leaf_proof.leaf_index other.leaf leaf_proof.leaf other.audit leaf_proof.audit
    (made'.root_at_is ∙ sym made.root_at_is)
    (ap digest_of_bytes (made'.block_digest_is ∙ sym made.block_digest_is))
    (made'.leaf_count_is ∙ sym made.leaf_count_is)
    index
    leaf
    (same_digests other.audit leaf_proof.audit (made'.audit_is ∙ ap (λ (i : ℕ). audit_path i texts) index ∙ sym made.audit_is))

pub made_once : (rows : List Row) (block : ℕ) (digest : List ℕ) (proof other : Proof)
    → IsLawful rows → All IsTypedRow rows → IsMade rows block digest proof
    → IsMade rows block digest other → other.query ≡ proof.query → other ≡ proof
made_once rows block digest proof other lawful are made made' query =
    same_parts other.query proof.query other.leaf_proof proof.leaf_proof other.headers proof.headers other.body proof.body other.uses proof.uses
    query
    (made_leaf_once rows block digest proof.query.key proof.leaf_proof other.leaf_proof lawful are made.leaf_proof_is (subst (λ (q : Query). IsMadeLeaf rows block digest q.key other.leaf_proof) query made'.leaf_proof_is))
    (made'.headers_are ∙ ap (λ (q : Query). filter_map (header_in rows q.key) (path rows q.key q.at)) query ∙ sym made.headers_are)
    (made'.body_is ∙ ap (λ (q : Query). option_map (body_of rows) (latest rows q.key q.at)) query ∙ sym made.body_is)
    (made'.uses_are ∙ ap (λ (q : Query). uses_if q.kind (option_map (λ (row : Row). uses rows q.key row.block) (latest rows q.key q.at))) query ∙ sym made.uses_are)

pub made_is_unique : MadeProofsAreUnique
made_is_unique rows digests block proof other history made made' query =
    made_once (up_to rows block) block (digest_at digests block) proof other (lawful_up_to rows block history.lawful) (rows_up_to rows block history.typed) made made' query
