-- Which header a proof begins with follows from its leaf: the newest version's, if the leaf is the
-- key's.
use Rattle.std.proofs.Common.{◌≡◌, ◌∙◌, ℕ, true, false, ◌&&◌, List, [], Option, Some, None, refl, sym, ap, inl, inr}
use Rattle.std.specs.List.{All}
use Rattle.std.proofs.lemmas.Bool.{and_parts}
use Rattle.lc_base.specs.declared.digest.Digest.{Digest}
use Rattle.lc_base.specs.declared.row.Row.{Row}
use Rattle.lc_base.specs.History.{IsLawful, newest, uses}
use Rattle.root_laws.specs.prov_entry.declared.entry.Leaf.{Leaf}
use Rattle.root_laws.specs.prov_entry.Spelling.{key_or_empty}
use Rattle.root_laws.specs.NamingLaws.{digest_of_row}
use Rattle.root_laws.specs.Root.{is_among, is_below, keys_of, sentinel, leaf_of, block_of}
use Rattle.root_laws.proofs.Keys.{same_key}
use Rattle.root_laws.proofs.Headers.{leaf_is_named, newest_is_key}
use Rattle.proof_checks.specs.Checks.{covers, is_of_key, is_before_next, expected_first, claim_of_leaf}
use Rattle.root_laws.specs.TypedLedger.{IsTypedRow}
use Rattle.proof_checks.proofs.Rows.{latest_is_newest}
use Rattle.root_laws.proofs.Spellings.{IsOneOf, newest_there, is_among_keys}
use Rattle.proof_checks.proofs.Covering.{no_version}
use Rattle.proof_checks.proofs.Onward.{begun, claim_of_uses, StandsAt, link_to}

-- If a leaf covers the key and isn't the key's own, the key has no version.
pub no_version_of : (rows : List Row) (lawful : IsLawful rows) (are : All IsTypedRow rows) (key : List ℕ) (leaf : Leaf) → IsOneOf rows lawful are leaf → covers key leaf ≡ true → is_of_key key leaf.key ≡ false → newest rows key ≡ None
no_version_of rows lawful are key leaf one t f =
    let both : (is_below (key_or_empty leaf.key) key && is_before_next key leaf.next) ≡ true = rw f at t in
    let parts = and_parts (is_below (key_or_empty leaf.key) key) (is_before_next key leaf.next) both in
    by_one one parts.0 parts.1
  where
    by_one : IsOneOf rows lawful are leaf → is_below (key_or_empty leaf.key) key ≡ true → is_before_next key leaf.next ≡ true → newest rows key ≡ None
    by_one (inl first) low next = no_version rows [] key (ap (λ (leaf : Leaf). is_below (key_or_empty leaf.key) key) (sym first) ∙ low) (ap (λ (leaf : Leaf). is_before_next key leaf.next) (sym first) ∙ next)
    by_one (inr of_key) low next = no_version rows of_key.0 key (ap (λ (leaf : Leaf). is_below (key_or_empty leaf.key) key) (sym of_key.2) ∙ low) (ap (λ (leaf : Leaf). is_before_next key leaf.next) (sym of_key.2) ∙ next)

-- If the leaf is the key's own, the key has versions, and the leaf is the one that the history has
-- for it.
pub own_key : (rows : List Row) (lawful : IsLawful rows) (are : All IsTypedRow rows) (key : List ℕ) (leaf : Leaf) → IsOneOf rows lawful are leaf → is_of_key key leaf.key ≡ true → (is_among (keys_of rows) key ≡ true) × (leaf ≡ leaf_of rows key)
own_key rows lawful are key leaf one t = by_one one
  where
    by_one : IsOneOf rows lawful are leaf → (is_among (keys_of rows) key ≡ true) × (leaf ≡ leaf_of rows key)
    by_one (inl first) = absurd (let no : is_of_key key (sentinel (keys_of rows)).key ≡ true = ap (λ (leaf : Leaf). is_of_key key leaf.key) (sym first) ∙ t in cc)
    by_one (inr of_key) =
        let same : of_key.0 ≡ key = same_key of_key.0 key (ap (λ (leaf : Leaf). is_of_key key leaf.key) (sym of_key.2) ∙ t) in
        (ap (is_among (keys_of rows)) (sym same) ∙ is_among_keys rows lawful are of_key.0 of_key.1, of_key.2 ∙ ap (leaf_of rows) same)

-- The newest version's header is expected first.
pub begins : (rows : List Row) (lawful : IsLawful rows) (are : All IsTypedRow rows) (key : List ℕ) (leaf : Leaf) (row : Row) → newest rows key ≡ Some row → leaf ≡ leaf_of rows key → is_of_key key leaf.key ≡ true → expected_first key leaf ≡ Some (begun rows row)
begins rows lawful are key leaf row e is t =
    let named = leaf_is_named rows key row lawful e in
    let start : expected_first key leaf ≡ Some (record { block = leaf.newest_block; digest = leaf.newest }) = rw t refl in
    start ∙ ap (λ (l : Leaf). Some (link_to l.newest_block l.newest)) is ∙ same_start (leaf_of rows key).newest_block row.block (leaf_of rows key).newest (digest_of_row rows row) named.0 named.1
  where
    same_start : (m n : ℕ) (d e : Digest) → m ≡ n → d ≡ e → Some (link_to m d) ≡ Some (link_to n e)
    same_start m n d e block digest = rw (block, digest) refl

-- The newest version is where its header is expected, and the leaf records its uses.
pub stands : (rows : List Row) (lawful : IsLawful rows) (are : All IsTypedRow rows) (key : List ℕ) (at : ℕ) (leaf : Leaf) (row : Row) → newest rows key ≡ Some row → leaf ≡ leaf_of rows key → StandsAt rows key at (claim_of_leaf leaf) row
stands rows lawful are key at leaf row e is = record {
  there = newest_there rows lawful are key row e;
  key_is = newest_is_key rows key row e;
  answers = λ t. (
    latest_is_newest rows key at row e t,
    ap claim_of_leaf is ∙ ap (λ (o : Option Row). claim_of_uses (uses rows key (block_of o))) e,
  );
}
