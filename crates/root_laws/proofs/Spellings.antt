-- The headers, bodies and leaves of a typed history can be spelled.
use Rattle.std.proofs.Common.{◌≡◌, ◌∙◌, ℕ, zero, suc, ◌+◌, ◌<◌, ◌≤◌, ◌^◌, nat_le, get_or, ◌==◌, true, false, List, [], ◌∷◌, length, Option, Some, None, refl, sym, ap, subst, arith, filter, is_some, inl, inr, ◌⊎◌}
use Rattle.std.specs.List.{fold, filter_map, range_with_len, All, Contains}
use Rattle.std.specs.Cmp.Lexicographic.{pointwise}
use Rattle.std.proofs.lemmas.Bool.{cases_Bool}
use Rattle.std.proofs.lemmas.List.{length-map, length-replicate, get_or-map}
use Rattle.std.proofs.lemmas.List.Elements.{recursion_from_All, Contains-get_or}
use Rattle.std.proofs.lemmas.List.Folds.{list_any_at}
use Rattle.sha2.proofs.Facts256.{length-sha256}
use Rattle.lc_base.specs.KeyBytes.{IsKey}
use Rattle.lc_base.specs.declared.digest.Digest.{Digest}
use Rattle.lc_base.specs.declared.row.Row.{Row}
use Rattle.lc_base.specs.declared.row.Dep.{Dep}
use Rattle.lc_base.specs.History.{IsLawful, HasLawfulDeps, below, up_to, newest, uses, depends_on, version_of}
use Rattle.skip_links.specs.Links.{height_to, height, is_at_level, link, links}
use Rattle.skip_links.specs.declared.limits.TheConstants.{MAX_LEVEL}
use Rattle.prov_entry.specs.declared.entry.Leaf.{Leaf}
use Rattle.prov_entry.specs.Spelling.{IsLink, IsHeader, IsBodyDep, IsBody, IsKeyIfAny, IsLeaf}
use Rattle.prov_entry.specs.Spelling.{body_text}
use Rattle.prov_entry.specs.ForwardLists.{start_text, no_uses, use_text, with_use, uses_digest}
use Rattle.root_laws.specs.Naming.{uses_of, closed_uses, header_of, body_of, body_among, named_before, with_digest, link_among}
use Rattle.root_laws.specs.NamingLaws.{IsToOlder, IsOnOlder, NamesHeader}
use Rattle.root_laws.specs.WalkLaws.{text_of_row}
use Rattle.root_laws.specs.KeyLaws.{IsNext}
use Rattle.root_laws.specs.Root.{is_among, keys_of, next_key, sentinel, leaf_of, leaves, block_of}
use Rattle.root_laws.proofs.Lists.{all_weaker, all_contained, contained, option_cases}
use Rattle.root_laws.proofs.Keys.{key_is_key, among_is_some}
use Rattle.root_laws.proofs.Headers.{links_are_named, dependencies_are_named, leaf_is_named, newest_is_key, newest_has}
use Rattle.root_laws.proofs.NextKeys.{next_is}
use Rattle.root_laws.specs.TypedLedger.{IsTypedRow}
use Rattle.root_laws.specs.TypedLaws.{HeadersAreHeaders, BodiesAreBodies, LeavesAreLeaves}
use Rattle.root_laws.proofs.Parts.{filter_short}

-- ---- digests of lists

length_fold : (digest : List ℕ) (list : List Dep) → length digest ≡ 32 → length (fold with_use digest list) ≡ 32
length_fold digest [] h = h
length_fold digest (one ∷ list) h = length_fold (with_use digest one) list (length-sha256 (use_text digest one))

pub length_uses_digest : (list : List Dep) → length (uses_digest list) ≡ 32
length_uses_digest list = length_fold no_uses list (length-sha256 start_text)

-- ---- links

height_low : (top : ℕ) (rows : List Row) (key : List ℕ) (block : ℕ) → height_to top rows key block ≤ top
unfolding height_to
height_low zero rows key block = omega arith
height_low (suc top) rows key block = let deep = height_low top rows key block in elim (cases_Bool (is_at_level rows key block (suc top))) [
  | inl t ↦ rw t (omega arith)
  | inr t ↦ rw t (omega (arith, deep))
]

pub map_short : {X Y : Type 0} (f : X → Option Y) (xs : List X) → length (filter_map f xs) ≤ length xs
map_short f [] = omega arith
map_short f (x ∷ xs) = let rest = map_short f xs in elim (option_cases (f x)) [
  | inl e ↦ rw e (omega (arith, rest))
  | inr s ↦ rw s.1 (omega (arith, rest))
]

range_length : (a n : ℕ) → length (range_with_len a n) ≡ n
range_length a zero = refl
range_length a (suc n) = ap suc (range_length (a + 1) n)

few_links : (rows : List Row) (key : List ℕ) (block : ℕ) → length (links rows key block) ≤ 32
unfolding links
few_links rows key block =
    let short = map_short (link rows key block) (range_with_len 0 (height rows key block + 1)) in
    let low = height_low MAX_LEVEL rows key block in
    omega (arith, short, low, range_length 0 (height rows key block + 1))

-- ---- what is known of one row

module _ (rows : List Row) (lawful : IsLawful rows) (are : All IsTypedRow rows) where
  pub is_row : (row : Row) → Contains rows row → IsTypedRow row
  is_row row has = contained IsTypedRow rows row (recursion_from_All IsTypedRow rows are) has

  pub few_uses : (key : List ℕ) (block : ℕ) → length (uses rows key block) < 2 ^ 32
  few_uses key block = let short = filter_short (depends_on key block) rows in omega (arith, short, lawful.few, length-map (filter (depends_on key block) rows) version_of)

  few_closed : (row : Row) → length (closed_uses (up_to rows row.block) row.key row.block) < 2 ^ 64
  few_closed row = go (newest (below (up_to rows row.block) row.block) row.key)
    where
      go : (o : Option Row) → length (uses_of (up_to rows row.block) row.key o) < 2 ^ 64
      go None = omega arith
      go (Some version) =
          let part = up_to rows row.block in
          let short = filter_short (depends_on row.key version.block) part in
          let shorter : length part ≤ length rows = filter_short (λ (r : Row). nat_le r.block row.block) rows in
          omega (arith, short, shorter, lawful.few, length-map (filter (depends_on row.key version.block) part) version_of)

  digest_is_long : (key : List ℕ) (block : ℕ) (digest : Digest) → NamesHeader rows key block digest → length digest.0 ≡ 32
  digest_is_long key block digest names = ap (λ (d : Digest). length d.0) names.digest_is ∙ length-sha256 (text_of_row rows names.row)

  named_fits : (key : List ℕ) (block : ℕ) (digest : Digest) → NamesHeader rows key block digest → block < 2 ^ 32
  named_fits key block digest names = let fits = (is_row names.row names.there).block_fits in omega (arith, fits, names.block_is)

  named_key : (key : List ℕ) (block : ℕ) (digest : Digest) → NamesHeader rows key block digest → IsKey key
  named_key key block digest names = subst IsKey names.key_is (is_row names.row names.there).key_is_key

  -- The header of a row can be spelled.
  pub header_lawful : (row : Row) → Contains rows row → IsHeader (header_of rows row)
  header_lawful row has =
      let is = is_row row has in
      let few = few_links (up_to rows row.block) row.key row.block in
      record {
        key_is_key = is.key_is_key;
        block_fits = is.block_fits;
        tx_fits = is.tx_fits;
        body_fits = length-sha256 (body_text (body_among (named_before rows row.block) row));
        closed_fits = few_closed row;
        closed_digest_fits = length_uses_digest (closed_uses (up_to rows row.block) row.key row.block);
        few_links = omega (arith, few, length-map (links (up_to rows row.block) row.key row.block) (link_among (named_before rows row.block) row.key));
        links_are_links = all_weaker (IsToOlder rows row) IsLink
            (λ link older. record { block_fits = named_fits row.key link.block link.digest older.1; digest_fits = digest_is_long row.key link.block link.digest older.1 })
            (header_of rows row).links (recursion_from_All (IsToOlder rows row) (header_of rows row).links (links_are_named rows row lawful));
      }

  -- The body of a row can be spelled.
  pub body_lawful : (row : Row) → Contains rows row → IsBody (body_of rows row)
  body_lawful row has =
      let is = is_row row has in
      let deps = contained (HasLawfulDeps rows) rows row (recursion_from_All (HasLawfulDeps rows) rows lawful.lawful_deps) has in
      record {
        value_is_value = is.value_is_value;
        few_deps = omega (arith, deps.few, length-map row.deps (with_digest (named_before rows row.block)));
        deps_are_deps = all_weaker (IsOnOlder rows row) IsBodyDep
            (λ dep older. record {
              key_is_key = named_key dep.key dep.block dep.digest older.1;
              block_fits = named_fits dep.key dep.block dep.digest older.1;
              digest_fits = digest_is_long dep.key dep.block dep.digest older.1;
            })
            (body_of rows row).deps (recursion_from_All (IsOnOlder rows row) (body_of rows row).deps (dependencies_are_named rows row lawful has));
      }

  -- ---- leaves

  pub newest_there : (key : List ℕ) (row : Row) → newest rows key ≡ Some row → Contains rows row
  newest_there key row e = newest_has (Contains rows) rows key row (all_contained rows) e

  pub newest_of_key : (key : List ℕ) → is_among (keys_of rows) key ≡ true → (row : Row) × (newest rows key ≡ Some row)
  newest_of_key key t = elim (option_cases (newest rows key)) [
    | inr s ↦ s
    | inl none ↦ absurd (let f : true ≡ false = sym t ∙ among_is_some rows key ∙ ap is_some none in cc)
  ]

  pub is_among_keys : (key : List ℕ) → Contains (keys_of rows) key → is_among (keys_of rows) key ≡ true
  is_among_keys key (k, below, is) = list_any_at (λ (other : List ℕ). pointwise ◌==◌ other key) (keys_of rows) k key below (ap (λ (other : List ℕ). pointwise ◌==◌ other key) is ∙ key_is_key key)

  key_lawful : (key : List ℕ) → Contains (keys_of rows) key → IsKey key
  key_lawful key has =
      let row = newest_of_key key (is_among_keys key has) in
      subst IsKey (newest_is_key rows key row.0 row.1) (is_row row.0 (newest_there key row.0 row.1)).key_is_key

  next_lawful : (low : List ℕ) → IsKeyIfAny (next_key (keys_of rows) low)
  next_lawful low = go (next_key (keys_of rows) low) (next_is (keys_of rows) low)
    where
      go : (o : Option (List ℕ)) → IsNext (keys_of rows) low o → IsKeyIfAny o
      go None is = tt
      go (Some next) is = key_lawful next is.0

  sentinel_lawful : IsLeaf (sentinel (keys_of rows))
  sentinel_lawful = record {
    key_is_key = tt;
    next_is_key = next_lawful [];
    newest_block_fits = omega arith;
    newest_fits = length-replicate {A = ℕ} 32 0;
    open_count_fits = omega arith;
    open_digest_fits = length_uses_digest [];
  }

  leaf_lawful : (key : List ℕ) → Contains (keys_of rows) key → IsLeaf (leaf_of rows key)
  leaf_lawful key has =
      let row = newest_of_key key (is_among_keys key has) in
      let named = leaf_is_named rows key row.0 lawful row.1 in
      let fits = (is_row row.0 (newest_there key row.0 row.1)).block_fits in
      let few = few_uses key (block_of (newest rows key)) in
      record {
        key_is_key = key_lawful key has;
        next_is_key = next_lawful key;
        newest_block_fits = omega (arith, named.0, fits);
        newest_fits = ap (λ (d : Digest). length d.0) named.1 ∙ length-sha256 (text_of_row rows row.0);
        open_count_fits = omega (arith, few);
        open_digest_fits = length_uses_digest (uses rows key (block_of (newest rows key)));
      }

  -- the sentinel, or the leaf of a key
  abbrev pub IsOneOf : Leaf → Type 0
  IsOneOf leaf = (leaf ≡ sentinel (keys_of rows)) ⊎ ((key : List ℕ) × Contains (keys_of rows) key × (leaf ≡ leaf_of rows key))

  pub leaf_cases : (leaf : Leaf) → Contains (leaves rows) leaf → IsOneOf leaf
  leaf_cases leaf (zero, below, is) = inl (sym is)
  leaf_cases leaf (suc k, below, is) =
      let within : k < length (keys_of rows) = omega (arith, below, length-map (keys_of rows) (leaf_of rows)) in
      inr (get_or (keys_of rows) k [], Contains-get_or (keys_of rows) k [] within, sym (sym (get_or-map (leaf_of rows) (keys_of rows) k [] leaf within) ∙ is))

  pub one_lawful : (leaf : Leaf) → IsOneOf leaf → IsLeaf leaf
  one_lawful leaf (inl is) = subst IsLeaf (sym is) sentinel_lawful
  one_lawful leaf (inr one) = subst IsLeaf (sym one.2) (leaf_lawful one.0 one.1)

-- ---- the laws

pub headers_spelled : HeadersAreHeaders
headers_spelled rows history = λ i d within. header_lawful rows history.lawful history.typed (get_or rows i d) (Contains-get_or rows i d within)

pub bodies_spelled : BodiesAreBodies
bodies_spelled rows history = λ i d within. body_lawful rows history.lawful history.typed (get_or rows i d) (Contains-get_or rows i d within)

pub leaves_spelled : LeavesAreLeaves
leaves_spelled rows history = λ i d within.
    let leaf = get_or (leaves rows) i d in
    one_lawful rows history.lawful history.typed leaf (leaf_cases rows history.lawful history.typed leaf (Contains-get_or (leaves rows) i d within))
