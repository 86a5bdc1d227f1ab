-- A walk over the headers of a key is one over linked texts, which name each other by their
-- digests.
use Rattle.std.proofs.Common.{◌≡◌, ◌∙◌, ◌⊎◌, ℕ, true, ◌==◌, List, reverse, Option, Some, None, refl, sym, ap, subst, arith, inl, inr}
use Rattle.std.specs.List.{find, Contains}
use Rattle.std.specs.Option.{option_map}
use Rattle.std.specs.Cmp.Lexicographic.{pointwise}
use Rattle.std.proofs.lemmas.List.{get_or-map, length-map}
use Rattle.std.proofs.lemmas.List.Elements.{recursion_from_All}
use Rattle.std.proofs.lemmas.List.Folds.{list_any_at}
use Rattle.std.proofs.lemmas.Bool.{and_parts, and_from, eqb-true, eq-eqb}
use Rattle.std.proofs.lemmas.Option.{none-some, same_Some}
use Rattle.lc_base.specs.declared.row.Row.{Row}
use Rattle.lc_base.specs.History.{IsLawful}
use Rattle.prov_entry.specs.merkle_tree.Chains.{Expected, Walks, IsOfPlace, AreLinked, AreOfPlaces}
use Rattle.prov_entry.specs.merkle_tree.Clash.{Clash}
use Rattle.prov_entry.proofs.merkle_tree.Agreeing.{agree_or_clash}
use Rattle.prov_entry.proofs.merkle_tree.Chained.{walk_sound}
use Rattle.root_laws.specs.Naming.{header_of}
use Rattle.root_laws.specs.NamingLaws.{IsToOlder, digest_of_row}
use Rattle.root_laws.specs.WalkLaws.{is_version_in, text_of_row, header_text_at, header_texts, FollowsLinks, begun_at}
use Rattle.root_laws.proofs.Lists.{all_reverse, all_contained, contained, found_has, found_passes, last_only}
use Rattle.root_laws.proofs.Keys.{same_key, key_is_key}
use Rattle.root_laws.proofs.Headers.{only_row, links_are_named}

-- the version of a row's key in its block is the row
pub version_found : (rows : List Row) (row : Row) → IsLawful rows → Contains rows row → find (is_version_in row.key row.block) (reverse rows) ≡ Some row
version_found rows row lawful has =
    let P : Row → Type 0 = λ (y : Row). is_version_in row.key row.block y ≡ true → y ≡ row in
    let own : is_version_in row.key row.block row ≡ true = and_from (pointwise ◌==◌ row.key row.key) (row.block == row.block) (key_is_key row.key) (eq-eqb row.block row.block refl) in
    last_only (is_version_in row.key row.block) rows row (recursion_from_All P rows (only_row rows row lawful has))
    (list_any_at (is_version_in row.key row.block) rows has.0 row has.1 (ap (is_version_in row.key row.block) has.2 ∙ own))

text_found : (rows : List Row) (row : Row) (key : List ℕ) (block : ℕ) → IsLawful rows → Contains rows row → row.key ≡ key → row.block ≡ block → header_text_at rows key block ≡ Some (text_of_row rows row)
text_found rows row key block lawful has k b =
    ap (λ (x : List ℕ). header_text_at rows x block) (sym k) ∙ ap (header_text_at rows row.key) (sym b) ∙ ap (option_map (text_of_row rows)) (version_found rows row lawful has)

-- the row whose header has the text at a place
row_at : (rows : List Row) (key : List ℕ) (block : ℕ) (text : List ℕ) → header_text_at rows key block ≡ Some text → (row : Row) × Contains rows row × (row.key ≡ key) × (row.block ≡ block) × (text_of_row rows row ≡ text)
row_at rows key block text e = go (find (is_version_in key block) (reverse rows)) refl e
  where
    go : (o : Option Row) → find (is_version_in key block) (reverse rows) ≡ o → option_map (text_of_row rows) o ≡ Some text → (row : Row) × Contains rows row × (row.key ≡ key) × (row.block ≡ block) × (text_of_row rows row ≡ text)
    go None found e = absurd (none-some text e)
    go (Some row) found e =
        let parts = and_parts (pointwise ◌==◌ row.key key) (row.block == block) (found_passes (is_version_in key block) (reverse rows) row found) in
        (row, found_has (Contains rows) (is_version_in key block) (reverse rows) row (all_reverse (Contains rows) rows (all_contained rows)) found, same_key row.key key parts.0, eqb-true row.block block parts.1, same_Some (text_of_row rows row) text e)

headers_linked : (next : List ℕ → Option Expected) (rows : List Row) (key : List ℕ) → IsLawful rows → FollowsLinks next rows → AreLinked next (header_text_at rows key) (header_texts rows)
headers_linked next rows key lawful follows = record {
  listed = λ place text e. let at = row_at rows key place text e in
      (at.1.0, omega (arith, at.1.1, length-map rows (text_of_row rows)), get_or-map (text_of_row rows) rows at.1.0 at.0 text at.1.1 ∙ ap (text_of_row rows) at.1.2 ∙ at.4);
  onward = onward;
}
  where
    onward : (place : ℕ) (text : List ℕ) (expected : Expected) → header_text_at rows key place ≡ Some text → next text ≡ Some expected → IsOfPlace (header_text_at rows key) expected
    onward place text expected e is =
        let at = row_at rows key place text e in
        let chosen = follows at.0 expected at.1 (ap next at.4 ∙ is) in
        let older : IsToOlder rows at.0 chosen.0 = contained (IsToOlder rows at.0) (header_of rows at.0).links chosen.0 (recursion_from_All (IsToOlder rows at.0) (header_of rows at.0).links (links_are_named rows at.0 lawful)) chosen.1 in
        let names = older.1 in (
          text_of_row rows names.row,
          text_found rows names.row key expected.place lawful names.there (names.key_is ∙ at.2) (names.block_is ∙ sym chosen.2.place),
          sym (chosen.2.digest ∙ ap (λ d. d.0) names.digest_is),
        )

pub header_walk : (next : List ℕ → Option Expected) (rows : List Row) (row : Row) (given : List (List ℕ)) → IsLawful rows → FollowsLinks next rows → Contains rows row → Walks next (begun_at rows row) given
    → AreOfPlaces next (header_text_at rows row.key) (begun_at rows row) given ⊎ Clash given (header_texts rows)
header_walk next rows row given lawful follows has walks = elim (agree_or_clash given (header_texts rows)) [
  | inr clash ↦ inr clash
  | inl agree ↦ inl (walk_sound next (header_text_at rows row.key) given (header_texts rows) (begun_at rows row) (headers_linked next rows row.key lawful follows) begun agree walks)
]
  where
    begun : (expected : Expected) → begun_at rows row ≡ Some expected → IsOfPlace (header_text_at rows row.key) expected
    begun expected e =
        let start : Expected = record { place = row.block; digest = (digest_of_row rows row).0 } in
        let same : start ≡ expected = same_Some start expected e in
        subst (λ (x : Expected). IsOfPlace (header_text_at rows row.key) x) same (text_of_row rows row, text_found rows row row.key row.block lawful has refl refl, refl)
