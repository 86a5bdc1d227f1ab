-- Walks over the headers of a key, from each to an older one that it names by its digest.
use Rattle.std.specs.Prelude.{◌≡◌, ◌==◌, ◌&&◌, ◌⊎◌, ℕ, Bool, List, map, reverse, Option, Some}
use Rattle.std.specs.List.{find, Contains}
use Rattle.std.specs.Option.{option_map}
use Rattle.std.specs.Cmp.Lexicographic.{pointwise}
use Rattle.lc_base.specs.declared.row.Row.{Row}
use Rattle.lc_base.specs.History.{IsLawful}
use Rattle.prov_entry.specs.merkle_tree.Chains.{Expected, Walks, AreOfPlaces}
use Rattle.prov_entry.specs.merkle_tree.Clash.{Clash}
use Rattle.prov_entry.specs.declared.entry.Link.{Link}
use Rattle.prov_entry.specs.Spelling.{header_text}
use Rattle.root_laws.specs.Naming.{header_of}
use Rattle.root_laws.specs.NamingLaws.{digest_of_row}

-- Whether a row is the version of the key in this block.
abbrev pub is_version_in : List ℕ → ℕ → Row → Bool
is_version_in key block row = pointwise ◌==◌ row.key key && row.block == block

-- The text of the header of a row of a history.
abbrev pub text_of_row : List Row → Row → List ℕ
text_of_row rows row = header_text (header_of rows row)

-- The text of the header of the key's version in this block; `None` if there is no such version.
abbrev pub header_text_at : List Row → List ℕ → ℕ → Option (List ℕ)
header_text_at rows key block = option_map (text_of_row rows) (find (is_version_in key block) (reverse rows))

-- The texts of all headers.
abbrev pub header_texts : List Row → List (List ℕ)
header_texts rows = map (text_of_row rows) rows

-- The link names the block and the digest that are expected.
pub record IsExpected (expected : Expected) (link : Link) : Type 0 where
  pub place : expected.place ≡ link.block
  pub digest : expected.digest ≡ link.digest.0

-- What is expected after the text of a header of the history is one of the header's links.
abbrev pub FollowsLinks : (List ℕ → Option Expected) → List Row → Type 0
FollowsLinks next rows =
    (row : Row) (expected : Expected) → Contains rows row → next (text_of_row rows row) ≡ Some expected
    → (link : Link) × Contains (header_of rows row).links link × IsExpected expected link

-- Where a walk over a key's headers begins: at a row, by the digest of its header.
abbrev pub begun_at : List Row → Row → Option Expected
begun_at rows row = Some (record { place = row.block; digest = (digest_of_row rows row).0 })

-- A walk from a row of a lawful history that follows links is over the headers of the versions of the
-- row's key, or one of its texts and one of the headers differ and have one digest.
abbrev pub HeaderWalksAreSound : Type 0
HeaderWalksAreSound =
    (next : List ℕ → Option Expected) (rows : List Row) (row : Row) (given : List (List ℕ))
    → IsLawful rows → FollowsLinks next rows → Contains rows row → Walks next (begun_at rows row) given
    → AreOfPlaces next (header_text_at rows row.key) (begun_at rows row) given ⊎ Clash given (header_texts rows)
