-- Versions that are read, one after another, are those of the rows at their indexes.
use Rattle.std.proofs.Common.{◌≡◌, ◌∙◌, ℕ, ◌+◌, List, [], ◌∷◌, ◌++◌, length, map}
use Rattle.std.proofs.Common.{take, reverse, slice_get, Option, Some, None, refl, sym, ap}
use Rattle.std.specs.Option.{option_map}
use Rattle.std.proofs.lemmas.List.{map-append, reverse-reverse, length-map, take_more}
use Rattle.std.proofs.lemmas.Option.{none-some, same_Some, slice_get-map, slice_get_within}
use Rattle.std.proofs.lemmas.Option.{get_or_from_slice_get}
use Rattle.lc_base.specs.declared.row.Row.{Row}
use Rattle.lc_base.specs.declared.row.Version.{Version}
use Rattle.lc_base.specs.declared.value.Value.{Value}
use Rattle.root_laws.specs.Ranges.{as_version}
use Rattle.root_laws.proofs.Lists.{map_reverse}
use Rattle.range_proof.specs.Finding.{AreRowsAt}
use Rattle.range_proof.specs.Telling.{place_of}

abbrev version_with : ℕ → ℕ → Value → Version
version_with block tx value = record { block = block; tx = tx; value = value }

-- A version with the block, the transaction and the value of a row.
pub version_told : (row : Row) (block tx : ℕ) (value : Value) → block ≡ row.block → tx ≡ row.tx
    → value ≡ row.value → version_with block tx value ≡ as_version row
version_told row block tx value block_is tx_is value_is =
    ap (λ (b : ℕ). version_with b tx value) block_is
    ∙ ap (λ (t : ℕ). version_with row.block t value) tx_is
    ∙ ap (version_with row.block row.tx) value_is

-- The block and the transaction of a row.
abbrev pub place_told : Row → ℕ × ℕ
place_told row = place_of (as_version row)

-- The row at one of the indexes.
pub row_there : (rows : List Row) (indexes : List ℕ) (found : List Row) (i index : ℕ)
    → AreRowsAt rows indexes found → slice_get indexes i ≡ Some index
    → (row : Row) × (slice_get rows index ≡ Some row) × (slice_get found i ≡ Some row)
row_there rows indexes found i index are at =
    go (slice_get found i) refl
  where
    some : Row → Option Row
    some row = Some row

    same : Some (slice_get rows index) ≡ option_map some (slice_get found i)
    same = sym (ap (option_map (slice_get rows)) at)
        ∙ sym (slice_get-map (slice_get rows) indexes i)
        ∙ ap (λ (rs : List (Option Row)). slice_get rs i) are
        ∙ slice_get-map some found i

    go : (o : Option Row) → slice_get found i ≡ o
        → (row : Row) × (slice_get rows index ≡ Some row) × (slice_get found i ≡ Some row)
    go None e = absurd (none-some (slice_get rows index) (sym (same ∙ ap (option_map some) e)))
    go (Some row) e = (
      row,
      same_Some (slice_get rows index) (Some row) (same ∙ ap (option_map some) e),
      e,
    )

-- One more of what is told of rows.
pub one_more_told : {A : Type 0} (told_of : Row → A) (found : List Row) (i : ℕ) (row : Row)
    (told longer : List A) (item : A) → slice_get found i ≡ Some row
    → longer ≡ told ++ item ∷ [] → item ≡ told_of row → told ≡ map told_of (take i found)
    → longer ≡ map told_of (take (i + 1) found)
one_more_told {A = A} told_of found i row told longer item at more is before =
    let within = slice_get_within found i row at in
    more
    ∙ ap (λ (t : List A). t ++ item ∷ []) before
    ∙ ap (λ (x : A). map told_of (take i found) ++ x ∷ []) is
    ∙ sym (map-append told_of (take i found) (row ∷ []))
    ∙ ap (map told_of)
    (ap (λ (r : Row). take i found ++ r ∷ []) (sym (get_or_from_slice_get found i row row at))
    ∙ sym (take_more found i row within))

pub as_long : (rows : List Row) (indexes : List ℕ) (found : List Row)
    → AreRowsAt rows indexes found → length indexes ≡ length found
as_long rows indexes found are =
    let some : Row → Option Row = λ r. Some r in
    sym (length-map indexes (slice_get rows)) ∙ ap length are ∙ length-map found some

-- The first ones first.
pub turned : (rows : List Row) (indexes rising : List ℕ) (found : List Row)
    → AreRowsAt rows indexes (reverse found) → rising ≡ reverse indexes
    → AreRowsAt rows rising found
turned rows indexes rising found are turn =
    let some : Row → Option Row = λ r. Some r in
    ap (map (slice_get rows)) turn
    ∙ sym (map_reverse (slice_get rows) indexes)
    ∙ ap reverse are
    ∙ map_reverse some (reverse found)
    ∙ ap (map some) (reverse-reverse found)
