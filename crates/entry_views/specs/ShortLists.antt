-- Bytes are read as a short list exactly if they begin with its spelling.
use Rattle.std.proofs.Common.{ℕ, ◌<◌, ◌≤◌, List, [], ◌∷◌, length, refl, arith}
use Rattle.std.specs.Prelude.{nat_le}
use Rattle.std.specs.List.{flat_map, AllByRecursion}
use Rattle.std.proofs.lemmas.Bool.{leb-true, le-leb}
use Rattle.byte_fields.specs.Reading.{Field}
use Rattle.byte_fields.proofs.Laws.{IsField, renamed}
use Rattle.byte_fields.proofs.Items.{counted_field}
use Rattle.byte_fields.proofs.Pieces.{piece_field, ruled_piece, byte_piece}
use Rattle.entry_views.specs.Reading.{short_list_at}

module _ {A : Type 0} {item : List ℕ → Field A} {fields : A → List (List ℕ)} {Is : A → Type 0} (most : ℕ) (fits : most < 256) (field : IsField item fields Is) where
  -- at most `most` lawful items
  abbrev pub AreFew : List A → Type 0
  AreFew items = (length items ≤ most) × AllByRecursion Is items

  -- their number, and their fields
  abbrev pub list_fields : List A → List (List ℕ)
  list_fields items = (length items ∷ []) ∷ flat_map fields items

  pub short_list_field : IsField (short_list_at most item) list_fields AreFew
  unfolding short_list_at
  short_list_field =
      let count = piece_field (ruled_piece byte_piece (λ n. nat_le n most) (record { value = 0; is = (omega arith, le-leb 0 most (omega arith)) })) in
      renamed (counted_field count field)
      (λ items is. (leb-true _ _ is.0.1, is.1)) (λ items is. ((omega (arith, is.0, fits), le-leb _ _ is.0), is.1)) (λ items is. refl)
