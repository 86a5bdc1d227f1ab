-- Examples of pieces: `drop` is a keyword in the second edition, and a name in the first.
use Rattle.std.proofs.Common.{◌≡◌, codes, refl}
use Rattle.contract_tokens.specs.declared.edition.TheConstants.{FIRST_EDITION, SECOND_EDITION}
use Rattle.contract_tokens.specs.declared.piece.Piece.TheVariants as pieces
use Rattle.contract_tokens.specs.declared.token.Mark.TheVariants as marks
use Rattle.contract_tokens.specs.declared.token.Word.TheVariants as words
use Rattle.contract_tokens.specs.Pieces.{keyword_of, name_piece, next_piece}

-- drop k, in the first edition
drop_is_named : next_piece FIRST_EDITION (codes "drop k") ≡ pieces.Take 4 (words.Name (codes "drop"))
unfolding next_piece name_piece keyword_of
drop_is_named = refl

-- the same in the second
drop_is_marked : next_piece SECOND_EDITION (codes "drop k") ≡ pieces.Take 4 (words.Mark marks.Drop)
unfolding next_piece name_piece keyword_of
drop_is_marked = refl

-- dropped, which is a name of its own
dropped_is_named : next_piece SECOND_EDITION (codes "dropped") ≡ pieces.Take 7 (words.Name (codes "dropped"))
unfolding next_piece name_piece keyword_of
dropped_is_named = refl

-- put, in the first edition
put_is_marked : next_piece FIRST_EDITION (codes "put k") ≡ pieces.Take 3 (words.Mark marks.Put)
unfolding next_piece name_piece keyword_of
put_is_marked = refl
