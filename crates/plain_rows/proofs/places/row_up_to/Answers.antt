use Rattle.std.proofs.Common.{◌≡◌, ◌∙◌, ap, sym, subst}
use Rattle.std.specs.List.Sorted.{IsNonDecreasingBy}
use Rattle.plain_rows.specs.Places.{is_of, block_of, list_or_empty, places}
use Rattle.plain_rows.proofs.Marked.{places_rise}
use Rattle.plain_rows.proofs.LastPlace.{blocks_rise}
use Rattle.plain_rows.proofs.places.row_up_to.Goals as goal

pub last_place-requires : goal.last_place-requires
last_place-requires c =
    let rows = c.requires.0 in
    let key = c.args.key.now in
    let same : c.as_slice.result.now ≡ places rows key = c.as_slice.ensures
    ∙ ap list_or_empty c.in-Some.ensures.value ∙ c.requires.2 key in
    subst (IsNonDecreasingBy block_of) (sym same)
    (places_rise (is_of key) 0 rows (blocks_rise rows c.requires.1))
