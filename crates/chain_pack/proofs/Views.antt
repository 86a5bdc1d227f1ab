-- The items and members of a JSON value are those of its vector and its map.
use Rattle.std.proofs.Common.{◌≡◌, suc, List, [], ◌∷◌, map, length, refl, ap, ◌∙◌}
use Rattle.std.specs.Prelude.{String}
use Rattle.std.specs.declared.alloc.Global.{Global}
use Rattle.std.proofs.lemmas.List.{length-map}
use Rattle.serde_json.specs.Data.{Data}
use Rattle.serde_json.specs.declared.value.Value.{Value}
use Rattle.serde_json.specs.View.{view, items_of, items_view, members_of, members_view}
use Rattle.chain_pack.specs.Json.{list_of, count_of}

pub listed : (items : List Data) → list_of (items_of items) ≡ items
listed [] = refl
listed (first ∷ others) = ap (λ (xs : List Data). first ∷ xs) (listed others)

pub counted : (members : List (String Global × Data)) → count_of (members_of members) ≡ length members
counted [] = refl
counted (first ∷ others) = ap suc (counted others)

pub items_listed : (values : List Value) → list_of (items_view values) ≡ map view values
items_listed values = listed (map view values)

pub members_counted : (members : List (String Global × Value)) → count_of (members_view members) ≡ length members
members_counted members = counted (map (λ m. (m.0, view m.1)) members) ∙ length-map members (λ m. (m.0, view m.1))
