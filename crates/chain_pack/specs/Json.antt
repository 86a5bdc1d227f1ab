-- JSON (RFC 8259), as drafts are read from it.
use Rattle.std.specs.Prelude.{ℕ, suc, if◌then◌else◌, List, [], ◌∷◌, Option, None, option_and_then, option_map}
use Rattle.std.specs.Str.{is_utf8}
use Rattle.serde_json.specs.Data.{Data, Items, no_items, item, Members, no_members, member}
use Rattle.serde_json.specs.Find.{as_array, as_object}
use Rattle.serde_json.specs.Read.{read}

infixl 10 ◌>>=◌
-- The function's result for a value, or `None` if there is no value.
abbrev pub ◌>>=◌ : {A B : Type 0} → Option A → (A → Option B) → Option B
found >>= make = option_and_then make found

-- The JSON value that a text spells, if the text is UTF-8 and nests no deeper than 127.
abbrev pub json_in : List ℕ → Option Data
json_in text = if is_utf8 text then read text else None

-- The items of an array.
abbrev pub list_of : Items → List Data
list_of no_items = []
list_of (item first others) = first ∷ list_of others

-- The items of an array, or `None` for other values.
abbrev pub items_in : Data → Option (List Data)
items_in json = option_map list_of (as_array json)

-- The number of members.
abbrev pub count_of : Members → ℕ
count_of no_members = 0
count_of (member name value others) = suc (count_of others)

-- The number of an object's members, or `None` for other values. An object has each name once.
abbrev pub member_count : Data → Option ℕ
member_count json = option_map count_of (as_object json)
