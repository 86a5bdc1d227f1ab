-- The block of the last header, which says whether a query is answered.
use Rattle.std.specs.Prelude.{◌≡◌, ℕ, List, [], ◌∷◌, Option}
use Rattle.std.specs.Option.{option_map}
use Rattle.entry_views.specs.prov_entry.declared.entry.Header.{Header}
use Rattle.proof_codec.specs.Spelling.{last_of}

-- The block of the last header, or `None` if there is no header.
abbrev pub last_block : List Header → Option ℕ
last_block headers = option_map (λ (header : Header). header.block) (last_of headers)

-- This is the block of the last header, if there is a header.
abbrev pub IsOfLast : Option ℕ → List Header → Type 0
IsOfLast last [] = Unit {0}
IsOfLast last (header ∷ headers) = last ≡ last_block (header ∷ headers)
