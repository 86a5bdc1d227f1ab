-- The block of the last header, while headers are put at the end of a list, or taken from its front.
use Rattle.std.proofs.Common.{◌≡◌, ℕ, ◌<◌, List, [], ◌∷◌, ◌++◌, length, Option, Some, refl, arith}
use Rattle.entry_views.specs.prov_entry.declared.entry.Header.{Header}
use Rattle.proof_codec.specs.Last.{last_block, IsOfLast}

-- the last header is the one that was put at the end
pub last_added : (headers : List Header) (header : Header) → last_block (headers ++ header ∷ []) ≡ Some header.block
last_added [] header = refl
last_added (first ∷ []) header = refl
last_added (first ∷ next ∷ headers) header = last_added (next ∷ headers) header

-- without the first header it is still that of the last one
pub of_others : (last : Option ℕ) (header : Header) (headers : List Header) → IsOfLast last (header ∷ headers) → IsOfLast last headers
of_others last header [] e = tt
of_others last header (next ∷ headers) e = e

-- if there is a header, the block of the last one is known
pub of_some : (last : Option ℕ) (headers : List Header) → 0 < length headers → IsOfLast last headers → last ≡ last_block headers
of_some last [] some e = absurd (omega (arith, some))
of_some last (header ∷ headers) some e = e
