-- Where bytes that aren't a proof of ancestors are at fault: the first field that is cut short or
-- breaks its rule begins there, or what follows the last field. The number of bytes of the start
-- decides which bytes are the start, also if no proof has so many.
use Rattle.std.specs.Prelude.{ℕ, ◌+◌, ◌<◌, ◌≤◌, ◌^◌, List, [], ◌∷◌, length, take, drop}
use Rattle.std.specs.Int.{w32, from_be_bytes, to_be_bytes}
use Rattle.std.specs.List.{AllByRecursion}
use Rattle.lc_base.specs.declared.limits.TheConstants.{MAX_ROWS}
use Rattle.byte_fields.specs.Prefixes.{IsGoodPrefix, IsLongestPrefix}
use Rattle.proof_codec.specs.declared.proof.Proof.{Proof}
use Rattle.proof_codec.specs.Spelling.{IsProof, proof_fields}
use Rattle.proof_codec.specs.Viewing.{Spells}
use Rattle.proof_verifier.specs.proof_checks.declared.trace_limits.TheConstants.{TRACE_MAGIC}
use Rattle.proof_verifier.specs.proof_checks.declared.trace_proof.TraceItem.{TraceItem}
use Rattle.proof_verifier.specs.proof_checks.TraceTexts.{IsTraceItem}
use Rattle.proof_verifier.specs.proof_checks.TraceSpelling.{items_fields}

-- The front: the magic bytes, and the number of bytes of the start, in four bytes each.
abbrev pub front_fields : ℕ → List (List ℕ)
front_fields count = TRACE_MAGIC ∷ to_be_bytes w32 count ∷ []

-- A number that four bytes spell.
abbrev pub IsCount : ℕ → Type 0
IsCount count = count < 2 ^ 32

-- The number of bytes of the start, as the front tells it.
abbrev pub start_length : List ℕ → ℕ
start_length bytes = from_be_bytes w32 (take 4 (drop 4 bytes))

-- So many bytes after the front.
abbrev pub start_bytes : List ℕ → List ℕ
start_bytes bytes = take (start_length bytes) (drop 8 bytes)

-- The bytes after those.
abbrev pub items_bytes : List ℕ → List ℕ
items_bytes bytes = drop (start_length bytes) (drop 8 bytes)

-- Items that can be spelled: there are at most MAX_ROWS.
pub record AreItems (items : List TraceItem) : Type 0 where
  pub few : length items ≤ MAX_ROWS
  pub lawful : AllByRecursion IsTraceItem items

-- The front is whole, and so many bytes follow it as it says.
pub record HasStart (bytes : List ℕ) : Type 0 where
  pub front : IsGoodPrefix front_fields IsCount bytes 8
  pub whole : 8 + start_length bytes ≤ length bytes

-- The first fault is at this offset: in the front; at the start, which is cut short; in the start,
-- which isn't a proof; or in the items, where the longest prefix ends that is whole fields of some.
pub data IsInvalidAt (bytes : List ℕ) : ℕ → Type 0 where
  InFront : (offset : ℕ) → IsLongestPrefix front_fields IsCount bytes offset → offset < 8
      → IsInvalidAt bytes offset
  CutShort : IsGoodPrefix front_fields IsCount bytes 8 → length bytes < 8 + start_length bytes
      → IsInvalidAt bytes 8
  InStart : HasStart bytes → ((start : Proof) → Spells (start_bytes bytes) start → ⊥)
      → (offset : ℕ) → IsLongestPrefix proof_fields IsProof (start_bytes bytes) offset
      → IsInvalidAt bytes (8 + offset)
  InItems : HasStart bytes → (start : Proof) → Spells (start_bytes bytes) start
      → (offset : ℕ) → IsLongestPrefix items_fields AreItems (items_bytes bytes) offset
      → IsInvalidAt bytes (8 + start_length bytes + offset)
