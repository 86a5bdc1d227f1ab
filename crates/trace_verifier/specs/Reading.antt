-- A trace is read from left to right, each field under its rule.
use Rattle.std.specs.Prelude.{ℕ, ◌-◌, ◌==◌, nat_le, List, length, Result, Ok, Err}
use Rattle.std.specs.Cmp.Lexicographic.{pointwise}
use Rattle.std.specs.Int.{w32}
use Rattle.lc_base.specs.declared.limits.TheConstants.{MAX_ROWS}
use Rattle.byte_fields.specs.Reading.{Field, ◌>>=◌, bind_at, then_at, made_at, ruled_at, items_at}
use Rattle.byte_fields.specs.Reading.{all_read, number_at, bytes_at}
use Rattle.prov_entry.specs.declared.entry.Header.{Header}
use Rattle.prov_entry.specs.declared.entry.Body.{Body}
use Rattle.entry_views.specs.Reading.{header_at, body_at}
use Rattle.proof_codec.specs.declared.proof.Proof.{Proof}
use Rattle.proof_codec.specs.Viewing.{proof_in}
use Rattle.proof_verifier.specs.proof_checks.declared.trace_limits.TheConstants.{TRACE_MAGIC}
use Rattle.proof_verifier.specs.proof_checks.declared.trace_proof.TraceItem.{TraceItem}
use Rattle.proof_verifier.specs.proof_checks.declared.trace_proof.TraceProof.{TraceProof}

-- The four magic bytes.
unfoldable pub magic_at : List ℕ → Field (List ℕ)
magic_at = ruled_at (λ bytes. pointwise ◌==◌ bytes TRACE_MAGIC) (bytes_at 4)

-- ---- the proof of the version

-- The proof that the first of these bytes are, and the bytes after it. An offset at which it is
-- invalid counts from the first of the bytes, too.
abbrev pub proof_before : List ℕ → List ℕ → Result Proof ℕ → Field Proof
proof_before bytes rest (Ok proof) = Ok (proof, rest)
proof_before bytes rest (Err at) = Err (length bytes - at)

-- A proof of so many bytes.
abbrev pub proof_of_length : ℕ → List ℕ → Field Proof
proof_of_length count bytes = do
  own ← bytes_at count bytes
  proof_before bytes own.1 (proof_in own.0)

-- The number of bytes of the proof of the version in four bytes, then the proof.
unfoldable pub start_at : List ℕ → Field Proof
start_at = bind_at (number_at w32) proof_of_length

-- ---- the items

-- The item with these parts.
abbrev pub item_of : Header × Body → TraceItem
item_of parts = record { header = parts.0; body = parts.1 }

-- A header and a body.
unfoldable pub item_at : List ℕ → Field TraceItem
item_at = made_at item_of (then_at header_at body_at)

-- The number of items in four bytes, then the items.
unfoldable pub counted_items_at : List ℕ → Field (List TraceItem)
counted_items_at = bind_at (ruled_at (λ n. nat_le n MAX_ROWS) (number_at w32)) (items_at item_at)

-- ---- the trace

-- The magic bytes, the proof of the version, and the items.
unfoldable pub trace_proof_at : List ℕ → Field TraceProof
trace_proof_at bytes = do
  magic ← magic_at bytes
  start ← start_at magic.1
  items ← counted_items_at start.1
  Ok (record { start = start.0; items = items.0 }, items.1)

-- Turns a fault, which counts the bytes left there, into an offset from the start.
abbrev pub with_offset : ℕ → Result TraceProof ℕ → Result TraceProof ℕ
with_offset total (Ok trace) = Ok trace
with_offset total (Err left) = Err (total - left)

-- The trace that the bytes spell, or the offset of the first field that is cut short or breaks its
-- rule, or of what follows the last field.
unfoldable pub trace_in : List ℕ → Result TraceProof ℕ
trace_in bytes = with_offset (length bytes) (all_read (trace_proof_at bytes))
