-- How a trace is spelled: field by field, in a fixed order.
use Rattle.std.specs.Prelude.{◌≡◌, ℕ, List, ◌∷◌, ◌++◌, length}
use Rattle.std.specs.List.{concat, flat_map}
use Rattle.std.specs.Int.{w32, to_be_bytes}
use Rattle.root_laws.specs.prov_entry.Spelling.{header_fields, body_fields}
use Rattle.proof_codec.specs.declared.proof.Proof.{Proof}
use Rattle.proof_codec.specs.Spelling.{proof_fields}
use Rattle.proof_checks.specs.declared.trace_limits.TheConstants.{TRACE_MAGIC}
use Rattle.proof_checks.specs.declared.trace_proof.TraceItem.{TraceItem}
use Rattle.proof_checks.specs.declared.trace_proof.TraceProof.{TraceProof}
use Rattle.proof_checks.specs.TraceTexts.{IsTraceProof}

-- The proof of the version, after the number of its bytes.
abbrev pub start_fields : Proof → List (List ℕ)
start_fields start =
    to_be_bytes w32 (length (concat (proof_fields start))) ∷ proof_fields start

-- The header and the body of an ancestor, without their tags.
abbrev pub item_fields : TraceItem → List (List ℕ)
item_fields item = header_fields item.header ++ body_fields item.body

-- The ancestors, the last one first, after their number.
abbrev pub items_fields : List TraceItem → List (List ℕ)
items_fields items = to_be_bytes w32 (length items) ∷ flat_map item_fields items

-- The magic bytes, the proof of the version, and the ancestors.
abbrev pub trace_fields : TraceProof → List (List ℕ)
trace_fields trace = TRACE_MAGIC ∷ start_fields trace.start ++ items_fields trace.items

-- The bytes are the fields of a lawful trace, and nothing else.
pub record SpellsTrace (bytes : List ℕ) (trace : TraceProof) : Type 0 where
  pub lawful : IsTraceProof trace
  pub spelled : bytes ≡ concat (trace_fields trace)
