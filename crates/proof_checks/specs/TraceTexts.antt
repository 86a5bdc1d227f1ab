-- The texts that a proof of ancestors shows, and which such proofs can be spelled.
use Rattle.std.specs.Prelude.{ℕ, ◌<◌, ◌≤◌, ◌^◌, List, [], ◌∷◌, ◌++◌, length}
use Rattle.std.specs.List.{flat_map, AllByRecursion, concat}
use Rattle.lc_base.specs.declared.limits.TheConstants.{MAX_ROWS}
use Rattle.root_laws.specs.prov_entry.Spelling.{IsHeader, IsBody, header_text, body_text}
use Rattle.proof_codec.specs.Spelling.{IsProof, proof_fields}
use Rattle.proof_checks.specs.ProofTexts.{proof_texts}
use Rattle.proof_checks.specs.declared.trace_proof.TraceItem.{TraceItem}
use Rattle.proof_checks.specs.declared.trace_proof.TraceProof.{TraceProof}

-- The texts of an item: its header and its body.
abbrev pub texts_of_item : TraceItem → List (List ℕ)
texts_of_item item = header_text item.header ∷ body_text item.body ∷ []

-- The texts of a proof of ancestors: those of its start, and those of its items.
unfoldable pub trace_texts : TraceProof → List (List ℕ)
trace_texts trace = proof_texts trace.start ++ flat_map texts_of_item trace.items

-- An item that can be spelled: its header and its body can.
pub record IsTraceItem (item : TraceItem) : Type 0 where
  pub header_is_header : IsHeader item.header
  pub body_is_body : IsBody item.body

-- A proof of ancestors that can be spelled: the number of bytes of its start fits in 32 bits, and
-- there are at most MAX_ROWS items.
pub record IsTraceProof (trace : TraceProof) : Type 0 where
  pub start_is_proof : IsProof trace.start
  pub start_fits : length (concat (proof_fields trace.start)) < 2 ^ 32
  pub few_items : length trace.items ≤ MAX_ROWS
  pub items_are_items : AllByRecursion IsTraceItem trace.items
