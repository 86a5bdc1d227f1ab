-- The parts that are written one after another are the bytes of the proof.
use Rattle.std.proofs.Common.{◌≡◌, ◌∙◌, ℕ, List, ◌∷◌, ◌++◌, length, sym, ap, append_assoc}
use Rattle.std.specs.List.{concat}
use Rattle.std.specs.Int.{w32, to_be_bytes}
use Rattle.byte_fields.proofs.Laws.{concat-append}
use Rattle.prov_entry.specs.Spelling.{header_fields, body_fields}
use Rattle.proof_codec.specs.Spelling.{proof_fields}
use Rattle.proof_checks.specs.declared.trace_limits.TheConstants.{TRACE_MAGIC}
use Rattle.proof_checks.specs.declared.trace_proof.TraceItem.{TraceItem}
use Rattle.proof_checks.specs.declared.trace_proof.TraceProof.{TraceProof}
use Rattle.proof_checks.specs.TraceSpelling.{start_fields, item_fields, items_fields, trace_fields}

-- A header and a body, one after the other.
pub both_written : (item : TraceItem) (old header body with_header new : List ℕ)
    → header ≡ concat (header_fields item.header) → body ≡ concat (body_fields item.body)
    → with_header ≡ old ++ header → new ≡ with_header ++ body
    → new ≡ old ++ concat (item_fields item)
both_written item old header body with_header new header_is body_is first second =
    let spelled = concat (header_fields item.header) in
    let others = concat (body_fields item.body) in
    second ∙ ap (λ (t : List ℕ). t ++ body) first
    ∙ ap (λ (t : List ℕ). (old ++ t) ++ body) header_is
    ∙ ap (λ (t : List ℕ). (old ++ spelled) ++ t) body_is
    ∙ append_assoc old spelled others
    ∙ ap (λ (t : List ℕ). old ++ t)
    (sym (concat-append (header_fields item.header) (body_fields item.body)))

-- All parts, one after another.
pub all_written : (a b c d e magic count start number items : List ℕ) → a ≡ magic
    → b ≡ a ++ count → c ≡ b ++ start → d ≡ c ++ number → e ≡ d ++ items
    → e ≡ magic ++ (count ++ (start ++ (number ++ items)))
all_written a b c d e magic count start number items one two three four five =
    five ∙ ap (λ (t : List ℕ). t ++ items) (four ∙ ap (λ (t : List ℕ). t ++ number)
    (three ∙ ap (λ (t : List ℕ). t ++ start) (two ∙ ap (λ (t : List ℕ). t ++ count) one)))
    ∙ append_assoc (((magic ++ count) ++ start)) number items
    ∙ append_assoc (magic ++ count) start (number ++ items)
    ∙ append_assoc magic count (start ++ (number ++ items))

-- They are the fields of the proof of all ancestors, if the start is spelled by these bytes.
pub trace_spelled : (trace : TraceProof) (start : List ℕ)
    → start ≡ concat (proof_fields trace.start)
    → TRACE_MAGIC ++ (to_be_bytes w32 (length start)
    ++ (start ++ concat (items_fields trace.items))) ≡ concat (trace_fields trace)
trace_spelled trace start is =
    let spelled = concat (proof_fields trace.start) in
    let count = to_be_bytes w32 (length spelled) in
    let items = concat (items_fields trace.items) in
    ap (λ (s : List ℕ). TRACE_MAGIC ++ (to_be_bytes w32 (length s) ++ (s ++ items))) is
    ∙ sym (concat-append (TRACE_MAGIC ∷ start_fields trace.start) (items_fields trace.items)
    ∙ append_assoc TRACE_MAGIC (count ++ spelled) items
    ∙ ap (λ (t : List ℕ). TRACE_MAGIC ++ t) (append_assoc count spelled items))
