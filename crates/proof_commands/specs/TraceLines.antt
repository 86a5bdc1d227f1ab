-- The words that are printed for a proof of ancestors that isn't accepted.
use Rattle.std.specs.Prelude.{ℕ, List, ◌++◌, codes, decimal}
use Rattle.hex.specs.Hex.{encode_lower}
use Rattle.lc_base.specs.declared.digest.Digest.{Digest}
use Rattle.proof_commands.specs.Lines.{reject_text}
use Rattle.proof_checks.specs.declared.trace_reject.TraceReject.{TraceReject}
use Rattle.proof_checks.specs.declared.trace_reject.TraceReject.TheVariants as rejects

-- The word for a check of an item, and the item's number.
abbrev pub item_text : List ℕ → ℕ → List ℕ
item_text word item = codes "trace " ++ word ++ codes " " ++ decimal item

-- The same, with the digest that was computed.
abbrev pub item_digest_text : List ℕ → ℕ → Digest → List ℕ
item_digest_text word item computed = item_text word item ++ codes " " ++ encode_lower computed.0

-- The words for the check that failed.
abbrev pub trace_reject_text : TraceReject → List ℕ
trace_reject_text (rejects.Malformed at) = codes "malformed " ++ decimal at
trace_reject_text (rejects.Start reject) = reject_text reject
trace_reject_text (rejects.Late item) = item_text (codes "late") item
trace_reject_text (rejects.Two item) = item_text (codes "two") item
trace_reject_text (rejects.Extra item) = item_text (codes "extra") item
trace_reject_text (rejects.Order item) = item_text (codes "order") item
trace_reject_text (rejects.Header item computed) = item_digest_text (codes "header") item computed
trace_reject_text (rejects.Body item computed) = item_digest_text (codes "body") item computed
trace_reject_text (rejects.Missing item) = item_text (codes "missing") item
