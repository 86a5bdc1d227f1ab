use Rattle.std.proofs.Common.{◌∙◌, ◌++◌, ℕ, List, ap}
use Rattle.std.specs.List.{concat, flat_map}
use Rattle.std.specs.Int.{w32, to_be_bytes}
use Rattle.std.proofs.Common.{length}
use Rattle.proof_checks.specs.declared.trace_limits.TheConstants.{TRACE_MAGIC}
use Rattle.proof_checks.specs.TraceSpelling.{item_fields}
use Rattle.lineage_trace.proofs.Spelled.{all_written}
use Rattle.lineage_trace.proofs.writing.write_trace.Goals as goal

pub returns : goal.returns
returns c = c.from_vec.ensures ∙ all_written c.extend_from_slice.new.self.items
    c.put_u32.new.out.items c.extend_from_slice-2.new.self.items c.put_u32-2.new.out.items
    c.put_items.new.out.items TRACE_MAGIC (to_be_bytes w32 (length c.args.start.now)) c.args.start.now
    (to_be_bytes w32 (length c.args.items.now))
    (concat (flat_map item_fields c.args.items.now))
    (c.in_ok-extend_from_slice.ensures.items ∙ ap (λ (t : List ℕ). t ++ TRACE_MAGIC)
    c.new-out.ensures.items) c.in_ok-put_u32.ensures.written
    c.in_ok-extend_from_slice-2.ensures.items c.in_ok-put_u32-2.ensures.written
    c.in_ok-put_items.ensures
