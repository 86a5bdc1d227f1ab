use Rattle.std.proofs.Common.{◌≡◌, ◌-◌, List}
use Rattle.entry_views.specs.byte_fields.Reading.{items_at}
use Rattle.entry_views.proofs.byte_fields.Loops.{with_prefix}
use Rattle.entry_views.specs.prov_entry.declared.entry.Header.{Header}
use Rattle.entry_views.specs.Reading.{header_at}
use Rattle.proof_codec.specs.Last.{last_block}
use Rattle.proof_codec.proofs.headers_view.skip_headers.Given as goal

abbrev pub invariant-loop : goal.invariant-loop
invariant-loop l = (read : List Header) × (with_prefix read (items_at header_at (l.count - l.counter) l.reader) ≡ items_at header_at l.count l.initial.reader) × (l.last ≡ last_block read)
