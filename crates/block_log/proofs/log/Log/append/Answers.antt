use Rattle.std.proofs.Common.{◌≡◌, ℕ, ◌+◌, length, take, sym, ◌∙◌, ap, arith}
use Rattle.std.proofs.lemmas.List.{length-take-le}
use Rattle.byte_fields.specs.Spelling.{IsBytes}
use Rattle.disk_model.specs.Disk.{Torn}
use Rattle.disk_model.proofs.Moments.{weaker}
use Rattle.block_codec.specs.Reading.{block_in}
use Rattle.block_log.specs.declared.layout.TheConstants.{MAX_RECORD_BYTES}
use Rattle.block_log.specs.Standing.{next_block}
use Rattle.block_log.specs.Log.{IsOldOrNew}
use Rattle.block_log.specs.Steps.{record_bytes}
use Rattle.block_log.specs.contracts.log.Log.{the_view}
use Rattle.block_log.proofs.Resting.{two_steps}
use Rattle.block_log.proofs.NextRecord.{short, kept, record_within, gate_within, agrees_then, rests_there, first_leaves, second_leaves, chain_then}
use Rattle.block_log.proofs.log.Log.append.Goals as goal

pub fill-requires-clause-short : goal.fill-requires-clause-short
fill-requires-clause-short g c = short (the_view c.self.inside) c.args.self c.args.bytes.now c.self.view_is c.requires.next (λ i. omega (arith, c.type_inv.bytes i)) c.self.invariant.1

pub slice_bounds-write_through-end : goal.slice_bounds-write_through-end
slice_bounds-write_through-end g c =
    let short = short (the_view c.self.inside) c.args.self c.args.bytes.now c.self.view_is c.requires.next (λ i. omega (arith, c.type_inv.bytes i)) c.self.invariant.1 in
    let long : length c.deref.result.now ≡ MAX_RECORD_BYTES = ap (length {A = ℕ}) c.deref.ensures.value ∙ c.fill.ensures.room in
    sym (length-take-le (length c.args.bytes.now + 5) c.deref.result.now (omega (arith, short, long)))

pub write_through-requires-clause-within : goal.write_through-requires-clause-within
write_through-requires-clause-within g c =
    record_within (the_view c.self.inside) c.args.self c.args.bytes.now c.self.view_is c.requires.next (λ i. omega (arith, c.type_inv.bytes i)) c.self.invariant.1 _ c.requires.ready c.requires.agrees

pub write_through-requires-2-clause-within : goal.write_through-requires-2-clause-within
write_through-requires-2-clause-within g c =
    let joined : take (length c.args.bytes.now + 5) c.deref.result.now ≡ record_bytes c.args.bytes.now = ap (take (length c.args.bytes.now + 5)) c.deref.ensures.value ∙ c.fill.ensures.record in
    gate_within (the_view c.self.inside) c.args.self c.args.bytes.now c.self.view_is c.requires.next (λ i. omega (arith, c.type_inv.bytes i)) c.self.invariant.1 _ c.requires.ready c.requires.agrees _ (rw joined at c.in_ok-write_through.ensures.disk)

pub returns-in_err-write_through-clause-images : goal.returns-in_err-write_through-clause-images
returns-in_err-write_through-clause-images g c place content logged block told after =
    let log = the_view c.self.inside in
    let bytes = c.args.bytes.now in
    let fits : IsBytes bytes = λ i. omega (arith, c.type_inv.bytes i) in
    let joined : take (length bytes + 5) c.deref.result.now ≡ record_bytes bytes = ap (take (length bytes + 5)) c.deref.ensures.value ∙ c.fill.ensures.record in
    let rests = rests_there log c.args.self bytes c.self.view_is c.requires.next fits c.self.invariant.1 _ c.requires.ready c.requires.agrees place content logged block told after in
    weaker g.M.Clock.now g.M.Clock.disk _ _ (Torn (log.gate + 1) (length (record_bytes bytes)) content) (IsOldOrNew (next_block block_in place) logged block)
    (rw joined at (c.write_through.ensures.images content rests))
    (first_leaves log c.args.self bytes c.self.view_is c.requires.next fits c.self.invariant.1 _ c.requires.ready c.requires.agrees place content logged block told after)

pub returns-in_err-write_through-2-clause-images : goal.returns-in_err-write_through-2-clause-images
returns-in_err-write_through-2-clause-images g c place content logged block told after =
    let log = the_view c.self.inside in
    let bytes = c.args.bytes.now in
    let fits : IsBytes bytes = λ i. omega (arith, c.type_inv.bytes i) in
    let joined : take (length bytes + 5) c.deref.result.now ≡ record_bytes bytes = ap (take (length bytes + 5)) c.deref.ensures.value ∙ c.fill.ensures.record in
    let rests = rests_there log c.args.self bytes c.self.view_is c.requires.next fits c.self.invariant.1 _ c.requires.ready c.requires.agrees place content logged block told after in
    two_steps g.M.Clock.now g.M.Clock.disk _ _ _ (IsOldOrNew (next_block block_in place) logged block) (log.gate + 1) (record_bytes bytes) log.gate 1 content rests
    (rw joined at (c.write_through.ensures.images content rests))
    (first_leaves log c.args.self bytes c.self.view_is c.requires.next fits c.self.invariant.1 _ c.requires.ready c.requires.agrees place content logged block told after)
    (rw joined at c.in_ok-write_through.ensures.disk)
    c.write_through-2.ensures.images
    (second_leaves log c.args.self bytes c.self.view_is c.requires.next fits c.self.invariant.1 _ c.requires.ready c.requires.agrees place content logged block told after)

pub returns-clause-images : goal.returns-clause-images
returns-clause-images g c place content logged block told after =
    let log = the_view c.self.inside in
    let bytes = c.args.bytes.now in
    let fits : IsBytes bytes = λ i. omega (arith, c.type_inv.bytes i) in
    let joined : take (length bytes + 5) c.deref.result.now ≡ record_bytes bytes = ap (take (length bytes + 5)) c.deref.ensures.value ∙ c.fill.ensures.record in
    let rests = rests_there log c.args.self bytes c.self.view_is c.requires.next fits c.self.invariant.1 _ c.requires.ready c.requires.agrees place content logged block told after in
    two_steps g.M.Clock.now g.M.Clock.disk _ _ _ (IsOldOrNew (next_block block_in place) logged block) (log.gate + 1) (record_bytes bytes) log.gate 1 content rests
    (rw joined at (c.write_through.ensures.images content rests))
    (first_leaves log c.args.self bytes c.self.view_is c.requires.next fits c.self.invariant.1 _ c.requires.ready c.requires.agrees place content logged block told after)
    (rw joined at c.in_ok-write_through.ensures.disk)
    c.write_through-2.ensures.images
    (second_leaves log c.args.self bytes c.self.view_is c.requires.next fits c.self.invariant.1 _ c.requires.ready c.requires.agrees place content logged block told after)

pub invariant_of-result : goal.invariant_of-result
invariant_of-result g c =
    let kept = kept (the_view c.self.inside) c.args.self c.args.bytes.now c.self.view_is c.requires.next (λ i. omega (arith, c.type_inv.bytes i)) c.self.invariant.1 in
    (c.fill.ensures.room, record { few = kept.few; near = kept.near; unmarked = kept.unmarked; no_block = λ headless. absurd (cc headless) })

pub returns-clause-agrees : goal.returns-clause-agrees
returns-clause-agrees g c =
    let log = the_view c.self.inside in
    let bytes = c.args.bytes.now in
    let joined : take (length bytes + 5) c.deref.result.now ≡ record_bytes bytes = ap (take (length bytes + 5)) c.deref.ensures.value ∙ c.fill.ensures.record in
    rw c.requires.digest
    (agrees_then log c.args.self bytes c.self.view_is c.requires.next (λ i. omega (arith, c.type_inv.bytes i)) c.self.invariant.1 _ c.requires.ready c.requires.agrees _ _ (rw joined at c.in_ok-write_through.ensures.disk) c.in_ok-write_through-2.ensures.disk)

pub returns-clause-added : goal.returns-clause-added
returns-clause-added g c place content logged block told after =
    let log = the_view c.self.inside in
    let bytes = c.args.bytes.now in
    let joined : take (length bytes + 5) c.deref.result.now ≡ record_bytes bytes = ap (take (length bytes + 5)) c.deref.ensures.value ∙ c.fill.ensures.record in
    chain_then log c.args.self bytes c.self.view_is c.requires.next (λ i. omega (arith, c.type_inv.bytes i)) c.self.invariant.1 _ c.requires.ready c.requires.agrees place content logged block told after _ _ (rw joined at c.in_ok-write_through.ensures.disk) c.in_ok-write_through-2.ensures.disk
