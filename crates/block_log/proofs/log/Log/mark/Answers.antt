use Rattle.std.proofs.Common.{ℕ, List, ◌+◌, length, sym, subst}
use Rattle.disk_model.specs.Disk.{Torn, bytes_over}
use Rattle.disk_model.proofs.Moments.{weaker}
use Rattle.block_codec.specs.Reading.{block_in}
use Rattle.block_log.specs.Standing.{next_block}
use Rattle.block_log.specs.Log.{IsOldOrMarked}
use Rattle.block_log.specs.contracts.log.Log.{the_view}
use Rattle.block_log.proofs.Resting.{two_steps}
use Rattle.block_log.proofs.Marks.{five, mark_is, kept, record_within, gate_within, agrees_then, rests_there, first_leaves, second_leaves, chain_then}
use Rattle.block_log.proofs.log.Log.mark.Goals as goal

pub write_through-requires-clause-within : goal.write_through-requires-clause-within
write_through-requires-clause-within g c =
    record_within (the_view c.self.inside) c.args.self c.self.view_is c.self.invariant.1 c.requires.unmarked _ c.requires.ready c.requires.agrees

pub write_through-requires-2-clause-within : goal.write_through-requires-2-clause-within
write_through-requires-2-clause-within g c =
    let log = the_view c.self.inside in
    gate_within log c.args.self c.self.view_is c.self.invariant.1 c.requires.unmarked _ c.requires.ready c.requires.agrees _
    c.in_ok-write_through.ensures.disk

pub returns-in_err-write_through-clause-images : goal.returns-in_err-write_through-clause-images
returns-in_err-write_through-clause-images g c place content logged told by =
    let log = the_view c.self.inside in
    let rests = rests_there log c.args.self c.self.view_is c.self.invariant.1 c.requires.unmarked _ c.requires.ready c.requires.agrees place content logged told by in
    weaker g.M.Clock.now g.M.Clock.disk _ _ (Torn (log.gate + 1) 5 content) (IsOldOrMarked (next_block block_in place) logged)
    (c.write_through.ensures.images content rests)
    (λ i torn. first_leaves log c.args.self c.self.view_is c.self.invariant.1 c.requires.unmarked _ c.requires.ready c.requires.agrees place content logged told by i
    (subst (λ (l : List ℕ). Torn (log.gate + 1) (length l) content i) (sym mark_is) torn))

pub returns-in_err-write_through-2-clause-images : goal.returns-in_err-write_through-2-clause-images
returns-in_err-write_through-2-clause-images g c place content logged told by =
    let log = the_view c.self.inside in
    let rests = rests_there log c.args.self c.self.view_is c.self.invariant.1 c.requires.unmarked _ c.requires.ready c.requires.agrees place content logged told by in
    two_steps g.M.Clock.now g.M.Clock.disk _ _ _ (IsOldOrMarked (next_block block_in place) logged) (log.gate + 1) five log.gate 1 content rests
    (c.write_through.ensures.images content rests)
    (λ i torn. first_leaves log c.args.self c.self.view_is c.self.invariant.1 c.requires.unmarked _ c.requires.ready c.requires.agrees place content logged told by i
    (subst (λ (l : List ℕ). Torn (log.gate + 1) (length l) content i) (sym mark_is) torn))
    c.in_ok-write_through.ensures.disk
    c.write_through-2.ensures.images
    (λ i torn. second_leaves log c.args.self c.self.view_is c.self.invariant.1 c.requires.unmarked _ c.requires.ready c.requires.agrees place content logged told by i
    (subst (λ (l : List ℕ). Torn log.gate 1 (bytes_over (log.gate + 1) l content) i) (sym mark_is) torn))

pub returns-clause-images : goal.returns-clause-images
returns-clause-images g c place content logged told by =
    let log = the_view c.self.inside in
    let rests = rests_there log c.args.self c.self.view_is c.self.invariant.1 c.requires.unmarked _ c.requires.ready c.requires.agrees place content logged told by in
    two_steps g.M.Clock.now g.M.Clock.disk _ _ _ (IsOldOrMarked (next_block block_in place) logged) (log.gate + 1) five log.gate 1 content rests
    (c.write_through.ensures.images content rests)
    (λ i torn. first_leaves log c.args.self c.self.view_is c.self.invariant.1 c.requires.unmarked _ c.requires.ready c.requires.agrees place content logged told by i
    (subst (λ (l : List ℕ). Torn (log.gate + 1) (length l) content i) (sym mark_is) torn))
    c.in_ok-write_through.ensures.disk
    c.write_through-2.ensures.images
    (λ i torn. second_leaves log c.args.self c.self.view_is c.self.invariant.1 c.requires.unmarked _ c.requires.ready c.requires.agrees place content logged told by i
    (subst (λ (l : List ℕ). Torn log.gate 1 (bytes_over (log.gate + 1) l content) i) (sym mark_is) torn))

pub invariant_of-result : goal.invariant_of-result
invariant_of-result g c =
    let kept = kept (the_view c.self.inside) c.args.self c.self.view_is c.self.invariant.1 c.requires.unmarked in
    (c.self.invariant.0, record { few = kept.few; near = kept.near; unmarked = kept.unmarked; no_block = λ headless. absurd (cc headless) })

pub returns-clause-agrees : goal.returns-clause-agrees
returns-clause-agrees g c =
    let log = the_view c.self.inside in
    agrees_then log c.args.self c.self.view_is c.self.invariant.1 c.requires.unmarked _ c.requires.ready c.requires.agrees _ _
    c.in_ok-write_through.ensures.disk c.in_ok-write_through-2.ensures.disk

pub returns-clause-stands : goal.returns-clause-stands
returns-clause-stands g c place content logged told by =
    let log = the_view c.self.inside in
    chain_then log c.args.self c.self.view_is c.self.invariant.1 c.requires.unmarked _ c.requires.ready c.requires.agrees place content logged told by _ _
    c.in_ok-write_through.ensures.disk c.in_ok-write_through-2.ensures.disk
