use Rattle.std.proofs.Common.{◌<◌, ◌∷◌, Some, None, ap, arith}
use Rattle.entry_store.specs.declared.entry.Links.{Links}
use Rattle.entry_store.specs.declared.entry.Hop.{Hop}
use Rattle.skip_list.proofs.Turns.{within, reads, answers, goes_by, turn_towered, onward_one, previous_read}
use Rattle.skip_list.proofs.lookup.look_at.Goals as goal

pub entry-links-requires : goal.entry-links-requires
entry-links-requires g c = let towered = c.requires.towered in within c.args.store.now c.args.id towered.0 towered.1

pub returns-then-links-at-clause-turn : goal.returns-then-links-at-clause-turn
returns-then-links-at-clause-turn g c versions towered =
    let links = c.entry-links.result.now in
    answers c.args.at links c.args.id versions (reads c.args.store.now c.args.id versions links towered c.entry-links.ensures.links) c.if-links-at.true

pub returns-then-links-at-clause-small : goal.returns-then-links-at-clause-small
returns-then-links-at-clause-small g c version older towered =
    let read = reads c.args.store.now c.args.id (version ∷ older) c.entry-links.result.now towered c.entry-links.ensures.links in
    omega (arith, ap (λ (l : Links). l.block) read.1)

pub returns-in-Some-clause-turn : goal.returns-in-Some-clause-turn
returns-in-Some-clause-turn g c versions towered =
    let links = c.entry-links.result.now in
    goes_by c.args.at links c.args.id versions (Some c.in-Some.hop) (reads c.args.store.now c.args.id versions links towered c.entry-links.ensures.links) c.if-links-at.false
    (rw c.as_slice.ensures at c.in-Some.ensures)

pub returns-in-Some-clause-small : goal.returns-in-Some-clause-small
returns-in-Some-clause-small g c version older towered =
    let read = reads c.args.store.now c.args.id (version ∷ older) c.entry-links.result.now towered c.entry-links.ensures.links in
    omega (arith, ap (λ (l : Links). l.block) read.1)

pub returns-in-Some-clause-towered : goal.returns-in-Some-clause-towered
returns-in-Some-clause-towered g c =
    let links = c.entry-links.result.now in
    let towered = c.requires.towered in
    turn_towered c.args.store.now c.args.at c.args.id towered.0 links c.in-Some.hop towered.1 (reads c.args.store.now c.args.id towered.0 links towered.1 c.entry-links.ensures.links)
    (rw c.as_slice.ensures at c.in-Some.ensures)

pub returns-in-Some-clause-back : goal.returns-in-Some-clause-back
returns-in-Some-clause-back g c =
    onward_one (λ (hop : Hop). hop.id.0 < c.args.id.0) c.args.at c.entry-links.result.now.hops c.in-Some.hop c.entry-links.ensures.back (rw c.as_slice.ensures at c.in-Some.ensures)

pub returns-in-None-clause-turn : goal.returns-in-None-clause-turn
returns-in-None-clause-turn g c versions towered =
    let links = c.entry-links.result.now in
    goes_by c.args.at links c.args.id versions None (reads c.args.store.now c.args.id versions links towered c.entry-links.ensures.links) c.if-links-at.false
    (rw c.as_slice.ensures at c.in-None.ensures)

pub returns-in-None-clause-small : goal.returns-in-None-clause-small
returns-in-None-clause-small g c version older towered =
    let read = reads c.args.store.now c.args.id (version ∷ older) c.entry-links.result.now towered c.entry-links.ensures.links in
    omega (arith, ap (λ (l : Links). l.block) read.1)

pub returns-then-links-at-clause-previous : goal.returns-then-links-at-clause-previous
returns-then-links-at-clause-previous g c =
    previous_read c.args.store.now c.args.id c.entry-links.result.now c.previous_of-previous.result
    c.entry-links.ensures.links c.previous_of-previous.ensures

pub returns-in-Some-clause-previous : goal.returns-in-Some-clause-previous
returns-in-Some-clause-previous g c =
    previous_read c.args.store.now c.args.id c.entry-links.result.now c.previous_of-previous.result
    c.entry-links.ensures.links c.previous_of-previous.ensures

pub returns-in-None-clause-previous : goal.returns-in-None-clause-previous
returns-in-None-clause-previous g c =
    previous_read c.args.store.now c.args.id c.entry-links.result.now c.previous_of-previous.result
    c.entry-links.ensures.links c.previous_of-previous.ensures
