use Rattle.std.proofs.Common.{Contains, subst, sym}
use Rattle.std.proofs.lemmas.Bool.{eqb-true}
use Rattle.body_store.specs.Cached.{pairs_of}
use Rattle.body_store.proofs.Pairs.{kept_pairs, found_pair}
use Rattle.body_store.proofs.cache.body_at_hand.Goals as goal

pub returns-in_err-clone-in-Some-clause-kept : goal.returns-in_err-clone-in-Some-clause-kept
returns-in_err-clone-in-Some-clause-kept c = kept_pairs _ c.args.cache.now _
    c.get.follows.holds-at-none

pub returns-in_ok-clone-in-Some-clause-kept : goal.returns-in_ok-clone-in-Some-clause-kept
returns-in_ok-clone-in-Some-clause-kept c = kept_pairs _ c.args.cache.now _
    c.get.follows.holds-at-none

pub returns-in_ok-clone-in-Some-clause-found : goal.returns-in_ok-clone-in-Some-clause-found
returns-in_ok-clone-in-Some-clause-found c =
    let there = found_pair _ c.args.cache.now c.args.index c.in-Some.body.now
    (λ k t. sym (eqb-true c.args.index.0 k.0 t)) c.in-Some.ensures.value in
    subst (λ bytes. Contains (pairs_of c.args.cache.now.entries) (c.args.index.0, bytes))
    (sym c.in_ok-clone-in-Some.ensures.cases) there

pub returns-in-None-clause-kept : goal.returns-in-None-clause-kept
returns-in-None-clause-kept c = kept_pairs _ c.args.cache.now _ c.get.follows.holds-at-none
