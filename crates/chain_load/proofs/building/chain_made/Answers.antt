use Rattle.std.proofs.Common.{◌≡◌, ◌∙◌, ◌+◌, ℕ, Bool, refl, subst, sym, arith}
use Rattle.lc_io.specs.Scratch.{is_known}
use Rattle.rooted_chain.specs.chain_replay.Chain.{StandsFor}
use Rattle.lc_io.proofs.Retaining.{retains_refl, retains_trans}
use Rattle.rooted_chain.specs.Roots.{kept_in}
use Rattle.chain_pack.specs.Generator.{first_blocks}
use Rattle.chain_load.specs.Building.{HasAdded}
use Rattle.chain_load.proofs.Placed.{none_added, all_added}
use Rattle.rooted_chain.proofs.merkle_dag.Causes.{unblamed}
use Rattle.chain_load.proofs.building.chain_made.Goals as goal

pub loop-init : goal.loop-init
loop-init g c = record {
  added = none_added _ c.args.seed c.args.blocks _ _ c.in-Ok.ensures.kept c.new.ensures.start;
  agrees = c.in-Ok.ensures.agrees _;
  retains = retains_refl _;
  no_fault = refl;
}

pub loop-preserved : goal.loop-preserved
loop-preserved g c =
    let building = c.loop.building in
    let told = is_known (g.S.Scratch.state c.args.scratch.now) in
    let told_now : is_known (g.S.Scratch.state c.loop.scratch) ≡ told = c.loop.invariant.retains.known
    in
    let before = subst (λ (b : Bool). HasAdded b c.args.seed c.args.blocks c.loop.counter
    (kept_in building.chain) building.generator building.parent) (sym told_now)
    c.loop.invariant.added in
    let after = c.in-Ok-with_next.ensures.added c.args.seed c.args.blocks c.loop.counter before
    c.loop-test.true c.requires in
    record {
      added = subst (λ (b : Bool). HasAdded b c.args.seed c.args.blocks (c.loop.counter + 1)
          (kept_in c.in-Ok-with_next.more.chain) c.in-Ok-with_next.more.generator
          c.in-Ok-with_next.more.parent) told_now after;
      agrees = c.in-Ok-with_next.ensures.agrees;
      retains = retains_trans _ _ _ c.loop.invariant.retains c.with_next.ensures.retains;
      no_fault = unblamed _ _ c.in-Ok-with_next.ensures.cause ∙ c.loop.invariant.no_fault;
    }

pub returns-clause-chain : goal.returns-clause-chain
returns-clause-chain g c known =
    let whole : c.loop.counter ≡ c.args.blocks = omega arith in
    subst (λ (n : ℕ). StandsFor (kept_in c.loop.building.chain) (first_blocks c.args.seed n).blocks)
    whole (c.loop.invariant.added.stands known)

pub returns-clause-digests : goal.returns-clause-digests
returns-clause-digests g c =
    all_added _ c.args.seed c.args.blocks (kept_in c.loop.building.chain) c.loop.building.generator
    c.loop.building.parent
    (subst (λ (n : ℕ). HasAdded (is_known (g.S.Scratch.state c.args.scratch.now)) c.args.seed
    c.args.blocks n (kept_in c.loop.building.chain) c.loop.building.generator
    c.loop.building.parent) (omega arith) c.loop.invariant.added)
