use Rattle.std.proofs.Common.{◌≡◌, ◌∙◌, ◌++◌, ℕ, ◌<◌, List, length, take, get_or, refl, ap, subst}
use Rattle.std.proofs.Common.{sym, arith}
use Rattle.std.proofs.Math.Seq.{take-length}
use Rattle.std.proofs.lemmas.List.{append-nil, get_or_default}
use Rattle.std.specs.List.{concat, flat_map}
use Rattle.lc_base.specs.declared.row.Row.{Row}
use Rattle.prov_query.specs.merkle_dag.Staying.{stays_refl, stays_trans}
use Rattle.prov_query.proofs.merkle_dag.Causes.{unblamed}
use Rattle.proof_codec.proofs.Written.{written_one}
use Rattle.range_proof.specs.Parts.{body_fields_at, AddsBodies}
use Rattle.range_proof.proofs.Written.{no_body, more_bodies}
use Rattle.range_proof.proofs.writing.put_bodies.Goals as goal

pub loop-index-init : goal.loop-index-init
loop-index-init g c = record {
  same = stays_refl _ _;
  no_fault = refl;
  own = λ known. sym (append-nil c.args.out.now.items);
  as_many = no_body c.args.out.now.items;
}

pub put_body-requires-clause-within : goal.put_body-requires-clause-within
put_body-requires-clause-within g c =
    let index = get_or c.args.indexes.now c.loop-index.index-index 0 in
    subst (λ (rs : List Row). index < length rs) (sym c.loop-index.invariant.same.rows)
    (c.requires.within c.loop-index.index-index 0 c.loop-index-test.true)

pub loop-index-preserved : goal.loop-index-preserved
loop-index-preserved g c =
    let so_far = c.loop-index.invariant in
    let indexes = c.args.indexes.now in
    let i = c.loop-index.index-index in
    let index = get_or indexes i 0 in
    let out = c.loop-index.out.items in
    record {
      same = stays_trans _ _ _ _ _ _ so_far.same c.put_body.ensures.leaves.same;
      no_fault = unblamed _ _ c.in-Ok.ensures.leaves.cause ∙ so_far.no_fault;
      own = λ known.
          written_one (body_fields_at c.args.lineage.now.rows) c.args.out.now.items out
          c.put_body.new.out.items indexes i index c.loop-index-test.true
          (get_or_default indexes i 0 index c.loop-index-test.true)
          (c.in-Ok.ensures.own (so_far.same.retains.known ∙ known)
          ∙ ap (λ (rs : List Row). out ++ concat (body_fields_at rs index)) so_far.same.rows)
          (so_far.own known);
      as_many =
          more_bodies i 1 c.args.out.now.items out c.put_body.new.out.items so_far.as_many
          c.in-Ok.ensures.one;
    }

pub returns-clause-own : goal.returns-clause-own
returns-clause-own g c known =
    let indexes = c.args.indexes.now in
    let all : c.loop-index.index-index ≡ length indexes =
    omega (arith, c.loop-index-test.false, c.loop-index.auto.index-index-end) in
    c.loop-index.invariant.own known
    ∙ ap (λ (is : List ℕ). c.args.out.now.items
    ++ concat (flat_map (body_fields_at c.args.lineage.now.rows) is))
    (ap (λ (n : ℕ). take n indexes) all ∙ take-length indexes)

pub returns-clause-as_many : goal.returns-clause-as_many
returns-clause-as_many g c =
    let all : c.loop-index.index-index ≡ length c.args.indexes.now =
    omega (arith, c.loop-index-test.false, c.loop-index.auto.index-index-end) in
    subst (λ (n : ℕ). AddsBodies n c.args.out.now.items c.loop-index.out.items) all
    c.loop-index.invariant.as_many
