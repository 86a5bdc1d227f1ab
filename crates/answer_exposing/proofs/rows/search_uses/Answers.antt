use Rattle.std.proofs.Common.{◌∷◌, [], ℕ, List, subst, arith}
use Rattle.prov_entry.specs.ForwardLists.{use_text}
use Rattle.proof_checks.specs.ProofTexts.{texts_of_uses}
use Rattle.text_clashes.specs.Searching.{Searches}
use Rattle.answer_exposing.proofs.Onward.{chain_goes_on, chain_ends}
use Rattle.answer_exposing.proofs.rows.search_uses.Goals as goal

pub loop-one-preserved : goal.loop-one-preserved
loop-one-preserved c =
    let mid = c.loop-one.search in
    let new = c.add.new.self in
    chain_goes_on use_text c.loop-one.digest.0 c.with_use-digest.result.0 c.args.uses.now
    c.loop-one.one-index c.one-item.result (texts_of_uses c.args.uses.now) c.args.search.now mid new
    c.loop-one-test.true c.one-item.is c.with_use-digest.ensures c.loop-one.invariant
    (subst (λ (text : List ℕ). Searches (text ∷ []) mid new) c.in_ok-use_text.ensures
    c.add.ensures)

pub returns : goal.returns
returns c = chain_ends use_text c.loop-one.digest.0 c.args.uses.now c.loop-one.one-index
    (texts_of_uses c.args.uses.now) c.args.search.now c.loop-one.search
    (omega (arith, c.loop-one-test.false)) c.loop-one.invariant
