use Rattle.std.proofs.Common.{Ok, Some, ap, ◌∙◌, refl, arith}
use Rattle.std.proofs.lemmas.Result.{err_from_is_err_and}
use Rattle.contract_tokens.specs.Listing.{tokens_from}
use Rattle.contract_tokens.proofs.Outcomes.{tokenized_once}
use Rattle.contract_tokens.proofs.Listings.{passed, passed_all, told_error}
use Rattle.contract_tokens.proofs.tokens.Tokens.new.Goals as goal

-- the first fault

pub returns-in_err-next-clause-outcome : goal.returns-in_err-next-clause-outcome
returns-in_err-next-clause-outcome c =
    let p = err_from_is_err_and c.from_residual.result c.from_residual.ensures.1 in
    let f = told_error c.args.edition c.args.source.now c.loop-next.at c.in_err-next.field-0.0 c.loop-next.invariant c.in_err-next.ensures in
    rw (p.1, p.2) f

pub returns-in_err-next-clause-once : goal.returns-in_err-next-clause-once
returns-in_err-next-clause-once c =
    λ one other h k. tokenized_once c.args.edition 0 c.args.source.now one other h k

-- a piece that is skipped or taken

pub loop-next-smaller : goal.loop-next-smaller
loop-next-smaller c =
    let h = passed c.args.edition c.args.source.now c.loop-next.at (Ok (Some c.in-Some.next)) c.loop-next.invariant (c.in_ok-next.ensures ∙ ap Ok c.in-Some.is) in
    omega (arith, h.1)

pub loop-next-preserved : goal.loop-next-preserved
loop-next-preserved c = (passed c.args.edition c.args.source.now c.loop-next.at (Ok (Some c.in-Some.next)) c.loop-next.invariant (c.in_ok-next.ensures ∙ ap Ok c.in-Some.is)).0

-- the end

pub returns-clause-outcome : goal.returns-clause-outcome
returns-clause-outcome c = (
  Ok (tokens_from c.args.edition 0 c.args.source.now),
  passed_all c.args.edition c.args.source.now c.loop-next.at c.in_ok-next.field-0 c.loop-next.invariant c.in_ok-next.ensures c.in_default.not-Some,
  refl,
)

pub returns-clause-once : goal.returns-clause-once
returns-clause-once c =
    λ one other h k. tokenized_once c.args.edition 0 c.args.source.now one other h k
