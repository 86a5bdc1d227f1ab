use Rattle.std.proofs.Common.{◌≡◌, ◌∙◌, List, sym, ap, subst}
use Rattle.std.specs.Prelude.{Result}
use Rattle.std.proofs.lemmas.Result.{err_from_is_err_and}
use Rattle.light_client.specs.declared.block_root.BlockRoot.{BlockRoot}
use Rattle.light_client.specs.declared.error.LightError.{LightError}
use Rattle.light_client.specs.Reading.{IsHeadRead, IsLightAnswer}
use Rattle.light_client.proofs.Taking.{if_some, at_some}
use Rattle.light_client.proofs.Answering.{counted, not_read, blocks_unread, blocks_read}
use Rattle.light_client.proofs.light_file.LightFile.read.Goals as goal

pub returns-in_err-bytes-clause-answer : goal.returns-in_err-bytes-clause-answer
returns-in_err-bytes-clause-answer g c =
    let old = g.I.Source.left c.args.source.now in
    let first = g.I.Source.left c.count.new.source in
    let left = g.I.Source.left c.blocks-2.new.source in
    let error = c.in_err-bytes.field-0.0 in
    let p = err_from_is_err_and c.from_residual-in_err-bytes.result
    c.from_residual-in_err-bytes.ensures.1 in
    let same : c.from_residual-in_err-bytes.result ≡ not_read error = p.1 ∙ ap not_read p.2 in
    if_some _ old (λ input is.
    subst (λ (r : Result (List BlockRoot) LightError). IsLightAnswer input r left) (sym same)
    (blocks_unread input c.in_ok-count.count error first left
    (at_some (λ i. IsHeadRead i (counted c.in_ok-count.count) first) old input is
    c.in_ok-count.ensures.head)
    c.in_err-bytes.ensures.bytes))

pub returns-clause-answer : goal.returns-clause-answer
returns-clause-answer g c =
    let old = g.I.Source.left c.args.source.now in
    let first = g.I.Source.left c.count.new.source in
    let left = g.I.Source.left c.blocks-2.new.source in
    if_some _ old (λ input is.
    blocks_read input c.in_ok-count.count c.in_ok-bytes.bytes first left c.new.result
    (at_some (λ i. IsHeadRead i (counted c.in_ok-count.count) first) old input is
    c.in_ok-count.ensures.head)
    c.in_ok-bytes.ensures.bytes.0 c.in_ok-bytes.ensures.bytes.1 c.new.ensures)
