use Rattle.std.proofs.Common.{◌≡◌, ◌∙◌, sym, ap, subst}
use Rattle.std.specs.Prelude.{ℕ, Result}
use Rattle.std.proofs.lemmas.Result.{err_from_is_err_and}
use Rattle.light_client.specs.declared.error.LightError.{LightError}
use Rattle.light_client.specs.Reading.{IsHeadRead}
use Rattle.light_client.proofs.Taking.{if_some}
use Rattle.light_client.proofs.Answering.{failed, no_first_word, no_second_word, other_head}
use Rattle.light_client.proofs.Answering.{head_read}
use Rattle.light_client.proofs.reading.count.Goals as goal

pub returns-in_err-magic-clause-head : goal.returns-in_err-magic-clause-head
returns-in_err-magic-clause-head g c =
    let first = g.I.Source.left c.args.source.now in
    let left = g.I.Source.left c.word.new.source in
    let p = err_from_is_err_and c.from_residual.result c.from_residual.ensures.1 in
    let same : c.from_residual.result ≡ failed c.in_err-magic.field-0.0 = p.1 ∙ ap failed p.2 in
    if_some _ first (λ input is.
    subst (λ (r : Result ℕ LightError). IsHeadRead input r left) (sym same)
    (no_first_word input first left c.in_err-magic.field-0.0 is c.in_err-magic.ensures.bytes))

pub returns-in_err-count-clause-head : goal.returns-in_err-count-clause-head
returns-in_err-count-clause-head g c =
    let first = g.I.Source.left c.args.source.now in
    let left = g.I.Source.left c.word-2.new.source in
    let p = err_from_is_err_and c.from_residual-in_err-count.result
    c.from_residual-in_err-count.ensures.1 in
    let same : c.from_residual-in_err-count.result ≡ failed c.in_err-count.field-0.0 = p.1
    ∙ ap failed p.2 in
    if_some _ first (λ input is.
    subst (λ (r : Result ℕ LightError). IsHeadRead input r left) (sym same)
    (no_second_word input c.in_ok-magic.magic first (g.I.Source.left c.word.new.source) left
    c.in_err-count.field-0.0 is c.in_ok-magic.ensures.bytes c.in_err-count.ensures.bytes))

pub returns-then-ne-clause-head : goal.returns-then-ne-clause-head
returns-then-ne-clause-head g c =
    let first = g.I.Source.left c.args.source.now in
    if_some _ first (λ input is.
    other_head input c.in_ok-magic.magic c.in_ok-count.count c.as_slice.result.now
    c.as_slice-2.result.now
    first (g.I.Source.left c.word.new.source) (g.I.Source.left c.word-2.new.source) is
    c.in_ok-magic.ensures.bytes c.in_ok-count.ensures.bytes c.as_slice.ensures c.as_slice-2.ensures
    c.if-ne.ensures)

pub returns-clause-head : goal.returns-clause-head
returns-clause-head g c =
    let first = g.I.Source.left c.args.source.now in
    if_some _ first (λ input is.
    head_read input c.in_ok-magic.magic c.in_ok-count.count c.as_slice.result.now
    c.as_slice-2.result.now c.from_be_bytes.result
    first (g.I.Source.left c.word.new.source) (g.I.Source.left c.word-2.new.source) is
    c.in_ok-magic.ensures.bytes c.in_ok-count.ensures.bytes c.as_slice.ensures c.as_slice-2.ensures
    c.if-ne.ensures c.from_be_bytes.ensures)
