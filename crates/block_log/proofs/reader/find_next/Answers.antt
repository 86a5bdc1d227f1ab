use Rattle.std.proofs.Common.{ℕ, List, take, drop, sym, ◌∙◌, ap, subst}
use Rattle.std.specs.Prelude.{Option}
use Rattle.disk_model.specs.Disk.{content_of}
use Rattle.block_log.specs.Ahead.{IsAhead}
use Rattle.block_log.specs.Reading.{record_size}
use Rattle.block_log.specs.Reader.{IsRecordAt}
use Rattle.block_log.proofs.Fronts.{record_ahead}
use Rattle.block_log.proofs.reader.find_next.Goals as goal

pub returns-then-is_broken-clause-found : goal.returns-then-is_broken-clause-found
returns-then-is_broken-clause-found g c content told ahead = c.in_ok-next.ensures.found content (ap content_of c.look_ahead.ensures.disk.last ∙ told)

pub returns-clause-found : goal.returns-clause-found
returns-clause-found g c content told ahead stored read =
    let found = c.in_ok-found.found in
    let before = subst (λ (k : Option (List ℕ)). IsAhead c.args.gate c.args.ahead.now k) (sym told) ahead in
    let there = subst (λ (k : Option (List ℕ)). IsAhead c.args.gate c.look_ahead.new.ahead k) told (c.in_ok-found.ensures.ahead before) in
    let body_is = c.body_in-body.ensures ∙ ap (λ (bytes : List ℕ). take (record_size found) (drop 5 bytes)) c.bytes.ensures in
    c.in_ok-next-2.ensures.found content stored read
    (subst (λ (body : List ℕ). IsRecordAt c.args.gate found body content) (sym body_is)
    (record_ahead c.args.gate c.look_ahead.new.ahead content found c.in_ok-found.ensures.found (sym c.is_broken.ensures ∙ c.if-is_broken.false) there))
