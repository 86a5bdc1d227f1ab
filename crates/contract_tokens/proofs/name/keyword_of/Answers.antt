use Rattle.std.proofs.Common.{◌≡◌, refl, arith}
use Rattle.std.specs.Prelude.{codes}
use Rattle.std.proofs.lemmas.Slice.Eq.{text_from_reads}
use Rattle.contract_tokens.specs.Pieces.{keyword_of}
use Rattle.contract_tokens.proofs.name.keyword_of.Goals as goal

-- the longest keyword, for which the proof search gives up
pub returns-in-return : goal.returns-in-return
unfolding keyword_of
returns-in-return c =
    let text : c.args.run.now ≡ codes "return" = text_from_reads c.args.run.now (codes "return") (omega arith) (omega arith, (omega arith, (omega arith, (omega arith, (omega arith, (omega arith, tt)))))) in
    rw text refl
