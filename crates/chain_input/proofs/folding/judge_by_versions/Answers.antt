use Rattle.std.proofs.Common.{subst}
use Rattle.block_codec.specs.Reading.{block_in}
use Rattle.chain_replay.specs.Judging.{IsJudged}
use Rattle.chain_input.proofs.Lasts.{by_last}
use Rattle.chain_input.proofs.folding.judge_by_versions.Goals as goal

pub returns-in-Ok-clause-judged : goal.returns-in-Ok-clause-judged
returns-in-Ok-clause-judged c blocks stands =
    subst (IsJudged c.in-Ok.judged)
    (by_last c.args.last blocks (block_in c.args.bytes.now) stands.last_is)
    (c.in-Ok.ensures.judged blocks stands.kept)
