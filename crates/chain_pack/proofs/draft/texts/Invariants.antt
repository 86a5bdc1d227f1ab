use Rattle.serde_json.specs.View.{view}
use Rattle.chain_pack.proofs.Folding.{Packed}
use Rattle.chain_pack.proofs.draft.texts.Given as goal

abbrev pub invariant-loop-block : goal.invariant-loop-block
invariant-loop-block l = Packed l.version view l.blocks l.block-index l.parent l.texts
