use Rattle.std.proofs.Common.{◌∙◌, refl, append_assoc}
use Rattle.chain_pack.specs.declared.error.PackError.TheVariants.{Shape, BlockLimit}
use Rattle.chain_cli.proofs.Packs.{told_fault}
use Rattle.chain_cli.proofs.packing.refusal_outcome.Goals as goal

pub returns-in_ok-cause-in-Shape : goal.returns-in_ok-cause-in-Shape
returns-in_ok-cause-in-Shape c =
    told_fault c.bad_input-in-Shape.result c.args.error.now (Shape c.in-Shape.block c.in-Shape.tx) c.as_str.result.now c.in-Shape.is refl
    (c.as_str.ensures.value ∙ c.in_ok-cause-in-Shape.ensures.ok ∙ simp append_assoc) c.bad_input-in-Shape.ensures

pub returns-in_ok-cause-in-BlockLimit : goal.returns-in_ok-cause-in-BlockLimit
returns-in_ok-cause-in-BlockLimit c =
    told_fault c.bad_input-in-BlockLimit.result c.args.error.now (BlockLimit c.in-BlockLimit.block) c.as_str-in-BlockLimit.result.now c.in-BlockLimit.is refl
    (c.as_str-in-BlockLimit.ensures.value ∙ c.in_ok-cause-in-BlockLimit.ensures.ok) c.bad_input-in-BlockLimit.ensures
