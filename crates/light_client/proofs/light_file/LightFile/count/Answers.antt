use Rattle.std.proofs.Common.{sym, ap, ◌∙◌, length}
use Rattle.light_client.specs.declared.block_root.BlockRoot.{BlockRoot}
use Rattle.light_client.proofs.BlockRoots.{length-block_roots}
use Rattle.light_client.proofs.light_file.LightFile.count.Goals as goal

pub returns : goal.returns
returns c =
    sym (length-block_roots c.self.inside.count c.self.inside.bytes)
    ∙ ap (length {A = BlockRoot}) c.self.view_is
