use Rattle.std.proofs.Common.{◌∙◌, ◌*◌, List, sym, ap, arith}
use Rattle.std.specs.Prelude.{slice_get}
use Rattle.std.proofs.lemmas.List.{take_rest}
use Rattle.std.proofs.lemmas.Option.{slice_get_past}
use Rattle.light_client.specs.declared.block_root.BlockRoot.{BlockRoot}
use Rattle.light_client.specs.Format.{block_roots_in}
use Rattle.light_client.proofs.BlockRoots.{length-block_roots, found_at}
use Rattle.light_client.proofs.light_file.LightFile.block_root.Goals as goal

pub returns-then-at-self : goal.returns-then-at-self
returns-then-at-self c =
    let count = c.self.inside.count in
    let bytes = c.self.inside.bytes in
    sym (slice_get_past (block_roots_in count bytes) c.args.at
    (omega (arith, c.if-at-self.true, length-block_roots count bytes)))
    ∙ ap (λ (file : List BlockRoot). slice_get file c.args.at) c.self.view_is

pub returns : goal.returns
returns c =
    let count = c.self.inside.count in
    let bytes = c.self.inside.bytes in
    found_at count c.args.at (c.args.at * 64) bytes c.first_block_root.result
    (omega (arith, c.if-at-self.false)) (omega arith) c.self.invariant
    (rw (← c.as_bytes.ensures, ← take_rest c.as_bytes.result.now (c.args.at * 64))
    c.first_block_root.ensures)
    ∙ ap (λ (file : List BlockRoot). slice_get file c.args.at) c.self.view_is
