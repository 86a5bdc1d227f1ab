use Rattle.std.proofs.Common.{◌∙◌, ◌++◌, ℕ, List, ap}
use Rattle.light_client.specs.Format.{head_bytes}
use Rattle.light_client.proofs.Made.{bytes_between}
use Rattle.light_client.proofs.Pieces.{whole_is}
use Rattle.light_client.proofs.making.make.Goals as goal

pub returns : goal.returns
returns c =
    let rows = c.args.lineage.now.rows in
    let digests = c.args.lineage.now.digests in
    let count = c.block_count-count.result in
    c.from_vec.ensures ∙ c.in_ok-put_blocks.ensures
    ∙ ap (λ (before : List ℕ). before ++ bytes_between rows digests 0 count)
    (c.in_ok-extend_from_slice.ensures.items
    ∙ ap (λ (bytes : List ℕ). bytes ++ c.head.result) c.in_ok-bytes.ensures.items
    ∙ c.head.ensures)
    ∙ ap (λ (n : ℕ). head_bytes n ++ bytes_between rows digests 0 n) c.block_count-count.ensures
    ∙ whole_is rows digests
