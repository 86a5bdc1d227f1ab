use Rattle.std.proofs.Common.{◌≡◌, ◌∙◌, ◌+◌, ◌++◌, ℕ, List, length, ap, arith}
use Rattle.std.specs.Prelude.{min}
use Rattle.light_client.specs.declared.piece_limits.TheConstants.{BLOCKS_PER_PIECE}
use Rattle.light_client.proofs.Made.{bytes_between}
use Rattle.light_client.proofs.Pieces.{piece_is}
use Rattle.light_client.proofs.making.piece.Goals as goal

pub returns : goal.returns
returns c =
    let rows = c.args.lineage.now.rows in
    let digests = c.args.lineage.now.digests in
    let until = c.min-until.result in
    let until_is : until ≡ min (c.args.from + BLOCKS_PER_PIECE) (length digests) =
    omega (
      arith,
      c.min-until.ensures,
      c.saturating_add.ensures,
      c.block_count.ensures,
      c.block_count.type_inv,
    ) in
    c.from_vec.ensures ∙ c.in_ok-put_blocks.ensures
    ∙ ap (λ (before : List ℕ). before ++ bytes_between rows digests c.args.from until)
    c.in_ok-bytes.ensures.items
    ∙ piece_is rows digests c.args.from until until_is
