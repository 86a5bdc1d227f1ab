use Rattle.std.proofs.Common.{◌∙◌, ◌<◌, sym, arith}
use Rattle.root_laws.specs.merkle_tree.Tree.{node_hash}
use Rattle.root_laws.proofs.merkle_tree.Steps.{fits_back}
use Rattle.state_tree.proofs.Parts.{two_hashed, low_hashed}
use Rattle.state_tree.proofs.whole.+hash_part.Goals as goal

pub hash_part-right-requires : goal.hash_part-right-requires
hash_part-right-requires g t c lives outlives =
    let pos : 0 < c.args.height = omega arith in
    let given = c.requires.within in
    let few = fits_back c.args.height c.half_of-half.result c.args.count pos
    c.half_of-half.ensures c.requires.few in (
      omega arith,
      (
        outlives,
        (
          few,
          (
            omega arith,
            (given.0, given.1, omega (arith, given.2, c.if-half-count.true), given.3),
          ),
        ),
      ),
    )

pub returns-then-half-count : goal.returns-then-half-count
returns-then-half-count g t c list are within =
    let pos : 0 < c.args.height = omega arith in
    c.node_hash.ensures
    ∙ (λ i. node_hash (c.hash_part-left.ensures list are (omega (arith, within, c.if-half-count.true)) i)
    (c.hash_part-right.ensures list are (omega (arith, within, c.if-half-count.true)) i))
    ∙ sym (two_hashed list c.args.height c.args.start c.args.count c.half_of-half.result pos c.half_of-half.ensures c.if-half-count.true within)

pub returns-else-half-count : goal.returns-else-half-count
returns-else-half-count g t c list are within =
    let pos : 0 < c.args.height = omega arith in
    c.hash_part.ensures list are within
    ∙ sym (low_hashed list c.args.height c.args.start c.args.count c.half_of-half.result pos c.half_of-half.ensures c.if-half-count.false within)
