use Rattle.std.proofs.Common.{◌+◌, ◌*◌, ◌∙◌, arith}
use Rattle.lc_base.proofs.WordOrder.{AreWords, decided, left_to_rest}
use Rattle.lc_base.proofs.words.cmp_words.Goals as goal

pub returns-then-left_word-right_word : goal.returns-then-left_word-right_word
returns-then-left_word-right_word c =
    let at = 8 * c.loop-i.i in
    let next = 8 * (c.loop-i.i + 1) in
    let words : AreWords at next c.args.left.now c.args.right.now c.word_at-left_word.result c.word_at-right_word.result = record {
      eight = omega arith;
      same_length = c.requires.same_length;
      inside = omega arith;
      left_bytes = c.type_inv.left;
      right_bytes = c.type_inv.right;
      left = c.word_at-left_word.ensures;
      right = c.word_at-right_word.ensures;
    } in
    c.cmp.ensures ∙ decided at next _ _ _ _ words c.if-left_word-right_word.true ∙ c.loop-i.invariant

pub loop-i-preserved : goal.loop-i-preserved
loop-i-preserved c =
    let at = 8 * c.loop-i.i in
    let next = 8 * (c.loop-i.i + 1) in
    let words : AreWords at next c.args.left.now c.args.right.now c.word_at-left_word.result c.word_at-right_word.result = record {
      eight = omega arith;
      same_length = c.requires.same_length;
      inside = omega arith;
      left_bytes = c.type_inv.left;
      right_bytes = c.type_inv.right;
      left = c.word_at-left_word.ensures;
      right = c.word_at-right_word.ensures;
    } in
    left_to_rest at next _ _ _ _ words c.if-left_word-right_word.false ∙ c.loop-i.invariant
