use Rattle.std.proofs.Common.{◌∙◌, sym}
use Rattle.state_tree.proofs.Keys.{flip_below}
use Rattle.state_tree.proofs.order.last_up_to.Goals as goal

pub returns-in-None : goal.returns-in-None
returns-in-None c other f =
    let range = c.range.ensures.in_range tt in
    range.5 c.in-None.ensures.steps.0 other (tt, flip_below other c.args.key.now ∙ f)

pub returns-in-Some : goal.returns-in-Some
returns-in-Some c =
    let range = c.range.ensures.in_range tt in
    let entry = range.3 (c.in-Some.field-0-0.now, c.in-Some.index.now) c.next_back.new.self c.in-Some.ensures.steps in
    record {
      last = c.in-Some.field-0-0.now;
      kept = entry.1;
      not_above = sym (flip_below c.in-Some.field-0-0.now c.args.key.now) ∙ entry.0.1;
      greatest = λ other f there. range.4 (c.in-Some.field-0-0.now, c.in-Some.index.now) c.next_back.new.self c.in-Some.ensures.steps other (tt, flip_below other c.args.key.now ∙ f) there;
    }
