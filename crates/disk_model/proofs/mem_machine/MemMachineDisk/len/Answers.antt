use Rattle.std.proofs.Common.{ℕ, length, ap, sym, ◌∙◌}
use Rattle.disk_model.proofs.Replays.{content_at_now, read_content}
use Rattle.disk_model.proofs.mem_machine.MemMachineDisk.len.Goals as goal

pub returns-clause-len : goal.returns-clause-len
returns-clause-len c =
    ap (length {A = ℕ}) (c.image.ensures ∙ read_content c.args.self.now c.disk_call.new.self c.in_ok-disk_call.ensures.exact.2 ∙ sym (content_at_now c.args.self.now))
