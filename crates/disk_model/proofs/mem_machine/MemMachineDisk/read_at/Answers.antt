use Rattle.std.proofs.Common.{◌++◌, ◌∙◌, ℕ, List, length, take, drop, ap, sym}
use Rattle.disk_model.proofs.Replays.{content_at_now, read_content, filled}
use Rattle.disk_model.proofs.mem_machine.MemMachineDisk.read_at.Goals as goal

-- the content that is read is that before the call
pub returns-clause-bytes : goal.returns-clause-bytes
returns-clause-bytes c =
    let same = c.image.ensures ∙ read_content c.args.self.now c.disk_call.new.self c.in_ok-disk_call.ensures.exact.2 in
    filled c.args.at c.image.result.now c.args.buffer.now c.copy_from.new.buffer c.copy_from.result c.copy_from.ensures.count c.copy_from.ensures.bytes
    ∙ ap (λ (content : List ℕ). take (length c.copy_from.new.buffer) (drop c.args.at content)) (same ∙ sym (content_at_now c.args.self.now))

pub returns-clause-buffer : goal.returns-clause-buffer
returns-clause-buffer c =
    let same = c.image.ensures ∙ read_content c.args.self.now c.disk_call.new.self c.in_ok-disk_call.ensures.exact.2 in (
      c.copy_from.ensures.count ∙ ap (λ (content : List ℕ). length (take (length c.args.buffer.now) (drop c.args.at content))) same,
      c.copy_from.ensures.bytes ∙ ap (λ (content : List ℕ). take (length c.args.buffer.now) (drop c.args.at content) ++ drop c.copy_from.result c.args.buffer.now) same,
    )
