use Rattle.std.proofs.Common.{◌≡◌, ℕ, List, length, take, drop, sym, ap, ◌∙◌, arith}
use Rattle.lc_io.specs.Scratch.{bytes_at}
use Rattle.lc_io.specs.MemScratch.{MemScratchState}
use Rattle.lc_io.proofs.mem_scratch.MemScratchScratch.get.Goals as goal

pub returns-clause-bytes : goal.returns-clause-bytes
unfolding bytes_at
returns-clause-bytes c told =
    let kept : c.deref.result.now ≡ c.args.self.now.bytes =
    c.deref.ensures.value ∙ ap (λ (s : MemScratchState). s.bytes) c.self.view_is in
    let room : ℕ = length c.args.buffer.now in
    let len : length c.fill.new.buffer ≡ room = omega (arith, c.fill.auto.buffer) in
    ap (λ (count : ℕ). take count (drop c.args.place c.args.self.now.bytes)) len
    ∙ ap (λ (bytes : List ℕ). take room (drop c.args.place bytes)) (sym kept) ∙ sym c.fill.ensures
