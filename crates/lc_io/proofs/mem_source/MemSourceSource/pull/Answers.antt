use Rattle.std.proofs.Common.{◌≡◌, ℕ, List, length, take, drop, ◌++◌, Some, ap, sym, ◌∙◌}
use Rattle.std.proofs.lemmas.List.{drop-drop}
use Rattle.lc_io.specs.Fakes.{SourceState, pulled_count}
use Rattle.lc_io.proofs.Pulling.{left_is_pulled, none_is_left}
use Rattle.lc_io.proofs.mem_source.MemSourceSource.pull.Goals as goal

pub returns-clause-bytes : goal.returns-clause-bytes
returns-clause-bytes c =
    let s : SourceState = record { left = drop c.self.inside.start c.self.inside.bytes.items; piece = c.self.inside.piece; failing = c.self.inside.failing.items; calls = c.self.inside.calls; faults = c.self.inside.faults } in
    let n = c.pulled_count-count.result in
    let count : n ≡ pulled_count s (length c.args.buffer.now) = c.pulled_count-count.ensures in
    let left_is : s.left ≡ c.args.self.now.left = ap (λ (t : SourceState). t.left) c.self.view_is in (
      ap Some (sym left_is ∙ left_is_pulled s (length c.args.buffer.now) n c.args.buffer.now count
          ∙ ap (λ (prefix : List ℕ). take n prefix ++ drop n s.left) (ap (λ (rest : List ℕ). take n rest ++ drop n c.args.buffer.now) (sym c.rest.ensures) ∙ sym c.put_prefix.ensures)
          ∙ ap (λ (rest : List ℕ). take n c.put_prefix.new.buffer ++ rest) (drop-drop n c.self.inside.start c.self.inside.bytes.items)),
      λ none. sym left_is ∙ none_is_left s (length c.args.buffer.now) n c.self.invariant.1 c.requires count none,
    )
