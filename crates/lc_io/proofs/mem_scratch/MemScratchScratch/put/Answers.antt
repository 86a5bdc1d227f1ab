use Rattle.std.proofs.Common.{◌≡◌, ℕ, List, ◌++◌, length, sym, ap, subst, ◌∙◌, rules}
use Rattle.lc_io.specs.Scratch.{IsKeptAt, Retains}
use Rattle.lc_io.specs.MemScratch.{MemScratchState, state_over}
use Rattle.lc_io.proofs.Appending.{more_retains, more_kept}
use Rattle.lc_io.proofs.mem_scratch.MemScratchScratch.put.Goals as goal

bytes_are : (c : goal.After-append)
    → c.append.new.all.items ≡ c.args.self.now.bytes ++ c.args.bytes.now
bytes_are c =
    c.append.ensures.bytes
    ∙ ap (λ (s : MemScratchState). s.bytes ++ c.args.bytes.now) c.self.view_is

pub returns-clause-serves : goal.returns-clause-serves
returns-clause-serves c =
    let bytes : List ℕ = c.args.self.now.bytes in
    record {
      retains =
          subst (λ (longer : List ℕ). Retains (state_over bytes) (state_over longer))
          (sym (bytes_are c)) (more_retains bytes c.args.bytes.now);
      cause = search rules;
    }

pub returns-clause-put : goal.returns-clause-put
returns-clause-put c =
    let bytes : List ℕ = c.args.self.now.bytes in
    let more : List ℕ = c.args.bytes.now in
    let place_is : c.append.result ≡ length bytes =
    c.append.ensures.place ∙ ap (λ (s : MemScratchState). length s.bytes) c.self.view_is in
    subst (λ (place : ℕ). IsKeptAt (state_over c.append.new.all.items) place more) (sym place_is)
    (subst (λ (longer : List ℕ). IsKeptAt (state_over longer) (length bytes) more)
    (sym (bytes_are c)) (more_kept bytes more))
