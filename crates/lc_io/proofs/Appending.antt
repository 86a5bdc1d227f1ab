-- Appending bytes keeps those that were there.
use Rattle.std.proofs.Common.{◌≡◌, ℕ, ◌+◌, ◌≤◌, List, ◌++◌, length, take, drop, refl, ap, ◌∙◌}
use Rattle.std.proofs.Common.{arith, length-append, length-drop}
use Rattle.std.proofs.lemmas.Bool.{leb-true, le-leb}
use Rattle.std.proofs.lemmas.List.{take-append-le, drop-append-le, drop_at, take_all}
use Rattle.lc_io.specs.Scratch.{bytes_at, IsKeptAt, Retains}
use Rattle.lc_io.specs.MemScratch.{state_over}

module _ (bytes more : List ℕ) where
  held_stays : (place count : ℕ) → place + count ≤ length bytes
      → take count (drop place (bytes ++ more)) ≡ take count (drop place bytes)
  held_stays place count within =
      let start : place ≤ length bytes = omega (arith, within) in
      let rest : List ℕ = drop place bytes in
      let long : count ≤ length rest = omega (arith, within, length-drop place bytes) in
      ap (take count) (drop-append-le place bytes more start) ∙ take-append-le count rest more long

  -- what was kept stays
  pub more_retains : Retains (state_over bytes) (state_over (bytes ++ more))
  unfolding bytes_at
  more_retains = record {
    kept = λ place count k.
        let within = leb-true (place + count) (length bytes) k in
        le-leb (place + count) (length (bytes ++ more))
        (omega (arith, within, length-append bytes more));
    known = refl;
    held = λ place count told k. held_stays place count (leb-true (place + count) (length bytes) k);
  }

  -- and what was put is kept
  pub more_kept : IsKeptAt (state_over (bytes ++ more)) (length bytes) more
  unfolding bytes_at
  more_kept = record {
    kept = le-leb (length bytes + length more) (length (bytes ++ more))
        (omega (arith, length-append bytes more));
    held = λ told. ap (take (length more)) (drop_at bytes more (length bytes) refl)
        ∙ take_all (length more) more (omega arith);
  }
