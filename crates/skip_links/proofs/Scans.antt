-- The path so far and what is still to be walked, turn by turn, are the path that is defined.
use Rattle.std.proofs.Common.{◌≡◌, ◌∙◌, ℕ, suc, ◌+◌, ◌-◌, ◌<◌, ◌≤◌, List, [], ◌∷◌, ◌++◌, length, Option, Some, None, refl, sym, ap, arith}
use Rattle.std.specs.Option.{option_map}
use Rattle.std.proofs.lemmas.List.{append-nil, append_assoc}
use Rattle.lc_base.specs.declared.row.Row.{Row}
use Rattle.lc_base.specs.History.{newest}
use Rattle.skip_links.specs.Links.{links}
use Rattle.skip_links.specs.Paths.{next_block, path_from, path}
use Rattle.skip_links.proofs.Walks.{ended}

pub scan_begins : (rows : List Row) (key : List ℕ) (at : ℕ)
    → [] ++ path_from (length rows - 0) (links rows key) at (option_map (λ (row : Row). row.block) (newest rows key)) ≡ path rows key at
unfolding path
scan_begins rows key at =
    let e : length rows - 0 ≡ length rows = omega arith in
    ap (λ (n : ℕ). path_from n (links rows key) at (option_map (λ (row : Row). row.block) (newest rows key))) e

one_turn : (n t block : ℕ) (links_of : ℕ → List ℕ) → path_from (suc n) links_of t (Some block) ≡ block ∷ path_from n links_of t (next_block links_of t block)
unfolding path_from
one_turn n t block links_of = refl

no_turn : (t : ℕ) (links_of : ℕ → List ℕ) (next : Option ℕ) → path_from 0 links_of t next ≡ []
unfolding path_from
no_turn t links_of next = refl

pub scan_goes_on : (turn long t block : ℕ) (links_of : ℕ → List ℕ) (blocks all : List ℕ) → turn < long → blocks ++ path_from (long - turn) links_of t (Some block) ≡ all
    → (blocks ++ block ∷ []) ++ path_from (long - (turn + 1)) links_of t (next_block links_of t block) ≡ all
scan_goes_on turn long t block links_of blocks all more so_far =
    let e : long - turn ≡ suc (long - (turn + 1)) = omega (arith, more) in
    append_assoc blocks (block ∷ []) (path_from (long - (turn + 1)) links_of t (next_block links_of t block))
    ∙ ap (λ (rest : List ℕ). blocks ++ rest) (sym (one_turn (long - (turn + 1)) t block links_of) ∙ ap (λ (n : ℕ). path_from n links_of t (Some block)) (sym e))
    ∙ so_far

pub scan_ends : (n t : ℕ) (links_of : ℕ → List ℕ) (blocks all : List ℕ) → blocks ++ path_from n links_of t None ≡ all → blocks ≡ all
scan_ends n t links_of blocks all so_far = sym (ap (λ (rest : List ℕ). blocks ++ rest) (ended n t links_of) ∙ append-nil blocks) ∙ so_far

pub scan_is_over : (turn long t : ℕ) (links_of : ℕ → List ℕ) (next : Option ℕ) (blocks all : List ℕ) → long ≤ turn → blocks ++ path_from (long - turn) links_of t next ≡ all → blocks ≡ all
scan_is_over turn long t links_of next blocks all over so_far =
    let e : long - turn ≡ 0 = omega (arith, over) in
    sym (ap (λ (rest : List ℕ). blocks ++ rest) (ap (λ (n : ℕ). path_from n links_of t next) e ∙ no_turn t links_of next) ∙ append-nil blocks) ∙ so_far
