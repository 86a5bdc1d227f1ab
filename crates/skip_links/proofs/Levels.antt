-- The list of links, one level more: it has one link more, or none.
use Rattle.std.proofs.Common.{◌≡◌, ◌∙◌, ℕ, ◌+◌, ◌≤◌, List, [], ◌∷◌, ◌++◌, length, Option, Some, None, refl, arith}
use Rattle.std.specs.List.{filter_map, range_with_len}
use Rattle.std.specs.Option.{option_to_list}
use Rattle.std.proofs.lemmas.List.{length-append}
use Rattle.std.proofs.lemmas.List.Elements.{filter_map-append}
use Rattle.skip_links.proofs.Lists.{range_more}

one : (h : ℕ → Option ℕ) (n : ℕ) (o : Option ℕ) → h n ≡ o → filter_map h (n ∷ []) ≡ option_to_list o
one h n None e = rw e refl
one h n (Some x) e = rw e refl

pub links_more : (h : ℕ → Option ℕ) (n : ℕ) → filter_map h (range_with_len 0 (n + 1)) ≡ filter_map h (range_with_len 0 n) ++ option_to_list (h n)
links_more h n = let e : 0 + n ≡ n = omega arith in rw (range_more 0 n, e) (filter_map-append h (range_with_len 0 n) (n ∷ []) ∙ rw (one h n (h n) refl) refl)

at_most_one : (o : Option ℕ) → length (option_to_list o) ≤ 1
at_most_one None = omega arith
at_most_one (Some x) = omega arith

pub length_more : (xs : List ℕ) (o : Option ℕ) (n : ℕ) → length xs ≤ n → length (xs ++ option_to_list o) ≤ n + 1
length_more xs o n h = let one = at_most_one o in omega (arith, length-append xs (option_to_list o))
