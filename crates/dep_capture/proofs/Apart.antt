-- Dependencies on keys that differ are without repeats.
use Rattle.std.proofs.Common.{◌≡◌, ◌≢◌, ◌==◌, ℕ, suc, ◌<◌, Bool, true, false, ◌&&◌, not, cond, List}
use Rattle.std.proofs.Common.{[], ◌∷◌, length, get_or, filter, Option, Some, None, refl, sym, ap}
use Rattle.std.proofs.Common.{◌∙◌, arith, inl, inr}
use Rattle.std.specs.Prelude.{IfSome, filter_map, All}
use Rattle.std.specs.List.{AllPairs, cons_option}
use Rattle.std.specs.Option.{option_map}
use Rattle.std.specs.Cmp.Lexicographic.{pointwise, bytes_decides}
use Rattle.std.proofs.lemmas.Bool.{cases_Bool}
use Rattle.std.proofs.lemmas.List.Elements.{All-head, All-tail, All-weaker}
use Rattle.lc_base.specs.declared.row.Dep.{Dep}
use Rattle.lc_base.specs.Deps.{is_same_dep, without_repeats}
use Rattle.dep_capture.specs.declared.access.Read.{Read}
use Rattle.dep_capture.specs.Capture.{dep_of_read}
use Rattle.dep_capture.proofs.Backed.{all_mapped}

-- a filter that all items pass takes none away
keep_all : {X : Type 0} (p : X → Bool) (xs : List X) → All (λ x. p x ≡ true) xs → filter p xs ≡ xs
keep_all p [] all = refl
keep_all p (x ∷ xs) all =
    ap (λ b. cond b (x ∷ filter p xs) (filter p xs)) (All-head (λ x. p x ≡ true) x xs all)
    ∙ ap (λ ys. x ∷ ys) (keep_all p xs (All-tail (λ x. p x ≡ true) x xs all))

-- dependencies on other keys are others
other_dep : (dep other : Dep) → dep.key ≢ other.key → not (is_same_dep dep other) ≡ true
other_dep dep other apart = elim (cases_Bool (pointwise ◌==◌ dep.key other.key)) [
  | inl same ↦ absurd (apart ((bytes_decides dep.key other.key).0 same))
  | inr differ ↦ ap (λ b. not (b && dep.block == other.block)) differ
]

-- the dependency on a key that was read is on that key
on_its_key : (P : List ℕ → Type 0) (key : List ℕ) (version : Option ℕ) → P key
    → IfSome (dep_of_read (record { key = key; version = version })) (λ dep. P dep.key)
on_its_key P key None is = tt
on_its_key P key (Some block) is = is

on_other_keys : (key : List ℕ) (reads : List Read) → All (λ (read : Read). key ≢ read.key) reads
    → All (λ (dep : Dep). key ≢ dep.key) (filter_map dep_of_read reads)
on_other_keys key reads apart =
    all_mapped (λ (dep : Dep). key ≢ dep.key) dep_of_read reads
    (All-weaker (λ (read : Read). key ≢ read.key)
    (λ (read : Read). IfSome (dep_of_read read) (λ (dep : Dep). key ≢ dep.key))
    (λ (read : Read) is. on_its_key (λ other. key ≢ other) read.key read.version is) reads
    apart)

first_apart : (read : Read) (reads : List Read)
    → AllPairs (λ (a b : Read). a.key ≢ b.key) (read ∷ reads)
    → All (λ (other : Read). read.key ≢ other.key) reads
first_apart read reads pairs k d within = pairs 0 (suc k) d (omega arith) (omega (arith, within))

rest_apart : (read : Read) (reads : List Read)
    → AllPairs (λ (a b : Read). a.key ≢ b.key) (read ∷ reads)
    → AllPairs (λ (a b : Read). a.key ≢ b.key) reads
rest_apart read reads pairs a b d before within = pairs (suc a) (suc b) d (omega (arith, before))
    (omega (arith, within))

one_more : (key : List ℕ) (version : Option ℕ) (deps : List Dep)
    → All (λ (dep : Dep). key ≢ dep.key) deps → without_repeats deps ≡ deps
    → without_repeats (cons_option (dep_of_read (record { key = key; version = version })) deps)
    ≡ cons_option (dep_of_read (record { key = key; version = version })) deps
one_more key None deps apart once = once
one_more key (Some block) deps apart once =
    let dep : Dep = record { key = key; block = block } in
    ap (λ ds. dep ∷ filter (λ other. not (is_same_dep dep other)) ds) once
    ∙ ap (λ ds. dep ∷ ds) (keep_all (λ other. not (is_same_dep dep other)) deps
    (All-weaker (λ (other : Dep). key ≢ other.key) (λ other. not (is_same_dep dep other) ≡ true)
    (λ other is. other_dep dep other is) deps apart))

pub reads_apart : (reads : List Read) → AllPairs (λ (a b : Read). a.key ≢ b.key) reads
    → without_repeats (filter_map dep_of_read reads) ≡ filter_map dep_of_read reads
reads_apart [] pairs = refl
reads_apart (read ∷ reads) pairs =
    one_more read.key read.version (filter_map dep_of_read reads)
    (on_other_keys read.key reads (first_apart read reads pairs))
    (reads_apart reads (rest_apart read reads pairs))
