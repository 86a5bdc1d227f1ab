-- Dependencies that reads back.
use Rattle.std.proofs.Common.{◌==◌, ℕ, Bool, not, List, [], ◌∷◌, ◌++◌, get_or, Option, Some, None}
use Rattle.std.specs.Prelude.{IfSome, find, filter_map, All, Contains}
use Rattle.std.specs.Option.{option_and_then}
use Rattle.std.specs.List.{cons_option}
use Rattle.std.specs.Cmp.Lexicographic.{pointwise}
use Rattle.std.proofs.lemmas.Bool.{cond_both}
use Rattle.std.proofs.lemmas.List.Elements.{All-nil, All-cons, All-head, All-tail, All-weaker, All-filter, All-contains_itself, Contains-append_left}
use Rattle.lc_base.specs.declared.row.Dep.{Dep}
use Rattle.lc_base.specs.Deps.{is_same_dep, without_repeats}
use Rattle.dep_capture.specs.declared.access.Read.{Read}
use Rattle.dep_capture.specs.Captured.{WasBacked, AreBackedDeps}
use Rattle.dep_capture.specs.Capture.{read_of, dep_of_read, dep_named, deps_of}

-- one more read takes no backing away
pub more_backed : (reads : List Read) (read : Read) (deps : List Dep) → AreBackedDeps reads deps → AreBackedDeps (reads ++ read ∷ []) deps
more_backed reads read deps old =
    record {
      few = old.few;
      once = old.once;
      backed = All-weaker (WasBacked reads) (WasBacked (reads ++ read ∷ [])) (λ dep is. Contains-append_left reads (read ∷ []) (record { key = dep.key; version = Some dep.block }) is) deps old.backed;
    }

-- ---- what holds of items holds of those that are left of them

all_in_option : (P : Dep → Type 0) (o : Option Dep) (deps : List Dep) → IfSome o P → All P deps → All P (cons_option o deps)
all_in_option P None deps is all = all
all_in_option P (Some dep) deps is all = All-cons P dep deps is all

pub all_mapped : {X : Type 0} (P : Dep → Type 0) (h : X → Option Dep) (xs : List X)
    → All (λ x. IfSome (h x) P) xs → All P (filter_map h xs)
all_mapped P h [] all = All-nil P
all_mapped P h (x ∷ xs) all = all_in_option P (h x) (filter_map h xs) (All-head (λ y. IfSome (h y) P) x xs all) (all_mapped P h xs (All-tail (λ y. IfSome (h y) P) x xs all))

all_once : (P : Dep → Type 0) (deps : List Dep) → All P deps → All P (without_repeats deps)
all_once P [] all = all
all_once P (dep ∷ deps) all = All-cons P dep _ (All-head P dep deps all) (All-filter (λ other. not (is_same_dep dep other)) P (without_repeats deps) (all_once P deps (All-tail P dep deps all)))

all_found : (P : Read → Type 0) (p : Read → Bool) (reads : List Read) → All P reads → IfSome (find p reads) P
all_found P p [] all = tt
all_found P p (read ∷ reads) all = cond_both (p read) (Some read) (find p reads) (λ o. IfSome o P) (λ _. All-head P read reads all) (λ _. all_found P p reads (All-tail P read reads all))

-- ---- the dependencies of a put are backed

version_is_backed : (reads : List Read) (key : List ℕ) (version : Option ℕ) → Contains reads (record { key = key; version = version }) → IfSome (dep_of_read (record { key = key; version = version })) (WasBacked reads)
version_is_backed reads key None there = tt
version_is_backed reads key (Some block) there = there

read_is_backed : (reads : List Read) (read : Read) → Contains reads read → IfSome (dep_of_read read) (WasBacked reads)
read_is_backed reads read there = version_is_backed reads read.key read.version there

found_is_backed : (reads : List Read) (found : Option Read) → IfSome found (Contains reads) → IfSome (option_and_then dep_of_read found) (WasBacked reads)
found_is_backed reads None there = tt
found_is_backed reads (Some read) there = read_is_backed reads read there

named_is_backed : (reads : List Read) (key : List ℕ) → IfSome (dep_named reads key) (WasBacked reads)
named_is_backed reads key = found_is_backed reads (read_of reads key) (all_found (Contains reads) (λ (read : Read). pointwise ◌==◌ read.key key) reads (All-contains_itself reads))

pub deps_are_backed : (reads : List Read) (named : Option (List (List ℕ))) → All (WasBacked reads) (deps_of reads named)
deps_are_backed reads None = all_once (WasBacked reads) (filter_map dep_of_read reads) (all_mapped (WasBacked reads) dep_of_read reads (All-weaker (Contains reads) (λ read. IfSome (dep_of_read read) (WasBacked reads)) (read_is_backed reads) reads (All-contains_itself reads)))
deps_are_backed reads (Some keys) = all_once (WasBacked reads) (filter_map (dep_named reads) keys) (all_mapped (WasBacked reads) (dep_named reads) keys (λ k d within. named_is_backed reads (get_or keys k d)))
