-- A put keeps the puts before it, and its dependencies are reads.
use Rattle.std.proofs.Common.{◌≡◌, ◌==◌, ℕ, zero, suc, Bool, true, false, List, [], ◌∷◌, get_or, set, Contains, Option, Some, None, refl, sym, ap, ◌∙◌, find, filter_map, cond, not, ◌||◌, option_map}
use Rattle.std.specs.Prelude.{IfSome}
use Rattle.std.specs.List.{All, list_any, cons_option}
use Rattle.std.specs.Option.{option_and_then}
use Rattle.std.specs.Cmp.Lexicographic.{pointwise, bytes_decides, nat_list_eq_equiv}
use Rattle.std.proofs.lemmas.Bool.{or_left, or_right}
use Rattle.std.proofs.lemmas.List.Elements.{All-nil, All-cons, All-head, All-tail, All-filter, All-set, All-push, All-contains_itself, All-weaker}
use Rattle.std.proofs.lemmas.List.Folds.{list_any-append, list_any_at}
use Rattle.std.proofs.lemmas.List.Quantifiers.{position-Some}
use Rattle.lc_base.specs.Deps.{is_same_dep, without_repeats}
use Rattle.lc_base.specs.declared.row.Dep.{Dep}
use Rattle.dep_capture.specs.Captured.{WasBacked}
use Rattle.dep_capture.specs.Capture.{was_put, index_of, read_of, dep_of_read, dep_named, deps_of, with_put_at, with_put}
use Rattle.dep_capture.specs.declared.access.Read.{Read}
use Rattle.dep_capture.specs.declared.access.Put.{Put}

-- ---- dependencies are reads

cons_all : {Y : Type 0} (P : Y → Type 0) (o : Option Y) (ys : List Y) → IfSome o P → All P ys → All P (cons_option o ys)
cons_all P None ys h k = k
cons_all P (Some y) ys h k = All-cons P y ys h k

filtered_all : {X Y : Type 0} (P : Y → Type 0) (f : X → Option Y) (xs : List X) → All (λ x. IfSome (f x) P) xs → All P (filter_map f xs)
filtered_all P f [] h = All-nil P
filtered_all P f (x ∷ xs) h = cons_all P (f x) (filter_map f xs) (All-head (λ x. IfSome (f x) P) x xs h) (filtered_all P f xs (All-tail (λ x. IfSome (f x) P) x xs h))

once_all : (P : Dep → Type 0) (deps : List Dep) → All P deps → All P (without_repeats deps)
once_all P [] h = All-nil P
once_all P (dep ∷ deps) h = All-cons P dep _ (All-head P dep deps h) (All-filter (λ other. not (is_same_dep dep other)) P (without_repeats deps) (once_all P deps (All-tail P dep deps h)))

version_backed : (reads : List Read) (key : List ℕ) (version : Option ℕ) → Contains reads (record { key = key; version = version }) → IfSome (option_map (λ (block : ℕ). record { key = key; block = block }) version) (WasBacked reads)
version_backed reads key None h = tt
version_backed reads key (Some block) h = h

read_backed : (reads : List Read) (read : Read) → Contains reads read → IfSome (dep_of_read read) (WasBacked reads)
read_backed reads read h = version_backed reads read.key read.version h

found_by : {X : Type 0} (P : X → Type 0) (x : X) (o : Option X) (b : Bool) → P x → IfSome o P → IfSome (cond b (Some x) o) P
found_by P x o true h k = h
found_by P x o false h k = k

found_all : {X : Type 0} (P : X → Type 0) (p : X → Bool) (xs : List X) → All P xs → IfSome (find p xs) P
found_all P p [] h = tt
found_all P p (x ∷ xs) h = found_by P x (find p xs) (p x) (All-head P x xs h) (found_all P p xs (All-tail P x xs h))

if_found : (reads : List Read) (o : Option Read) → IfSome o (Contains reads) → IfSome (option_and_then dep_of_read o) (WasBacked reads)
if_found reads None h = tt
if_found reads (Some read) h = read_backed reads read h

named_backed : (reads : List Read) (keys : List (List ℕ)) → All (λ key. IfSome (dep_named reads key) (WasBacked reads)) keys
named_backed reads keys k d lt = if_found reads (read_of reads (get_or keys k d)) (found_all (Contains reads) (λ (read : Read). pointwise ◌==◌ read.key (get_or keys k d)) reads (All-contains_itself reads))

pub deps_backed : (reads : List Read) (named : Option (List (List ℕ))) → All (WasBacked reads) (deps_of reads named)
deps_backed reads None = once_all (WasBacked reads) (filter_map dep_of_read reads) (filtered_all (WasBacked reads) dep_of_read reads (All-weaker (Contains reads) (λ read. IfSome (dep_of_read read) (WasBacked reads)) (read_backed reads) reads (All-contains_itself reads)))
deps_backed reads (Some keys) = once_all (WasBacked reads) (filter_map (dep_named reads) keys) (filtered_all (WasBacked reads) (dep_named reads) keys (named_backed reads keys))

-- ---- a put among puts

put_at_all : (P : Put → Type 0) (puts : List Put) (o : Option ℕ) (put : Put) → P put → All P puts → All P (with_put_at puts o put)
put_at_all P puts None put h k = All-push P puts put k h
put_at_all P puts (Some i) put h k = All-set P puts i put h k

pub with_put_all : (P : Put → Type 0) (puts : List Put) (put : Put) → P put → All P puts → All P (with_put puts put)
with_put_all P puts put h k = put_at_all P puts (index_of puts put.key) put h k

any-set : {X : Type 0} (q : X → Bool) (xs : List X) (i : ℕ) (y d : X) → q y ≡ q (get_or xs i d) → list_any q (set xs i y) ≡ list_any q xs
any-set q [] i y d e = refl
any-set q (x ∷ xs) zero y d e = ap (λ b. b || list_any q xs) e
any-set q (x ∷ xs) (suc i) y d e = ap (λ b. q x || b) (any-set q xs i y d e)

abbrev has_key : List ℕ → Put → Bool
has_key key put = pointwise ◌==◌ put.key key

-- The put at the index of a key has that key.
at_place : (puts : List Put) (put : Put) (i : ℕ) → index_of puts put.key ≡ Some i → put.key ≡ (get_or puts i put).key
at_place puts put i e = sym ((bytes_decides (get_or puts i put).key put.key).0 (position-Some (has_key put.key) puts i put e).1)

put_at_keeps : (puts : List Put) (put : Put) (key : List ℕ) (o : Option ℕ) → index_of puts put.key ≡ o → was_put puts key ≡ true → was_put (with_put_at puts o put) key ≡ true
put_at_keeps puts put key None e h = list_any-append (has_key key) puts (put ∷ []) ∙ or_left _ _ h
put_at_keeps puts put key (Some i) e h = any-set (has_key key) puts i put put (ap (λ k. pointwise ◌==◌ k key) (at_place puts put i e)) ∙ h

-- What was put before is still put after a put.
pub put_keeps_key : (puts : List Put) (put : Put) (key : List ℕ) → was_put puts key ≡ true → was_put (with_put puts put) key ≡ true
put_keeps_key puts put key h = put_at_keeps puts put key (index_of puts put.key) refl h

put_at_has : (puts : List Put) (put : Put) (o : Option ℕ) → index_of puts put.key ≡ o → was_put (with_put_at puts o put) put.key ≡ true
put_at_has puts put None e = list_any-append (has_key put.key) puts (put ∷ []) ∙ or_right _ _ (or_left _ _ (nat_list_eq_equiv.refl put.key))
put_at_has puts put (Some i) e =
    any-set (has_key put.key) puts i put put (ap (λ k. pointwise ◌==◌ k put.key) (at_place puts put i e))
    ∙ list_any_at (has_key put.key) puts i put (position-Some (has_key put.key) puts i put e).0 (position-Some (has_key put.key) puts i put e).1

-- The key of a put is put after it.
pub put_has_key : (puts : List Put) (put : Put) → was_put (with_put puts put) put.key ≡ true
put_has_key puts put = put_at_has puts put (index_of puts put.key) refl
