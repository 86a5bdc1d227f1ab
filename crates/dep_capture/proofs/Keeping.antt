-- What stays of a capture after a read or a put, and of its rows.
use Rattle.std.proofs.Common.{◌≡◌, ◌≢◌, ◌==◌, ℕ, ◌<◌, ◌≤◌, Bool, false, not, ◌&&◌, List, [], ◌∷◌, ◌++◌, length, get_or, set, Option, Some, None, refl, sym, ap, subst, ◌∙◌, arith, inl, inr}
use Rattle.std.specs.Prelude.{position, nat_le}
use Rattle.std.specs.List.{All, list_any, position_or_len}
use Rattle.std.specs.Cmp.Lexicographic.{pointwise, bytes_decides}
use Rattle.std.proofs.lemmas.Bool.{both_ways, cases_lt, cases_eq, lt-ltb}
use Rattle.std.proofs.lemmas.Bool.Decides.{nat_tests}
use Rattle.std.proofs.lemmas.Option.{none-some}
use Rattle.std.proofs.lemmas.List.{length-map, get_or-map, length_push, get_or-set_same, get_or-set_other, length-set}
use Rattle.std.proofs.lemmas.List.Elements.{All-map, All-push, All-set, All-weaker}
use Rattle.std.proofs.lemmas.List.Folds.{list_any_none, list_any_at}
use Rattle.std.proofs.lemmas.List.Quantifiers.{all_pairs_push, position-Some}
use Rattle.std.proofs.lemmas.List.Sums.{fails_before_first}
use Rattle.lc_base.specs.declared.row.Row.{Row}
use Rattle.dep_capture.specs.declared.limits.TheConstants.{MAX_KEYS_READ, MAX_KEYS_PUT}
use Rattle.dep_capture.specs.declared.access.Read.{Read}
use Rattle.dep_capture.specs.declared.access.Put.{Put}
use Rattle.dep_capture.specs.Captured.{AreBackedDeps, IsCapture, AreLawfulRows}
use Rattle.dep_capture.specs.Capture.{was_read, was_put, index_of, with_put_at, with_put, row_of_put, rows_of_puts}
use Rattle.dep_capture.proofs.Backed.{more_backed}

-- what has no key in common with a list is none of its items
other_keys : {X : Type 0} (key_of : X → List ℕ) (xs : List X) (key : List ℕ) → list_any (λ x. pointwise ◌==◌ (key_of x) key) xs ≡ false → All (λ x. key_of x ≢ key) xs
other_keys key_of xs key absent k d within same =
    both_ways (list_any (λ x. pointwise ◌==◌ (key_of x) key) xs) absent (list_any_at (λ x. pointwise ◌==◌ (key_of x) key) xs k d within ((bytes_decides (key_of (get_or xs k d)) key).1 same))

-- ---- a read

pub read_keeps : (reads : List Read) (puts : List Put) (read : Read) → IsCapture reads puts → was_read reads read.key ≡ false → length reads < MAX_KEYS_READ → IsCapture (reads ++ read ∷ []) puts
read_keeps reads puts read old absent room =
    record {
      few_reads = omega (arith, room, length_push reads read);
      few_puts = old.few_puts;
      reads_once = all_pairs_push (λ (a b : Read). a.key ≢ b.key) reads read old.reads_once (λ k d within. other_keys (λ (r : Read). r.key) reads read.key absent k d within);
      puts_once = old.puts_once;
      backed_deps = All-weaker (λ (put : Put). AreBackedDeps reads put.deps) (λ (put : Put). AreBackedDeps (reads ++ read ∷ []) put.deps) (λ put is. more_backed reads read put.deps is) puts old.backed_deps;
    }

-- ---- a put

none_passes : {X : Type 0} (p : X → Bool) (xs : List X) → position p xs ≡ None → All (λ x. p x ≡ false) xs
none_passes p xs none k d within = elim (cases_lt (position_or_len p xs) (length xs)) [
  | inl inside ↦ absurd (none-some (position_or_len p xs) (sym (rw (lt-ltb (position_or_len p xs) (length xs) inside) at none)))
  | inr past ↦ fails_before_first p xs k d (omega (arith, within, past))
]

-- a key without a place was not put
not_put : (puts : List Put) (key : List ℕ) → index_of puts key ≡ None → was_put puts key ≡ false
not_put puts key none = list_any_none (λ (put : Put). pointwise ◌==◌ put.key key) puts (none_passes (λ (put : Put). pointwise ◌==◌ put.key key) puts none)

after_keeps : (reads : List Read) (puts : List Put) (put : Put) → IsCapture reads puts → AreBackedDeps reads put.deps → index_of puts put.key ≡ None → length puts < MAX_KEYS_PUT → IsCapture reads (puts ++ put ∷ [])
after_keeps reads puts put old backed none room =
    record {
      few_reads = old.few_reads;
      few_puts = omega (arith, room, length_push puts put);
      reads_once = old.reads_once;
      puts_once = all_pairs_push (λ (a b : Put). a.key ≢ b.key) puts put old.puts_once (λ k d within. other_keys (λ (p : Put). p.key) puts put.key (not_put puts put.key none) k d within);
      backed_deps = All-push (λ (p : Put). AreBackedDeps reads p.deps) puts put old.backed_deps backed;
    }

-- a put in the place of one of its key changes no key
same_key : (puts : List Put) (put : Put) (i : ℕ) → index_of puts put.key ≡ Some i → (k : ℕ) (d : Put) → (get_or (set puts i put) k d).key ≡ (get_or puts k d).key
same_key puts put i at k d =
    let found = position-Some (λ (p : Put). pointwise ◌==◌ p.key put.key) puts i d at in
    elim (cases_eq k i) [
      | inl here ↦
          ap (λ (n : ℕ). (get_or (set puts i put) n d).key) here ∙ ap (λ (p : Put). p.key) (get_or-set_same puts i put d found.0)
          ∙ sym ((bytes_decides (get_or puts i d).key put.key).0 found.1) ∙ ap (λ (n : ℕ). (get_or puts n d).key) (sym here)
      | inr elsewhere ↦ ap (λ (p : Put). p.key) (get_or-set_other puts i k put d elsewhere)
    ]

in_place_keeps : (reads : List Read) (puts : List Put) (put : Put) (i : ℕ) → IsCapture reads puts → AreBackedDeps reads put.deps → index_of puts put.key ≡ Some i → IsCapture reads (set puts i put)
in_place_keeps reads puts put i old backed at =
    record {
      few_reads = old.few_reads;
      few_puts = subst (λ (n : ℕ). n ≤ MAX_KEYS_PUT) (sym (length-set puts i put)) old.few_puts;
      reads_once = old.reads_once;
      puts_once = λ a b d before within same. old.puts_once a b d before (subst (λ (n : ℕ). b < n) (length-set puts i put) within) (sym (same_key puts put i at a d) ∙ same ∙ same_key puts put i at b d);
      backed_deps = All-set (λ (p : Put). AreBackedDeps reads p.deps) puts i put backed old.backed_deps;
    }

put_at_keeps : (reads : List Read) (puts : List Put) (put : Put) (place : Option ℕ) → IsCapture reads puts → AreBackedDeps reads put.deps → index_of puts put.key ≡ place → (place ≡ None → length puts < MAX_KEYS_PUT) → IsCapture reads (with_put_at puts place put)
put_at_keeps reads puts put None old backed at room = after_keeps reads puts put old backed at (room refl)
put_at_keeps reads puts put (Some i) old backed at room = in_place_keeps reads puts put i old backed at

-- if the key has no put, there is room for one, unless the put is refused
room_after : (puts : List Put) (key : List ℕ) → (not (was_put puts key) && nat_le MAX_KEYS_PUT (length puts)) ≡ false → index_of puts key ≡ None → length puts < MAX_KEYS_PUT
room_after puts key room none =
    let full : nat_le MAX_KEYS_PUT (length puts) ≡ false = rw (not_put puts key none) at room in
    grind (arith, nat_tests)

pub put_keeps : (reads : List Read) (puts : List Put) (put : Put) → IsCapture reads puts → AreBackedDeps reads put.deps → (not (was_put puts put.key) && nat_le MAX_KEYS_PUT (length puts)) ≡ false → IsCapture reads (with_put puts put)
put_keeps reads puts put old backed room = put_at_keeps reads puts put (index_of puts put.key) old backed refl (λ none. room_after puts put.key room none)

-- ---- the rows

put_of_row : Row → Put
put_of_row row = record { key = row.key; value = row.value; deps = row.deps }

pub rows_are_lawful : (reads : List Read) (puts : List Put) (block tx : ℕ) → IsCapture reads puts → AreLawfulRows reads (rows_of_puts block tx puts)
rows_are_lawful reads puts block tx kept =
    let long : length (rows_of_puts block tx puts) ≡ length puts = length-map puts (row_of_put block tx) in
    let row_at : (k : ℕ) (d : Row) → k < length puts → (get_or (rows_of_puts block tx puts) k d).key ≡ (get_or puts k (put_of_row d)).key = λ k d within. ap (λ (row : Row). row.key) (get_or-map (row_of_put block tx) puts k (put_of_row d) d within) in
    record {
      few = subst (λ (n : ℕ). n ≤ MAX_KEYS_PUT) (sym long) kept.few_puts;
      keys_once = λ a b d before within same.
          let inside : b < length puts = subst (λ (n : ℕ). b < n) long within in
          kept.puts_once a b (put_of_row d) before inside (sym (row_at a d (omega arith)) ∙ same ∙ row_at b d inside);
      backed_deps = All-map (λ (row : Row). AreBackedDeps reads row.deps) (row_of_put block tx) puts kept.backed_deps;
    }
