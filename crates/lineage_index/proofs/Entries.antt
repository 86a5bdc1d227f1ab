-- The entries of the keys after a block.
use Rattle.std.proofs.Common.{◌≡◌, ◌∙◌, ℕ, suc, ◌<◌, ◌≤◌, Bool, true, false, ◌&&◌, ◌||◌, ◌==◌, List}
use Rattle.std.proofs.Common.{[], ◌∷◌, ◌++◌, Option, Some, None, refl, sym, ap, arith, map, inl}
use Rattle.std.proofs.Common.{inr}
use Rattle.std.specs.List.{list_any, AllByRecursion}
use Rattle.std.specs.Option.{is_some}
use Rattle.std.specs.Cmp.Lexicographic.{pointwise}
use Rattle.std.proofs.lemmas.List.{append-nil}
use Rattle.std.proofs.lemmas.List.Elements.{All-from_recursion}
use Rattle.std.proofs.lemmas.List.Folds.{list_any-append}
use Rattle.std.proofs.lemmas.Bool.{cases_Bool, and_left}
use Rattle.lc_base.specs.declared.row.Row.{Row}
use Rattle.lc_base.specs.declared.row.Dep.{Dep}
use Rattle.lc_base.specs.History.{newest, uses, depends_on, version_of}
use Rattle.plain_rows.specs.root_laws.Naming.{header_digest, digest_among}
use Rattle.plain_rows.specs.root_laws.Root.{is_among, keys_of, block_of}
use Rattle.plain_rows.proofs.root_laws.Lists.{all_weaker, option_cases, not_both, or_false}
use Rattle.plain_rows.proofs.root_laws.Lists.{keep_none, some_last}
use Rattle.plain_rows.proofs.root_laws.Keys.{same_key, among_is_some}
use Rattle.plain_rows.proofs.root_laws.Growing.{earlier_versions_stay, uses_append}
use Rattle.plain_rows.proofs.root_laws.Headers.{newest_has}
use Rattle.lineage_index.specs.Growth.{Grows, Entry, entry_of, entry_after, deps_touched}
use Rattle.lineage_index.specs.Growth.{keys_of_deps, keys_touched, is_of_key, changed_at}
use Rattle.lineage_index.proofs.Blocks.{rows_before, rows_now}
use Rattle.lineage_index.proofs.ClosedLists.{newest_kept}

-- the entry of one key more was replaced
pub one_more_renewed : (old new : List ℕ → Entry) (done : List (List ℕ)) (last key : List ℕ) → changed_at (entry_after old new done) last (new last) key ≡ entry_after old new (done ++ last ∷ []) key
one_more_renewed old new done last key =
    let any : is_among (done ++ last ∷ []) key ≡ (is_among done key || pointwise ◌==◌ last key) =
    list_any-append (λ (other : List ℕ). pointwise ◌==◌ other key) done (last ∷ []) ∙ ap (λ (b : Bool). is_among done key || b) (or_false (pointwise ◌==◌ last key)) in
    elim (cases_Bool (pointwise ◌==◌ last key)) [
      | inl t ↦ rw (t, any, t, or_true (is_among done key)) (ap new (same_key last key t))
      | inr t ↦ rw (t, any, t, or_false (is_among done key)) refl
    ]
  where
    or_true : (b : Bool) → (b || true) ≡ true
    or_true true = refl
    or_true false = refl

-- ---- keys that a block does not touch

right_false : (a b : Bool) → (a || b) ≡ false → b ≡ false
right_false true b e = cc
right_false false b e = e

left_false : (a b : Bool) → (a || b) ≡ false → a ≡ false
left_false true b e = cc
left_false false b e = refl

untouched_deps : (deps : List Dep) (key : List ℕ) (block : ℕ) → is_among (map (λ (dep : Dep). dep.key) deps) key ≡ false → list_any (λ (dep : Dep). pointwise ◌==◌ dep.key key && dep.block == block) deps ≡ false
untouched_deps [] key block e = refl
untouched_deps (dep ∷ deps) key block e =
    let off = left_false (pointwise ◌==◌ dep.key key) (is_among (map (λ (dep : Dep). dep.key) deps) key) e in
    let rest = right_false (pointwise ◌==◌ dep.key key) (is_among (map (λ (dep : Dep). dep.key) deps) key) e in
    rw (and_left (pointwise ◌==◌ dep.key key) (dep.block == block) off) (untouched_deps deps key block rest)

own_among : (new : List Row) (key : List ℕ)
    → is_among (map (λ (row : Row). row.key) new) key ≡ list_any (is_of_key key) new
own_among [] key = refl
own_among (row ∷ new) key = ap (λ (b : Bool). pointwise ◌==◌ row.key key || b) (own_among new key)

pub touched_split : (new : List Row) (key : List ℕ) → is_among (keys_touched new) key
    ≡ (is_among (deps_touched new) key || list_any (is_of_key key) new)
touched_split new key =
    list_any-append (λ (other : List ℕ). pointwise ◌==◌ other key) (deps_touched new)
    (map (λ (row : Row). row.key) new)
    ∙ ap (λ (b : Bool). is_among (deps_touched new) key || b) (own_among new key)

untouched_by : (new : List Row) (key : List ℕ) (block : ℕ)
    → is_among (deps_touched new) key ≡ false
    → AllByRecursion (λ (row : Row). depends_on key block row ≡ false) new
untouched_by [] key block e = tt
untouched_by (row ∷ new) key block e =
    let split : is_among (deps_touched (row ∷ new)) key
    ≡ (is_among (keys_of_deps row) key || is_among (deps_touched new) key) =
    list_any-append (λ (other : List ℕ). pointwise ◌==◌ other key) (keys_of_deps row)
    (deps_touched new) in (
      untouched_deps row.deps key block (left_false (is_among (keys_of_deps row) key)
          (is_among (deps_touched new) key) (sym split ∙ e)),
      untouched_by new key block (right_false (is_among (keys_of_deps row) key)
          (is_among (deps_touched new) key) (sym split ∙ e)),
    )

untouched_rows : (new : List Row) (key : List ℕ) (block : ℕ) → is_among (keys_touched new) key ≡ false
    → (list_any (is_of_key key) new ≡ false) × AllByRecursion (λ (row : Row). depends_on key block row ≡ false) new
untouched_rows new key block e =
    let split = sym (touched_split new key) ∙ e in (
      right_false (is_among (deps_touched new) key) (list_any (is_of_key key) new) split,
      untouched_by new key block (left_false (is_among (deps_touched new) key)
          (list_any (is_of_key key) new) split),
    )

digest_kept : (rows new : List Row) (n : ℕ) (key : List ℕ) (block : ℕ) → Grows rows new n → block < n → header_digest (rows ++ new) key block ≡ header_digest rows key block
digest_kept rows new n key block g l = ap (λ named. digest_among named key block) (earlier_versions_stay rows new (suc block)
    (All-from_recursion (λ (row : Row). suc block ≤ row.block) new (all_weaker (λ (row : Row). row.block ≡ n) (λ (row : Row). suc block ≤ row.block) (λ row e. omega (arith, e, l)) new (rows_now rows new n g))))

same_entry : (rows all : List Row) (key : List ℕ) (block : ℕ) → block_of (newest rows key) ≡ block → block_of (newest all key) ≡ block → header_digest all key block ≡ header_digest rows key block → uses all key block ≡ uses rows key block
    → entry_of all key ≡ entry_of rows key
same_entry rows all key block at at' digest list = rw (at, at', digest, list) refl

pub untouched : (rows new : List Row) (n : ℕ) (key : List ℕ) → Grows rows new n → is_among (keys_of rows) key ≡ true → is_among (keys_touched new) key ≡ false → entry_of (rows ++ new) key ≡ entry_of rows key
untouched rows new n key g known off = elim (option_cases (newest rows key)) [
  | inl none ↦ let not_known : is_among (keys_of rows) key ≡ false = among_is_some rows key ∙ rw none refl in absurd (not_both (is_among (keys_of rows) key) known not_known)
  | inr s ↦
      let rest = untouched_rows new key s.0.block off in
      let low : s.0.block < n = newest_has (λ (r : Row). r.block < n) rows key s.0 (rows_before rows new n g) s.1 in
      let none : newest new key ≡ None = none_newest (newest new key) (some_last (is_of_key key) new ∙ rest.0) in
      let list : uses (rows ++ new) key s.0.block ≡ uses rows key s.0.block =
      uses_append rows new key s.0.block ∙ ap (λ (rs : List Row). uses rows key s.0.block ++ map version_of rs) (keep_none (depends_on key s.0.block) new rest.1) ∙ append-nil (uses rows key s.0.block) in
      same_entry rows (rows ++ new) key s.0.block (ap block_of s.1) (ap block_of (newest_kept rows new key none ∙ s.1)) (digest_kept rows new n key s.0.block g low) list
]
  where
    none_newest : (o : Option Row) → is_some o ≡ false → o ≡ None
    none_newest None e = refl
    none_newest (Some row) e = cc

-- with the entries of all keys that the block touches replaced, they are those of the longer
-- history
pub renewed_all : (rows new : List Row) (n : ℕ) (key : List ℕ) (old : List ℕ → Entry) → Grows rows new n
    → (is_among (keys_of rows) key ≡ true → old key ≡ entry_of rows key) → (is_among (keys_of rows) key ≡ false → is_among (keys_touched new) key ≡ true)
    → entry_after old (entry_of (rows ++ new)) (keys_touched new) key ≡ entry_of (rows ++ new) key
renewed_all rows new n key old g is known = elim (cases_Bool (is_among (keys_touched new) key)) [
  | inl t ↦ rw t refl
  | inr off ↦ elim (cases_Bool (is_among (keys_of rows) key)) [
    | inl t ↦ rw off (is t ∙ sym (untouched rows new n key g t off))
    | inr f ↦ absurd (not_both (is_among (keys_touched new) key) (known f) off)
  ]
]
