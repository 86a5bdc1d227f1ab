-- The uses of a block's rows, put into the lists of the keys dependency by dependency.
use Rattle.std.proofs.Common.{◌≡◌, ◌≢◌, ◌∙◌, ℕ, zero, suc, ◌+◌, ◌<◌, Bool, false, ◌&&◌, ◌||◌, ◌==◌, if◌then◌else◌, List, [], ◌∷◌, ◌++◌, length, get_or, take, Option, Some, None, refl, sym, ap, arith, inl, inr}
use Rattle.std.specs.List.{list_any, All, AllPairs, AllByRecursion}
use Rattle.std.specs.Option.{IsSomeAnd}
use Rattle.std.specs.Cmp.Lexicographic.{pointwise}
use Rattle.std.proofs.lemmas.List.{append-nil, append_assoc, length-append, take_more}
use Rattle.std.proofs.lemmas.List.Folds.{list_any-append}
use Rattle.std.proofs.lemmas.Bool.{cases_Bool, eq-eqb}
use Rattle.lc_base.specs.declared.row.Row.{Row}
use Rattle.lc_base.specs.declared.row.Dep.{Dep}
use Rattle.lc_base.specs.History.{newest, depends_on}
use Rattle.forward_links.specs.Lists.{Use}
use Rattle.plain_rows.proofs.Marked.{marked_more}
use Rattle.plain_rows.proofs.root_laws.Lists.{option_cases, or_false}
use Rattle.plain_rows.proofs.root_laws.Keys.{same_key}
use Rattle.lineage_index.specs.Growth.{
  IsOnNewest,
  open_uses,
  use_of,
  uses_at,
  list_with_uses,
  used_by_row,
  used_by,
  HaveDistinctKeys,
  is_on_key,
  changed_at,
}
use Rattle.lineage_index.specs.Heads.{open_list}
use Rattle.lineage_index.proofs.ByKey.{differ}

-- ---- one dependency more

same_block : (rows : List Row) (a b : Dep) → IsOnNewest rows a → IsOnNewest rows b → a.key ≡ b.key → a.block ≡ b.block
same_block rows a b x y k = go (newest rows a.key) (newest rows b.key) (ap (newest rows) k) x y
  where
    go : (o p : Option Row) → o ≡ p → IsSomeAnd o (λ (version : Row). version.block ≡ a.block) → IsSomeAnd p (λ (version : Row). version.block ≡ b.block) → a.block ≡ b.block
    go None p e x y = absurd x
    go (Some v) None e x y = absurd y
    go (Some v) (Some w) e x y = let same : v ≡ w = cc in sym x ∙ ap (λ (r : Row). r.block) same ∙ y

same_dep : (a b : Dep) → a.key ≡ b.key → a.block ≡ b.block → a ≡ b
same_dep a b k n = ap (λ (key : List ℕ). let d : Dep = record { key = key; block = a.block } in d) k ∙ ap (λ (block : ℕ). let d : Dep = record { key = b.key; block = block } in d) n

pub distinct_keys : (rows : List Row) (deps : List Dep) → AllPairs ◌≢◌ deps → All (IsOnNewest rows) deps → HaveDistinctKeys deps
distinct_keys rows deps once on i j d l k e =
    once i j d l k (same_dep (get_or deps i d) (get_or deps j d) e (same_block rows (get_or deps i d) (get_or deps j d) (on i d (omega (arith, l, k))) (on j d k) e))

-- none of the dependencies before is on the key of the next
none_before : (deps : List Dep) (i : ℕ) (d : Dep) → HaveDistinctKeys deps → i < length deps → list_any (is_on_key (get_or deps i d).key) (take i deps) ≡ false
none_before [] i d distinct l = absurd (omega (arith, l))
none_before (dep ∷ deps) zero d distinct l = refl
none_before (dep ∷ deps) (suc i) d distinct l =
    let off : pointwise ◌==◌ dep.key (get_or deps i d).key ≡ false = differ dep.key (get_or deps i d).key (distinct 0 (suc i) d (omega arith) (omega (arith, l))) in
    rw off (none_before deps i d (λ a b e x y. distinct (suc a) (suc b) e (omega (arith, x)) (omega (arith, y))) (omega (arith, l)))

pub one_use_more : (list : List ℕ → List Use) (user : Use) (deps : List Dep) (i : ℕ) (d : Dep)
    (key : List ℕ) → HaveDistinctKeys deps → i < length deps
    → changed_at (list_with_uses list user (take i deps)) (get_or deps i d).key (list_with_uses list user (take i deps) (get_or deps i d).key ++ user ∷ []) key ≡ list_with_uses list user (take (i + 1) deps) key
one_use_more list user deps i d key distinct l =
    let dep : Dep = get_or deps i d in
    let longer : take (i + 1) deps ≡ take i deps ++ dep ∷ [] = take_more deps i d l in
    let any : list_any (is_on_key key) (take (i + 1) deps) ≡ (list_any (is_on_key key) (take i deps) || pointwise ◌==◌ dep.key key) =
    ap (list_any (is_on_key key)) longer ∙ list_any-append (is_on_key key) (take i deps) (dep ∷ []) ∙ ap (λ (b : Bool). list_any (is_on_key key) (take i deps) || b) (or_false (pointwise ◌==◌ dep.key key)) in
    elim (cases_Bool (pointwise ◌==◌ dep.key key)) [
      | inl t ↦
          let same : dep.key ≡ key = same_key dep.key key t in
          let none : list_any (is_on_key dep.key) (take i deps) ≡ false = none_before deps i d distinct l in
          let none' : list_any (is_on_key key) (take i deps) ≡ false = rw (← same) none in
          rw (t, any, none, none', t) (ap (λ (k : List ℕ). list k ++ user ∷ []) same)
      | inr t ↦ rw (t, any, t, or_false (list_any (is_on_key key) (take i deps))) refl
    ]

-- ---- one row more

-- a row depends on the newest version of a key exactly if one of its dependencies is on the key
depends_by_key : (rows : List Row) (deps : List Dep) (key : List ℕ) (version : Row) → newest rows key ≡ Some version → AllByRecursion (IsOnNewest rows) deps
    → list_any (λ (dep : Dep). pointwise ◌==◌ dep.key key && dep.block == version.block) deps ≡ list_any (is_on_key key) deps
depends_by_key rows [] key version e on = refl
depends_by_key rows (dep ∷ deps) key version e on =
    let rest = depends_by_key rows deps key version e on.1 in
    elim (cases_Bool (pointwise ◌==◌ dep.key key)) [
      | inl t ↦
          let found : newest rows dep.key ≡ Some version = ap (newest rows) (same_key dep.key key t) ∙ e in
          let at : version.block ≡ dep.block = rw found at on.0 in
          rw (t, eq-eqb dep.block version.block (sym at)) refl
      | inr t ↦ rw (t, rest) refl
    ]

-- the uses of a version with one row more
uses_with : (rows more : List Row) (row : Row) (n : ℕ) (key : List ℕ) (version : Row) → n ≡ length
    (rows ++ more)
    → uses_at (rows ++ (more ++ row ∷ [])) key (Some version)
    ≡ (if depends_on key version.block row then uses_at (rows ++ more) key (Some version) ++ use_of
    n row ∷ [] else uses_at (rows ++ more) key (Some version))
uses_with rows more row n key version at =
    let before = uses_at (rows ++ more) key (Some version) in
    let next : 0 + length (rows ++ more) ≡ n = omega (arith, at) in
    ap (λ (rs : List Row). uses_at rs key (Some version)) (sym (append_assoc rows more (row ∷ [])))
    ∙ marked_more use_of (depends_on key version.block) 0 (rows ++ more) row
    ∙ ap (λ (k : ℕ). if depends_on key version.block row then before ++ use_of k row ∷ [] else
    before) next

pub one_row_more : (rows more : List Row) (row : Row) (n : ℕ) (key : List ℕ) → n ≡ length
    (rows ++ more) → AllByRecursion (IsOnNewest rows) row.deps
    → used_by_row (open_uses rows more) n row key ≡ open_uses rows (more ++ row ∷ []) key
one_row_more rows more row n key at on = elim (option_cases (newest rows key)) [
  | inl none ↦
      let off : list_any (is_on_key key) row.deps ≡ false = none_on row.deps on none in
      rw (off, none) refl
  | inr s ↦
      let by : depends_on key s.0.block row ≡ list_any (is_on_key key) row.deps = depends_by_key rows row.deps key s.0 s.1 on in
      rw s.1 (elim (cases_Bool (list_any (is_on_key key) row.deps)) [
        | inl t ↦ rw t (sym (uses_with rows more row n key s.0 at ∙ rw (by, t) refl))
        | inr t ↦ rw t (sym (uses_with rows more row n key s.0 at ∙ rw (by, t) refl))
      ])
]
  where
    none_on : (deps : List Dep) → AllByRecursion (IsOnNewest rows) deps → newest rows key ≡ None → list_any (is_on_key key) deps ≡ false
    none_on [] on none = refl
    none_on (dep ∷ deps) on none = elim (cases_Bool (pointwise ◌==◌ dep.key key)) [
      | inl t ↦ let e : newest rows dep.key ≡ None = ap (newest rows) (same_key dep.key key t) ∙ none in absurd (rw e at on.0)
      | inr t ↦ rw t (none_on deps on.1 none)
    ]

-- before the first row of the block
pub held_first : (rows : List Row) (key : List ℕ) → open_uses rows [] key ≡ open_list rows key
held_first rows key = ap (λ (rs : List Row). uses_at rs key (newest rows key)) (append-nil rows)

-- ---- all rows of the block

pub used_same : (f g : List ℕ → List Use) (n : ℕ) (rows : List Row) (key : List ℕ) → ((k : List ℕ)
    → f k ≡ g k) → used_by f n rows key ≡ used_by g n rows key
used_same f g n [] key same = same key
used_same f g n (row ∷ rows) key same = used_same (used_by_row f n row) (used_by_row g n row)
    (suc n) rows key (λ k. ap (λ (list : List Use). if list_any (is_on_key k) row.deps then list ++
    use_of n row ∷ [] else list) (same k))

pub all_uses : (rows more new : List Row) (n : ℕ) (key : List ℕ) → n ≡ length (rows ++ more)
    → AllByRecursion (λ (row : Row). AllByRecursion (IsOnNewest rows) row.deps) new
    → used_by (open_uses rows more) n new key ≡ open_uses rows (more ++ new) key
all_uses rows more [] n key at on = ap (λ (rs : List Row). open_uses rows rs key) (sym
    (append-nil more))
all_uses rows more (row ∷ new) n key at on =
    let next : suc n ≡ length (rows ++ (more ++ row ∷ [])) = omega (
      arith,
      at,
      length-append rows
          more,
      length-append more (row ∷ []),
      length-append rows (more ++ row ∷ []),
    ) in
    used_same (used_by_row (open_uses rows more) n row) (open_uses rows (more ++ row ∷ []))
    (suc n) new key (λ k. one_row_more rows more row n k at on.0)
    ∙ all_uses rows (more ++ row ∷ []) new (suc n) key next on.1
    ∙ ap (λ (rs : List Row). open_uses rows rs key) (append_assoc more (row ∷ []) new)

pub one_row_used : (list : List ℕ → List Use) (n : ℕ) (rows : List Row) (i : ℕ) (d : Row)
    → i < length rows
    → used_by_row (used_by list n (take i rows)) (n + i) (get_or rows i d) ≡ used_by list n (take
    (i + 1) rows)
one_row_used list n [] i d l = absurd (omega (arith, l))
one_row_used list n (row ∷ rows) zero d l = let here : n + 0 ≡ n = omega arith in ap (λ
    (k : ℕ). used_by_row list k row) here
one_row_used list n (row ∷ rows) (suc i) d l =
    let next : n + suc i ≡ suc n + i = omega arith in
    let more : suc (i + 1) ≡ suc i + 1 = omega arith in
    ap (λ (k : ℕ). used_by_row (used_by (used_by_row list n row) (suc n) (take i rows)) k
    (get_or rows i d)) next
    ∙ one_row_used (used_by_row list n row) (suc n) rows i d (omega (arith, l))
    ∙ ap (λ (k : ℕ). used_by list n (take k (row ∷ rows))) more
