-- The closed lists of rows, as rows become the newest versions of their keys.
use Rattle.std.proofs.Common.{◌≡◌, ◌≢◌, ◌∙◌, ℕ, zero, suc, ◌<◌, Bool, true, false, ◌&&◌, ◌==◌}
use Rattle.std.proofs.Common.{if◌then◌else◌, List, [], ◌∷◌, ◌++◌}
use Rattle.std.proofs.Common.{length, Option, Some, refl, sym, ap, subst, arith, inl, inr}
use Rattle.std.specs.Prelude.{slice_get, slice_set}
use Rattle.std.specs.List.{list_any, AllPairs, AllByRecursion}
use Rattle.std.specs.Cmp.Lexicographic.{pointwise}
use Rattle.std.proofs.lemmas.Bool.{cases_Bool, eq-eqb, eqb-true, ne_eqb}
use Rattle.std.proofs.lemmas.List.{append-nil, get_or-set_same, length-append, length-set}
use Rattle.std.proofs.lemmas.List.Folds.{list_any_at}
use Rattle.std.proofs.lemmas.Option.{get_or_from_slice_get, same_Some, slice_get-get_or}
use Rattle.std.proofs.lemmas.Option.{slice_get_within}
use Rattle.lc_base.specs.declared.row.Row.{Row}
use Rattle.lc_base.specs.declared.row.Dep.{Dep}
use Rattle.lc_base.specs.History.{StandsBefore, depends_on, newest, version_of}
use Rattle.plain_rows.specs.Places.{marks_of}
use Rattle.plain_rows.specs.Users.{number_of, users}
use Rattle.plain_rows.proofs.Marked.{get_here}
use Rattle.plain_rows.proofs.UsedEnd.{at_front, get_front}
use Rattle.plain_rows.proofs.Versions.{version_index}
use Rattle.forward_links.specs.Lists.{rows_of}
use Rattle.skip_links.specs.Versions.{newest_index}
use Rattle.skip_links.proofs.Threads.{newest_more}
use Rattle.plain_rows.specs.root_laws.Root.{is_among, keys_of}
use Rattle.plain_rows.proofs.root_laws.Headers.{newest_is_key}
use Rattle.plain_rows.proofs.root_laws.Keys.{among_is_some, key_is_key, same_key}
use Rattle.plain_rows.proofs.root_laws.Lists.{not_both, option_cases, some_last}
use Rattle.lineage_index.specs.Growth.{IsOnNewest, is_of_key, uses_at}
use Rattle.lineage_index.specs.Heads.{KeyStates, index_or_zero, newest_at}
use Rattle.lineage_index.specs.Closed.{AreClosed, CanClose, closed_users, closed_with}
use Rattle.lineage_index.proofs.MarkedUses.{rows_at}
use Rattle.lineage_index.proofs.Settled.{index_there, row_there}

-- ---- items of lists

get_set_same : {A : Type 0} (xs : List A) (i : ℕ) (v : A) → i < length xs
    → slice_get (slice_set xs i v) i ≡ Some v
get_set_same xs i v l =
    slice_get-get_or (slice_set xs i v) i v (omega (arith, length-set xs i v, l))
    ∙ ap (λ x. Some x) (get_or-set_same xs i v v l)

get_set_other : {A : Type 0} (xs : List A) (i j : ℕ) (v : A) → i ≢ j
    → slice_get (slice_set xs i v) j ≡ slice_get xs j
get_set_other [] i j v ne = refl
get_set_other (x ∷ xs) zero zero v ne = absurd (ne refl)
get_set_other (x ∷ xs) zero (suc j) v ne = refl
get_set_other (x ∷ xs) (suc i) zero v ne = refl
get_set_other (x ∷ xs) (suc i) (suc j) v ne = get_set_other xs i j v (λ e. ne (ap (λ n. suc n) e))

-- ---- rows of a history

-- No two rows are one version.
one_place : (rows : List Row) (i j : ℕ) (a b : Row) → AllPairs StandsBefore rows
    → slice_get rows i ≡ Some a → slice_get rows j ≡ Some b → b.key ≡ a.key → b.block ≡ a.block
    → i ≡ j
one_place rows i j a b ordered at_i at_j keys blocks =
    same_Some i j (sym (version_index rows i a (version_of a) ordered at_i refl refl)
    ∙ version_index rows j b (version_of a) ordered at_j keys blocks)

-- The newest row of a key that has one, with its index.
pub newest_row : (rows : List Row) (key : List ℕ) → is_among (keys_of rows) key ≡ true
    → (row : Row) × (newest rows key ≡ Some row) × (slice_get rows (newest_at rows key) ≡ Some row)
newest_row rows key there = row_there rows key (newest_at rows key) (index_there rows key there)

-- The key of a row has rows.
pub row_among : (rows : List Row) (i : ℕ) (row : Row) → slice_get rows i ≡ Some row
    → is_among (keys_of rows) row.key ≡ true
row_among rows i row at =
    let here = get_or_from_slice_get rows i row row at in
    among_is_some rows row.key ∙ some_last (is_of_key row.key) rows
    ∙ list_any_at (is_of_key row.key) rows i row (slice_get_within rows i row at) (rw here
    (key_is_key row.key))

-- ---- the rows of a block are derived from newest rows alone

not_on : (rows : List Row) (key : List ℕ) (block : ℕ) (deps : List Dep)
    → ((version : Row) → newest rows key ≡ Some version → version.block ≢ block)
    → AllByRecursion (IsOnNewest rows) deps
    → list_any (λ (dep : Dep). pointwise ◌==◌ dep.key key && dep.block == block) deps ≡ false
not_on rows key block [] other on = refl
not_on rows key block (dep ∷ deps) other on =
    let rest = not_on rows key block deps other on.1 in
    elim (cases_Bool (pointwise ◌==◌ dep.key key)) [
      | inl t ↦ elim (option_cases (newest rows dep.key)) [
        | inl none ↦ absurd (rw none at on.0)
        | inr s ↦
            let is : newest rows key ≡ Some s.0 = ap (newest rows) (sym (same_key dep.key key t))
            ∙ s.1 in
            let at : s.0.block ≡ dep.block = rw s.1 at on.0 in
            let off : (dep.block == block) ≡ false = ne_eqb dep.block block (λ e. other s.0 is (at
            ∙ e)) in
            rw (t, off, rest) refl
      ]
      | inr f ↦ rw (f, rest) refl
    ]

none_marked : (passes : Row → Bool) (n : ℕ) (new : List Row) → AllByRecursion (λ
    (row : Row). passes row ≡ false) new
    → marks_of number_of passes n new ≡ []
none_marked passes n [] none = refl
none_marked passes n (row ∷ new) none = rw none.0 (none_marked passes (suc n) new none.1)

marked_before : (passes : Row → Bool) (n : ℕ) (rows new : List Row) → AllByRecursion (λ
    (row : Row). passes row ≡ false) new
    → marks_of number_of passes n (rows ++ new) ≡ marks_of number_of passes n rows
marked_before passes n [] new none = none_marked passes n new none
marked_before passes n (row ∷ rows) new none = elim (cases_Bool (passes row)) [
  | inl t ↦ rw t (ap (λ (indexes : List ℕ). n ∷ indexes) (marked_before passes
      (suc n) rows new none))
  | inr f ↦ rw f (marked_before passes (suc n) rows new none)
]

-- The newest row of a row's key, where the row is not at its index, is of another block.
other_block : (rows : List Row) (index : ℕ) (row : Row) → AllPairs StandsBefore rows
    → slice_get rows index ≡ Some row → (newest_at rows row.key == index) ≡ false
    → (version : Row) → newest rows row.key ≡ Some version → version.block ≢ row.block
other_block rows index row ordered at off version is same =
    let there : is_among (keys_of rows) row.key ≡ true = among_is_some rows row.key ∙ rw is refl in
    let last = newest_row rows row.key there in
    let version_is : last.0 ≡ version = same_Some last.0 version (sym last.1 ∙ is) in
    let place : index ≡ newest_at rows row.key = one_place rows index (newest_at rows row.key) row
    last.0 ordered at last.2
    (newest_is_key rows row.key last.0 last.1) (ap (λ (r : Row). r.block) version_is ∙ same) in
    not_both (newest_at rows row.key == index) (eq-eqb (newest_at rows row.key) index
    (sym place)) off

users_stay : (rows new : List Row) (index : ℕ) (row : Row) → AllPairs StandsBefore rows
    → AllByRecursion (λ (r : Row). AllByRecursion (IsOnNewest rows) r.deps) new
    → slice_get rows index ≡ Some row → (newest_at rows row.key == index) ≡ false
    → users rows row ≡ users (rows ++ new) row
users_stay rows new index row ordered on at off =
    sym (marked_before (depends_on row.key row.block) 0 rows new (none new on))
  where
    none : (rs : List Row) → AllByRecursion (λ (r : Row). AllByRecursion (IsOnNewest rows) r.deps)
        rs
        → AllByRecursion (λ (r : Row). depends_on row.key row.block r ≡ false) rs
    none [] h = tt
    none (r ∷ rs) h = (
      not_on rows row.key row.block r.deps (other_block rows index row ordered at
          off) h.0,
      none rs h.1,
    )

-- The closed lists get no user from a block.
pub closed_begins : (rows new : List Row) (closed : List (List ℕ)) → AllPairs StandsBefore rows
    → AllByRecursion (λ (r : Row). AllByRecursion (IsOnNewest rows) r.deps) new
    → AreClosed rows rows closed → AreClosed (rows ++ new) (rows ++ []) closed
closed_begins rows new closed ordered on are =
    subst (λ (first : List Row). AreClosed (rows ++ new) first closed) (sym (append-nil rows))
    (record {
      long = are.long;
      each = λ index row at. are.each index row at ∙ ap (λ (list : List ℕ). Some list)
          (same index row at);
    })
  where
    same : (index : ℕ) (row : Row) → slice_get rows index ≡ Some row
        → closed_users rows rows index row ≡ closed_users (rows ++ new) rows index row
    same index row at = elim (cases_Bool (newest_at rows row.key == index)) [
      | inl t ↦ rw t refl
      | inr f ↦ rw f (users_stay rows new index row ordered on at f)
    ]

-- ---- a row more

pub newest_at_more : (first : List Row) (row : Row) (key : List ℕ) (same : Bool)
    → pointwise ◌==◌ row.key key ≡ same
    → newest_at (first ++ row ∷ []) key ≡ (if same then length first else newest_at first key)
newest_at_more first row key true is =
    let found : newest_index (first ++ row ∷ []) key ≡ Some (length first) = newest_more first row
    key ∙ rw is refl in
    ap index_or_zero found
newest_at_more first row key false is =
    let found : newest_index (first ++ row ∷ []) key ≡ newest_index first key = newest_more first
    row key ∙ rw is refl in
    ap index_or_zero found

module _ (all first : List Row) (row : Row) (states : KeyStates) (closed : List (List ℕ))
    (are : AreClosed all first closed) (keys_are : states.keys ≡ keys_of first)
    (index_is : states.index row.key ≡ newest_at first row.key)
    (list_is : states.list row.key ≡ uses_at all row.key (newest first row.key)) where
  after : List (List ℕ)
  after = closed_with states row.key closed

  after_old : is_among (keys_of first) row.key ≡ true
      → after ≡ slice_set (closed ++ [] ∷ []) (newest_at first row.key)
      (rows_of (uses_at all row.key (newest first row.key)))
  unfolding after
  after_old there =
      let known : is_among states.keys row.key ≡ true = ap (λ (ks : List
      (List ℕ)). is_among ks row.key) keys_are ∙ there in
      rw (known, index_is, list_is) refl

  after_new : is_among (keys_of first) row.key ≡ false → after ≡ closed ++ [] ∷ []
  unfolding after
  after_new none =
      let unknown : is_among states.keys row.key ≡ false = ap (λ (ks : List
      (List ℕ)). is_among ks row.key) keys_are ∙ none in
      rw unknown refl

  -- The row before, whose list is closed now.
  at_newest : (i : ℕ) (r : Row) → slice_get first i ≡ Some r → pointwise ◌==◌ row.key r.key ≡ true
      → (newest_at first r.key == i) ≡ true → slice_get after i ≡ Some (users all r)
  at_newest i r at same here =
      let key : row.key ≡ r.key = same_key row.key r.key same in
      let there : is_among (keys_of first) row.key ≡ true = ap (is_among (keys_of first)) key
      ∙ row_among first i r at in
      let place : newest_at first row.key ≡ i = ap (newest_at first) key
      ∙ eqb-true (newest_at first r.key) i here in
      let last = newest_row first row.key there in
      let is : last.0 ≡ r = same_Some last.0 r (sym last.2 ∙ ap (slice_get first) place ∙ at) in
      let newest_is : newest first row.key ≡ Some r = last.1 ∙ ap (λ (x : Row). Some x) is in
      let list : rows_of (uses_at all row.key (newest first row.key)) ≡ users all r =
      ap (λ (o : Option Row). rows_of (uses_at all row.key o)) newest_is
      ∙ ap (λ (k : List ℕ). rows_of (uses_at all k (Some r))) key ∙ rows_at all r in
      let within : i < length (closed ++ [] ∷ []) = omega (
        arith,
        slice_get_within first i r at,
        are.long,
        length-append closed ([] ∷ []),
      ) in
      ap (λ (lists : List (List ℕ)). slice_get lists i) (after_old there)
      ∙ ap (λ (k : ℕ). slice_get (slice_set (closed ++ [] ∷ []) k (rows_of (uses_at all row.key
      (newest first row.key)))) i) place
      ∙ get_set_same (closed ++ [] ∷ []) i (rows_of (uses_at all row.key (newest first row.key)))
      within
      ∙ ap (λ (l : List ℕ). Some l) list

  -- The lists of other rows stay.
  stays : (i : ℕ) (x : List ℕ) → slice_get closed i ≡ Some x
      → (is_among (keys_of first) row.key ≡ true → newest_at first row.key ≢ i)
      → slice_get after i ≡ Some x
  stays i x at other = elim (cases_Bool (is_among (keys_of first) row.key)) [
    | inl t ↦
        ap (λ (lists : List (List ℕ)). slice_get lists i) (after_old t)
        ∙ get_set_other (closed ++ [] ∷ []) (newest_at first row.key) i
        (rows_of (uses_at all row.key (newest first row.key))) (other t)
        ∙ get_front closed [] x i at
    | inr f ↦ ap (λ (lists : List (List ℕ)). slice_get lists i) (after_new f)
        ∙ get_front closed [] x i at
  ]

  at_other : (i : ℕ) (r : Row) → slice_get first i ≡ Some r → pointwise ◌==◌ row.key r.key ≡ false
      → slice_get after i ≡ Some (closed_users all first i r)
  at_other i r at off = stays i (closed_users all first i r) (are.each i r at) (λ there place.
      let last = newest_row first row.key there in
      let is : last.0 ≡ r = same_Some last.0 r (sym last.2 ∙ ap (slice_get first) place ∙ at) in
      let key : row.key ≡ r.key = sym (newest_is_key first row.key last.0 last.1)
      ∙ ap (λ (x : Row). x.key) is in
      not_both (pointwise ◌==◌ row.key r.key) (ap (pointwise ◌==◌ row.key) (sym key)
      ∙ key_is_key row.key) off)

  at_last : slice_get after (length first) ≡ Some []
  at_last =
      let end : length closed ≡ length first = are.long in
      let read : slice_get (closed ++ [] ∷ []) (length first) ≡ Some [] =
      ap (slice_get (closed ++ [] ∷ [])) (sym end) ∙ get_here closed [] [] in
      elim (cases_Bool (is_among (keys_of first) row.key)) [
        | inl t ↦
            let last = newest_row first row.key t in
            let below = slice_get_within first (newest_at first row.key) last.0 last.2 in
            ap (λ (lists : List (List ℕ)). slice_get lists (length first)) (after_old t)
            ∙ get_set_other (closed ++ [] ∷ []) (newest_at first row.key) (length first)
            (rows_of (uses_at all row.key (newest first row.key))) (λ e. omega (arith, e, below))
            ∙ read
        | inr f ↦ ap (λ (lists : List (List ℕ)). slice_get lists (length first)) (after_new f)
            ∙ read
      ]

  -- A row before.
  at_old : (i : ℕ) (r : Row) → slice_get first i ≡ Some r
      → slice_get after i ≡ Some (closed_users all (first ++ row ∷ []) i r)
  at_old i r at = elim (cases_Bool (pointwise ◌==◌ row.key r.key)) [
    | inl t ↦
        let now : newest_at (first ++ row ∷ []) r.key ≡ length first = newest_at_more first row
        r.key true t in
        let off : (newest_at (first ++ row ∷ []) r.key == i) ≡ false =
        ne_eqb (newest_at (first ++ row ∷ []) r.key) i (λ e. omega (
          arith,
          e,
          now,
          slice_get_within
              first i r at,
        )) in
        elim (cases_Bool (newest_at first r.key == i)) [
          | inl h ↦ rw off (at_newest i r at t h)
          | inr h ↦
              let kept : slice_get closed i ≡ Some (users all r) = are.each i r at
              ∙ ap (λ (b : Bool). Some (if b then [] else users all r)) h in
              rw off (stays i (users all r) kept (λ there place.
              not_both (newest_at first r.key == i) (eq-eqb (newest_at first r.key) i
              (ap (newest_at first) (sym (same_key row.key r.key t)) ∙ place)) h))
        ]
    | inr f ↦
        let now : newest_at (first ++ row ∷ []) r.key ≡ newest_at first r.key = newest_at_more first
        row r.key false f in
        subst (λ (b : ℕ). slice_get after i ≡ Some (if b == i then [] else users all r)) (sym now)
        (at_other i r at f)
  ]

  at_end : slice_get after (length first) ≡ Some (closed_users all (first ++ row ∷ [])
      (length first) row)
  at_end =
      let now : newest_at (first ++ row ∷ []) row.key ≡ length first = newest_at_more first row
      row.key true (key_is_key row.key) in
      let on : (newest_at (first ++ row ∷ []) row.key == length first) ≡ true =
      eq-eqb (newest_at (first ++ row ∷ []) row.key) (length first) now in
      rw on at_last

  long_after : length after ≡ length (first ++ row ∷ [])
  long_after = elim (cases_Bool (is_among (keys_of first) row.key)) [
    | inl t ↦ omega (
      arith,
      ap length (after_old t),
      length-set (closed ++ [] ∷ []) (newest_at first row.key) (rows_of (uses_at all row.key
          (newest first row.key))),
      length-append closed ([] ∷ []),
      length-append first (row ∷ []),
      are.long,
    )
    | inr f ↦ omega (
      arith,
      ap length (after_new f),
      length-append closed ([] ∷ []),
      length-append
          first (row ∷ []),
      are.long,
    )
  ]

  pub closed_more : AreClosed all (first ++ row ∷ []) (closed_with states row.key closed)
  unfolding after
  closed_more = record {
    long = long_after;
    each = at_front (λ i r. slice_get after i ≡ Some (closed_users all (first ++ row ∷ []) i r))
        first row at_old at_end;
  }

  -- The list that is closed has a place.
  pub can_close : CanClose states row.key closed
  can_close known =
      let there : is_among (keys_of first) row.key ≡ true = sym (ap (λ (ks : List
      (List ℕ)). is_among ks row.key) keys_are) ∙ known in
      let last = newest_row first row.key there in
      omega (
        arith,
        index_is,
        slice_get_within first (newest_at first row.key) last.0 last.2,
        are.long,
      )
