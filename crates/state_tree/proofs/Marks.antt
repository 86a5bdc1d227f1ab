-- The marks of the leaves whose hashes are stale, and the list of the indexes that are marked.
use Rattle.std.proofs.Common.{◌≡◌, ◌∙◌, ℕ, zero, suc, ◌+◌, ◌<◌, ◌==◌, Bool, true, false, cond, List}
use Rattle.std.proofs.Common.{[], ◌∷◌, ◌++◌, length, get_or, drop, count_by, refl, sym, ap, subst}
use Rattle.std.proofs.Common.{arith, inl, inr, ◌⊎◌}
use Rattle.std.proofs.Math.ListN.{set}
use Rattle.std.specs.List.{All, Contains, list_any}
use Rattle.std.proofs.lemmas.Bool.{cases_Bool, cases_eq, eqb-true, eq-eqb}
use Rattle.std.proofs.lemmas.List.{drop_more, length-set, length-append, get_or_default}
use Rattle.std.proofs.lemmas.List.{get_or-set_other, get_or-set_same}
use Rattle.std.proofs.lemmas.List.Elements.{All-nil, All-push, All-weaker, All-contains}
use Rattle.std.proofs.lemmas.List.Elements.{Contains-append_left, Contains-push}
use Rattle.std.proofs.lemmas.List.Folds.{list_any_at, Any-from_list_any}
use Rattle.std.proofs.lemmas.List.Sums.{sum_by-cons, sum_by-set, sum_by_push, count_by-le-length}
use Rattle.root_laws.proofs.Lists.{not_both}
use Rattle.state_tree.specs.Stale.{with_index, is_marked, AreMarked}

-- ---- an index that is there

found : (list : List ℕ) (index : ℕ) → list_any (λ (other : ℕ). other == index) list ≡ true
    → Contains list index
found list index t =
    let at = Any-from_list_any (λ (other : ℕ). other == index) list t in
    (at.0, at.2, get_or_default list at.0 index at.1 at.2 ∙ at.3 ∙ eqb-true at.1 index at.4)

there_is : (list : List ℕ) (index : ℕ) → Contains list index
    → list_any (λ (other : ℕ). other == index) list ≡ true
there_is list index (k, below, is) = list_any_at (λ (other : ℕ). other == index) list k index below (eq-eqb (get_or list k index) index is)

-- The index is there then.
pub with_index_has : (list : List ℕ) (index : ℕ) → Contains (with_index list index) index
with_index_has list index = elim (cases_Bool (list_any (λ (other : ℕ). other == index) list)) [
  | inl t ↦ rw t (found list index t)
  | inr off ↦ rw off (Contains-push list index)
]

-- The others stay.
pub with_index_keeps : (list : List ℕ) (index other : ℕ) → Contains list other
    → Contains (with_index list index) other
with_index_keeps list index other there = elim (cases_Bool (list_any (λ (one : ℕ). one == index) list)) [
  | inl t ↦ rw t there
  | inr off ↦ rw off (Contains-append_left list (index ∷ []) other there)
]

pub with_index_all : (P : ℕ → Type 0) (list : List ℕ) (index : ℕ) → All P list → P index
    → All P (with_index list index)
with_index_all P list index all one = elim (cases_Bool (list_any (λ (other : ℕ). other == index) list)) [
  | inl t ↦ rw t all
  | inr off ↦ rw off (All-push P list index all one)
]

-- ---- marks

pub marked_within : (marks : List Bool) (index : ℕ) → is_marked marks index ≡ true
    → index < length marks
marked_within [] index t = absurd (not_both false t refl)
marked_within (mark ∷ marks) zero t = omega arith
marked_within (mark ∷ marks) (suc index) t = let rest = marked_within marks index t in omega (arith, rest)

abbrev one_if : Bool → ℕ
one_if mark = cond mark 1 0

-- What is read at an index is its mark.
pub mark_read : (marks : List Bool) (index : ℕ) (mark read : Bool) → index < length marks
    → read ≡ get_or marks index read → read ≡ mark → is_marked marks index ≡ mark
mark_read marks index mark read below is t = get_or_default marks index false read below ∙ sym is ∙ t

-- ---- one more leaf, which is not marked

pushed : (marks : List Bool) (index : ℕ)
    → is_marked (marks ++ false ∷ []) index ≡ is_marked marks index
pushed [] zero = refl
pushed [] (suc index) = refl
pushed (mark ∷ marks) zero = refl
pushed (mark ∷ marks) (suc index) = pushed marks index

pub marked_longer : (marks marks' : List Bool) (list list' : List ℕ) → AreMarked marks list
    → marks' ≡ marks ++ false ∷ [] → list' ≡ list → AreMarked marks' list'
marked_longer marks marks' list list' are longer same = rw (longer, same) (record {
  listed = λ index t. are.listed index (sym (pushed marks index) ∙ t);
  marked = All-weaker (λ (index : ℕ). is_marked marks index ≡ true) (λ (index : ℕ). is_marked (marks ++ false ∷ []) index ≡ true) (λ index t. pushed marks index ∙ t) list are.marked;
  once = let more = sum_by_push one_if marks false in omega (arith, are.once, more);
})

-- ---- an index that gets marked

counted : (marks : List Bool) (index : ℕ) → index < length marks → is_marked marks index ≡ false
    → count_by (λ (mark : Bool). mark) (set marks index true) ≡ count_by (λ (mark : Bool). mark) marks + 1
counted marks index below off =
    let more = sum_by-set one_if marks index true false below in
    let none : one_if (get_or marks index false) ≡ one_if false = ap one_if off in
    omega (arith, more, none)

-- An index that is not marked finds room in the list.
pub room_left : (marks : List Bool) (list : List ℕ) (index : ℕ) → AreMarked marks list
    → index < length marks → is_marked marks index ≡ false → length list < length marks
room_left marks list index are below off =
    omega (
      arith,
      are.once,
      counted marks index below off,
      count_by-le-length (λ (mark : Bool). mark) (set marks index true),
      length-set marks index true,
    )

-- It is not in the list.
pub not_there : (marks : List Bool) (list : List ℕ) (index : ℕ) → AreMarked marks list
    → is_marked marks index ≡ false → with_index list index ≡ list ++ index ∷ []
not_there marks list index are off = elim (cases_Bool (list_any (λ (other : ℕ). other == index) list)) [
  | inl t ↦ absurd (not_both (is_marked marks index) (All-contains (λ (other : ℕ). is_marked marks other ≡ true) list index are.marked (found list index t)) off)
  | inr apart ↦ rw apart refl
]

-- An index that is marked is in the list.
pub is_there : (marks : List Bool) (list : List ℕ) (index : ℕ) → AreMarked marks list
    → is_marked marks index ≡ true → with_index list index ≡ list
is_there marks list index are t = rw (there_is list index (are.listed index t)) refl

pub marked_more : (marks marks' : List Bool) (list list' : List ℕ) (index : ℕ)
    → AreMarked marks list → index < length marks → is_marked marks index ≡ false
    → marks' ≡ set marks index true → list' ≡ list ++ index ∷ [] → AreMarked marks' list'
marked_more marks marks' list list' index are below off marks_are list_is = rw (marks_are, list_is) (record {
  listed = listed;
  marked = All-push (λ (other : ℕ). is_marked (set marks index true) other ≡ true) list index
      (All-weaker (λ (other : ℕ). is_marked marks other ≡ true) (λ (other : ℕ). is_marked (set marks index true) other ≡ true) stays list are.marked)
      (get_or-set_same marks index true false below);
  once = let more = counted marks index below off in omega (arith, are.once, more, length-append list (index ∷ []));
})
  where
    stays : (other : ℕ) → is_marked marks other ≡ true
        → is_marked (set marks index true) other ≡ true
    stays other t = elim (cases_eq other index) [
      | inl e ↦ ap (is_marked (set marks index true)) e ∙ get_or-set_same marks index true false below
      | inr apart ↦ get_or-set_other marks index other true false apart ∙ t
    ]

    listed : (other : ℕ) → is_marked (set marks index true) other ≡ true
        → Contains (list ++ index ∷ []) other
    listed other t = elim (cases_eq other index) [
      | inl e ↦ subst (λ (one : ℕ). Contains (list ++ index ∷ []) one) (sym e) (Contains-push list index)
      | inr apart ↦ Contains-append_left list (index ∷ []) other (are.listed other (sym (get_or-set_other marks index other true false apart) ∙ t))
    ]

-- ---- marks that are taken away

unset : (marks : List Bool) (index : ℕ) → is_marked (set marks index false) index ≡ false
unset [] index = refl
unset (mark ∷ marks) zero = refl
unset (mark ∷ marks) (suc index) = unset marks index

first_or : (x : ℕ) (xs : List ℕ) (y : ℕ) → Contains (x ∷ xs) y → (x ≡ y) ⊎ Contains xs y
first_or x xs y (zero, below, is) = inl is
first_or x xs y (suc k, below, is) = inr (k, omega arith, is)

-- With one mark less, what is marked is further on in the list.
pub unmark_more : (marks : List Bool) (list : List ℕ) (k d : ℕ) → k < length list
    → ((index : ℕ) → is_marked marks index ≡ true → Contains (drop k list) index)
    → (index : ℕ) → is_marked (set marks (get_or list k d) false) index ≡ true
    → Contains (drop (k + 1) list) index
unmark_more marks list k d below left index t = elim (cases_eq index (get_or list k d)) [
  | inl e ↦ absurd (not_both (is_marked (set marks (get_or list k d) false) index) t (ap (is_marked (set marks (get_or list k d) false)) e ∙ unset marks (get_or list k d)))
  | inr apart ↦
      let was = left index (sym (get_or-set_other marks (get_or list k d) index false false apart) ∙ t) in
      elim (first_or (get_or list k d) (drop (k + 1) list) index (subst (λ (xs : List ℕ). Contains xs index) (drop_more list k d below) was)) [
        | inl e ↦ absurd (apart (sym e))
        | inr there ↦ there
      ]
]

nothing : (index : ℕ) → Contains [] index → ⊥
nothing index (k, below, is) = omega arith

uncounted : (marks : List Bool) → ((index : ℕ) → is_marked marks index ≡ true → ⊥)
    → count_by (λ (mark : Bool). mark) marks ≡ 0
uncounted [] none = refl
uncounted (true ∷ marks) none = absurd (none 0 refl)
uncounted (false ∷ marks) none =
    let first = sum_by-cons one_if false marks in
    let rest = uncounted marks (λ index t. none (suc index) t) in
    omega (arith, first, rest)

-- Marks of nothing.
pub unmarked : (marks : List Bool) (list : List ℕ) → list ≡ []
    → ((index : ℕ) → is_marked marks index ≡ true → Contains list index) → AreMarked marks []
unmarked marks list none left =
    let all : (index : ℕ) → is_marked marks index ≡ true → Contains [] index = λ index t. subst (λ (xs : List ℕ). Contains xs index) none (left index t) in
    record {
      listed = all;
      marked = All-nil (λ (index : ℕ). is_marked marks index ≡ true);
      once = sym (uncounted marks (λ index t. nothing index (all index t)));
    }
