-- Appending a dependency unless it is there keeps the list free of repeats.
use Rattle.std.proofs.Common.{◌≡◌, ◌≢◌, ℕ, suc, ◌+◌, ◌<◌, ◌≤◌, Bool, true, false, cond, not, ◌||◌, List, [], ◌∷◌, ◌++◌, length, get_or, take, filter, refl, sym, ap, ◌∙◌, arith, inl, inr}
use Rattle.std.specs.List.{AllPairs}
use Rattle.std.specs.Cmp.Lexicographic.{bytes_decides}
use Rattle.std.proofs.lemmas.Bool.{and_parts, and_from, eqb-true, eq-eqb, cases_Bool, both_ways, cond_both, not-true}
use Rattle.std.proofs.lemmas.List.{take_more, append-nil}
use Rattle.std.proofs.lemmas.List.Elements.{filter-append, All-weaker, filter_passes}
use Rattle.std.proofs.lemmas.List.Kept.{AllPairs-cons, AllPairs-filter}
use Rattle.lc_base.specs.declared.row.Dep.{Dep}
use Rattle.lc_base.specs.Deps.{is_same_dep, without_repeats, is_among, with_once}

-- ---- is_same_dep is equality

pub same_is : (a b : Dep) → is_same_dep a b ≡ true → a ≡ b
same_is a b same =
    let parts = and_parts _ _ same in
    let keys = (bytes_decides a.key b.key).0 parts.0 in
    let blocks = eqb-true a.block b.block parts.1 in
    ap (λ (k : List ℕ). record { key = k; block = a.block }) keys ∙ ap (λ (n : ℕ). record { key = b.key; block = n }) blocks

pub is_same : (a b : Dep) → a ≡ b → is_same_dep a b ≡ true
is_same a b e = and_from _ _ ((bytes_decides a.key b.key).1 (ap (λ (d : Dep). d.key) e)) (eq-eqb a.block b.block (ap (λ (d : Dep). d.block) e))

-- ---- repeats

abbrev others_than : Dep → List Dep → List Dep
others_than dep deps = filter (λ other. not (is_same_dep dep other)) deps

-- what is removed is not what is looked for, if the two differ
kept : (y x o : Dep) → is_same_dep y x ≡ false → is_same_dep o x ≡ true → not (is_same_dep y o) ≡ true
kept y x o apart same =
    elim (cases_Bool (is_same_dep y o)) [
      | inl also ↦ absurd (both_ways (is_same_dep y x) apart (is_same y x (same_is y o also ∙ same_is o x same)))
      | inr not_also ↦ ap not not_also
    ]

is_there-others : (y x : Dep) (deps : List Dep) → is_same_dep y x ≡ false → is_among (others_than y deps) x ≡ is_among deps x
is_there-others y x [] apart = refl
is_there-others y x (o ∷ deps) apart =
    elim (cases_Bool (is_same_dep o x)) [
      | inl same ↦ ap (λ (b : Bool). is_among (cond b (o ∷ others_than y deps) (others_than y deps)) x) (kept y x o apart same) ∙ ap (λ (b : Bool). b || is_among (others_than y deps) x) same ∙ sym (ap (λ (b : Bool). b || is_among deps x) same)
      | inr differ ↦
          elim (cases_Bool (not (is_same_dep y o))) [
            | inl stays ↦ ap (λ (b : Bool). is_among (cond b (o ∷ others_than y deps) (others_than y deps)) x) stays ∙ ap (λ (b : Bool). is_same_dep o x || b) (is_there-others y x deps apart)
            | inr goes ↦ ap (λ (b : Bool). is_among (cond b (o ∷ others_than y deps) (others_than y deps)) x) goes ∙ is_there-others y x deps apart ∙ sym (ap (λ (b : Bool). b || is_among deps x) differ)
          ]
    ]

-- appending a dependency, then removing repeats
pub without_repeats-push : (deps : List Dep) (x : Dep) → without_repeats (deps ++ x ∷ []) ≡ with_once (without_repeats deps) x
without_repeats-push [] x = refl
without_repeats-push (y ∷ deps) x =
    let w : List Dep = without_repeats deps in
    let by_rest : without_repeats (y ∷ (deps ++ x ∷ [])) ≡ y ∷ others_than y (with_once w x) = ap (λ (ds : List Dep). y ∷ others_than y ds) (without_repeats-push deps x) in
    let pushed : others_than y (w ++ x ∷ []) ≡ others_than y w ++ others_than y (x ∷ []) = filter-append (λ other. not (is_same_dep y other)) w (x ∷ []) in
    by_rest ∙ elim (cases_Bool (is_same_dep y x)) [
      | inl same ↦
          let alone : others_than y (x ∷ []) ≡ [] = ap (λ (b : Bool). cond (not b) (x ∷ []) []) same in
          let gone : others_than y (w ++ x ∷ []) ≡ others_than y w = pushed ∙ ap (λ (ds : List Dep). others_than y w ++ ds) alone ∙ append-nil (others_than y w) in
          let left : others_than y (with_once w x) ≡ others_than y w =
          elim (cases_Bool (is_among w x)) [
            | inl there ↦ ap (λ (b : Bool). others_than y (cond b w (w ++ x ∷ []))) there
            | inr absent ↦ ap (λ (b : Bool). others_than y (cond b w (w ++ x ∷ []))) absent ∙ gone
          ] in
          ap (λ (ds : List Dep). y ∷ ds) left ∙ sym (ap (λ (b : Bool). cond (b || is_among (others_than y w) x) (y ∷ others_than y w) (y ∷ (others_than y w ++ x ∷ []))) same)
      | inr apart ↦
          let alone : others_than y (x ∷ []) ≡ x ∷ [] = ap (λ (b : Bool). cond (not b) (x ∷ []) []) apart in
          let right : with_once (y ∷ others_than y w) x ≡ cond (is_among w x) (y ∷ others_than y w) (y ∷ (others_than y w ++ x ∷ [])) =
          ap (λ (b : Bool). cond (b || is_among (others_than y w) x) (y ∷ others_than y w) (y ∷ (others_than y w ++ x ∷ []))) apart
          ∙ ap (λ (b : Bool). cond b (y ∷ others_than y w) (y ∷ (others_than y w ++ x ∷ []))) (is_there-others y x w apart) in
          elim (cases_Bool (is_among w x)) [
            | inl there ↦ ap (λ (b : Bool). y ∷ others_than y (cond b w (w ++ x ∷ []))) there ∙ sym (right ∙ ap (λ (b : Bool). cond b (y ∷ others_than y w) (y ∷ (others_than y w ++ x ∷ []))) there)
            | inr absent ↦ ap (λ (b : Bool). y ∷ others_than y (cond b w (w ++ x ∷ []))) absent ∙ ap (λ (ds : List Dep). y ∷ ds) (pushed ∙ ap (λ (ds : List Dep). others_than y w ++ ds) alone)
                ∙ sym (right ∙ ap (λ (b : Bool). cond b (y ∷ others_than y w) (y ∷ (others_than y w ++ x ∷ []))) absent)
          ]
    ]

-- ---- one more item of a list

pub one_more_dep : (deps : List Dep) (i : ℕ) (dep : Dep) → i < length deps → dep ≡ get_or deps i dep → without_repeats (take (i + 1) deps) ≡ with_once (without_repeats (take i deps)) dep
one_more_dep deps i dep within is =
    ap without_repeats (take_more deps i dep within ∙ ap (λ (d : Dep). take i deps ++ d ∷ []) (sym is)) ∙ without_repeats-push (take i deps) dep

-- ---- the list gets no longer, and has no repeats

length_filtered : (p : Dep → Bool) (deps : List Dep) → length (filter p deps) ≤ length deps
length_filtered p [] = omega arith
length_filtered p (dep ∷ deps) = let P : List Dep → Type 0 = λ ds. length ds ≤ suc (length deps) in cond_both (p dep) (dep ∷ filter p deps) (filter p deps) P (λ _. omega (arith, length_filtered p deps)) (λ _. omega (arith, length_filtered p deps))

pub length_once : (deps : List Dep) → length (without_repeats deps) ≤ length deps
length_once [] = omega arith
length_once (dep ∷ deps) = omega (arith, length_once deps, length_filtered (λ other. not (is_same_dep dep other)) (without_repeats deps))

pub apart_once : (deps : List Dep) → AllPairs ◌≢◌ (without_repeats deps)
apart_once [] = λ i j d lt within. absurd (omega arith)
apart_once (dep ∷ deps) =
    let keeps : Dep → Bool = λ other. not (is_same_dep dep other) in
    AllPairs-cons ◌≢◌ dep _
    (All-weaker (λ (other : Dep). keeps other ≡ true) (λ (other : Dep). dep ≢ other) (λ other passes same. both_ways (is_same_dep dep other) (not-true _ passes) (is_same dep other same)) _ (filter_passes keeps (without_repeats deps)))
    (AllPairs-filter ◌≢◌ keeps (without_repeats deps) (apart_once deps))
