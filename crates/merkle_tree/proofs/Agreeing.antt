-- Two lists of texts agree, or they clash.
use Rattle.std.proofs.Common.{◌≡◌, ◌≢◌, ℕ, zero, suc, true, List, [], ◌∷◌, ◌++◌, refl, sym, ap, ◌∙◌, arith, inl, inr, ◌⊎◌}
use Rattle.std.specs.List.{Contains}
use Rattle.std.specs.Str.{bytes_eq}
use Rattle.std.proofs.lemmas.Slice.Eq.{bytes_eq-Decides}
use Rattle.std.proofs.lemmas.Bool.{cases_Bool}
use Rattle.std.proofs.lemmas.List.Elements.{Contains-append_left, Contains-append_right, Contains-push}
use Rattle.sha2.specs.Sha256.{sha256}
use Rattle.merkle_tree.specs.Clash.{Clash, Agree}

-- Two texts are equal or not.
pub equal_or_not : (a b : List ℕ) → (a ≡ b) ⊎ (a ≢ b)
equal_or_not a b = elim (cases_Bool (bytes_eq a b)) [
  | inl t ↦ inl ((bytes_eq-Decides a b).0 t)
  | inr f ↦ inr (λ e. let t : bytes_eq a b ≡ true = (bytes_eq-Decides a b).1 e in cc)
]

-- Two texts with one digest are equal, or they are a clash.
pub same_or_clash : (ps cs : List (List ℕ)) (p c : List ℕ) → Contains ps p → Contains cs c → sha256 p ≡ sha256 c → (p ≡ c) ⊎ Clash ps cs
same_or_clash ps cs p c in_proof in_chain same = elim (equal_or_not p c) [
  | inl e ↦ inl e
  | inr n ↦ inr (record { one = p; other = c; in_given = in_proof; in_own = in_chain; differ = n; same = same })
]

first_or_rest : (x : List ℕ) (xs : List (List ℕ)) (y : List ℕ) → Contains (x ∷ xs) y → (x ≡ y) ⊎ Contains xs y
first_or_rest x xs y (zero, below, is) = inl is
first_or_rest x xs y (suc k, below, is) = inr (k, omega arith, is)

later : (x : List ℕ) (xs : List (List ℕ)) (y : List ℕ) → Contains xs y → Contains (x ∷ xs) y
later x xs y (k, below, is) = (suc k, omega arith, is)

here : (x : List ℕ) (xs : List (List ℕ)) → Contains (x ∷ xs) x
here x xs = (0, omega arith, refl)

none : (y : List ℕ) → Contains [] y → ⊥
none y (k, below, is) = absurd (omega arith)

record Against (p : List ℕ) (cs : List (List ℕ)) : Type 0 where
  pub same : (c : List ℕ) → Contains cs c → sha256 p ≡ sha256 c → p ≡ c

wider : (ps cs : List (List ℕ)) (p c : List ℕ) → Clash ps cs → Clash (p ∷ ps) (c ∷ cs)
wider ps cs p c k = record { one = k.one; other = k.other; in_given = later p ps k.one k.in_given; in_own = later c cs k.other k.in_own; differ = k.differ; same = k.same }

one_more : (p c : List ℕ) (cs : List (List ℕ)) → (sha256 p ≡ sha256 c → p ≡ c) → Against p cs → Against p (c ∷ cs)
one_more p c cs h a = record {
  same = λ d has e. elim (first_or_rest c cs d has) [
    | inl is ↦ h (e ∙ ap sha256 (sym is)) ∙ is
    | inr has' ↦ a.same d has' e
  ];
}

longer_chain : (ps cs : List (List ℕ)) (c : List ℕ) → Clash ps cs → Clash ps (c ∷ cs)
longer_chain ps cs c k = record { one = k.one; other = k.other; in_given = k.in_given; in_own = later c cs k.other k.in_own; differ = k.differ; same = k.same }

longer_proof : (ps cs : List (List ℕ)) (p : List ℕ) → Clash ps cs → Clash (p ∷ ps) cs
longer_proof ps cs p k = record { one = k.one; other = k.other; in_given = later p ps k.one k.in_given; in_own = k.in_own; differ = k.differ; same = k.same }

shorter_proof : (ps cs : List (List ℕ)) (p : List ℕ) → Clash (p ∷ []) cs → Clash (p ∷ ps) cs
shorter_proof ps cs p k = record { one = k.one; other = k.other; in_given = Contains-append_left (p ∷ []) ps k.one k.in_given; in_own = k.in_own; differ = k.differ; same = k.same }

against : (p : List ℕ) (cs : List (List ℕ)) → Against p cs ⊎ Clash (p ∷ []) cs
against p [] = inl (record { same = λ c has e. absurd (none c has) })
against p (c ∷ cs) = elim (against p cs) [
  | inr k ↦ inr (longer_chain (p ∷ []) cs c k)
  | inl a ↦ elim (equal_or_not (sha256 p) (sha256 c)) [
    | inr n ↦ inl (one_more p c cs (λ e. absurd (n e)) a)
    | inl e ↦ elim (same_or_clash (p ∷ []) (c ∷ cs) p c (here p []) (here c cs) e) [
      | inl same ↦ inl (one_more p c cs (λ e'. same) a)
      | inr k ↦ inr k
    ]
  ]
]

-- Two lists of texts agree, or they clash.
pub agree_or_clash : (ps cs : List (List ℕ)) → Agree ps cs ⊎ Clash ps cs
agree_or_clash [] cs = inl (record { same = λ p c has has' e. absurd (none p has) })
agree_or_clash (p ∷ ps) cs = elim (against p cs) [
  | inr k ↦ inr (shorter_proof ps cs p k)
  | inl a ↦ elim (agree_or_clash ps cs) [
    | inr k ↦ inr (longer_proof ps cs p k)
    | inl b ↦ inl (record {
      same = λ q c has has' e. elim (first_or_rest p ps q has) [
        | inl is ↦ sym is ∙ a.same c has' (ap sha256 is ∙ e)
        | inr has'' ↦ b.same q c has'' has' e
      ];
    })
  ]
]

-- No two lists of texts both agree and clash.
pub no_clash : (ps cs : List (List ℕ)) → Agree ps cs → Clash ps cs → ⊥
no_clash ps cs a k = k.differ (a.same k.one k.other k.in_given k.in_own k.same)

-- ---- parts of lists that agree
pub agree_fronts : (a b c d : List (List ℕ)) → Agree (a ++ b) (c ++ d) → Agree a c
agree_fronts a b c d h = record { same = λ p q has has'. h.same p q (Contains-append_left a b p has) (Contains-append_left c d q has') }

pub agree_of_left : (a c d : List (List ℕ)) → Agree a (c ++ d) → Agree a c
agree_of_left a c d h = record { same = λ p q has has'. h.same p q has (Contains-append_left c d q has') }

pub agree_of_right : (a c d : List (List ℕ)) → Agree a (c ++ d) → Agree a d
agree_of_right a c d h = record { same = λ p q has has'. h.same p q has (Contains-append_right c d q has') }

-- The last texts of two lists that agree are equal if their digests are.
pub agree_last : (a c : List (List ℕ)) (p q : List ℕ) → Agree (a ++ p ∷ []) (c ++ q ∷ []) → sha256 p ≡ sha256 q → p ≡ q
agree_last a c p q h = h.same p q (Contains-push a p) (Contains-push c q)

pub agree_heads : (p q : List ℕ) (a c : List (List ℕ)) → Agree (p ∷ a) (q ∷ c) → sha256 p ≡ sha256 q → p ≡ q
agree_heads p q a c h = h.same p q (here p a) (here q c)

pub agree_rest : (p q : List ℕ) (a c : List (List ℕ)) → Agree (p ∷ a) (q ∷ c) → Agree a c
agree_rest p q a c h = record { same = λ x y has has'. h.same x y (later p a x has) (later q c y has') }
