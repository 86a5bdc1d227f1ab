-- The order of versions, by block and then by key.
use Rattle.std.proofs.Common.{◌≡◌, ◌∙◌, ◌⊎◌, ◌<◌, true, false, ◌==◌, ◌&&◌, nat_lt, refl, sym, arith}
use Rattle.std.proofs.Common.{inl, inr}
use Rattle.std.proofs.lemmas.Bool.{cases_Bool, cases_order, and_parts, and_from, or_left, or_right}
use Rattle.std.proofs.lemmas.Bool.{lt-ltb, ltb-true, eqb-true, eq-eqb}
use Rattle.lc_base.specs.declared.row.Dep.{Dep}
use Rattle.root_laws.specs.Root.{is_below}
use Rattle.root_laws.proofs.NextKeys.{below_trans, not_itself, order}
use Rattle.root_laws.proofs.Lists.{not_both}
use Rattle.root_laws.specs.Ancestors.{comes_after}

-- What the test says.
abbrev After : Dep → Dep → Type 0
After a b = (b.block < a.block) ⊎ ((a.block ≡ b.block) × (is_below b.key a.key ≡ true))

after_is : (a b : Dep) → comes_after a b ≡ true → After a b
after_is a b t = elim (cases_Bool (nat_lt b.block a.block)) [
  | inl lt ↦ inl (ltb-true b.block a.block lt)
  | inr ge ↦
      let both : (a.block == b.block && is_below b.key a.key) ≡ true = rw ge at t in
      let parts = and_parts (a.block == b.block) (is_below b.key a.key) both in
      inr (eqb-true a.block b.block parts.0, parts.1)
]

is_after : (a b : Dep) → After a b → comes_after a b ≡ true
is_after a b (inl lt) = or_left (nat_lt b.block a.block)
    (a.block == b.block && is_below b.key a.key) (lt-ltb b.block a.block lt)
is_after a b (inr same) =
    or_right (nat_lt b.block a.block) (a.block == b.block && is_below b.key a.key)
    (and_from (a.block == b.block) (is_below b.key a.key) (eq-eqb a.block b.block same.0)
    same.1)

-- A version of a later block comes after one of an earlier block.
pub after_by_block : (a b : Dep) → b.block < a.block → comes_after a b ≡ true
after_by_block a b lt = is_after a b (inl lt)

pub after_trans : (a b c : Dep) → comes_after a b ≡ true → comes_after b c ≡ true
    → comes_after a c ≡ true
after_trans a b c x y = is_after a c (go (after_is a b x) (after_is b c y))
  where
    go : After a b → After b c → After a c
    go (inl l) (inl m) = inl (omega (arith, l, m))
    go (inl l) (inr m) = inl (omega (arith, l, m.0))
    go (inr l) (inl m) = inl (omega (arith, l.0, m))
    go (inr l) (inr m) = inr (l.0 ∙ m.0, below_trans c.key b.key a.key m.1 l.1)

pub not_after_itself : (a : Dep) → comes_after a a ≡ false
not_after_itself a = elim (cases_Bool (comes_after a a)) [
  | inr f ↦ f
  | inl t ↦ absurd (go (after_is a a t))
]
  where
    go : After a a → ⊥
    go (inl l) = omega (arith, l)
    go (inr s) = not_both (is_below a.key a.key) s.1 (not_itself a.key)

-- A version is its key and its block.
pub same_version : (a b : Dep) → a.key ≡ b.key → a.block ≡ b.block → a ≡ b
same_version a b key block = rw (key, block) refl

-- If neither of two versions comes after the other, they are one version.
pub one_version : (a b : Dep) → comes_after a b ≡ false → comes_after b a ≡ false → a ≡ b
one_version a b x y = elim (cases_order a.block b.block) [
  | inl e ↦ elim (order a.key b.key) [
    | inl low ↦ absurd (not_both (comes_after b a) (is_after b a (inr (sym e, low))) y)
    | inr (inl k) ↦ same_version a b k e
    | inr (inr high) ↦ absurd (not_both (comes_after a b) (is_after a b (inr (e, high))) x)
  ]
  | inr (inl less) ↦ absurd (not_both (comes_after b a) (after_by_block b a less) y)
  | inr (inr more) ↦ absurd (not_both (comes_after a b) (after_by_block a b more) x)
]
