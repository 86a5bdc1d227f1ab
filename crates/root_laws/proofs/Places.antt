-- How places compare is how their versions are in order.
use Rattle.std.proofs.Common.{◌≡◌, ◌∙◌, ℕ, true, false, ◌==◌, ◌&&◌, nat_lt}
use Rattle.std.proofs.Common.{Ordering, Less, Equal, Greater, refl, sym, ap, arith, inl, inr}
use Rattle.std.specs.Ordering.{nat_cmp, is_lt, is_eq, ordering_then, ordering_reverse}
use Rattle.std.specs.Cmp.Lexicographic.{slice_cmp}
use Rattle.std.proofs.lemmas.Bool.{cases_Bool, cases_order, lt-ltb, le-ltb, eq-eqb, ne_eqb}
use Rattle.std.proofs.lemmas.Bool.{or_right, and_from}
use Rattle.std.proofs.lemmas.Cmp.{nat_list_cmp_total}
use Rattle.std.proofs.lemmas.Map.Text.{is_eq-slice_cmp}
use Rattle.std.proofs.lemmas.Slice.Eq.{bytes_eq-Decides}
use Rattle.lc_base.specs.declared.row.Dep.{Dep}
use Rattle.root_laws.specs.Root.{is_below}
use Rattle.root_laws.proofs.Lists.{not_both}
use Rattle.root_laws.specs.Ancestors.{comes_after}
use Rattle.root_laws.specs.Places.{Place}
use Rattle.root_laws.proofs.Order.{after_by_block, after_trans, not_after_itself, same_version}

abbrev pub place_cmp : Place → Place → Ordering
place_cmp a b = ordering_then (nat_cmp b.0.0 a.0.0) (slice_cmp nat_cmp b.0.1 a.0.1)

-- What a comparison of two versions tells of their order.
abbrev pub Tells : Ordering → Dep → Dep → Type 0
Tells Less item first = (comes_after first item ≡ false) × (comes_after item first ≡ true)
Tells Equal item first = first ≡ item
Tells Greater item first = comes_after first item ≡ true

not_back : (a b : Dep) → comes_after a b ≡ true → comes_after b a ≡ false
not_back a b t = elim (cases_Bool (comes_after b a)) [
  | inr f ↦ f
  | inl u ↦ absurd (not_both (comes_after a a) (after_trans a b a t u) (not_after_itself a))
]

-- Of one block, and a greater key.
after_by_key : (a b : Dep) → a.block ≡ b.block → is_below b.key a.key ≡ true
    → comes_after a b ≡ true
after_by_key a b e low =
    let same = eq-eqb a.block b.block e in
    or_right (nat_lt b.block a.block) (a.block == b.block && is_below b.key a.key)
    (and_from (a.block == b.block) (is_below b.key a.key) same low)

abbrev version_cmp : Dep → Dep → Ordering
version_cmp item first =
    ordering_then (nat_cmp first.block item.block) (slice_cmp nat_cmp first.key item.key)

pub tells : (item first : Dep) → Tells (version_cmp item first) item first
tells item first = elim (cases_order first.block item.block) [
  | inl e ↦
      let low : nat_lt first.block item.block ≡ false =
      le-ltb first.block item.block (omega (arith, e)) in
      let same : (first.block == item.block) ≡ true = eq-eqb first.block item.block e in
      rw (low, same) (by_key e (slice_cmp nat_cmp first.key item.key) refl)
  | inr (inl less) ↦
      let t = after_by_block item first less in
      rw (lt-ltb first.block item.block less) (not_back item first t, t)
  | inr (inr more) ↦
      let low : nat_lt first.block item.block ≡ false =
      le-ltb first.block item.block (omega (arith, more)) in
      let apart : (first.block == item.block) ≡ false =
      ne_eqb first.block item.block (λ e. omega (arith, e, more)) in
      rw (low, apart) (after_by_block first item more)
]
  where
    by_key : first.block ≡ item.block → (o : Ordering) → slice_cmp nat_cmp first.key item.key ≡ o
        → Tells o item first
    by_key e Less c =
        let t = after_by_key item first (sym e) (ap is_lt c) in
        (not_back item first t, t)
    by_key e Equal c =
        let equal = sym (is_eq-slice_cmp first.key item.key) ∙ ap is_eq c in
        same_version first item ((bytes_eq-Decides first.key item.key).0 equal) e
    by_key e Greater c =
        let back = nat_list_cmp_total.antisymm item.key first.key ∙ ap ordering_reverse c in
        after_by_key first item e (ap is_lt back)
