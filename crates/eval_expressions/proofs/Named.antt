-- A table by names stands for the list of its variables: a look-up, an assignment, and the end of a
-- block agree with the list.
use Rattle.std.proofs.Common.{◌≡◌, ◌∙◌, ℕ, suc, Bool, true, false, cond, ◌==◌, List, [], ◌∷◌, map, take, position, Option, Some, None, inl, inr, refl, sym, ap}
use Rattle.std.specs.Option.{option_map}
use Rattle.std.specs.Map.{lookup, set_value}
use Rattle.std.specs.Cmp.Lexicographic.{pointwise, bytes_decides, nat_list_eq_equiv}
use Rattle.std.proofs.lemmas.Bool.{cases_Bool}
use Rattle.std.proofs.lemmas.List.{take-map}
use Rattle.contract_check.proofs.FirstPlaces.{at_head, past_head}
use Rattle.lc_base.specs.declared.value.Value.{Value}
use Rattle.contract_semantics.specs.declared.variable.Variable.{Variable}
use Rattle.contract_semantics.specs.Statements.{with_assignment, value_replaced}
use Rattle.eval_expressions.specs.Named.{variable_in, value_in}

-- ---- the value of a name

-- Equality of names, with its sides exchanged.
turned : (name other : List ℕ) (b : Bool) → pointwise ◌==◌ name other ≡ b → pointwise ◌==◌ other name ≡ b
turned name other b e = nat_list_eq_equiv.symm other name ∙ e

pub value_found : (entries : List (List ℕ × Value)) (name : List ℕ) → lookup (pointwise ◌==◌ name) entries ≡ value_in (map variable_in entries) name
value_found [] name = refl
value_found (e ∷ es) name = elim (cases_Bool (pointwise ◌==◌ name e.0)) [
  | inl t ↦ rw (t, turned name e.0 true t) refl
  | inr f ↦ rw (f, turned name e.0 false f) (value_found es name)
]

-- ---- an assignment

replaced_after : (at : Option ℕ) (v : Variable) (variables : List Variable) (name : List ℕ) (value : Value) → value_replaced (option_map suc at) (v ∷ variables) name value ≡ v ∷ value_replaced at variables name value
replaced_after None v variables name value = refl
replaced_after (Some i) v variables name value = refl

assigned_first : (v : Variable) (variables : List Variable) (name : List ℕ) (value : Value) → pointwise ◌==◌ v.name name ≡ true → with_assignment (v ∷ variables) name value ≡ record { name = name; value = value } ∷ variables
assigned_first v variables name value e = ap (λ (at : Option ℕ). value_replaced at (v ∷ variables) name value) (at_head (λ (v : Variable). pointwise ◌==◌ v.name name) v variables e)

assigned_later : (v : Variable) (variables : List Variable) (name : List ℕ) (value : Value) → pointwise ◌==◌ v.name name ≡ false → with_assignment (v ∷ variables) name value ≡ v ∷ with_assignment variables name value
assigned_later v variables name value e =
    ap (λ (at : Option ℕ). value_replaced at (v ∷ variables) name value) (past_head (λ (v : Variable). pointwise ◌==◌ v.name name) v variables e)
    ∙ replaced_after (position (λ (v : Variable). pointwise ◌==◌ v.name name) variables) v variables name value

pub value_set : (entries : List (List ℕ × Value)) (name : List ℕ) (value : Value) → map variable_in (set_value (pointwise ◌==◌ name) entries value) ≡ with_assignment (map variable_in entries) name value
value_set [] name value = refl
value_set (e ∷ es) name value = elim (cases_Bool (pointwise ◌==◌ name e.0)) [
  | inl t ↦
      ap (λ (b : Bool). map variable_in (cond b ((e.0, value) ∷ es) (e ∷ set_value (pointwise ◌==◌ name) es value))) t
      ∙ ap (λ (n : List ℕ). record { name = n; value = value } ∷ map variable_in es) (sym ((bytes_decides name e.0).0 t))
      ∙ sym (assigned_first (variable_in e) (map variable_in es) name value (turned name e.0 true t))
  | inr f ↦
      ap (λ (b : Bool). map variable_in (cond b ((e.0, value) ∷ es) (e ∷ set_value (pointwise ◌==◌ name) es value))) f
      ∙ ap (λ l. variable_in e ∷ l) (value_set es name value)
      ∙ sym (assigned_later (variable_in e) (map variable_in es) name value (turned name e.0 false f))
]

-- ---- the end of a block

pub oldest_kept : (n : ℕ) (entries : List (List ℕ × Value)) → map variable_in (take n entries) ≡ take n (map variable_in entries)
oldest_kept n entries = sym (take-map variable_in n entries)
