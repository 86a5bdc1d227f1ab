-- Arguments match their parameters if there are as many, and each is of its parameter's kind.
use Rattle.std.proofs.Common.{◌≡◌, ℕ, suc, arith, inl, inr, Bool, true, false, eqb, List, [], ◌∷◌, length, refl, sym, ap, ◌∙◌}
use Rattle.std.specs.Prelude.{◌&&◌, ◌==◌}
use Rattle.std.specs.List.{list_all, zip}
use Rattle.std.proofs.lemmas.Bool.{cases_Bool, both_ways, eqb-true, eq-eqb}
use Rattle.std.proofs.lemmas.Bool.Decides.{nat_tests}
use Rattle.lc_base.specs.declared.value.Value.{Value}
use Rattle.contract_tree.specs.declared.tree.Param.{Param}
use Rattle.eval_expressions.specs.contract_semantics.Calls.{is_of_its_kind, are_arguments}

swap : (a b c : Bool) → (a && (b && c)) ≡ (b && (a && c))
swap true true c = refl
swap true false c = refl
swap false true c = refl
swap false false c = refl

neither : (n : ℕ) → eqb 0 (suc n) ≡ false
neither n = grind (arith, nat_tests)

nor : (n : ℕ) → eqb (suc n) 0 ≡ false
nor n = grind (arith, nat_tests)

one_more : (n m : ℕ) → eqb (suc n) (suc m) ≡ eqb n m
one_more n m = elim (cases_Bool (eqb n m)) [
  | inl same ↦ eq-eqb (suc n) (suc m) (ap suc (eqb-true n m same)) ∙ sym same
  | inr differ ↦
      elim (cases_Bool (eqb (suc n) (suc m))) [
        | inl same ↦ let equal : suc n ≡ suc m = eqb-true (suc n) (suc m) same in absurd (both_ways (eqb n m) differ (eq-eqb n m (omega (arith, equal))))
        | inr other ↦ other ∙ sym differ
      ]
]

pub are_arguments_is : (params : List Param) (args : List Value) → are_arguments params args ≡ (length params == length args && list_all is_of_its_kind (zip params args))
are_arguments_is [] [] = refl
are_arguments_is [] (arg ∷ args) = sym (ap (λ (b : Bool). b && true) (neither (length args)))
are_arguments_is (param ∷ params) [] = sym (ap (λ (b : Bool). b && true) (nor (length params)))
are_arguments_is (param ∷ params) (arg ∷ args) =
    ap (λ (b : Bool). is_of_its_kind (param, arg) && b) (are_arguments_is params args)
    ∙ swap (is_of_its_kind (param, arg)) (eqb (length params) (length args)) (list_all is_of_its_kind (zip params args))
    ∙ ap (λ (b : Bool). b && (is_of_its_kind (param, arg) && list_all is_of_its_kind (zip params args))) (sym (one_more (length params) (length args)))
