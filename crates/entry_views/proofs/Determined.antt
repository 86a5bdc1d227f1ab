-- A value that is read back from its fields is determined by them.
use Rattle.std.proofs.Common.{ℕ, List, sym, ap, ◌∙◌}
use Rattle.byte_fields.specs.Reading.{Field}
use Rattle.byte_fields.proofs.Laws.{IsField, ok_is}
use Rattle.entry_views.specs.Standing.{Determines}

pub determined : {A : Type 0} {read : List ℕ → Field A} {fields : A → List (List ℕ)} {Is : A → Type 0} → IsField read fields Is → Determines fields Is
determined {A} {read} field value other rest more is_value is_other same =
    let p = ok_is (value, rest) (other, more) (sym (field.again value rest is_value) ∙ ap read same ∙ field.again other more is_other) in
    (ap (λ (q : A × List ℕ). q.0) p, ap (λ (q : A × List ℕ). q.1) p)
