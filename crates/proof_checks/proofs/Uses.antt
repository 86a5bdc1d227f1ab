-- The uses of a version of a typed history can be spelled.
use Rattle.std.proofs.Common.{ℕ, List, [], ◌∷◌, filter, inl, inr}
use Rattle.std.specs.List.{All, AllByRecursion}
use Rattle.std.proofs.lemmas.Bool.{cases_Bool}
use Rattle.std.proofs.lemmas.List.Elements.{recursion_from_All}
use Rattle.lc_base.specs.declared.row.Row.{Row}
use Rattle.lc_base.specs.History.{uses, depends_on, version_of}
use Rattle.root_laws.proofs.Lists.{all_weaker, all_map}
use Rattle.root_laws.specs.TypedLedger.{IsTypedRow}
use Rattle.proof_codec.specs.Spelling.{IsUse}

pub uses_are_uses : (rows : List Row) (are : All IsTypedRow rows) (key : List ℕ) (block : ℕ) → AllByRecursion IsUse (uses rows key block)
uses_are_uses rows are key block =
    all_map IsUse version_of (filter (depends_on key block) rows)
    (all_weaker IsTypedRow (λ (row : Row). IsUse (version_of row)) (λ row is. record { key_is_key = is.key_is_key; block_fits = is.block_fits }) (filter (depends_on key block) rows)
    (passed rows (recursion_from_All IsTypedRow rows are)))
  where
    passed : (rs : List Row) → AllByRecursion IsTypedRow rs → AllByRecursion IsTypedRow (filter (depends_on key block) rs)
    passed [] all = tt
    passed (row ∷ rs) all = elim (cases_Bool (depends_on key block row)) [
      | inl t ↦ rw t (all.0, passed rs all.1)
      | inr t ↦ rw t (passed rs all.1)
    ]
