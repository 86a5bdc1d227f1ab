-- The count and the items that a host returns one by one are those of the list that scanning its
-- rows returns.
use Rattle.std.proofs.Common.{◌≡◌, ℕ, ℤ, pos, negsuc, Bool, true, false, cond, ltb, List, length, Option, Some, None, Ok, Err, refl, ap, ◌∙◌, arith}
use Rattle.std.specs.Prelude.{slice_get, IfSome}
use Rattle.std.specs.Option.{option_map}
use Rattle.std.proofs.lemmas.Option.{slice_get_past}
use Rattle.lc_base.specs.declared.row.Dep.{Dep}
use Rattle.lc_base.specs.declared.row.Row.{Row}
use Rattle.lc_base.specs.declared.answer.Answer.{Answer}
use Rattle.lc_base.specs.declared.answer.Query.{Query}
use Rattle.lc_base.specs.History.{scan}
use Rattle.lc_base.specs.declared.tx_status.TxStatus.{TxStatus}
use Rattle.lc_base.specs.declared.tx_status.TxStatus.TheVariants.{NoKey, BadIndex}
use Rattle.lc_base.specs.Parts.{list_in, count_in, item_at, item_in}
use Rattle.contract_semantics.specs.Steps.{and_so}
use Rattle.contract_semantics.specs.declared.stop.EvalStop.TheVariants as stops
use Rattle.contract_semantics.specs.Answers.{IsResultOf}
use Rattle.contract_semantics.specs.Asking.{list_told, count_told, count_value, index_told, index_found, item_told, item_of, item_part_of}

count_of_list : (list : Option (List Dep)) → and_so (list_told list) count_told ≡ count_value (option_map length list)
count_of_list None = refl
count_of_list (Some deps) = refl

pub count_is : (answer : Answer) → and_so (list_told (list_in answer)) count_told ≡ count_value (count_in answer)
count_is answer = count_of_list (list_in answer)

-- ---- items

none_past : (deps : List Dep) (n : ℕ) → ltb n (length deps) ≡ false → item_told (slice_get deps n) ≡ Err BadIndex
none_past deps n past = ap item_told (slice_get_past deps n (grind (arith, past)))

refused_at : (b : Bool) (deps : List Dep) (n : ℕ) (status : TxStatus) → ltb n (length deps) ≡ b → index_found (cond b (Some n) None) ≡ Err status → item_told (slice_get deps n) ≡ Err status
refused_at true deps n status is e = absurd cc
refused_at false deps n status is e = let same : BadIndex ≡ status = cc in none_past deps n is ∙ ap Err same

no_item : (list : Option (List Dep)) (index : ℤ) (status : TxStatus) → index_told (option_map length list) index ≡ Err status → and_so (list_told list) (λ deps. item_of deps index) ≡ Err status
no_item None index status e = let same : NoKey ≡ status = cc in ap Err same
no_item (Some deps) (pos n) status e = refused_at (ltb n (length deps)) deps n status refl e
no_item (Some deps) (negsuc n) status e = let same : BadIndex ≡ status = cc in ap Err same

no_item_is : (answer : Answer) (index : ℤ) (status : TxStatus) → index_told (count_in answer) index ≡ Err status → item_part_of answer index ≡ Err status
no_item_is answer index status e = no_item (list_in answer) index status e

-- If the host's count refuses an index, there is no item at it.
pub no_item_told : (rows : Option (List Row)) (query : Query) (count : Option ℕ) (index : ℤ) (status : TxStatus) → IfSome rows (λ rows. IsResultOf (λ (told : Option ℕ). told) (Ok (count_in (scan rows query))) (Ok count)) → index_told count index ≡ Err status → IfSome rows (λ rows. IsResultOf (λ (dep : Dep). dep) (item_part_of (scan rows query) index) (Err (stops.Status status)))
no_item_told None query count index status told refused = _
no_item_told (Some rows) query count index status told refused =
    let is : count_in (scan rows query) ≡ count = cc in
    no_item_is (scan rows query) index status (ap (λ (c : Option ℕ). index_told c index) is ∙ refused)

found_at : (b : Bool) (deps : List Dep) (n i : ℕ) → index_found (cond b (Some n) None) ≡ Ok i → item_told (slice_get deps n) ≡ item_told (slice_get deps i)
found_at true deps n i e = let same : n ≡ i = cc in ap (λ (k : ℕ). item_told (slice_get deps k)) same
found_at false deps n i e = absurd cc

some_item : (list : Option (List Dep)) (index : ℤ) (i : ℕ) → index_told (option_map length list) index ≡ Ok i → and_so (list_told list) (λ deps. item_of deps index) ≡ item_told (item_at i list)
some_item None index i e = absurd cc
some_item (Some deps) (pos n) i e = found_at (ltb n (length deps)) deps n i e
some_item (Some deps) (negsuc n) i e = absurd cc

pub item_is : (answer : Answer) (index : ℤ) (i : ℕ) → index_told (count_in answer) index ≡ Ok i → item_part_of answer index ≡ item_told (item_in i answer)
item_is answer index i e = some_item (list_in answer) index i e
