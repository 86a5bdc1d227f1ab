-- The proof that is made of a ledger can be spelled.
use Rattle.std.proofs.Common.{◌≡◌, ◌∙◌, ◌≤◌, List, length, reverse, Option, Some, None, sym, ap}
use Rattle.std.proofs.Common.{subst, arith, inl, inr}
use Rattle.std.specs.List.{All, AllByRecursion, Contains}
use Rattle.std.specs.Option.{option_map}
use Rattle.std.proofs.lemmas.List.{length-reverse}
use Rattle.std.proofs.lemmas.Option.{none-some, same_Some}
use Rattle.lc_base.specs.declared.limits.TheConstants.{MAX_ROWS}
use Rattle.lc_base.specs.declared.row.Row.{Row}
use Rattle.lc_base.specs.declared.row.Dep.{Dep}
use Rattle.lc_base.specs.declared.answer.Query.{Query}
use Rattle.lc_base.specs.History.{IsLawful, up_to, latest}
use Rattle.root_laws.specs.TypedLedger.{IsTypedRow}
use Rattle.root_laws.specs.WalkLaws.{is_version_in}
use Rattle.root_laws.proofs.Lists.{option_cases, all_filter_map, all_contained}
use Rattle.root_laws.proofs.Lists.{all_reverse, found_has}
use Rattle.root_laws.proofs.Parts.{lawful_up_to, rows_up_to}
use Rattle.root_laws.proofs.Spellings.{map_short, header_lawful, body_lawful}
use Rattle.proof_codec.specs.declared.proof.Proof.{Proof}
use Rattle.proof_codec.specs.Spelling.{IsProof}
use Rattle.proof_checks.specs.Making.{made_proof}
use Rattle.proof_checks.proofs.MadeThere.{made_is_made, made_is_there}
use Rattle.root_laws.specs.Ancestors.{row_in, ancestors}
use Rattle.root_laws.proofs.Reaching.{ancestors_few}
use Rattle.proof_checks.specs.declared.trace_proof.TraceItem.{TraceItem}
use Rattle.proof_checks.specs.TraceChecks.{start_query}
use Rattle.proof_checks.specs.TraceTexts.{IsTraceItem}
use Rattle.proof_checks.specs.TraceMaking.{item_of, item_in, items_of, made_trace}
use Rattle.proof_checks.specs.TraceMaking.{MadeTracesAreProofs}
use Rattle.proof_checks.proofs.Short.{back_is_short}

few_items : (rows : List Row) (found : Option Row) → IsLawful rows
    → length (items_of rows found) ≤ MAX_ROWS
few_items rows None lawful = omega arith
few_items rows (Some row) lawful =
    let short = map_short (item_in rows) (reverse (ancestors rows row)) in
    let few = ancestors_few rows row in
    omega (arith, short, few, lawful.few, length-reverse (ancestors rows row))

one_item : (rows : List Row) → IsLawful rows → All IsTypedRow rows
    → (version : Dep) (item : TraceItem) → item_in rows version ≡ Some item → IsTraceItem item
one_item rows lawful are version item e = elim (option_cases (row_in rows version)) [
  | inl none ↦ absurd (none-some item (ap (option_map (item_of rows)) (sym none) ∙ e))
  | inr found ↦
      let row : Row = found.0 in
      let has : Contains rows row =
      found_has (Contains rows) (is_version_in version.key version.block) (reverse rows) row
      (all_reverse (Contains rows) rows (all_contained rows)) found.1 in
      subst IsTraceItem (same_Some (item_of rows row) item
      (ap (option_map (item_of rows)) (sym found.1) ∙ e))
      (record {
        header_is_header = header_lawful rows lawful are row has;
        body_is_body =
            body_lawful rows lawful are row has;
      })
]

all_items : (rows : List Row) (found : Option Row) → IsLawful rows → All IsTypedRow rows
    → AllByRecursion IsTraceItem (items_of rows found)
all_items rows None lawful are = tt
all_items rows (Some row) lawful are =
    all_filter_map IsTraceItem (item_in rows) (reverse (ancestors rows row))
    (one_item rows lawful are)

pub made_trace_is_proof : MadeTracesAreProofs
unfolding made_trace
made_trace_is_proof rows digests block key at ledger within is_key low =
    let own : List Row = up_to rows block in
    let lawful : IsLawful own = lawful_up_to rows block ledger.history.lawful in
    let are : All IsTypedRow own = rows_up_to rows block ledger.history.typed in
    let query : Query = start_query key at in
    let start : Proof = made_proof rows digests block query in
    let is : IsProof start = (made_is_there rows digests block query ledger within is_key low).0 in
    let asked : start.query ≡ query =
    (made_is_made rows digests block query ledger.history is_key).1 in
    record {
      start_is_proof = is;
      start_fits = back_is_short start is (ap (λ (q : Query). q.kind) asked);
      few_items = few_items own (latest own key at) lawful;
      items_are_items = all_items own (latest own key at) lawful are;
    }
