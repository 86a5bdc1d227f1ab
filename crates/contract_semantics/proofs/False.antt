-- Each false law is refuted by one call in two scenes.
use Rattle.std.proofs.Common.{◌≡◌, ℤ, pos, Bool, true, false, List, [], ◌∷◌, None, refl, sym, ap, subst, ◌∙◌, true≢false, codes, drop}
use Rattle.std.proofs.lemmas.List.Elements.{All-nil}
use Rattle.lc_base.specs.History.{scan}
use Rattle.lc_base.specs.declared.answer.Query.{Query}
use Rattle.lc_base.specs.declared.row.Row.{Row}
use Rattle.lc_base.specs.declared.value.Value.TheVariants as values
use Rattle.lc_base.specs.declared.tx_status.TxStatus.{TxStatus}
use Rattle.lc_base.specs.declared.tx_status.TxStatus.TheVariants as statuses
use Rattle.contract_tree.specs.Builtins.{builtin_of}
use Rattle.contract_tree.specs.Tree.{FunctionTree, StatementTrees, statements, no_statement, more, none, If, Fail, Put}
use Rattle.contract_tree.specs.Tree as tree
use Rattle.dep_capture.specs.declared.access.Read.{Read}
use Rattle.contract_semantics.specs.declared.site.CallSite.{CallSite}
use Rattle.contract_semantics.specs.Scenes.{Scene, scene_of}
use Rattle.contract_semantics.specs.Builtins.{call_by_name}
use Rattle.contract_semantics.specs.Calls.{CallResult, call_result}
use Rattle.contract_semantics.specs.Lookups.{applied_lookups}
use Rattle.contract_semantics.specs.CallLookups.{questions_of, call_lookups}
use Rattle.contract_semantics.specs.Laws.{HoldAlike, AnswerAlike}
use Rattle.contract_semantics.specs.FalseLaws.{AllReadsButOneAreComplete, QuestionsDoNotMatter}
use Rattle.contract_semantics.specs.FalseLaws.{KeysMetDoNotMatter}

-- A call of the function `f` of the contract `c`, in block 1.
abbrev site : CallSite
site = record { contract = codes "c"; function = codes "f"; sender = codes "s"; number = 1; budget = 100 }

abbrev ended_well : TxStatus → Bool
ended_well statuses.Ok = true
ended_well _ = false

abbrev ends_well : List FunctionTree → Scene → Bool
ends_well functions s = ended_well (call_result functions s []).outcome.status

-- The contract `fn f() { .. }`.
abbrev one_function : StatementTrees → List FunctionTree
one_function body = record { at = 0; name = codes "f"; params = []; body = body } ∷ []

-- ---- a key that was read may hold something else

-- The body `if has("k") { fail; }`.
abbrev fails_with_key : List FunctionTree
fails_with_key = one_function (statements (If 0 (tree.Call 0 (codes "has") (more (tree.Text 0 (codes "k")) none)) (statements (Fail 0) no_statement)) no_statement)

abbrev over : List Row → Scene
over rows = scene_of rows (λ key. false) site

abbrev row : ℤ → Row
row z = record { key = codes "k"; block = 0; tx = 0; value = values.Int z; deps = [] }

-- A premise about each read holds if there are no reads.
nothing_held : (s t : Scene) (reads : List Read) → reads ≡ [] → HoldAlike s t reads
nothing_held s t reads e = subst (HoldAlike s t) (sym e) (All-nil (λ (read : Read). t.place.newest read.key ≡ s.place.newest read.key))

nothing_answered : (s t : Scene) (questions : List Query) → questions ≡ [] → AnswerAlike s t questions
nothing_answered s t questions e = subst (AnswerAlike s t) (sym e) (All-nil (λ query. scan t.rows query ≡ scan s.rows query))

differ : (functions : List FunctionTree) (s t : Scene) → ends_well functions s ≡ true → ends_well functions t ≡ false → call_result functions t [] ≡ call_result functions s [] → ⊥
differ functions s t well ill same = true≢false (sym well ∙ sym (ap (λ (run : CallResult). ended_well run.outcome.status) same) ∙ ill)

well_without : ends_well fails_with_key (over []) ≡ true
unfolding call_result call_by_name builtin_of
well_without = refl

ill_with : ends_well fails_with_key (over (row (pos 7) ∷ [])) ≡ false
unfolding call_result call_by_name builtin_of
ill_with = refl

one_read : drop 1 (call_result fails_with_key (over []) []).capture.reads ≡ []
unfolding call_result call_by_name builtin_of
one_read = refl

nothing_asked : questions_of fails_with_key (over []) [] ≡ []
unfolding call_lookups applied_lookups call_by_name builtin_of
nothing_asked = refl

pub all_reads_but_one_are_not_complete : AllReadsButOneAreComplete → ⊥
all_reads_but_one_are_not_complete law =
    let t : Scene = over (row (pos 7) ∷ []) in
    differ fails_with_key (over []) t well_without ill_with
    (law fails_with_key (over []) t [] refl (nothing_held (over []) t _ one_read, (nothing_answered (over []) t _ nothing_asked, λ k d lt. refl)))

-- ---- rows may answer differently

-- The body `if hist_int("k", 0) { fail; }`.
abbrev fails_with_past : List FunctionTree
fails_with_past = one_function (statements (If 0 (tree.Call 0 (codes "hist_int") (more (tree.Text 0 (codes "k")) (more (tree.Int 0 (pos 0)) none))) (statements (Fail 0) no_statement)) no_statement)

well_over_0 : ends_well fails_with_past (over (row (pos 0) ∷ [])) ≡ true
unfolding call_result call_by_name builtin_of
well_over_0 = refl

ill_over_1 : ends_well fails_with_past (over (row (pos 1) ∷ [])) ≡ false
unfolding call_result call_by_name builtin_of
ill_over_1 = refl

nothing_read : (call_result fails_with_past (over (row (pos 0) ∷ [])) []).capture.reads ≡ []
unfolding call_result call_by_name builtin_of
nothing_read = refl

pub questions_matter : QuestionsDoNotMatter → ⊥
questions_matter law =
    let s : Scene = over (row (pos 0) ∷ []) in
    let t : Scene = over (row (pos 1) ∷ []) in
    differ fails_with_past s t well_over_0 ill_over_1 (law fails_with_past s t [] refl (nothing_held s t _ nothing_read, λ k d lt. refl))

-- ---- keys that were met may be written

-- The body `put "c/k" = 1;`.
abbrev puts_key : List FunctionTree
puts_key = one_function (statements (Put 0 (tree.Text 0 (codes "c/k")) (tree.Int 0 (pos 1)) None) no_statement)

abbrev writing : Bool → Scene
writing written = scene_of [] (λ key. written) site

well_unwritten : ends_well puts_key (writing false) ≡ true
unfolding call_result
well_unwritten = refl

ill_written : ends_well puts_key (writing true) ≡ false
unfolding call_result
ill_written = refl

pub keys_met_matter : KeysMetDoNotMatter → ⊥
keys_met_matter law =
    differ puts_key (writing false) (writing true) well_unwritten ill_written
    (law puts_key (writing false) (writing true) [] refl (λ k d lt. refl, λ k d lt. refl))
