-- Every builtin keeps the laws, as a step with its lookups.
use Rattle.std.proofs.Common.{◌≡◌, ℕ, ℤ, pos, negsuc, ◌<◌, Bool, true, false, if◌then◌else◌, arith, List, [], length, Contains, Option, Some, None, Result, Ok, Err, refl, ap, subst, ◌∙◌}
use Rattle.std.specs.Prelude.{nat_lt}
use Rattle.std.proofs.lemmas.Bool.Decides.{nat_tests}
use Rattle.std.proofs.lemmas.List.Elements.{All-cons}
use Rattle.std.specs.Fmt.{signed_decimal}
use Rattle.lc_base.specs.History.{scan}
use Rattle.lc_base.specs.Parts.{question, version_in, list_in}
use Rattle.lc_base.specs.declared.answer.Query.{Query}
use Rattle.lc_base.specs.declared.answer.Kind.{Kind}
use Rattle.lc_base.specs.declared.answer.Kind.TheVariants.{Hist, Back, Fwd}
use Rattle.lc_base.specs.declared.row.Dep.{Dep}
use Rattle.lc_base.specs.declared.row.Version.{Version}
use Rattle.lc_base.specs.declared.value.Value.{Value}
use Rattle.lc_base.specs.declared.value.Value.TheVariants as values
use Rattle.lc_base.specs.declared.tx_status.TxStatus.{TxStatus}
use Rattle.lc_base.specs.declared.tx_status.TxStatus.TheVariants.{WrongKind, BadBlock}
use Rattle.contract_tree.specs.declared.builtin.Builtin.{Builtin}
use Rattle.contract_tree.specs.declared.builtin.Builtin.TheVariants as b
use Rattle.contract_tree.specs.Builtins.{builtin_of}
use Rattle.dep_capture.specs.declared.access.Read.{Read}
use Rattle.contract_semantics.specs.Charges.{charge_of}
use Rattle.contract_semantics.specs.Scenes.{Scene}
use Rattle.contract_semantics.specs.Steps.{and_so}
use Rattle.contract_semantics.specs.Reading.{key_of_text, int_in, text_in, of_kind, get_result, has_result}
use Rattle.contract_semantics.specs.Asking.{block_before, answer_up_to, version_asked, list_asked, item_asked, item_part_of, list_told, value_told, count_told}
use Rattle.contract_semantics.specs.Builtins.{one_text, one_int, text_and_int, text_and_ints, with_args, version_value, item_value, version_part, count_part, item_part, builtin_result, builtin_call, call_by_name}
use Rattle.contract_semantics.specs.Lookups.{Lookups, no_lookups, question_of, question_lookup}
use Rattle.contract_semantics.specs.Lookups.{version_lookup, item_lookup, builtin_lookups}
use Rattle.contract_semantics.specs.Lookups.{called_lookups, applied_lookups}
use Rattle.contract_semantics.proofs.Failures.{so_fails, args_fails, int_fails, text_fails}
use Rattle.contract_semantics.proofs.Failures.{value_fails, block_fails, tx_fails}
use Rattle.contract_semantics.proofs.Failures.{version_part_fails, count_part_fails}
use Rattle.contract_semantics.proofs.Failures.{item_part_fails}
use Rattle.contract_semantics.proofs.Tame.{AsksBefore, no_questions, IsBad, Agree, Tame}
use Rattle.contract_semantics.proofs.Tame.{tame_failed, tame_charged, moves_same, no_keys}
use Rattle.contract_semantics.proofs.Reading.{TameTaken, tame_taken, taken_fixed, clear_by}
use Rattle.contract_semantics.proofs.Reading.{contains_one, taken_args, taken_of_kind, taken_having}

-- ---- what reads nothing of the present

-- A result that meets no key and is the same in scenes that agree on its questions.
taken_seen : (f : Scene → Result Value TxStatus) (look : Scene → Lookups) → ((s : Scene) → IsBad (f s)) → ((s t : Scene) (reads : List Read) → Agree s t (look s) reads → (f t ≡ f s) × (look t ≡ look s)) → ((s : Scene) → (look s).met ≡ []) → ((s : Scene) → AsksBefore s (look s)) → TameTaken (λ s c. (f s, c)) (λ s c. look s)
taken_seen f look bad h e before = record {
  told = λ s c. (moves_same s c, λ t a. let k = h s t c.reads a in (ap (λ r. (r, c)) k.0, k.1));
  clear = λ s c. clear_by s (look s) c (f s) (λ key there. no_keys s c key (subst (λ keys. Contains keys key) (e s) there));
  fails = λ s c. bad s;
  asks = λ s c. before s;
}

-- ---- questions

scanned : (s t : Scene) (kind : Kind) (r : Result (List ℕ) TxStatus) (q : Result ℕ TxStatus)
    → ((query : Query) → Contains (question_lookup (and_so r (λ key. and_so q (λ block. Ok (question kind key block))))).asked query → scan t.rows query ≡ scan s.rows query)
    → and_so r (λ key. and_so q (λ block. Ok (scan t.rows (question kind key block)))) ≡ and_so r (λ key. and_so q (λ block. Ok (scan s.rows (question kind key block))))
scanned s t kind (Ok key) (Ok block) h = ap Ok (h (question kind key block) (contains_one (question kind key block)))
scanned s t kind (Ok key) (Err status) h = refl
scanned s t kind (Err status) q h = refl

-- The answer to a question is the same in scenes that agree on it.
asked_same : (s t : Scene) (reads : List Read) (kind : Kind) (text : List ℕ) (at : ℤ) → Agree s t (question_lookup (question_of s.site.number kind text at)) reads → answer_up_to t.rows t.site.number kind text at ≡ answer_up_to s.rows s.site.number kind text at
asked_same s t reads kind text at a = ap (λ n. answer_up_to t.rows n kind text at) a.number ∙ scanned s t kind (key_of_text text) (block_before s.site.number at) a.history

question_meets : (r : Result Query TxStatus) → (question_lookup r).met ≡ []
question_meets (Ok query) = refl
question_meets (Err status) = refl

version_meets : (number : ℕ) (kind : Kind) (o : Option (List ℕ × ℤ)) → (version_lookup number kind o).met ≡ []
version_meets number kind None = refl
version_meets number kind (Some arg) = question_meets (question_of number kind arg.0 arg.1)

item_meets : (number : ℕ) (kind : Kind) (o : Option (List ℕ × (ℤ × ℤ))) → (item_lookup number kind o).met ≡ []
item_meets number kind None = refl
item_meets number kind (Some arg) = question_meets (question_of number kind arg.0 arg.1.0)

number_asks : (s : Scene) (kind : Kind) (n : ℕ) (r : Result (List ℕ) TxStatus) (b : Bool) → nat_lt n s.site.number ≡ b → AsksBefore s (question_lookup (and_so r (λ key. and_so (if b then Ok n else Err BadBlock) (λ block. Ok (question kind key block)))))
number_asks s kind n (Err status) b e = no_questions s
number_asks s kind n (Ok key) true e = All-cons (λ (query : Query). query.at < s.site.number) (question kind key n) [] (grind (arith, nat_tests)) (no_questions s)
number_asks s kind n (Ok key) false e = no_questions s

no_number_asks : (s : Scene) (kind : Kind) (r : Result (List ℕ) TxStatus) → AsksBefore s (question_lookup (and_so r (λ key. and_so (Err BadBlock) (λ block. Ok (question kind key block)))))
no_number_asks s kind (Err status) = no_questions s
no_number_asks s kind (Ok key) = no_questions s

question_asks : (s : Scene) (kind : Kind) (text : List ℕ) (at : ℤ) → AsksBefore s (question_lookup (question_of s.site.number kind text at))
question_asks s kind text (pos n) = number_asks s kind n (key_of_text text) (nat_lt n s.site.number) refl
question_asks s kind text (negsuc n) = no_number_asks s kind (key_of_text text)

version_asks : (s : Scene) (kind : Kind) (o : Option (List ℕ × ℤ)) → AsksBefore s (version_lookup s.site.number kind o)
version_asks s kind None = no_questions s
version_asks s kind (Some arg) = question_asks s kind arg.0 arg.1

item_asks : (s : Scene) (kind : Kind) (o : Option (List ℕ × (ℤ × ℤ))) → AsksBefore s (item_lookup s.site.number kind o)
item_asks s kind None = no_questions s
item_asks s kind (Some arg) = question_asks s kind arg.0 arg.1.0

-- ---- parts of answers

version_same : (builtin : Builtin) (o : Option (List ℕ × ℤ)) (s t : Scene) (reads : List Read) → Agree s t (version_lookup s.site.number Hist o) reads
    → with_args o (λ arg. and_so (version_asked t.rows t.site.number arg.0 arg.1) (version_value builtin)) ≡ with_args o (λ arg. and_so (version_asked s.rows s.site.number arg.0 arg.1) (version_value builtin))
version_same builtin None s t reads a = refl
version_same builtin (Some arg) s t reads a = ap (λ r. and_so (and_so r (λ answer. Ok (version_in answer))) (version_value builtin)) (asked_same s t reads Hist arg.0 arg.1 a)

taken_version : (builtin : Builtin) → ((version : Option Version) → IsBad (version_value builtin version)) → (args : List Value) → TameTaken (λ s c. (version_part s.rows s.site.number builtin args, c)) (λ s c. version_lookup s.site.number Hist (text_and_int args))
taken_version builtin bad args = taken_seen (λ s. version_part s.rows s.site.number builtin args) (λ s. version_lookup s.site.number Hist (text_and_int args)) (λ s. version_part_fails s.rows s.site.number builtin bad args)
    (λ s t reads a. (version_same builtin (text_and_int args) s t reads a, ap (λ n. version_lookup n Hist (text_and_int args)) a.number)) (λ s. version_meets s.site.number Hist (text_and_int args)) (λ s. version_asks s Hist (text_and_int args))

count_same : (kind : Kind) (o : Option (List ℕ × ℤ)) (s t : Scene) (reads : List Read) → Agree s t (version_lookup s.site.number kind o) reads
    → with_args o (λ arg. and_so (list_asked t.rows t.site.number kind arg.0 arg.1) count_told) ≡ with_args o (λ arg. and_so (list_asked s.rows s.site.number kind arg.0 arg.1) count_told)
count_same kind None s t reads a = refl
count_same kind (Some arg) s t reads a = ap (λ r. and_so (and_so r (λ answer. list_told (list_in answer))) count_told) (asked_same s t reads kind arg.0 arg.1 a)

taken_count : (kind : Kind) (args : List Value) → TameTaken (λ s c. (count_part s.rows s.site.number kind args, c)) (λ s c. version_lookup s.site.number kind (text_and_int args))
taken_count kind args = taken_seen (λ s. count_part s.rows s.site.number kind args) (λ s. version_lookup s.site.number kind (text_and_int args)) (λ s. count_part_fails s.rows s.site.number kind args)
    (λ s t reads a. (count_same kind (text_and_int args) s t reads a, ap (λ n. version_lookup n kind (text_and_int args)) a.number)) (λ s. version_meets s.site.number kind (text_and_int args)) (λ s. version_asks s kind (text_and_int args))

item_same : (kind : Kind) (builtin : Builtin) (o : Option (List ℕ × (ℤ × ℤ))) (s t : Scene) (reads : List Read) → Agree s t (item_lookup s.site.number kind o) reads
    → with_args o (λ arg. and_so (item_asked t.rows t.site.number kind arg.0 arg.1.0 arg.1.1) (item_value builtin)) ≡ with_args o (λ arg. and_so (item_asked s.rows s.site.number kind arg.0 arg.1.0 arg.1.1) (item_value builtin))
item_same kind builtin None s t reads a = refl
item_same kind builtin (Some arg) s t reads a = ap (λ r. and_so (and_so r (λ answer. item_part_of answer arg.1.1)) (item_value builtin)) (asked_same s t reads kind arg.0 arg.1.0 a)

taken_item : (kind : Kind) (builtin : Builtin) → ((dep : Dep) → IsBad (item_value builtin dep)) → (args : List Value) → TameTaken (λ s c. (item_part s.rows s.site.number kind builtin args, c)) (λ s c. item_lookup s.site.number kind (text_and_ints args))
taken_item kind builtin bad args = taken_seen (λ s. item_part s.rows s.site.number kind builtin args) (λ s. item_lookup s.site.number kind (text_and_ints args)) (λ s. item_part_fails s.rows s.site.number kind builtin bad args)
    (λ s t reads a. (item_same kind builtin (text_and_ints args) s t reads a, ap (λ n. item_lookup n kind (text_and_ints args)) a.number)) (λ s. item_meets s.site.number kind (text_and_ints args)) (λ s. item_asks s kind (text_and_ints args))

-- ---- all builtins

taken_built : (builtin : Builtin) (args : List Value) → TameTaken (λ s c. builtin_result s builtin args c) (λ s c. builtin_lookups s.site.number builtin args c)
taken_built b.GetInt args = taken_args (one_text args) (λ text s c. of_kind int_in (get_result s.place text c)) (taken_of_kind int_in int_fails)
taken_built b.GetText args = taken_args (one_text args) (λ text s c. of_kind text_in (get_result s.place text c)) (taken_of_kind text_in text_fails)
taken_built b.Has args = taken_args (one_text args) (λ text s c. has_result s.place text c) taken_having
taken_built b.Caller args = taken_seen (λ s. Ok (values.Text s.site.sender)) (λ s. no_lookups) (λ s. tt) (λ s t reads a. (ap (λ k. Ok (values.Text k)) a.sender, refl)) (λ s. refl) no_questions
taken_built b.Block args = taken_seen (λ s. Ok (values.Int (pos s.site.number))) (λ s. no_lookups) (λ s. tt) (λ s t reads a. (ap (λ n. Ok (values.Int (pos n))) a.number, refl)) (λ s. refl) no_questions
taken_built b.Len args = taken_fixed (with_args (one_text args) (λ text. Ok (values.Int (pos (length text))))) (args_fails (one_text args) (λ text. Ok (values.Int (pos (length text)))) (λ text. tt))
taken_built b.Text args = taken_fixed (with_args (one_int args) (λ z. Ok (values.Text (signed_decimal z)))) (args_fails (one_int args) (λ z. Ok (values.Text (signed_decimal z))) (λ z. tt))
taken_built b.HistInt args = taken_version b.HistInt (λ version. so_fails (value_told version) int_in (value_fails version) int_fails) args
taken_built b.HistText args = taken_version b.HistText (λ version. so_fails (value_told version) text_in (value_fails version) text_fails) args
taken_built b.HistBlock args = taken_version b.HistBlock block_fails args
taken_built b.HistTx args = taken_version b.HistTx tx_fails args
taken_built b.Seen args = taken_version b.Seen (λ version. tt) args
taken_built b.BackCount args = taken_count Back args
taken_built b.FwdCount args = taken_count Fwd args
taken_built b.BackKey args = taken_item Back b.BackKey (λ dep. tt) args
taken_built b.FwdKey args = taken_item Fwd b.FwdKey (λ dep. tt) args
taken_built b.BackBlock args = taken_item Back b.BackBlock (λ dep. tt) args
taken_built b.FwdBlock args = taken_item Fwd b.FwdBlock (λ dep. tt) args

tame_called : (o : Option Builtin) (args : List Value) → Tame (λ s m. builtin_call s o args m) (λ s m. called_lookups s o args m)
tame_called None args = tame_failed Value WrongKind refl
tame_called (Some builtin) args = tame_charged (charge_of builtin) (tame_taken (taken_built builtin args))

pub tame_applied : (name : List ℕ) (args : List Value) → Tame (λ s m. call_by_name s name args m) (λ s m. applied_lookups s name args m)
unfolding call_by_name applied_lookups
tame_applied name args = tame_called (builtin_of name) args
