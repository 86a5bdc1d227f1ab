-- What builtins return is a value.
use Rattle.std.proofs.Common.{◌≡◌, ◌==◌, ℕ, ℤ, negsuc, pos, suc, zero, ◌<◌, ◌^◌, Bool, true, false, List, [], ◌∷◌, length, reverse, filter, find, get_or, slice_get, Option, Some, None, Result, Ok, Err, refl, subst, if◌then◌else◌, cond, not, arith}
use Rattle.std.specs.Prelude.{IfOk, IfSome, nat_le, nat_lt, is_some}
use Rattle.std.specs.Option.{IsSomeAnd, option_map}
use Rattle.std.specs.Int.{w64}
use Rattle.std.specs.Int.RustNames.{FitsSigned}
use Rattle.std.specs.List.{All}
use Rattle.std.specs.Fmt.{signed_decimal}
use Rattle.std.specs.Cmp.Lexicographic.{pointwise, bytes_decides}
use Rattle.std.proofs.lemmas.Bool.Decides.{nat_tests}
use Rattle.std.proofs.lemmas.List.Elements.{All-head, All-tail, All-push, All-filter, All-map, All-weaker}
use Rattle.std.proofs.lemmas.List.Filters.{length-filter_both}
use Rattle.std.proofs.lemmas.List.{length-map, reverse-append}
use Rattle.lc_base.specs.KeyBytes.{IsKey}
use Rattle.lc_base.specs.TextBytes.{IsText}
use Rattle.lc_base.proofs.TextBytes.{key_is_text, number_is_text}
use Rattle.lc_base.specs.History.{scan, answer_of, answer_about, latest, is_version, newest, below, uses, depends_on, version_of, HasLawfulDeps}
use Rattle.lc_base.specs.Parts.{question, version_in, list_in}
use Rattle.lc_base.specs.declared.answer.Query.{Query}
use Rattle.lc_base.specs.declared.answer.Kind.{Kind}
use Rattle.lc_base.specs.declared.answer.Kind.TheVariants as kinds
use Rattle.lc_base.specs.declared.answer.Answer.{Answer}
use Rattle.lc_base.specs.declared.answer.Answer.TheVariants as answers
use Rattle.lc_base.specs.declared.row.Dep.{Dep}
use Rattle.lc_base.specs.declared.row.Row.{Row}
use Rattle.lc_base.specs.declared.row.Version.{Version}
use Rattle.lc_base.specs.declared.value.Value.{Value}
use Rattle.lc_base.specs.declared.value.Value.TheVariants as values
use Rattle.lc_base.specs.declared.tx_status.TxStatus.{TxStatus}
use Rattle.lc_base.specs.declared.tx_status.TxStatus.TheVariants as statuses
use Rattle.byte_fields.specs.Spelling.{IsValue}
use Rattle.contract_tree.specs.declared.builtin.Builtin.{Builtin}
use Rattle.contract_tree.specs.declared.builtin.Builtin.TheVariants as b
use Rattle.contract_tree.specs.Builtins.{builtin_of}
use Rattle.dep_capture.specs.Captured.{Captured}
use Rattle.dep_capture.specs.Capture.{was_read, pending}
use Rattle.dep_capture.specs.declared.limits.TheConstants.{MAX_KEYS_READ}
use Rattle.dep_capture.specs.declared.access.Put.{Put}
use Rattle.dep_capture.specs.declared.error.CaptureError.TheVariants as errors
use Rattle.dep_capture.proofs.Keeping.{read_keeps}
use Rattle.world_state.specs.declared.held.Held.{Held}
use Rattle.contract_semantics.specs.Charges.{charge_of}
use Rattle.contract_semantics.specs.Numbers.{truth}
use Rattle.contract_semantics.specs.Scenes.{Scene}
use Rattle.contract_semantics.specs.Steps.{Machine, and_so}
use Rattle.contract_semantics.specs.Reading.{BuiltinResult, and_read, key_of_text, block_of, is_gone, unless_gone, value_of_version, has_value, read_result, value_got, is_held, int_in, text_in, of_kind, get_result, has_result}
use Rattle.contract_semantics.specs.Asking.{block_before, answer_up_to, version_asked, list_asked, item_asked, item_part_of, list_told, value_told, block_told, tx_told, count_told, item_told, item_of}
use Rattle.contract_semantics.specs.Builtins.{one_text, one_int, text_and_int, text_and_ints, with_args, reading_args, version_value, item_value, version_part, count_part, item_part, plain_value, builtin_result, taken_step, builtin_call, call_by_name}
use Rattle.root_laws.specs.TypedLedger.{IsTypedRow, IsTypedHistory}
use Rattle.contract_semantics.proofs.Reading.{with_read}
use Rattle.replay_soundness.proofs.Values.{small_fits, truth_fits}
use Rattle.replay_soundness.proofs.Keeping.{IsTypedPut, IsTyped, Ends, Keeps, keeps_failed, keeps_charged}

-- a dependency whose key is a key, and whose block has 32 bits
pub record IsTypedDep (dep : Dep) : Type 0 where
  pub key_is_key : IsKey dep.key
  pub block_fits : dep.block < 2 ^ 32

-- a scene of typed rows
pub record IsTypedScene (s : Scene) : Type 0 where
  pub rows : IsTypedHistory s.rows
  pub newest : (key : List ℕ) → IfSome (s.place.newest key) (λ held. IsValue held.value)
  pub sender : IsKey s.site.sender
  pub number : s.site.number < 2 ^ 32

-- ---- results

pub so_typed : {A B : Type 0} (P : A → Type 0) (Q : B → Type 0) (r : Result A TxStatus) (next : A → Result B TxStatus) → IfOk r P → ((x : A) → P x → IfOk (next x) Q) → IfOk (and_so r next) Q
so_typed P Q (Ok x) next h k = k x h
so_typed P Q (Err status) next h k = tt

int_in_typed : (value : Value) → IsValue value → IfOk (int_in value) IsValue
int_in_typed (values.Int z) h = h
int_in_typed (values.Text text) h = tt
int_in_typed values.Gone h = tt

text_in_typed : (value : Value) → IsValue value → IfOk (text_in value) IsValue
text_in_typed (values.Int z) h = tt
text_in_typed (values.Text text) h = h
text_in_typed values.Gone h = tt

-- ---- rows that are found

found_by : {X : Type 0} (P : X → Type 0) (p : X → Bool) (x : X) (o : Option X) (b : Bool) → p x ≡ b → P x → IfSome o (λ x. P x × (p x ≡ true)) → IfSome (cond b (Some x) o) (λ x. P x × (p x ≡ true))
found_by P p x o true e h k = (h, e)
found_by P p x o false e h k = k

pub found_typed : {X : Type 0} (P : X → Type 0) (p : X → Bool) (xs : List X) → All P xs → IfSome (find p xs) (λ x. P x × (p x ≡ true))
found_typed P p [] h = tt
found_typed P p (x ∷ xs) h = found_by P p x (find p xs) (p x) refl (All-head P x xs h) (found_typed P p xs (All-tail P x xs h))

pub all_reverse : {X : Type 0} (P : X → Type 0) (xs : List X) → All P xs → All P (reverse xs)
all_reverse P [] h = h
all_reverse P (x ∷ xs) h = rw (reverse-append (x ∷ []) xs) (All-push P (reverse xs) x (all_reverse P xs (All-tail P x xs h)) (All-head P x xs h))

-- ---- answers

abbrev AreDeps : List Dep → Type 0
AreDeps deps = (length deps < 2 ^ 63) × All IsTypedDep deps

abbrev IsTypedVersion : Version → Type 0
IsTypedVersion version = (version.block < 2 ^ 32) × (version.tx < 2 ^ 16) × IsValue version.value

abbrev IsTypedAnswer : Answer → Type 0
IsTypedAnswer answers.Nothing = Unit {0}
IsTypedAnswer (answers.Hist block tx value) = (block < 2 ^ 32) × (tx < 2 ^ 16) × IsValue value
IsTypedAnswer (answers.Back block deps) = AreDeps deps
IsTypedAnswer (answers.Fwd block deps) = AreDeps deps

dep_of : (key : List ℕ) (block : ℕ) (o : Option Row) → IfSome o (λ row. IsTypedRow row × (pointwise ◌==◌ row.key key ≡ true)) → IsSomeAnd o (λ version. version.block ≡ block) → IsTypedDep (record { key = key; block = block })
dep_of key block None h k = absurd k
dep_of key block (Some row) h k = record { key_is_key = subst IsKey ((bytes_decides row.key key).0 h.1) h.0.key_is_key; block_fits = omega (arith, h.0.block_fits, k) }

pub deps_typed : (rows : List Row) (row : Row) → All IsTypedRow rows → HasLawfulDeps rows row → All IsTypedDep row.deps
deps_typed rows row typed lawful k d within =
    let dep : Dep = get_or row.deps k d in
    let earlier : List Row = below rows row.block in
    dep_of dep.key dep.block (newest earlier dep.key)
    (found_typed IsTypedRow (λ (r : Row). pointwise ◌==◌ r.key dep.key) (reverse earlier) (all_reverse IsTypedRow earlier (All-filter (λ (r : Row). nat_lt r.block row.block) IsTypedRow rows typed)))
    (lawful.newest k d within)

uses_typed : (rows : List Row) (key : List ℕ) (block : ℕ) → IsTypedHistory rows → AreDeps (uses rows key block)
uses_typed rows key block h =
    let own : List Row = filter (depends_on key block) rows in (
      omega (arith, length-map own version_of, length-filter_both (depends_on key block) (λ row. not (depends_on key block row)) (λ row. refl) rows, h.lawful.few),
      All-map IsTypedDep version_of own (All-weaker IsTypedRow (λ (row : Row). IsTypedDep (version_of row)) (λ row t. record { key_is_key = t.key_is_key; block_fits = t.block_fits }) own (All-filter (depends_on key block) IsTypedRow rows h.typed)),
    )

about_typed : (rows : List Row) (kind : Kind) (key : List ℕ) (row : Row) → IsTypedHistory rows → IsTypedRow row → HasLawfulDeps rows row → IsTypedAnswer (answer_about rows kind key row)
about_typed rows kinds.Hist key row h t l = (t.block_fits, t.tx_fits, t.value_is_value)
about_typed rows kinds.Back key row h t l = (omega (arith, l.few), deps_typed rows row h.typed l)
about_typed rows kinds.Fwd key row h t l = uses_typed rows key row.block h

answer_typed : (rows : List Row) (query : Query) (o : Option Row) → IsTypedHistory rows → IfSome o (λ row. (IsTypedRow row × HasLawfulDeps rows row) × (is_version query.key query.at row ≡ true)) → IsTypedAnswer (answer_of rows query o)
answer_typed rows query None h k = tt
answer_typed rows query (Some row) h k = about_typed rows query.kind query.key row h k.0.0 k.0.1

scan_typed : (rows : List Row) (query : Query) → IsTypedHistory rows → IsTypedAnswer (scan rows query)
scan_typed rows query h =
    let P : Row → Type 0 = λ row. IsTypedRow row × HasLawfulDeps rows row in
    answer_typed rows query (latest rows query.key query.at) h
    (found_typed P (is_version query.key query.at) (reverse rows) (all_reverse P rows (λ k d within. (h.typed k d within, h.lawful.lawful_deps k d within))))

-- ---- answers of a scan

asked_by : (rows : List Row) (kind : Kind) → IsTypedHistory rows → (r : Result (List ℕ) TxStatus) (q : Result ℕ TxStatus) → IfOk (and_so r (λ key. and_so q (λ block. Ok (scan rows (question kind key block))))) IsTypedAnswer
asked_by rows kind h (Ok key) (Ok block) = scan_typed rows (question kind key block) h
asked_by rows kind h (Ok key) (Err status) = tt
asked_by rows kind h (Err status) q = tt

asked_typed : (rows : List Row) (number : ℕ) (kind : Kind) (text : List ℕ) (at : ℤ) → IsTypedHistory rows → IfOk (answer_up_to rows number kind text at) IsTypedAnswer
asked_typed rows number kind text at h = asked_by rows kind h (key_of_text text) (block_before number at)

version_typed : (answer : Answer) → IsTypedAnswer answer → IfSome (version_in answer) IsTypedVersion
version_typed answers.Nothing h = tt
version_typed (answers.Hist block tx value) h = h
version_typed (answers.Back block deps) h = tt
version_typed (answers.Fwd block deps) h = tt

list_typed : (answer : Answer) → IsTypedAnswer answer → IfOk (list_told (list_in answer)) AreDeps
list_typed answers.Nothing h = tt
list_typed (answers.Hist block tx value) h = tt
list_typed (answers.Back block deps) h = h
list_typed (answers.Fwd block deps) h = h

args_typed : {A : Type 0} (P : A → Type 0) (o : Option A) (next : A → Result Value TxStatus) → IfSome o P → ((x : A) → P x → IfOk (next x) IsValue) → IfOk (with_args o next) IsValue
args_typed P None next h k = tt
args_typed P (Some x) next h k = k x h

any_args : {A : Type 0} (o : Option A) (next : A → Result Value TxStatus) → ((x : A) → IfOk (next x) IsValue) → IfOk (with_args o next) IsValue
any_args None next k = tt
any_args (Some x) next k = k x

TellsValues : (Option Version → Result Value TxStatus) → Type 0
TellsValues tell = (o : Option Version) → IfSome o IsTypedVersion → IfOk (tell o) IsValue

version_part_typed : (rows : List Row) (number : ℕ) (builtin : Builtin) (args : List Value) → IsTypedHistory rows → ((o : Option Version) → IfSome o IsTypedVersion → IfOk (version_value builtin o) IsValue) → IfOk (version_part rows number builtin args) IsValue
version_part_typed rows number builtin args h tell =
    let Q : Option Version → Type 0 = λ o. IfSome o IsTypedVersion in
    any_args (text_and_int args) (λ arg. and_so (version_asked rows number arg.0 arg.1) (version_value builtin))
    (λ arg. so_typed Q IsValue (version_asked rows number arg.0 arg.1) (version_value builtin)
    (so_typed IsTypedAnswer Q (answer_up_to rows number kinds.Hist arg.0 arg.1) (λ answer. Ok (version_in answer)) (asked_typed rows number kinds.Hist arg.0 arg.1 h) version_typed) tell)

value_typed : (o : Option Version) → IfSome o IsTypedVersion → IfOk (value_told o) IsValue
value_typed None h = tt
value_typed (Some version) h = h.2

block_typed : (o : Option Version) → IfSome o IsTypedVersion → IfOk (block_told o) IsValue
block_typed None h = tt
block_typed (Some version) h = small_fits version.block (omega (arith, h.0))

tx_typed : (o : Option Version) → IfSome o IsTypedVersion → IfOk (tx_told o) IsValue
tx_typed None h = tt
tx_typed (Some version) h = small_fits version.tx (omega (arith, h.1))

count_part_typed : (rows : List Row) (number : ℕ) (kind : Kind) (args : List Value) → IsTypedHistory rows → IfOk (count_part rows number kind args) IsValue
count_part_typed rows number kind args h =
    any_args (text_and_int args) (λ arg. and_so (list_asked rows number kind arg.0 arg.1) count_told)
    (λ arg. so_typed AreDeps IsValue (list_asked rows number kind arg.0 arg.1) count_told
    (so_typed IsTypedAnswer AreDeps (answer_up_to rows number kind arg.0 arg.1) (λ answer. list_told (list_in answer)) (asked_typed rows number kind arg.0 arg.1 h) list_typed)
    (λ deps k. small_fits (length deps) k.0))

got_typed : (P : Dep → Type 0) (deps : List Dep) (n : ℕ) → All P deps → IfSome (slice_get deps n) P
got_typed P [] n h = tt
got_typed P (dep ∷ deps) zero h = All-head P dep deps h
got_typed P (dep ∷ deps) (suc n) h = got_typed P deps n (All-tail P dep deps h)

told_typed : (o : Option Dep) → IfSome o IsTypedDep → IfOk (item_told o) IsTypedDep
told_typed None h = tt
told_typed (Some dep) h = h

item_of_typed : (deps : List Dep) (index : ℤ) → AreDeps deps → IfOk (item_of deps index) IsTypedDep
item_of_typed deps (pos n) h = told_typed (slice_get deps n) (got_typed IsTypedDep deps n h.1)
item_of_typed deps (negsuc n) h = tt

item_part_typed : (rows : List Row) (number : ℕ) (kind : Kind) (builtin : Builtin) (args : List Value) → IsTypedHistory rows → ((dep : Dep) → IsTypedDep dep → IfOk (item_value builtin dep) IsValue) → IfOk (item_part rows number kind builtin args) IsValue
item_part_typed rows number kind builtin args h tell =
    any_args (text_and_ints args) (λ arg. and_so (item_asked rows number kind arg.0 arg.1.0 arg.1.1) (item_value builtin))
    (λ arg. so_typed IsTypedDep IsValue (item_asked rows number kind arg.0 arg.1.0 arg.1.1) (item_value builtin)
    (so_typed IsTypedAnswer IsTypedDep (answer_up_to rows number kind arg.0 arg.1.0) (λ answer. item_part_of answer arg.1.1) (asked_typed rows number kind arg.0 arg.1.0 h)
    (λ answer k. so_typed AreDeps IsTypedDep (list_told (list_in answer)) (λ deps. item_of deps arg.1.1) (list_typed answer k) (λ deps l. item_of_typed deps arg.1.1 l)))
    tell)

-- ---- arguments

one_text_typed : (args : List Value) → All IsValue args → IfSome (one_text args) IsText
one_text_typed [] h = tt
one_text_typed (values.Int z ∷ args) h = tt
one_text_typed (values.Text text ∷ []) h = All-head IsValue (values.Text text) [] h
one_text_typed (values.Text text ∷ (value ∷ args)) h = tt
one_text_typed (values.Gone ∷ args) h = tt

one_int_typed : (args : List Value) → All IsValue args → IfSome (one_int args) (FitsSigned w64)
one_int_typed [] h = tt
one_int_typed (values.Text text ∷ args) h = tt
one_int_typed (values.Int z ∷ []) h = All-head IsValue (values.Int z) [] h
one_int_typed (values.Int z ∷ (value ∷ args)) h = tt
one_int_typed (values.Gone ∷ args) h = tt

-- ---- builtins that read nothing of the present

plain_typed : (s : Scene) → IsTypedScene s → (builtin : Builtin) (args : List Value) → All IsValue args → IfOk (plain_value s.rows s.site builtin args) IsValue
plain_typed s h b.Caller args k = key_is_text s.site.sender h.sender
plain_typed s h b.Block args k = small_fits s.site.number (omega (arith, h.number))
plain_typed s h b.Len args k = args_typed IsText (one_text args) (λ text. Ok (values.Int (pos (length text)))) (one_text_typed args k) (λ text is. small_fits (length text) (omega (arith, is.short)))
plain_typed s h b.Text args k = args_typed (FitsSigned w64) (one_int args) (λ z. Ok (values.Text (signed_decimal z))) (one_int_typed args k) (λ z is. number_is_text z is)
plain_typed s h b.HistInt args k = version_part_typed s.rows s.site.number b.HistInt args h.rows (λ o t. so_typed IsValue IsValue (value_told o) int_in (value_typed o t) int_in_typed)
plain_typed s h b.HistText args k = version_part_typed s.rows s.site.number b.HistText args h.rows (λ o t. so_typed IsValue IsValue (value_told o) text_in (value_typed o t) text_in_typed)
plain_typed s h b.HistBlock args k = version_part_typed s.rows s.site.number b.HistBlock args h.rows block_typed
plain_typed s h b.HistTx args k = version_part_typed s.rows s.site.number b.HistTx args h.rows tx_typed
plain_typed s h b.Seen args k = version_part_typed s.rows s.site.number b.Seen args h.rows (λ o t. truth_fits (is_some o))
plain_typed s h b.BackCount args k = count_part_typed s.rows s.site.number kinds.Back args h.rows
plain_typed s h b.FwdCount args k = count_part_typed s.rows s.site.number kinds.Fwd args h.rows
plain_typed s h b.BackKey args k = item_part_typed s.rows s.site.number kinds.Back b.BackKey args h.rows (λ dep t. key_is_text dep.key t.key_is_key)
plain_typed s h b.FwdKey args k = item_part_typed s.rows s.site.number kinds.Fwd b.FwdKey args h.rows (λ dep t. key_is_text dep.key t.key_is_key)
plain_typed s h b.BackBlock args k = item_part_typed s.rows s.site.number kinds.Back b.BackBlock args h.rows (λ dep t. small_fits dep.block (omega (arith, t.block_fits)))
plain_typed s h b.FwdBlock args k = item_part_typed s.rows s.site.number kinds.Fwd b.FwdBlock args h.rows (λ dep t. small_fits dep.block (omega (arith, t.block_fits)))
plain_typed s h b.GetInt args k = tt
plain_typed s h b.GetText args k = tt
plain_typed s h b.Has args k = tt

-- ---- builtins that read

abbrev TypedTaken : BuiltinResult → Type 0
TypedTaken (Ok value, c) = IsValue value × IsTyped c
TypedTaken (Err status, c) = Unit {0}

taken_of : (r : Result Value TxStatus) (c : Captured) → IfOk r IsValue → IsTyped c → TypedTaken (r, c)
taken_of (Ok value) c h t = (h, t)
taken_of (Err status) c h t = tt

abbrev read_by : Bool → Bool → Bool → Option Held → List ℕ → (Option Held → Result Value TxStatus) → Captured → BuiltinResult
read_by written known full held key gives c =
    and_read (if written then Err statuses.Conflict else read_result (if known then Ok c else (if full then Err errors.TooMany else Ok (with_read c key held)))) c (λ c. (gives held, c))

read_typed : (written known full : Bool) (held : Option Held) (key : List ℕ) (gives : Option Held → Result Value TxStatus) (c : Captured) → was_read c.reads key ≡ known → nat_le MAX_KEYS_READ (length c.reads) ≡ full → IsTyped c → IfOk (gives held) IsValue
    → TypedTaken (read_by written known full held key gives c)
read_typed true known full held key gives c e f h k = tt
read_typed false true full held key gives c e f h k = taken_of (gives held) c k h
read_typed false false true held key gives c e f h k = tt
read_typed false false false held key gives c e f h k = taken_of (gives held) (with_read c key held) k
    (record { lawful = read_keeps c.reads c.puts (record { key = key; version = block_of held }) h.lawful e (grind (arith, nat_tests)); puts = h.puts })

gone_typed : (value : Value) → IsValue value → IfOk (unless_gone value) IsValue
gone_typed (values.Int z) h = h
gone_typed (values.Text text) h = h
gone_typed values.Gone h = tt

version_value_typed : (o : Option Held) → IfSome o (λ held. IsValue held.value) → IfOk (value_of_version o) IsValue
version_value_typed None h = tt
version_value_typed (Some held) h = gone_typed held.value h

got_value_typed : (s : Scene) → IsTypedScene s → (key : List ℕ) (o : Option Value) (c : Captured) → IsTyped c → IfSome o IsValue → TypedTaken (value_got s.place key o c)
got_value_typed s h key (Some value) c t k = taken_of (unless_gone value) c (gone_typed value k) t
got_value_typed s h key None c t k = read_typed (s.place.written key) (was_read c.reads key) (nat_le MAX_KEYS_READ (length c.reads)) (s.place.newest key) key value_of_version c refl refl t (version_value_typed (s.place.newest key) (h.newest key))

held_typed : (s : Scene) (key : List ℕ) (o : Option Value) (c : Captured) → IsTyped c → TypedTaken (is_held s.place key o c)
held_typed s key (Some value) c t = (truth_fits (not (is_gone value)), t)
held_typed s key None c t = read_typed (s.place.written key) (was_read c.reads key) (nat_le MAX_KEYS_READ (length c.reads)) (s.place.newest key) key (λ held. Ok (values.Int (truth (has_value held)))) c refl refl t (truth_fits (has_value (s.place.newest key)))

pending_by : (o : Option Put) (p : Put → Bool) → IfSome o (λ put. IsTypedPut put × (p put ≡ true)) → IfSome (option_map (λ (put : Put). put.value) o) IsValue
pending_by None p h = tt
pending_by (Some put) p h = h.0.value_is_value

pending_typed : (puts : List Put) (key : List ℕ) → All IsTypedPut puts → IfSome (pending puts key) IsValue
pending_typed puts key h = pending_by (find (λ (put : Put). pointwise ◌==◌ put.key key) puts) (λ (put : Put). pointwise ◌==◌ put.key key) (found_typed IsTypedPut (λ (put : Put). pointwise ◌==◌ put.key key) puts h)

getting_by : (s : Scene) → IsTypedScene s → (r : Result (List ℕ) TxStatus) (c : Captured) → IsTyped c → TypedTaken (and_read r c (λ key. value_got s.place key (pending c.puts key) c))
getting_by s h (Ok key) c t = got_value_typed s h key (pending c.puts key) c t (pending_typed c.puts key t.puts)
getting_by s h (Err status) c t = tt

having_by : (s : Scene) (r : Result (List ℕ) TxStatus) (c : Captured) → IsTyped c → TypedTaken (and_read r c (λ key. is_held s.place key (pending c.puts key) c))
having_by s (Ok key) c t = held_typed s key (pending c.puts key) c t
having_by s (Err status) c t = tt

kind_typed : (kind : Value → Result Value TxStatus) → ((value : Value) → IsValue value → IfOk (kind value) IsValue) → (taken : BuiltinResult) → TypedTaken taken → TypedTaken (of_kind kind taken)
kind_typed kind k (Ok value, c) h = taken_of (kind value) c (k value h.0) h.1
kind_typed kind k (Err status, c) h = tt

reading_typed : (o : Option (List ℕ)) (c : Captured) (next : List ℕ → BuiltinResult) → ((text : List ℕ) → TypedTaken (next text)) → TypedTaken (reading_args o c next)
reading_typed None c next h = tt
reading_typed (Some text) c next h = h text

built_typed : (s : Scene) → IsTypedScene s → (builtin : Builtin) (args : List Value) (c : Captured) → All IsValue args → IsTyped c → TypedTaken (builtin_result s builtin args c)
built_typed s h b.GetInt args c k t = reading_typed (one_text args) c (λ text. of_kind int_in (get_result s.place text c)) (λ text. kind_typed int_in int_in_typed (get_result s.place text c) (getting_by s h (key_of_text text) c t))
built_typed s h b.GetText args c k t = reading_typed (one_text args) c (λ text. of_kind text_in (get_result s.place text c)) (λ text. kind_typed text_in text_in_typed (get_result s.place text c) (getting_by s h (key_of_text text) c t))
built_typed s h b.Has args c k t = reading_typed (one_text args) c (λ text. has_result s.place text c) (λ text. having_by s (key_of_text text) c t)
built_typed s h b.Caller args c k t = taken_of (plain_value s.rows s.site b.Caller args) c (plain_typed s h b.Caller args k) t
built_typed s h b.Block args c k t = taken_of (plain_value s.rows s.site b.Block args) c (plain_typed s h b.Block args k) t
built_typed s h b.Len args c k t = taken_of (plain_value s.rows s.site b.Len args) c (plain_typed s h b.Len args k) t
built_typed s h b.Text args c k t = taken_of (plain_value s.rows s.site b.Text args) c (plain_typed s h b.Text args k) t
built_typed s h b.HistInt args c k t = taken_of (plain_value s.rows s.site b.HistInt args) c (plain_typed s h b.HistInt args k) t
built_typed s h b.HistText args c k t = taken_of (plain_value s.rows s.site b.HistText args) c (plain_typed s h b.HistText args k) t
built_typed s h b.HistBlock args c k t = taken_of (plain_value s.rows s.site b.HistBlock args) c (plain_typed s h b.HistBlock args k) t
built_typed s h b.HistTx args c k t = taken_of (plain_value s.rows s.site b.HistTx args) c (plain_typed s h b.HistTx args k) t
built_typed s h b.Seen args c k t = taken_of (plain_value s.rows s.site b.Seen args) c (plain_typed s h b.Seen args k) t
built_typed s h b.BackCount args c k t = taken_of (plain_value s.rows s.site b.BackCount args) c (plain_typed s h b.BackCount args k) t
built_typed s h b.FwdCount args c k t = taken_of (plain_value s.rows s.site b.FwdCount args) c (plain_typed s h b.FwdCount args k) t
built_typed s h b.BackKey args c k t = taken_of (plain_value s.rows s.site b.BackKey args) c (plain_typed s h b.BackKey args k) t
built_typed s h b.FwdKey args c k t = taken_of (plain_value s.rows s.site b.FwdKey args) c (plain_typed s h b.FwdKey args k) t
built_typed s h b.BackBlock args c k t = taken_of (plain_value s.rows s.site b.BackBlock args) c (plain_typed s h b.BackBlock args k) t
built_typed s h b.FwdBlock args c k t = taken_of (plain_value s.rows s.site b.FwdBlock args) c (plain_typed s h b.FwdBlock args k) t

step_typed : (taken : BuiltinResult) (m : Machine) → TypedTaken taken → Ends IsValue (taken_step taken m)
step_typed (Ok value, c) m h = h
step_typed (Err status, c) m h = tt

called_typed : (s : Scene) → IsTypedScene s → (o : Option Builtin) (args : List Value) → All IsValue args → Keeps IsValue (λ m. builtin_call s o args m)
called_typed s h None args k = keeps_failed statuses.WrongKind
called_typed s h (Some builtin) args k = keeps_charged (charge_of builtin) {f = λ m. taken_step (builtin_result s builtin args m.capture) m}
    (record { ends = λ m t. step_typed (builtin_result s builtin args m.capture) m (built_typed s h builtin args m.capture k t) })

pub applied_typed : (s : Scene) → IsTypedScene s → (name : List ℕ) (args : List Value) → All IsValue args → Keeps IsValue (λ m. call_by_name s name args m)
unfolding call_by_name
applied_typed s h name args k = called_typed s h (builtin_of name) args k
