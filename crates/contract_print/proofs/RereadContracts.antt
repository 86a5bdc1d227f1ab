-- The text of a contract is read as the same contract, apart from offsets.
use Rattle.std.proofs.Common.{◌≡◌, ℕ, suc, ◌+◌, ◌≤◌, true, false, List, [], ◌∷◌, ◌++◌, map, Ok, Err, codes, length, Some, refl, sym, ap, ◌∙◌, subst, append_assoc, arith}
use Rattle.std.proofs.lemmas.List.{append-nil}
use Rattle.lc_base.specs.NameBytes.{is_letter}
use Rattle.contract_tokens.specs.declared.token.Token.{Token}
use Rattle.contract_tokens.specs.declared.token.Word.{Word}
use Rattle.contract_tokens.specs.declared.token.Word.TheVariants as w
use Rattle.contract_tokens.specs.declared.token.Mark.TheVariants as m
use Rattle.contract_tokens.specs.Spelling.{is_of}
use Rattle.contract_tokens.specs.Tokens.{Outcome, prepend_token, IsTokenized, Ends, Skips, Takes, Refuses, IsTokens}
use Rattle.contract_parse.specs.Syntax.{ReadsAs}
use Rattle.contract_tokens.proofs.Runs.{Stops}
use Rattle.contract_tree.specs.Tree.{StatementTrees, statement_list, erase_statements, FunctionTree, erase_param, erase_function, erase_contract}
use Rattle.contract_tree.specs.declared.tree.Param.{Param}
use Rattle.contract_tree.specs.declared.tree.ValueKind.{ValueKind}
use Rattle.contract_tree.specs.declared.tree.ValueKind.TheVariants as k
use Rattle.contract_grammar.specs.declared.limits.TheConstants.{MAX_NESTING}
use Rattle.contract_grammar.specs.Grammar.{limits, Within, IsBlock, Block, IsParam, IsOneParam, IsMoreParams, LastParam, MoreParams, IsParams, NoParams, Params, IsFunction, IsOneFunction, IsContract, LastFunction, MoreFunctions}
use Rattle.contract_grammar.specs.Marks.{the, kind_of, declared_of}
use Rattle.contract_grammar.proofs.Laws.{no_false, IsOne, One}
use Rattle.contract_grammar.proofs.Sequence.{IsSeq, Seq}
use Rattle.contract_grammar.proofs.Choice.{IsEach, Nothing, Each}
use Rattle.contract_print.specs.Canonical.{mark_of_kind, kind_text, param_text, more_params_text, params_text, function_text, more_functions_text, contract_text}
use Rattle.contract_print.proofs.Respelled.{sign_goes_on, IsWord, mark_word, word_of, name_first}
use Rattle.contract_print.proofs.Printed.{IsPrinted, Any, IsWordOf, Said, Both, Pair, word_printed, both, gap_after, gap_before, mapped, stopped, breaks, break_word}
use Rattle.contract_print.proofs.Reread.{AllWords, words_parts, begins_left, begin_by, letter_begins, said, nothing_printed}
use Rattle.contract_grammar.proofs.ContractRules.{close_statements, close_params, functions_to}
use Rattle.contract_print.proofs.RereadStatements.{free_moved, word_no_end, named, closing_printed, IsItemsOf, relines}

-- ---- parameters

-- each edition has the keywords for kinds
kind_there : (edition : ℕ) (kind : ValueKind) → is_of edition (mark_of_kind kind) ≡ true
kind_there edition k.Int = refl
kind_there edition k.Text = refl

kind_again : (kind : ValueKind) (at : ℕ) → kind_of (said at (mark_of_kind kind)) ≡ Some kind
kind_again k.Int at = refl
kind_again k.Text at = refl

abbrev IsParamOf : ℕ → Param → List Token → Type 0
IsParamOf n p ts = (q : Param) × IsParam limits n ts q × (erase_param q ≡ erase_param p)

param_made : (n at : ℕ) (name : List ℕ) (kind : ValueKind) → ((q : ℕ) → declared_of (named q name) ≡ Some (q, name)) → Within limits.parameters (suc n) → (ts : List Token) → Both (Both (IsWordOf (w.Name name)) (IsWordOf (w.Mark m.Colon))) (IsWordOf (w.Mark (mark_of_kind kind))) ts → IsParamOf n (record { at = at; name = name; kind = kind }) ts
param_made n at name kind free may ts (Pair _ _ (Pair _ _ (Said p) (Said c)) (Said o)) = (record { at = p; name = name; kind = kind }, IsOneParam n (named p name) (p, name) (said c m.Colon) c (said o (mark_of_kind kind)) kind (free p) may refl (kind_again kind o), refl)

record PrintsParam (edition : ℕ) (n : ℕ) (p : Param) : Type 0 where
  printed : IsPrinted edition (IsParamOf n p) (Stops breaks) (param_text p)
  begins : (rest : List ℕ) → Stops sign_goes_on (param_text p ++ rest)

module _ {edition : ℕ} where
  param_printed : (n : ℕ) (f : List Token) (p : Param) → IsParam limits n f p → AllWords edition f
      → PrintsParam edition n p
  param_printed n f p (IsOneParam _ t name c q o kind e may g h) (ht, rest) =
      let moved = free_moved t.word t.at 0 name e in
      let i = subst (IsWord edition) moved.0 (ht (word_no_end t name.1 moved.0)) in
      let colon = gap_after (codes " ") refl (word_printed (w.Mark m.Colon) (mark_word edition m.Colon refl)) (λ rest. refl) in
      let first = both (word_printed (w.Name name.1) i) colon (λ rest h. refl) in
      let word = stopped (break_word (w.Mark (mark_of_kind kind))) (word_printed (w.Mark (mark_of_kind kind)) (mark_word edition (mark_of_kind kind) (kind_there edition kind))) in
      let whole = both first (word) (λ rest h. tt) in
      let start = begins_left name.1 (codes ": ") (begin_by is_letter letter_begins name.1 (name_first name.1 i)) in
      record { printed = mapped (param_made n name.0 name.1 kind (λ z. (free_moved t.word t.at z name e).1) may) whole; begins = begins_left (name.1 ++ codes ": ") (kind_text kind) start }

abbrev IsAfterParams : ℕ → List Param → List Token → Type 0
IsAfterParams n ps ts = (qs : List Param) × IsEach (λ k. IsSeq (IsOne (the m.Comma)) (λ at. IsParam limits k)) n ts qs × (map erase_param qs ≡ map erase_param ps)

params_more : (n : ℕ) (p : Param) (ps : List Param) (ts : List Token)
    → Both (Both (IsWordOf (w.Mark m.Comma)) (IsParamOf n p)) (IsAfterParams (suc n) ps) ts
    → IsAfterParams n (p ∷ ps) ts
params_more n p ps ts (Pair _ vs (Pair _ us (Said c) (q, i, e)) (qs, j, g)) =
    (q ∷ qs, Each n q qs (said c m.Comma ∷ us) vs (Seq (said c m.Comma ∷ []) us c q (One (said c m.Comma) c refl) i) j, ap (λ v. v ∷ map erase_param qs) e ∙ ap (λ v. erase_param p ∷ v) g)

params_start : (ps : List Param) (rest : List ℕ) → Stops breaks rest
    → Stops breaks (more_params_text ps ++ rest)
params_start [] rest h = h
params_start (p ∷ ps) rest h = refl

module _ {edition : ℕ} where
  after_params : (n : ℕ) (f : List Token) (ps : List Param) → IsMoreParams limits n f ps
      → AllWords edition f
      → IsPrinted edition (IsAfterParams n ps) (Stops breaks) (more_params_text ps)
  after_params n f ps (LastParam _ c end e) h = nothing_printed ([], Nothing n, refl)
  after_params n f ps (MoreParams _ c at y p z others e i j) h =
      let q = words_parts edition y z h.1 in
      let a = param_printed n y p i q.0 in
      let comma = gap_after (codes " ") refl (word_printed (w.Mark m.Comma) (mark_word edition m.Comma refl)) (λ rest. refl) in
      mapped (params_more n p others) (both (both comma a.printed (λ rest k. tt)) (after_params (suc n) z others j q.1) (params_start others))

abbrev IsInner : List Param → List Token → Type 0
IsInner ps ts = (o : Token) (at : ℕ) (c : Token) (end : ℕ) → the m.ParenOpen o ≡ Some at → the m.ParenClose c ≡ Some end → (qs : List Param) × IsParams limits (o ∷ (ts ++ c ∷ [])) qs × (map erase_param qs ≡ map erase_param ps)

inner_made : (p : Param) (ps : List Param) (ts : List Token)
    → Both (IsParamOf 0 p) (IsAfterParams 1 ps) ts → IsInner (p ∷ ps) ts
inner_made p ps ts (Pair us vs (q, i, e) (qs, j, g)) o at c end h k =
    let made = Params o at us q (vs ++ c ∷ []) qs h i (close_params 1 vs qs j c end k) in
    (q ∷ qs, subst (λ l. IsParams limits (o ∷ l) (q ∷ qs)) (sym (append_assoc us vs (c ∷ []))) made, ap (λ v. v ∷ map erase_param qs) e ∙ ap (λ v. erase_param p ∷ v) g)

record PrintsParams (edition : ℕ) (ps : List Param) : Type 0 where
  printed : IsPrinted edition (IsInner ps) (Stops breaks) (params_text ps)
  begins : (rest : List ℕ) → Stops breaks rest → Stops sign_goes_on (params_text ps ++ rest)

break_sign : (byte : ℕ) → breaks byte ≡ false → sign_goes_on byte ≡ false
break_sign byte h = grind arith

break_signs : (rest : List ℕ) → Stops breaks rest → Stops sign_goes_on rest
break_signs [] h = tt
break_signs (byte ∷ rest) h = break_sign byte h

module _ {edition : ℕ} where
  params_printed : (f : List Token) (ps : List Param) → IsParams limits f ps → AllWords edition f
      → PrintsParams edition ps
  params_printed f ps (NoParams o at c end e g) h = record { printed = nothing_printed (λ p q r s i j. ([], NoParams p q r s i j, refl)); begins = break_signs }
  params_printed f ps (Params o at y p z others e i j) h =
      let q = words_parts edition y z h.1 in
      let a = param_printed 0 y p i q.0 in
      record { printed = mapped (inner_made p others) (both a.printed (after_params 1 z others j q.1) (params_start others)); begins = λ rest k. begins_left (param_text p) (more_params_text others) a.begins rest }

-- ---- functions

abbrev IsFunctionOf : FunctionTree → List Token → Type 0
IsFunctionOf f ts =
    (g : FunctionTree) × IsFunction limits ts g × (erase_function g ≡ erase_function f)

function_made : (at : ℕ) (name : List ℕ) (ps : List Param) (body : StatementTrees) → ((q : ℕ) → declared_of (named q name) ≡ Some (q, name)) → 1 ≤ MAX_NESTING → (ts : List Token) → Both (Both (Both (Both (Both (Both (IsWordOf (w.Mark m.Fn)) (IsWordOf (w.Name name))) (IsWordOf (w.Mark m.ParenOpen))) (IsInner ps)) (Both (IsWordOf (w.Mark m.ParenClose)) (IsWordOf (w.Mark m.BraceOpen)))) (IsItemsOf 1 body)) (IsWordOf (w.Mark m.BraceClose)) ts → IsFunctionOf (record { at = at; name = name; params = ps; body = body }) ts
function_made at name ps body free may ts (Pair _ _ (Pair _ vs (Pair _ _ (Pair _ us (Pair _ _ (Pair _ _ (Said t) (Said n)) (Said o)) inner) (Pair _ _ (Said c) (Said b))) items) (Said end)) =
    let q = inner (said o m.ParenOpen) o (said c m.ParenClose) c refl refl in
    let k = items 0 in
    let closed = close_statements 1 0 vs k.0 k.1 (said end m.BraceClose) end refl in
    let block : IsBlock limits 1 (said b m.BraceOpen ∷ (vs ++ said end m.BraceClose ∷ [])) (statement_list k.0) = Block 1 (said b m.BraceOpen) b (vs ++ said end m.BraceClose ∷ []) (statement_list k.0) refl may closed in
    let tail = said b m.BraceOpen ∷ (vs ++ said end m.BraceClose ∷ []) in
    let made = IsOneFunction (said t m.Fn) t (named n name) (n, name) (said o m.ParenOpen ∷ (us ++ said c m.ParenClose ∷ [])) q.0 tail (statement_list k.0) refl (free n) q.1 block in
    let path : ((us ++ said c m.ParenClose ∷ said b m.BraceOpen ∷ []) ++ vs) ++ said end m.BraceClose ∷ [] ≡ (us ++ said c m.ParenClose ∷ []) ++ tail =
    append_assoc (us ++ said c m.ParenClose ∷ said b m.BraceOpen ∷ []) vs (said end m.BraceClose ∷ []) ∙ append_assoc us (said c m.ParenClose ∷ said b m.BraceOpen ∷ []) (vs ++ said end m.BraceClose ∷ []) ∙ sym (append_assoc us (said c m.ParenClose ∷ []) tail) in
    let new : FunctionTree = record { at = n; name = name; params = q.0; body = statement_list k.0 } in
    let whole : IsFunction limits (said t m.Fn ∷ named n name ∷ said o m.ParenOpen ∷ (((us ++ said c m.ParenClose ∷ said b m.BraceOpen ∷ []) ++ vs) ++ said end m.BraceClose ∷ [])) new = subst (λ l. IsFunction limits (said t m.Fn ∷ named n name ∷ said o m.ParenOpen ∷ l) new) (sym path) made in
    let same_params : map erase_param q.0 ≡ map erase_param ps = q.2 in
    let same_body : erase_statements (statement_list k.0) ≡ erase_statements body = k.2 in
    (new, whole, cc)

module _ {edition : ℕ} where
  function_printed : (f : List Token) (x : FunctionTree) → IsFunction limits f x
      → AllWords edition f → IsPrinted edition (IsFunctionOf x) Any (function_text x)
  function_printed f x (IsOneFunction t at n name y ps z body e g i (Block _ o place lines _ be may j)) (ht, (hn, rest)) =
      let q = words_parts edition y (o ∷ lines) rest in
      let moved = free_moved n.word n.at 0 name g in
      let word = subst (IsWord edition) moved.0 (hn (word_no_end n name.1 moved.0)) in
      let inner = params_printed y ps i q.0 in
      let head = gap_after (codes " ") refl (word_printed (w.Mark m.Fn) (mark_word edition m.Fn refl)) (λ rest. refl) in
      let said_name = both head (word_printed (w.Name name.1) word) (λ rest h. tt) in
      let opened = both said_name (word_printed (w.Mark m.ParenOpen) (mark_word edition m.ParenOpen refl)) (λ rest h. refl) in
      let listed = both opened inner.printed (λ rest h. inner.begins rest h) in
      let brace = gap_after (codes "\n") refl (word_printed (w.Mark m.BraceOpen) (mark_word edition m.BraceOpen refl)) (λ rest. refl) in
      let closes = both (word_printed (w.Mark m.ParenClose) (mark_word edition m.ParenClose refl)) (gap_before (codes " ") refl brace) (λ rest h. refl) in
      let started = both listed closes (λ rest h. refl) in
      let filled = both started (relines 1 lines body j q.1.1 (codes "  ") refl) (λ rest h. tt) in
      mapped (function_made name.0 name.1 ps body (λ z. (free_moved n.word n.at z name g).1) may) (both filled closing_printed (λ rest h. tt))

-- ---- contracts

abbrev IsFunctionsOf : List FunctionTree → List Token → Type 0
IsFunctionsOf fs ts = (n : ℕ) → (gs : List FunctionTree) × IsEach (λ k. IsFunction limits) n ts gs × (erase_contract gs ≡ erase_contract fs)

abbrev IsContractOf : List FunctionTree → List Token → Type 0
IsContractOf fs ts =
    (gs : List FunctionTree) × IsContract limits ts gs × (erase_contract gs ≡ erase_contract fs)

functions_more : (f : FunctionTree) (fs : List FunctionTree) (ts : List Token)
    → Both (IsFunctionOf f) (IsFunctionsOf fs) ts → IsFunctionsOf (f ∷ fs) ts
functions_more f fs ts (Pair us vs (g, i, e) j) n =
    let k = j (suc n) in
    (g ∷ k.0, Each n g k.0 us vs i k.1, ap (λ v. v ∷ erase_contract k.0) e ∙ ap (λ v. erase_function f ∷ v) k.2)

contract_made : (f : FunctionTree) (fs : List FunctionTree) (ts : List Token)
    → Both (IsFunctionOf f) (IsFunctionsOf fs) ts → IsContractOf (f ∷ fs) ts
contract_made f fs ts (Pair us vs (g, i, e) j) =
    let k = j 1 in
    (g ∷ k.0, functions_to 1 us g i vs k.0 k.1, ap (λ v. v ∷ erase_contract k.0) e ∙ ap (λ v. erase_function f ∷ v) k.2)

module _ {edition : ℕ} where
  no_functions : IsPrinted edition (IsFunctionsOf []) Any []
  no_functions = record { tokens = λ at. []; is = λ at n. ([], Nothing n, refl); tokenized = λ at rest more stop h. let same : at + length {A = ℕ} [] ≡ at = omega arith in subst (λ n. IsTokens edition n rest more) same h }

  rest_printed : (f : List Token) (fs : List FunctionTree) → IsContract limits f fs
      → AllWords edition f → IsPrinted edition (IsFunctionsOf fs) Any (more_functions_text fs)
  rest_printed f fs (LastFunction y x i) h = mapped (functions_more x []) (both (gap_before (codes "\n") refl (function_printed y x i h)) no_functions (λ rest k. tt))
  rest_printed f fs (MoreFunctions y x z others i j) h =
      let q = words_parts edition y z h in
      mapped (functions_more x others) (both (gap_before (codes "\n") refl (function_printed y x i q.0)) (rest_printed z others j q.1) (λ rest k. tt))

  contract_printed : (f : List Token) (fs : List FunctionTree) → IsContract limits f fs
      → AllWords edition f → IsPrinted edition (IsContractOf fs) Any (contract_text fs)
  contract_printed f fs (LastFunction y x i) h =
      mapped (contract_made x []) (both (function_printed y x i h) no_functions (λ rest k. tt))
  contract_printed f fs (MoreFunctions y x z others i j) h =
      let q = words_parts edition y z h in
      mapped (contract_made x others) (both (function_printed y x i q.0) (rest_printed z others j q.1) (λ rest k. tt))

-- ---- sources

AllWordsOr : ℕ → Outcome → Type 0
AllWordsOr edition (Ok list) = AllWords edition list
AllWordsOr edition (Err fault) = Unit {0}

module _ {edition : ℕ} where
  words_more : (at : ℕ) (word : Word) (outcome : Outcome) → IsWord edition word
      → AllWordsOr edition outcome
      → AllWordsOr edition (prepend_token (record { at = at; word = word }) outcome)
  unfolding AllWordsOr
  words_more at word (Ok list) i h = (λ e. i, h)
  words_more at word (Err fault) i h = tt

  words_tokenized : (at : ℕ) (bytes : List ℕ) (outcome : Outcome)
      → IsTokenized edition at bytes outcome → AllWordsOr edition outcome
  unfolding AllWordsOr
  words_tokenized _ _ _ (Ends at) = (λ e. absurd (no_false e refl), tt)
  words_tokenized _ _ _ (Skips at gap rest outcome g h) =
      words_tokenized (at + length gap) rest outcome h
  words_tokenized _ _ _ (Takes at prefix rest word outcome l s h) = words_more at word outcome (word_of prefix word s l.lexeme) (words_tokenized (at + length prefix) rest outcome h)
  words_tokenized _ _ _ (Refuses at bytes kind r) = tt

  all_words : {source : List ℕ} {list : List Token} → IsTokens edition 0 source list
      → AllWords edition list
  unfolding AllWordsOr
  all_words {source} {list} i = words_tokenized 0 source (Ok list) i

  -- the canonical text of what a source reads as is read as the same, apart from offsets
  pub reads_again : (source : List ℕ) (all : List FunctionTree) → ReadsAs edition source all → (other : List FunctionTree) × ReadsAs edition (contract_text all) other × (erase_contract other ≡ erase_contract all)
  reads_again source all i =
      let words = (words_parts edition i.before (i.end ∷ []) (all_words i.tokens)).0 in
      let p = contract_printed i.before all i.is_contract words in
      let k = p.is 0 in
      let at = 0 + length (contract_text all) in
      let end : Token = record { at = at; word = w.End } in
      let there : IsTokens edition 0 (contract_text all ++ []) (p.tokens 0 ++ end ∷ []) = p.tokenized 0 [] (end ∷ []) tt (Ends at) in
      (k.0, record { before = p.tokens 0; end = end; tokens = subst (λ l. IsTokens edition 0 l (p.tokens 0 ++ end ∷ [])) (append-nil (contract_text all)) there; ends = refl; is_contract = k.1 }, k.2)
