-- The reader of contracts returns the contract of the grammar, or the first fault.
use Rattle.std.proofs.Common.{◌≡◌, ℕ, ◌≤◌, Bool, true, false, List, [], ◌∷◌, ◌++◌, Ok, Err, ◌⊎◌, inl, inr, refl, sym, ap, ◌∙◌, subst, arith, append_assoc, length, length-append}
use Rattle.std.proofs.lemmas.List.{append_cancel_right}
use Rattle.contract_tokens.specs.declared.token.Token.{Token}
use Rattle.contract_tokens.specs.declared.token.Mark.TheVariants as m
use Rattle.contract_tree.specs.Tree.{FunctionTree}
use Rattle.contract_grammar.specs.declared.Obstacle.{Obstacle}
use Rattle.contract_grammar.specs.declared.Obstacle.TheVariants.{Unfit, Surplus, Pending, Nesting, Height}
use Rattle.contract_grammar.specs.Faults.{Fits, Allows, AllowsBy, IsTooHigh, IsFault, pending_only, nesting_only, parameters_only, IsObstacle, KeepsLimit, KeepsLimits, AreWritable}
use Rattle.contract_grammar.specs.Grammar.{Within, limit_if, limits_of, limits, no_limits, IsContract, Limits}
use Rattle.contract_grammar.specs.Marks.{is, has, is_end, is_no_end, name_of, opens, builtin_of}
use Rattle.contract_grammar.specs.Reading.{function, contract}
use Rattle.contract_grammar.specs.Rules.{Read, head_is, next, each, put, is_limit, IsLimitAt}
use Rattle.contract_grammar.proofs.Laws.{Agrees, IsRule, has_end, err_is, no_ok, no_false, GoesBy}
use Rattle.contract_grammar.proofs.Choice.{turns_end}
use Rattle.contract_grammar.proofs.Parts.{IsFair}
use Rattle.contract_grammar.proofs.ContractRules.{contract_rule}
use Rattle.contract_grammar.specs.declared.limits.TheConstants.{MAX_PENDING, MAX_NESTING, MAX_HEIGHT, MAX_PARAMETERS}
use Rattle.contract_grammar.proofs.PassedTokens.{end_token, end_is, passed_fits}
use Rattle.contract_grammar.proofs.ExpressionCompletions.{IsAbout}
use Rattle.contract_grammar.proofs.ContractCompletions.{contract_full, contract_high}
use Rattle.contract_grammar.proofs.MarkFacts.{named_no_end, open_no_end, brace_no_end}
use Rattle.contract_grammar.proofs.Splits.{two_splits}
use Rattle.contract_grammar.proofs.Writable.{word_here, written_no_end}

-- what is excused if a limit is not considered
abbrev Unlimited : Bool → Type 0
Unlimited true = ⊥
Unlimited false = Unit {0}

abbrev Excused : (pending nesting height parameters : Bool) → Obstacle → Type 0
Excused p n h q Unfit = ⊥
Excused p n h q Surplus = Unlimited q
Excused p n h q Pending = Unlimited p
Excused p n h q Nesting = Unlimited n
Excused p n h q (Height at) = Unlimited h

kept_by : (b : Bool) (most n : ℕ) → n ≤ most → Within (limit_if b most) n
kept_by true most n h = h
kept_by false most n h = tt

fair_by : (b : Bool) (most n : ℕ) → Within (limit_if b most) n → (n ≤ most) ⊎ Unlimited b
fair_by true most n h = inl h
fair_by false most n h = inr tt

free_by : (b : Bool) (most n : ℕ) → b ≡ false → Within (limit_if b most) n
free_by true most n e = absurd (no_false e refl)
free_by false most n e = tt

-- no limit is considered
abbrev AllFree : (pending nesting height parameters : Bool) → Type 0
AllFree p n h q = (p ≡ false) × (n ≡ false) × (h ≡ false) × (q ≡ false)

fair_of : (p n h q : Bool) → IsFair (limits_of p n h q) (Excused p n h q) (AllFree p n h q)
fair_of p n h q = record {
  pending_kept = kept_by p MAX_PENDING;
  pending_fair = fair_by p MAX_PENDING;
  pending_free = λ u k. free_by p MAX_PENDING k u.0;
  nesting_kept = kept_by n MAX_NESTING;
  nesting_fair = fair_by n MAX_NESTING;
  nesting_free = λ u k. free_by n MAX_NESTING k u.1;
  height_kept = kept_by h MAX_HEIGHT;
  height_fair = λ k at. fair_by h MAX_HEIGHT k;
  height_free = λ u k. free_by h MAX_HEIGHT k u.2;
  parameters_kept = kept_by q MAX_PARAMETERS;
  parameters_fair = fair_by q MAX_PARAMETERS;
  parameters_free = λ u k. free_by q MAX_PARAMETERS k u.3;
}

rule : (p n h q : Bool) → IsRule (Excused p n h q) (AllFree p n h q) contract (IsContract (limits_of p n h q)) is_end
rule p n h q = contract_rule (fair_of p n h q)

limit_no_end : (why : Obstacle) (t : Token) → is_limit why ≡ true → IsLimitAt why t → is_end t ≡ false
limit_no_end Unfit t e h = absurd (no_false refl e)
limit_no_end Surplus t e h = named_no_end t h
limit_no_end Pending t e h = open_no_end t h
limit_no_end Nesting t e h = brace_no_end t h
limit_no_end (Height at) t e h = absurd (no_false refl e)

-- a reader that was stopped by an obstacle that is not excused did not read what the grammar has
clash : {A : Type 0} (E : Obstacle → Type 0) (a : A) (rest left : List Token) (why : Obstacle) (r : Read A) → (E why → ⊥) → r ≡ (Err why, left) → Agrees E a rest r → ⊥
clash E a rest left why r not e (inl h) = no_ok (sym e ∙ h)
clash E a rest left why r not e (inr h) = not (subst E (err_is (sym h.2 ∙ e)).0 h.3)

module _ (u y : List Token) (t : Token) (why : Obstacle) (e : contract (u ++ t ∷ y) ≡ (Err why, t ∷ y)) where
  before_fits : is_limit why ≡ false → Fits no_limits u
  before_fits soft =
      let k = (rule false false false false).viable (refl, refl, refl, refl) (u ++ t ∷ y) (t ∷ y) why e in
      let same : u ≡ k.0 = append_cancel_right u k.0 (t ∷ y) k.3 in
      (k.1, k.2, subst (λ b. GoesBy b why (t ∷ y) k.1) soft k.5, subst (λ v. IsContract no_limits (v ++ k.1) k.2) (sym same) k.4)

  limit_told : is_limit why ≡ true → IsLimitAt why t × Allows no_limits u t
  limit_told soft =
      let k = (rule false false false false).viable (refl, refl, refl, refl) (u ++ t ∷ y) (t ∷ y) why e in
      let same : u ≡ k.0 = append_cancel_right u k.0 (t ∷ y) k.3 in
      let g = subst (λ b. GoesBy b why (t ∷ y) k.1) soft k.5 in
      let head : t ≡ g.0 = cc (g.3) in
      let told : IsLimitAt why t = subst (λ v. IsLimitAt why v) (sym head) g.6 in
      let more_is : k.0 ++ k.1 ≡ (u ++ t ∷ []) ++ g.2 = ap (λ v. v ++ k.1) (sym same) ∙ ap (λ v. u ++ v) g.4 ∙ ap (λ v. u ++ v ∷ g.2) (sym head) ∙ sym (append_assoc u (t ∷ []) g.2) in
      let fits : Fits no_limits (u ++ t ∷ []) = (g.2, k.2, g.5, subst (λ v. IsContract no_limits v k.2) more_is k.4) in
      (told, subst (λ b. AllowsBy b no_limits u t) (sym (limit_no_end why t soft told)) fits)

  not_allowed_by : (p n h q b : Bool) → (Excused p n h q why → ⊥) → is_end t ≡ b → AllowsBy b (limits_of p n h q) u t → ⊥
  not_allowed_by p n h q true not is (all, i) = clash (Excused p n h q) all (t ∷ y) (t ∷ y) why (contract (u ++ t ∷ y)) not e ((rule p n h q).again u (t ∷ y) all i is)
  not_allowed_by p n h q false not is (more, all, written, i) =
      let z = more ++ end_token ∷ [] in
      let stopped : contract (u ++ t ∷ z) ≡ (Err why, t ∷ z) = (rule p n h q).same u [] y z t (Err why) e in
      let path : ((u ++ t ∷ []) ++ more) ++ end_token ∷ [] ≡ u ++ t ∷ z = append_assoc (u ++ t ∷ []) more (end_token ∷ []) ∙ append_assoc u (t ∷ []) z in
      clash (Excused p n h q) all (end_token ∷ []) (t ∷ z) why (contract (((u ++ t ∷ []) ++ more) ++ end_token ∷ [])) not (ap contract path ∙ stopped) ((rule p n h q).again ((u ++ t ∷ []) ++ more) (end_token ∷ []) all i end_is)

  not_allowed : (p n h q : Bool) → (Excused p n h q why → ⊥) → Allows (limits_of p n h q) u t → ⊥
  not_allowed p n h q not = not_allowed_by p n h q (is_end t) not refl

builtin_no_open : (t : Token) → has builtin_of t ≡ true → opens t ≡ true → ⊥
builtin_no_open t h i = grind arith

name_no_comma : (t : Token) → is m.Comma t ≡ true → has name_of t ≡ true → ⊥
name_no_comma t h i = grind arith

about_pending : IsAbout pending_only opens
about_pending = record {
  pending_kept = λ n h. h;
  nesting_kept = λ n h. tt;
  parameters_kept = λ n h. tt;
  height_free = λ n. tt;
  after_builtin = λ t h i n. absurd (builtin_no_open t h i);
  after_no_brace = λ t h i n. tt;
  after_comma = λ t h i n. tt;
}

about_nesting : IsAbout nesting_only (is m.BraceOpen)
about_nesting = record {
  pending_kept = λ n h. tt;
  nesting_kept = λ n h. h;
  parameters_kept = λ n h. tt;
  height_free = λ n. tt;
  after_builtin = λ t h i n. tt;
  after_no_brace = λ t h i n. absurd (no_false h i);
  after_comma = λ t h i n. tt;
}

about_parameters : IsAbout parameters_only (has name_of)
about_parameters = record {
  pending_kept = λ n h. tt;
  nesting_kept = λ n h. tt;
  parameters_kept = λ n h. h;
  height_free = λ n. tt;
  after_builtin = λ t h i n. tt;
  after_no_brace = λ t h i n. tt;
  after_comma = λ t h i n. absurd (name_no_comma t h i);
}

module _ (u y : List Token) (t : Token) (why : Obstacle) (e : contract (u ++ t ∷ y) ≡ (Err why, t ∷ y)) where
  keeps : {l : Limits} {test : Token → Bool} {E : Obstacle → Type 0} {U : Type 0} → IsRule E U contract (IsContract l) is_end → IsAbout l test → ((s : Token) → test s ≡ true → is_end s ≡ false) → KeepsLimit l test u
  keeps {l = l} limited about plain b a s path passes =
      let full = contract_full about (fair_of false false false false) (refl, refl, refl, refl) in
      let stopped : contract ((b ++ s ∷ a) ++ t ∷ y) ≡ (Err why, t ∷ y) = ap (λ v. contract (v ++ t ∷ y)) (sym path) ∙ e in
      subst (λ v. AllowsBy v l b s) (sym (plain s passes)) (passed_fits limited full b a y s t why passes stopped)

  keeps_limits : KeepsLimits u
  keeps_limits = record {
    pending = keeps (rule true false false false) about_pending open_no_end;
    nesting = keeps (rule false true false false) about_nesting brace_no_end;
    parameters = keeps (rule false false false true) about_parameters named_no_end;
  }

too_high : (u y : List Token) (t : Token) (at : ℕ) → contract (u ++ t ∷ y) ≡ (Err (Height at), t ∷ y) → IsTooHigh u at
too_high u y t at e =
    let k = contract_high (fair_of false false false false) (refl, refl, refl, refl) (fair_of false false true false) (u ++ t ∷ y) (t ∷ y) at e in
    record { prefix = k.prefix; tokens = k.tokens; more = k.more; before_is = append_cancel_right u (k.prefix ++ k.tokens) (t ∷ y) (k.path ∙ sym (append_assoc k.prefix k.tokens (t ∷ y))); pending = k.pending; level = k.level; tree = k.tree; is_expression = k.is_expression; offset_is = k.offset_is; height_is = k.height_is; all = k.made; more_is = k.more_is; stands = k.stands }

-- if the reader is stopped, the obstacle is one by the grammar too
obstacle_told : (why : Obstacle) (u y : List Token) (t : Token) → contract (u ++ t ∷ y) ≡ (Err why, t ∷ y) → IsObstacle why u t
obstacle_told Unfit u y t e = (before_fits u y t Unfit e refl, not_allowed u y t Unfit e false false false false (λ x. x))
obstacle_told Surplus u y t e = let k = limit_told u y t Surplus e refl in (k.0, k.1, not_allowed u y t Surplus e false false false true (λ x. x))
obstacle_told Pending u y t e = let k = limit_told u y t Pending e refl in (k.0, k.1, not_allowed u y t Pending e true false false false (λ x. x))
obstacle_told Nesting u y t e = let k = limit_told u y t Nesting e refl in (k.0, k.1, not_allowed u y t Nesting e false true false false (λ x. x))
obstacle_told (Height at) u y t e = (too_high u y t at e, not_allowed u y t (Height at) e false false true false (λ x. x))

-- if the reader is stopped, it reports the first fault
pub refused : (why : Obstacle) (u y : List Token) (t : Token) → contract (u ++ t ∷ y) ≡ (Err why, t ∷ y) → IsFault why u t
refused why u y t e = (obstacle_told why u y t e, keeps_limits u y t why e)

-- the tokens of a source can be written, and the last of them is the end
pub record IsEnded (ts : List Token) : Type 0 where
  pub before : List Token
  pub end : Token
  pub tokens_are : ts ≡ before ++ end ∷ []
  pub ends : is_end end ≡ true
  pub words : AreWritable before

-- no other token is the end
only_end : {ts : List Token} → IsEnded ts → (u y : List Token) (t : Token) → ts ≡ u ++ t ∷ y → is_end t ≡ true → y ≡ []
only_end i u y t path h =
    let same : i.before ++ i.end ∷ [] ≡ u ++ t ∷ y = sym i.tokens_are ∙ path in
    elim (two_splits i.before u [] y i.end t same) [
      | inl k ↦ sym k.2
      | inr k ↦ elim k [
        | inl j ↦ absurd (omega (arith, ap length same, length-append i.before (i.end ∷ []), length-append u (t ∷ y), ap length j.1, length-append i.before (i.end ∷ j.0)))
        | inr j ↦ absurd (no_false (written_no_end t (word_here u j.0 t (subst (λ v. AreWritable v) j.1 i.words))) h)
      ]
    ]

has_end_after : (u : List Token) (t : Token) → is_end t ≡ true → has_end (u ++ t ∷ []) ≡ true
has_end_after [] t h = grind arith
has_end_after (s ∷ u) t h = let k = has_end_after u t h in grind arith

has_end_here : {ts : List Token} → IsEnded ts → has_end ts ≡ true
has_end_here i = ap has_end i.tokens_are ∙ has_end_after i.before i.end i.ends

no_end_is : (t : Token) → is_no_end t ≡ false → is_end t ≡ true
no_end_is t h = grind arith

functions_end : (r : Read FunctionTree) (rest : List Token) (all : List FunctionTree) → next (λ f. each is_no_end (λ n. function) (f ∷ [])) r ≡ (Ok all, rest) → head_is is_no_end rest ≡ false
functions_end (Ok f, mid) rest all e = turns_end is_no_end (put (λ n. function)) (f ∷ []) mid rest all e
functions_end (Err why, mid) rest all e = absurd (no_ok e)

contract_end : (ts rest : List Token) (all : List FunctionTree) → contract ts ≡ (Ok all, rest) → head_is is_no_end rest ≡ false
unfolding contract
contract_end ts rest all e = functions_end (function ts) rest all e

-- what is read, then the end
pub record IsRead (ts : List Token) (all : List FunctionTree) : Type 0 where
  pub before : List Token
  pub end : Token
  pub tokens_are : ts ≡ before ++ end ∷ []
  pub ends : is_end end ≡ true
  pub is_contract : IsContract limits before all

read_by : {ts : List Token} (all : List FunctionTree) → IsEnded ts → (prefix rest : List Token) → ts ≡ prefix ++ rest → IsContract limits prefix all → has_end rest ≡ true → head_is is_no_end rest ≡ false → IsRead ts all
read_by all i prefix [] path c h n = absurd (no_false refl h)
read_by all i prefix (t ∷ rest) path c h n =
    let ends : is_end t ≡ true = no_end_is t n in
    record { before = prefix; end = t; tokens_are = path ∙ ap (λ v. prefix ++ t ∷ v) (only_end i prefix rest t path ends); ends = ends; is_contract = c }

pub accepted : {ts : List Token} → IsEnded ts → (rest : List Token) (all : List FunctionTree) → contract ts ≡ (Ok all, rest) → IsRead ts all
accepted {ts} i rest all e =
    let k = (rule true true true true).takes ts rest all e in
    let stays : has_end rest ≡ true = ap (λ r. has_end r.1) (sym e) ∙ (rule true true true true).stays ts (has_end_here i) in
    read_by all i k.0 rest k.1 k.2 stays (contract_end ts rest all e)

none_excused : (why : Obstacle) → Excused true true true true why → ⊥
none_excused Unfit x = x
none_excused Surplus x = x
none_excused Pending x = x
none_excused Nesting x = x
none_excused (Height at) x = x

-- what the grammar has within the limits is read
pub complete : (u y : List Token) (t : Token) (all : List FunctionTree) → is_end t ≡ true → IsContract limits u all → contract (u ++ t ∷ y) ≡ (Ok all, t ∷ y)
complete u y t all ends i =
    elim ((rule true true true true).again u (t ∷ y) all i ends) [
      | inl h ↦ h
      | inr h ↦ absurd (none_excused h.0 h.3)
    ]

-- if a reader was stopped, there is a next token
pub record IsStopped (ts rest : List Token) : Type 0 where
  pub before : List Token
  pub token : Token
  pub after : List Token
  pub tokens_are : ts ≡ before ++ token ∷ after
  pub rest_is : rest ≡ token ∷ after

stopped_by : {ts : List Token} (used rest : List Token) → ts ≡ used ++ rest → has_end rest ≡ true → IsStopped ts rest
stopped_by used [] path h = absurd (no_false refl h)
stopped_by used (t ∷ rest) path h = record { before = used; token = t; after = rest; tokens_are = path; rest_is = refl }

pub stopped : {ts : List Token} → IsEnded ts → (rest : List Token) (why : Obstacle) → contract ts ≡ (Err why, rest) → IsStopped ts rest
stopped {ts} i rest why e =
    let k = (rule true true true true).leaves ts rest why e in
    let stays : has_end rest ≡ true = ap (λ r. has_end r.1) (sym e) ∙ (rule true true true true).stays ts (has_end_here i) in
    stopped_by k.0 rest k.1 stays
