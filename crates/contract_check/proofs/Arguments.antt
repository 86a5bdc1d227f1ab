-- The loop over the arguments of a call finds what `expression_kinds` says.
use Rattle.std.proofs.Common.{◌≡◌, ℕ, ◌+◌, ◌<◌, List, [], ◌∷◌, ◌++◌, length, map, drop, get_or, Option, Some, None, Result, Ok, Err, sym, ap, refl, ◌∙◌, append_assoc, arith}
use Rattle.std.specs.Prelude.{slice_get}
use Rattle.std.specs.Option.{option_or}
use Rattle.std.proofs.lemmas.List.{drop_more, drop_all, length_push, append-nil}
use Rattle.contract_tree.specs.declared.tree.Expr.{Expr}
use Rattle.contract_tree.specs.declared.tree.ValueKind.{ValueKind}
use Rattle.contract_tree.specs.Tree.{tree_of, trees}
use Rattle.contract_check.proofs.Noting.{or_none}
use Rattle.contract_check.specs.declared.fault.Fault.{Fault}
use Rattle.contract_check.specs.declared.expression.KindAt.{KindAt}
use Rattle.contract_check.specs.Names.{Names}
use Rattle.contract_check.specs.Faults.{and_then, expression_kind, expression_kinds, wrong_argument, first_wrong_argument}

-- what was found for earlier arguments, then what is found for the rest
abbrev after_seen : List KindAt → Result (List KindAt) Fault → Result (List KindAt) Fault
after_seen seen rest = and_then rest (λ more. Ok (seen ++ more))

pub record IsSeen (names : Names) (args : List Expr) (params : List ValueKind) (i : ℕ) (wrong : Option ℕ) : Type 0 where
  pub seen : List KindAt
  pub counted : length seen ≡ i
  pub first : wrong ≡ first_wrong_argument seen params
  pub whole : expression_kinds names (trees (map tree_of args)) ≡ after_seen seen (expression_kinds names (trees (map tree_of (drop i args))))

none_seen : (rest : Result (List KindAt) Fault) → rest ≡ after_seen [] rest
none_seen (Ok kinds) = refl
none_seen (Err fault) = refl

pub begun : (names : Names) (args : List Expr) (params : List ValueKind) → IsSeen names args params 0 None
begun names args params = record { seen = []; counted = refl; first = refl; whole = none_seen (expression_kinds names (trees (map tree_of args))) }

one_seen : (seen : List KindAt) (f : KindAt) (rest : Result (List KindAt) Fault) → after_seen seen (and_then rest (λ kinds. Ok (f ∷ kinds))) ≡ after_seen (seen ++ f ∷ []) rest
one_seen seen f (Ok kinds) = ap Ok (simp append_assoc)
one_seen seen f (Err fault) = refl

or_assoc : (a b c : Option ℕ) → option_or a (option_or b c) ≡ option_or (option_or a b) c
or_assoc None b c = refl
or_assoc (Some n) b c = refl

wrong_with : (seen : List KindAt) (params : List ValueKind) (f : KindAt) → first_wrong_argument (seen ++ f ∷ []) params ≡ option_or (first_wrong_argument seen params) (wrong_argument (slice_get params (length seen)) f)
wrong_with [] [] f = refl
wrong_with [] (kind ∷ kinds) f = or_none (wrong_argument (Some kind) f)
wrong_with (g ∷ seen) [] f = refl
wrong_with (g ∷ seen) (kind ∷ kinds) f =
    ap (option_or (wrong_argument (Some kind) g)) (wrong_with seen kinds f) ∙ or_assoc (wrong_argument (Some kind) g) (first_wrong_argument seen kinds) (wrong_argument (slice_get kinds (length seen)) f)

-- the first argument of those left
split : (names : Names) (args : List Expr) (i : ℕ) (arg : Expr) → i < length args → arg ≡ get_or args i arg
    → expression_kinds names (trees (map tree_of (drop i args))) ≡ and_then (expression_kind names (tree_of arg)) (λ kind. and_then (expression_kinds names (trees (map tree_of (drop (i + 1) args)))) (λ kinds. Ok (kind ∷ kinds)))
split names args i arg inside is =
    let split_off : drop i args ≡ arg ∷ drop (i + 1) args = drop_more args i arg inside ∙ ap (λ a. a ∷ drop (i + 1) args) (sym is) in
    ap (λ l. expression_kinds names (trees (map tree_of l))) split_off

pub turn : (names : Names) (args : List Expr) (params : List ValueKind) (i : ℕ) (wrong : Option ℕ) (arg : Expr) (f : KindAt) → IsSeen names args params i wrong
    → i < length args → arg ≡ get_or args i arg → expression_kind names (tree_of arg) ≡ Ok f → IsSeen names args params (i + 1) (option_or wrong (wrong_argument (slice_get params i) f))
turn names args params i wrong arg f s inside is e =
    let rest = expression_kinds names (trees (map tree_of (drop (i + 1) args))) in
    record {
      seen = s.seen ++ f ∷ [];
      counted = length_push s.seen f ∙ ap (λ n. n + 1) s.counted;
      first = ap (λ w. option_or w (wrong_argument (slice_get params i) f)) s.first ∙ ap (λ n. option_or (first_wrong_argument s.seen params) (wrong_argument (slice_get params n) f)) (sym s.counted) ∙ sym (wrong_with s.seen params f);
      whole = s.whole ∙ ap (after_seen s.seen) (split names args i arg inside is ∙ ap (λ r. and_then r (λ kind. and_then rest (λ kinds. Ok (kind ∷ kinds)))) e) ∙ one_seen s.seen f rest;
    }

pub failed : (names : Names) (args : List Expr) (params : List ValueKind) (i : ℕ) (wrong : Option ℕ) (arg : Expr) (fault : Fault) → IsSeen names args params i wrong
    → i < length args → arg ≡ get_or args i arg → expression_kind names (tree_of arg) ≡ Err fault → expression_kinds names (trees (map tree_of args)) ≡ Err fault
failed names args params i wrong arg fault s inside is e =
    let rest = expression_kinds names (trees (map tree_of (drop (i + 1) args))) in
    s.whole ∙ ap (after_seen s.seen) (split names args i arg inside is ∙ ap (λ r. and_then r (λ kind. and_then rest (λ kinds. Ok (kind ∷ kinds)))) e)

pub all_seen : (names : Names) (args : List Expr) (params : List ValueKind) (wrong : Option ℕ) → (s : IsSeen names args params (length args) wrong) → expression_kinds names (trees (map tree_of args)) ≡ Ok s.seen
all_seen names args params wrong s =
    s.whole ∙ ap (λ l. after_seen s.seen (expression_kinds names (trees (map tree_of l)))) (drop_all (length args) args (omega arith)) ∙ ap Ok (append-nil s.seen)
