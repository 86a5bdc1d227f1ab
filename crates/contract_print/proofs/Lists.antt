-- Texts of lists, as what is written for each item.
use Rattle.std.proofs.Common.{Result, Ok, Err, OnOk, ◌≡◌, ℕ, ◌-◌, ◌≤◌, length, take, drop, get_or, List, [], ◌∷◌, ◌++◌, map, codes, refl, sym, ap, ◌∙◌, append_assoc, arith}
use Rattle.std.proofs.lemmas.List.{take_rest, take_all}
use Rattle.std.specs.List.{flat_map}
use Rattle.contract_tree.specs.declared.tree.Expr.{Expr}
use Rattle.contract_tree.specs.declared.tree.Statement.{Statement}
use Rattle.contract_tree.specs.declared.tree.Function.{Function}
use Rattle.contract_tree.specs.Tree.{tree_of, trees, statement_of, statement_list, function_of}
use Rattle.contract_print.specs.Canonical.{expression_text, args_text, more_args_text, statement_text, statements_text, function_text, more_functions_text, contract_text, deeper}

pub after_is : (xs : List Expr) → more_args_text (trees (map tree_of xs)) ≡ flat_map (λ x. codes ", " ++ expression_text (tree_of x)) xs
after_is [] = refl
after_is (x ∷ xs) = ap (λ l. (codes ", " ++ expression_text (tree_of x)) ++ l) (after_is xs)

pub statements_are : (margin : List ℕ) (xs : List Statement) → statements_text margin (statement_list (map statement_of xs)) ≡ flat_map (λ x. statement_text margin (statement_of x)) xs
statements_are margin [] = refl
statements_are margin (x ∷ xs) = ap (λ l. statement_text margin (statement_of x) ++ l) (statements_are margin xs)

pub functions_are : (fs : List Function) → flat_map (λ f. codes "\n" ++ function_text f) (map function_of fs) ≡ flat_map (λ f. codes "\n" ++ function_text (function_of f)) fs
functions_are [] = refl
functions_are (f ∷ fs) = ap (λ l. (codes "\n" ++ function_text (function_of f)) ++ l) (functions_are fs)

-- an item after the first
abbrev pub After : Expr → List ℕ
After x = codes ", " ++ expression_text (tree_of x)

pub args_written : (args : List Expr) (first : Expr) (out mid after : List ℕ) (i : ℕ) → 1 ≤ length args → first ≡ get_or args 0 first → mid ≡ out ++ expression_text (tree_of first) → after ≡ mid ++ flat_map After (take i (take (length args - 1) (drop 1 args))) → length (take (length args - 1) (drop 1 args)) ≤ i → after ≡ out ++ args_text (trees (map tree_of args))
args_written [] first out mid after i some f e g h = absurd (omega arith)
args_written (y ∷ ys) first out mid after i some f e g h =
    let rest : take (length (y ∷ ys) - 1) (drop 1 (y ∷ ys)) ≡ ys = take_rest (y ∷ ys) 1 in
    let all : take i (take (length (y ∷ ys) - 1) (drop 1 (y ∷ ys))) ≡ ys = take_all i (take (length (y ∷ ys) - 1) (drop 1 (y ∷ ys))) h ∙ rest in
    let text : flat_map After (take i (take (length (y ∷ ys) - 1) (drop 1 (y ∷ ys)))) ≡ more_args_text (trees (map tree_of ys)) = ap (flat_map After) all ∙ sym (after_is ys) in
    let start : mid ≡ out ++ expression_text (tree_of y) = e ∙ ap (λ x. out ++ expression_text (tree_of x)) f in
    g ∙ ap (λ l. l ++ flat_map After (take i (take (length (y ∷ ys) - 1) (drop 1 (y ∷ ys))))) start ∙ ap (λ l. (out ++ expression_text (tree_of y)) ++ l) text ∙ append_assoc out (expression_text (tree_of y)) (more_args_text (trees (map tree_of ys)))

pub body_written : (margin start inner : List ℕ) (body : List Statement) (out after : List ℕ) (i : ℕ) → start ≡ margin → inner ≡ start ++ codes "  " → after ≡ out ++ flat_map (λ x. statement_text inner (statement_of x)) (take i body) → length body ≤ i → after ≡ out ++ statements_text (deeper margin) (statement_list (map statement_of body))
body_written margin start inner body out after i e f g h =
    let same : inner ≡ deeper margin = f ∙ ap (λ l. l ++ codes "  ") e in
    g ∙ ap (λ l. out ++ flat_map (λ x. statement_text inner (statement_of x)) l) (take_all i body h) ∙ ap (λ m. out ++ flat_map (λ x. statement_text m (statement_of x)) body) same ∙ ap (λ l. out ++ l) (sym (statements_are (deeper margin) body))

on_ok : {T F : Type 0} (r : Result T F) {P Q : Type 0} → (P → Q) → OnOk r P → OnOk r Q
on_ok (Ok value) f h = f h
on_ok (Err fault) f h = tt

functions_all : (fs : List Function) (first : Function) (out mid after : List ℕ) → 1 ≤ length fs → first ≡ get_or fs 0 first → mid ≡ out ++ function_text (function_of first) → after ≡ mid ++ flat_map (λ f. codes "\n" ++ function_text (function_of f)) (take (length fs - 1) (drop 1 fs)) → after ≡ out ++ contract_text (map function_of fs)
functions_all [] first out mid after some f e g = absurd (omega arith)
functions_all (y ∷ ys) first out mid after some f e g =
    let next = λ (l : List Function). flat_map (λ f. codes "\n" ++ function_text (function_of f)) l in
    let rest : take (length (y ∷ ys) - 1) (drop 1 (y ∷ ys)) ≡ ys = take_rest (y ∷ ys) 1 in
    let text : next (take (length (y ∷ ys) - 1) (drop 1 (y ∷ ys))) ≡ more_functions_text (map function_of ys) = ap next rest ∙ sym (functions_are ys) in
    let start : mid ≡ out ++ function_text (function_of y) = e ∙ ap (λ x. out ++ function_text (function_of x)) f in
    g ∙ ap (λ l. l ++ next (take (length (y ∷ ys) - 1) (drop 1 (y ∷ ys)))) start ∙ ap (λ l. (out ++ function_text (function_of y)) ++ l) text ∙ append_assoc out (function_text (function_of y)) (more_functions_text (map function_of ys))

pub functions_written : {T F : Type 0} (r : Result T F) (fs : List Function) (first : Function) (out mid after : List ℕ) → 1 ≤ length fs → first ≡ get_or fs 0 first → mid ≡ out ++ function_text (function_of first) → OnOk r (after ≡ mid ++ flat_map (λ f. codes "\n" ++ function_text (function_of f)) (take (length fs - 1) (drop 1 fs))) → OnOk r (after ≡ out ++ contract_text (map function_of fs))
functions_written r fs first out mid after some f e h = on_ok r (functions_all fs first out mid after some f e) h
