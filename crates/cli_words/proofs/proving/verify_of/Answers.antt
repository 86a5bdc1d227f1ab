use Rattle.std.proofs.Common.{◌≡◌, ℕ, List, [], ◌∷◌, map, arith, subst, refl, sym}
use Rattle.std.proofs.lemmas.Grind.{common_steps}
use Rattle.std.specs.Prelude.{codes, string_bytes}
use Rattle.cli_words.specs.Words.{IsVerify}
use Rattle.cli_words.proofs.OneCommand.{OfVersion, OfAncestors, OfBetween}
use Rattle.cli_words.proofs.Forms.{verified}
use Rattle.cli_words.proofs.proving.verify_of.Goals as goal

pub returns-in-len5 : goal.returns-in-len5
returns-in-len5 c =
    let words : map string_bytes c.args.words.now ≡ codes "verify"
    ∷ c.as_str-in-len5-4.result.now ∷ c.as_str-in-len5.result.now ∷ c.as_str-in-len5-2.result.now ∷ c.as_str-in-len5-3.result.now ∷ [] =
    grind (arith, common_steps) in
    subst (λ (ws : List (List ℕ)). IsVerify ws c.verify_under.result) (sym words)
    (verified OfVersion c.as_str-in-len5-4.result.now (c.as_str-in-len5.result.now ∷ c.as_str-in-len5-2.result.now ∷ c.as_str-in-len5-3.result.now ∷ []) refl
    _ c.verify_under.result c.version_of-question.ensures c.verify_under.ensures)

pub returns-in-len5-2 : goal.returns-in-len5-2
returns-in-len5-2 c =
    let form = c.if-is_form.ensures.0 refl in
    let words : map string_bytes c.args.words.now ≡ codes "trace" ∷ codes "verify"
    ∷ c.as_str-in-len5-2-2.result.now ∷ c.as_str-in-len5-2-3.result.now ∷ c.as_str-in-len5-2-4.result.now ∷ [] =
    grind (arith, common_steps) in
    subst (λ (ws : List (List ℕ)). IsVerify ws c.verify_under-in-len5-2.result) (sym words)
    (verified OfAncestors c.as_str-in-len5-2-2.result.now (c.as_str-in-len5-2-3.result.now ∷ c.as_str-in-len5-2-4.result.now ∷ []) refl
    _ c.verify_under-in-len5-2.result c.ancestors_of.ensures c.verify_under-in-len5-2.ensures)

pub returns-in-len6 : goal.returns-in-len6
returns-in-len6 c =
    let form = c.if-is_form-2.ensures.0 refl in
    let words : map string_bytes c.args.words.now ≡ codes "range" ∷ codes "verify"
    ∷ c.as_str-in-len6-4.result.now ∷ c.as_str-in-len6.result.now ∷ c.as_str-in-len6-2.result.now ∷ c.as_str-in-len6-3.result.now ∷ [] =
    grind (arith, common_steps) in
    subst (λ (ws : List (List ℕ)). IsVerify ws c.verify_under-in-len6.result) (sym words)
    (verified OfBetween c.as_str-in-len6-4.result.now (c.as_str-in-len6.result.now ∷ c.as_str-in-len6-2.result.now ∷ c.as_str-in-len6-3.result.now ∷ []) refl
    _ c.verify_under-in-len6.result c.between_of-question.ensures c.verify_under-in-len6.ensures)
