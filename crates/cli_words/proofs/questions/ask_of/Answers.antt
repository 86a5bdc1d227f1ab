use Rattle.std.proofs.Common.{◌≡◌, ℕ, List, [], ◌∷◌, None, map, arith, subst, refl, sym}
use Rattle.std.proofs.lemmas.Grind.{common_steps}
use Rattle.std.specs.Prelude.{codes, string_bytes}
use Rattle.cli_words.specs.Words.{IsAsk, IsNamedBy}
use Rattle.cli_words.proofs.Forms.{no_between}
use Rattle.cli_words.proofs.questions.ask_of.Goals as goal

pub returns-in-None-between_of : goal.returns-in-None-between_of
returns-in-None-between_of c =
    let first = c.if-is_text-2.ensures.0 refl in
    let words : map string_bytes c.args.words.now ≡ codes "range" ∷ c.as_str-in-len4.result.now
    ∷ c.as_str-in-len4-2.result.now ∷ c.as_str-in-len4-3.result.now ∷ [] =
    grind (arith, common_steps) in
    subst (λ (ws : List (List ℕ)). IsAsk ws None) (sym words)
    (no_between c.as_str-in-len4.result.now c.as_str-in-len4-2.result.now c.as_str-in-len4-3.result.now
    (subst (IsNamedBy _ _) c.in-None-between_of.is c.between_of.ensures))
