use Rattle.std.proofs.Common.{Some, subst}
use Rattle.text_clashes.specs.Searching.{IsFirstPair}
use Rattle.answer_exposing.proofs.exposing.found_by.Goals as goal

pub returns-in-None : goal.returns-in-None
returns-in-None c given own has =
    subst (IsFirstPair given own) c.in-None.is (c.in_ok-finish.ensures given own has)

pub returns-in-Some : goal.returns-in-Some
returns-in-Some c given own has =
    let first : IsFirstPair given own (Some (c.in-Some.proof_text, c.in-Some.chain_text)) =
    subst (IsFirstPair given own) c.in-Some.is (c.in_ok-finish.ensures given own has) in
    (first.0, first.1, (first.2, first.3))
