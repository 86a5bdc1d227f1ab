-- Statements that are false: laws of what a call depends on, each with one premise left out.
use Rattle.std.specs.Prelude.{drop}
use Rattle.contract_semantics.specs.Calls.{call_result}
use Rattle.contract_semantics.specs.Laws.{HoldAlike, InTwoScenes, AtOneSite, Both, ReadsHoldAlike}
use Rattle.contract_semantics.specs.Laws.{QuestionsAnswerAlike, KeysAreWrittenAlike, EndsAlike}

-- All keys that the call read, but the first one, hold the same.
abbrev pub ReadsButOneHoldAlike : InTwoScenes
ReadsButOneHoldAlike functions s t args = HoldAlike s t (drop 1 (call_result functions s args).capture.reads)

-- False: a call has the same result if only the first key that it read holds something else.
abbrev pub AllReadsButOneAreComplete : Type 0
AllReadsButOneAreComplete =
    AtOneSite (Both ReadsButOneHoldAlike (Both QuestionsAnswerAlike KeysAreWrittenAlike)) EndsAlike

-- False: a call has the same result if only the rows answer its questions differently.
abbrev pub QuestionsDoNotMatter : Type 0
QuestionsDoNotMatter = AtOneSite (Both ReadsHoldAlike KeysAreWrittenAlike) EndsAlike

-- False: a call has the same result if only the written keys among those that it met differ.
abbrev pub KeysMetDoNotMatter : Type 0
KeysMetDoNotMatter = AtOneSite (Both ReadsHoldAlike QuestionsAnswerAlike) EndsAlike
