-- Accepted proofs answer as replays do, as replayed chains are typed ledgers.
use Rattle.std.proofs.Common.{◌≡◌, ◌≢◌, ◌⊎◌, inl, inr, ℕ, ◌<◌, ◌^◌, List, length, map, refl, sym, ◌∙◌, arith}
use Rattle.std.specs.Prelude.{Option, Some, None, IsSomeAnd}
use Rattle.std.proofs.lemmas.List.{length-map}
use Rattle.lc_base.specs.declared.answer.Answer.{Answer}
use Rattle.lc_base.specs.declared.answer.Answer.TheVariants.{Nothing}
use Rattle.merkle_tree.specs.Clash.{Clash}
use Rattle.block_codec.specs.Placement.{digest_of}
use Rattle.chain_input.specs.chain_exec.Replay.{replay}
use Rattle.text_clashes.proofs.proof_checks.Sound.{accepted_is_sound}
use Rattle.text_clashes.specs.proof_checks.ProofTexts.{proof_texts}
use Rattle.text_clashes.specs.FirstClash.{IsFirstAt, IsFirstClash}
use Rattle.replay_soundness.proofs.TypedChains.{replays_are_typed}
use Rattle.replay_soundness.specs.Soundness.{replayed_answer, AcceptedProofsAnswerAsReplays, AcceptedProofsAnswerAsLogs, AcceptedAnswersAgree, NothingAndSomethingClash, ChainsWithOneRootAnswerAlike, WrongAnswersAreExposed, replayed_texts}
use Rattle.replay_soundness.proofs.Logs.{logs_hold_chains}

pub accepted_proofs_answer_as_replays : AcceptedProofsAnswerAsReplays
accepted_proofs_answer_as_replays root query proof answer is compile blocks block has =
    let typed = replays_are_typed compile blocks (has.right, has.chain) in
    let few : length (map digest_of blocks) < 2 ^ 32 = typed.few in
    let fits : block < 2 ^ 32 = omega (arith, has.within, few, length-map blocks digest_of) in
    accepted_is_sound root query proof answer is.lawful is.accepted (replay compile blocks).rows (map digest_of blocks) block typed.history fits has.root_is

pub accepted_proofs_answer_as_logs : AcceptedProofsAnswerAsLogs
accepted_proofs_answer_as_logs read compile image logged block query proof answer decodes right fits stands within is =
    accepted_proofs_answer_as_replays _ query proof answer is compile logged.blocks block
    (record { right = right; chain = (logs_hold_chains read compile image logged decodes fits stands).0; within = within; root_is = refl })

-- ---- two of them

two_agree : {A B : Type 0} (x y z : Answer) → (x ≡ z) ⊎ A → (y ≡ z) ⊎ B → (x ≡ y) ⊎ (A ⊎ B)
two_agree x y z (inr clash) b = inr (inl clash)
two_agree x y z (inl is) (inr clash) = inr (inr clash)
two_agree x y z (inl is) (inl other) = inl (is ∙ sym other)

pub accepted_answers_agree : AcceptedAnswersAgree
accepted_answers_agree compile blocks block root query a b x y has is_a is_b =
    two_agree x y (replayed_answer compile blocks block query)
    (accepted_proofs_answer_as_replays root query a x is_a compile blocks block has)
    (accepted_proofs_answer_as_replays root query b y is_b compile blocks block has)

clash_of : {A : Type 0} (x y : Answer) → x ≢ y → (x ≡ y) ⊎ A → A
clash_of x y other (inl same) = absurd (other same)
clash_of x y other (inr clash) = clash

pub nothing_and_something_clash : NothingAndSomethingClash
nothing_and_something_clash compile blocks block root query a b something has none some other =
    clash_of Nothing something (λ same. other (sym same)) (accepted_answers_agree compile blocks block root query a b Nothing something has none some)

one_answer : {A B : Type 0} (x y z : Answer) → (x ≡ y) ⊎ A → (x ≡ z) ⊎ B → (y ≡ z) ⊎ (A ⊎ B)
one_answer x y z (inr clash) b = inr (inl clash)
one_answer x y z (inl is) (inr clash) = inr (inr clash)
one_answer x y z (inl is) (inl other) = inl (sym is ∙ other)

pub chains_with_one_root_answer_alike : ChainsWithOneRootAnswerAlike
chains_with_one_root_answer_alike compile blocks others block other root query proof answer has has_other is =
    one_answer answer (replayed_answer compile blocks block query) (replayed_answer compile others other query)
    (accepted_proofs_answer_as_replays root query proof answer is compile blocks block has)
    (accepted_proofs_answer_as_replays root query proof answer is compile others other has_other)

-- ---- a wrong answer

first_of : (given own : List (List ℕ)) (found : Option (ℕ × ℕ)) → Clash given own → IsFirstClash given own found → IsSomeAnd found (IsFirstAt given own)
first_of given own None clash none = absurd (none clash)
first_of given own (Some pair) clash first = first

pub wrong_answers_are_exposed : WrongAnswersAreExposed
wrong_answers_are_exposed compile blocks block root query proof answer found has is other first =
    first_of (proof_texts proof) (replayed_texts compile blocks block) found
    (clash_of answer (replayed_answer compile blocks block query) other (accepted_proofs_answer_as_replays root query proof answer is compile blocks block has)) first
