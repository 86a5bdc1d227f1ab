-- The words of a question, and of a form with a verb, have one reading: what they are about, and
-- what the form has besides.
use Rattle.std.proofs.Common.{◌≡◌, ℕ, List, [], ◌∷◌, ◌++◌, Option, Some, None, refl, sym, ap}
use Rattle.std.proofs.Common.{◌∙◌, subst}
use Rattle.std.specs.Prelude.{codes, decimal}
use Rattle.hex.specs.Hex.{encode_lower}
use Rattle.lc_base.specs.declared.digest.Digest.{Digest}
use Rattle.cli_words.specs.declared.words.Command.{Command}
use Rattle.cli_words.specs.declared.words.Command.TheVariants.{Scan, Fmt, Pack, Gen, Load, Append}
use Rattle.cli_words.specs.declared.words.Command.TheVariants.{Follow, Upgrade, Root, Ask, Prove}
use Rattle.cli_words.specs.declared.words.Command.TheVariants.{Verify, Expose, MakeLight, Light}
use Rattle.cli_words.specs.declared.question.Question.{Question}
use Rattle.cli_words.specs.declared.question.Question.TheVariants.{Version, Ancestors, Between}
use Rattle.cli_words.specs.declared.question.Asked.TheVariants.{At, AtLast}
use Rattle.cli_words.specs.Words.{lead_words, subject_words, prove_words, verify_words}
use Rattle.cli_words.specs.Words.{command_words, CanBeGiven, IsNamedBy}
use Rattle.cli_words.specs.Words.{IsProveAt, IsProve, IsVerifyUnder, IsVerify, IsAsk, IsFmt, IsPack}
use Rattle.cli_words.specs.Words.{IsAlone, IsGenerationOf, IsScan, IsExpose, IsLight, IsRoot}
use Rattle.cli_words.specs.Words.{IsCommand}
use Rattle.std.proofs.lemmas.List.{same_from_push}
use Rattle.cli_words.proofs.OneCommand.{Lead, IsProveForm, IsVerifyForm, form_in, form_is}
use Rattle.cli_words.proofs.OneCommand.{lead_of, lead_of_kind, after_form}

-- ---- prove

-- What the words of a form name.
abbrev IsProveNamed : List (List ℕ) → List (List ℕ) → List ℕ → Question → ℕ → Type 0
IsProveNamed lead subject text question root_at =
    (lead ≡ lead_words question) × (subject ≡ subject_words question) × (text ≡ decimal root_at)

abbrev proof_form : List (List ℕ) → List (List ℕ) → List ℕ → List (List ℕ)
proof_form lead subject text = (lead ++ codes "prove" ∷ [] ++ subject) ++ text ∷ []

proof_spelled : (lead subject : List (List ℕ)) (text : List ℕ) (question : Question) (root_at : ℕ)
    → IsProveNamed lead subject text question root_at
    → proof_form lead subject text ≡ prove_words question root_at
proof_spelled lead subject text question root_at named =
    ap (λ (l : List (List ℕ)). proof_form l subject text) named.0
    ∙ ap (λ (s : List (List ℕ)). proof_form (lead_words question) s text) named.1
    ∙ ap (λ (t : List ℕ). proof_form (lead_words question) (subject_words question) t) named.2

module _ (kind : Lead) (subject : List (List ℕ)) (text : List ℕ)
    (form : form_in (proof_form (lead_of_kind kind) subject text) ≡ IsProveForm kind) where
  -- They name nothing else.
  proof_read : (question : Question) (root_at : ℕ)
      → proof_form (lead_of_kind kind) subject text ≡ prove_words question root_at
      → IsProveNamed (lead_of_kind kind) subject text question root_at
  proof_read question root_at same =
      let forms : IsProveForm kind ≡ IsProveForm (lead_of question) =
      sym form ∙ ap form_in same ∙ form_is (Prove question root_at) in
      let kinds : kind ≡ lead_of question = cc forms in
      let word : List (List ℕ) = codes "prove" ∷ [] in
      let parts = same_from_push ((lead_of_kind kind ++ word) ++ subject)
      ((lead_words question ++ word) ++ subject_words question) text (decimal root_at) same in
      let rest = after_form kind question word word subject (subject_words question) kinds parts.0 in
      let forms = rest.1 in let subjects : subject ≡ subject_words question = cc in
      (rest.0, subjects, parts.1)

  -- So they are that command, if they are one.
  pub proved : (question : Option Question) (command : Option Command)
      → IsNamedBy (lead_of_kind kind) subject question → IsProveAt question text command
      → IsProve (proof_form (lead_of_kind kind) subject text) command
  proved (Some question) (Some command) named is =
      subst (λ (c : Command). CanBeGiven c
      × (proof_form (lead_of_kind kind) subject text ≡ command_words c)) (sym is.3) (
        (named.0, is.1),
        proof_spelled (lead_of_kind kind) subject text question is.0
            (named.1, named.2, is.2),
      )
  proved (Some question) None named is = λ other root_at can fits same.
      is root_at fits (proof_read other root_at same).2
  proved None command named is = subst (IsProve (proof_form (lead_of_kind kind) subject text))
      (sym is) (λ other root_at can fits same.
      let read = proof_read other root_at same in named other can read.0 read.1)

-- ---- verify

-- What the words of a form name.
abbrev IsVerifyNamed : List (List ℕ) → List ℕ → List (List ℕ) → Digest → Question → Type 0
IsVerifyNamed lead text subject root question = (lead ≡ lead_words question)
    × (text ≡ encode_lower root.0) × (subject ≡ subject_words question)

abbrev check_form : List (List ℕ) → List ℕ → List (List ℕ) → List (List ℕ)
check_form lead text subject = lead ++ codes "verify" ∷ (text ∷ []) ++ subject

check_spelled : (lead : List (List ℕ)) (text : List ℕ) (subject : List (List ℕ)) (root : Digest)
    (question : Question) → IsVerifyNamed lead text subject root question
    → check_form lead text subject ≡ verify_words root question
check_spelled lead text subject root question named =
    ap (λ (l : List (List ℕ)). check_form l text subject) named.0
    ∙ ap (λ (t : List ℕ). check_form (lead_words question) t subject) named.1
    ∙ ap (λ (s : List (List ℕ)). check_form (lead_words question) (encode_lower root.0) s) named.2

module _ (kind : Lead) (text : List ℕ) (subject : List (List ℕ))
    (form : form_in (check_form (lead_of_kind kind) text subject) ≡ IsVerifyForm kind) where
  -- They name nothing else.
  check_read : (root : Digest) (question : Question)
      → check_form (lead_of_kind kind) text subject ≡ verify_words root question
      → IsVerifyNamed (lead_of_kind kind) text subject root question
  check_read root question same =
      let forms : IsVerifyForm kind ≡ IsVerifyForm (lead_of question) =
      sym form ∙ ap form_in same ∙ form_is (Verify root question) in
      let kinds : kind ≡ lead_of question = cc forms in
      let rest = after_form kind question (codes "verify" ∷ text ∷ [])
      (codes "verify" ∷ encode_lower root.0 ∷ []) subject (subject_words question) kinds same in
      let parts = rest.1 in let roots : text ≡ encode_lower root.0 = cc in
      let subjects : subject ≡ subject_words question = cc in (rest.0, roots, subjects)

  -- So they are that command, if they are one.
  pub verified : (question : Option Question) (command : Option Command)
      → IsNamedBy (lead_of_kind kind) subject question → IsVerifyUnder text question command
      → IsVerify (check_form (lead_of_kind kind) text subject) command
  verified (Some question) (Some command) named is =
      subst (λ (c : Command). CanBeGiven c
      × (check_form (lead_of_kind kind) text subject ≡ command_words c)) (sym is.3) (
        (is.1, named.0),
        check_spelled (lead_of_kind kind) text subject is.0 question
            (named.1, is.2, named.2),
      )
  verified (Some question) None named is = λ root other given can same.
      is root given (check_read root other same).1
  verified None command named is = subst (IsVerify (check_form (lead_of_kind kind) text subject))
      (sym is) (λ root other given can same.
      let read = check_read root other same in named other can read.0 read.2)

-- ---- what is asked of the log

pub no_between : (key from to : List ℕ)
    → IsNamedBy (codes "range" ∷ []) (key ∷ from ∷ to ∷ []) None
    → IsAsk (codes "range" ∷ key ∷ from ∷ to ∷ []) None
no_between key from to none (At (Version query)) can same = absurd cc
no_between key from to none (At (Ancestors other at)) can same = absurd cc
no_between key from to none (At (Between other low high)) can same =
    none (Between other low high) can refl cc
no_between key from to none (AtLast kind other) can same = absurd cc

-- ---- all commands

no_command : (words : List (List ℕ)) → IsFmt words None → IsPack words None → IsAlone words None
    → IsGenerationOf (codes "gen") words None → IsGenerationOf (codes "load") words None
    → IsScan words None → IsProve words None → IsVerify words None → IsExpose words None
    → IsLight words None → IsAsk words None → IsRoot words None → (command : Command)
    → CanBeGiven command → words ≡ command_words command → ⊥
no_command words fmt pack alone gen load scan prove verify expose light ask root (Scan query) can
    same = scan query can same
no_command words fmt pack alone gen load scan prove verify expose light ask root (Fmt edition) can
    same = fmt edition same
no_command words fmt pack alone gen load scan prove verify expose light ask root (Pack version) can
    same = pack version same
no_command words fmt pack alone gen load scan prove verify expose light ask root (Gen blocks) can
    same = gen blocks can same
no_command words fmt pack alone gen load scan prove verify expose light ask root (Load blocks) can
    same = load blocks can same
no_command words fmt pack alone gen load scan prove verify expose light ask root Append can same =
    alone.0 same
no_command words fmt pack alone gen load scan prove verify expose light ask root Follow can same =
    alone.1 same
no_command words fmt pack alone gen load scan prove verify expose light ask root Upgrade can same =
    alone.2 same
no_command words fmt pack alone gen load scan prove verify expose light ask root (Root at) can same =
    root at can same
no_command words fmt pack alone gen load scan prove verify expose light ask root (Ask asked) can
    same = ask asked can same
no_command words fmt pack alone gen load scan prove verify expose light ask root
    (Prove question root_at) can same = prove question root_at can.0 can.1 same
no_command words fmt pack alone gen load scan prove verify expose light ask root
    (Verify given question) can same = verify given question can.0 can.1 same
no_command words fmt pack alone gen load scan prove verify expose light ask root
    (Expose given query root_at) can same = expose given query root_at can.0 can.1 can.2 same
no_command words fmt pack alone gen load scan prove verify expose light ask root MakeLight can same =
    light.0 same
no_command words fmt pack alone gen load scan prove verify expose light ask root Light can same =
    light.1 same

pub root_or_none : (words : List (List ℕ)) → IsFmt words None → IsPack words None
    → IsAlone words None → IsGenerationOf (codes "gen") words None
    → IsGenerationOf (codes "load") words None → IsScan words None → IsProve words None
    → IsVerify words None → IsExpose words None → IsLight words None → IsAsk words None
    → (found : Option Command) → IsRoot words found → IsCommand words found
root_or_none words fmt pack alone gen load scan prove verify expose light ask (Some command) is = is
root_or_none words fmt pack alone gen load scan prove verify expose light ask None root =
    no_command words fmt pack alone gen load scan prove verify expose light ask root
