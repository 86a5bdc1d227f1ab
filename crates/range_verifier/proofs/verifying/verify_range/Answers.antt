use Rattle.std.proofs.Common.{◌≡◌, List, Result, Err, IfErr, refl}
use Rattle.lc_base.specs.Answers.{Answers}
use Rattle.lc_base.specs.declared.row.Version.{Version}
use Rattle.proof_verifier.specs.proof_checks.declared.range_reject.RangeReject.{RangeReject}
use Rattle.range_verifier.specs.declared.error.RangeError.{RangeError}
use Rattle.range_verifier.specs.declared.error.RangeError.TheVariants.{Rejected}
use Rattle.range_verifier.specs.Errors.{fault_told}
use Rattle.range_verifier.proofs.Verified.{read_on, read_of, read_sound}
use Rattle.range_verifier.proofs.Verified.{unread_on, unread_malformed}
use Rattle.range_verifier.proofs.verifying.verify_range.Goals as goal

-- What `spelled` and `exact` say of a result and a verdict.
abbrev Told : Result (List Version) RangeError → Result (List Version) RangeReject → Type 0
Told result verdict = Answers (λ versions. versions) fault_told result verdict

-- What `refused` and `exact_fault` say of them.
abbrev Refused : Result (List Version) RangeError → Result (List Version) RangeReject → Type 0
Refused result verdict = IfErr verdict (λ fault. result ≡ Err (Rejected fault))

abbrev rejected : RangeReject → Result (List Version) RangeError
rejected fault = Err (Rejected fault)

pub returns-in-Ok-clause-spelled : goal.returns-in-Ok-clause-spelled
returns-in-Ok-clause-spelled c =
    λ given is. read_of c.args.root.now.0 c.args.key.now c.args.from c.args.to c.args.bytes.now
    c.in-Ok.range given (Told c.judge_range.result) (c.in-Ok.ensures.only given is)
    c.judge_range.ensures.judged

pub returns-in-Ok-clause-refused : goal.returns-in-Ok-clause-refused
returns-in-Ok-clause-refused c =
    λ given is. read_of c.args.root.now.0 c.args.key.now c.args.from c.args.to c.args.bytes.now
    c.in-Ok.range given (Refused c.judge_range.result) (c.in-Ok.ensures.only given is)
    c.judge_range.ensures.refused

pub returns-in-Ok-clause-malformed : goal.returns-in-Ok-clause-malformed
returns-in-Ok-clause-malformed c = λ none. absurd (none c.in-Ok.range c.in-Ok.ensures.found)

pub returns-in-Ok-clause-sound : goal.returns-in-Ok-clause-sound
returns-in-Ok-clause-sound c =
    λ given is. read_sound c.args.root.now.0 c.args.key.now c.args.from c.args.to c.args.bytes.now
    given c.judge_range.result is.lawful
    (read_of c.args.root.now.0 c.args.key.now c.args.from c.args.to c.args.bytes.now
    c.in-Ok.range given (Told c.judge_range.result) (c.in-Ok.ensures.only given is)
    c.judge_range.ensures.judged)

pub returns-in-Ok-clause-exact : goal.returns-in-Ok-clause-exact
returns-in-Ok-clause-exact c =
    read_on c.args.root.now.0 c.args.key.now c.args.from c.args.to c.args.bytes.now
    c.in-Ok.range (Told c.judge_range.result) c.in-Ok.ensures.exact c.judge_range.ensures.judged

pub returns-in-Ok-clause-exact_fault : goal.returns-in-Ok-clause-exact_fault
returns-in-Ok-clause-exact_fault c =
    read_on c.args.root.now.0 c.args.key.now c.args.from c.args.to c.args.bytes.now
    c.in-Ok.range (Refused c.judge_range.result) c.in-Ok.ensures.exact c.judge_range.ensures.refused

pub returns-in-Err-clause-spelled : goal.returns-in-Err-clause-spelled
returns-in-Err-clause-spelled c =
    λ given is. absurd (let no = c.in-Err.ensures.only given is in cc)

pub returns-in-Err-clause-refused : goal.returns-in-Err-clause-refused
returns-in-Err-clause-refused c =
    λ given is. absurd (let no = c.in-Err.ensures.only given is in cc)

pub returns-in-Err-clause-malformed : goal.returns-in-Err-clause-malformed
returns-in-Err-clause-malformed c =
    λ none. unread_malformed _ c.in-Err.error c.fault_of_view.result c.fault_of_view.ensures
    c.in-Err.ensures.fault

pub returns-in-Err-clause-exact : goal.returns-in-Err-clause-exact
returns-in-Err-clause-exact c =
    unread_on c.args.root.now.0 c.args.key.now c.args.from c.args.to c.args.bytes.now
    c.in-Err.error c.fault_of_view.result (Told (rejected c.fault_of_view.result))
    c.fault_of_view.ensures c.in-Err.ensures.exact refl

pub returns-in-Err-clause-exact_fault : goal.returns-in-Err-clause-exact_fault
returns-in-Err-clause-exact_fault c =
    unread_on c.args.root.now.0 c.args.key.now c.args.from c.args.to c.args.bytes.now
    c.in-Err.error c.fault_of_view.result (Refused (rejected c.fault_of_view.result))
    c.fault_of_view.ensures c.in-Err.ensures.exact refl
