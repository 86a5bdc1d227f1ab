-- What is printed by what reading a light file returned.
use Rattle.std.proofs.Common.{◌≡◌, ℕ, List, Option, Some, None, Result, Ok, Err, sym, ap, ◌∙◌}
use Rattle.std.proofs.Common.{subst}
use Rattle.std.specs.Prelude.{codes, IfOk, IfSome}
use Rattle.lc_io.specs.Disk.{DiskState}
use Rattle.lc_io.specs.Outside.{Tell}
use Rattle.block_log.specs.Standing.{NextBlock}
use Rattle.cli_output.specs.light_client.Format.{light_in}
use Rattle.cli_output.specs.light_client.Reading.{IsLightAnswer, left_of_none}
use Rattle.cli_output.specs.light_client.declared.block_root.BlockRoot.{BlockRoot}
use Rattle.cli_output.specs.light_client.declared.error.LightError.{LightError}
use Rattle.cli_output.specs.light_client.declared.error.LightError.TheVariants as errors
use Rattle.cli_output.specs.cli_promises.declared.ending.RunStop.{RunStop}
use Rattle.cli_output.specs.cli_lines.Outcome.{bad_input}
use Rattle.cli_output.specs.cli_lines.declared.outcome.Ending.{Ending}
use Rattle.cli_output.specs.Frames.{framed}
use Rattle.cli_output.specs.Output.{checked_outcome, light_left, light_outcome}
use Rattle.cli_output.specs.Telling.{Says}

-- what reading returned, if it is known what was left
answered : (input : List ℕ) (before left : Option (List ℕ))
    (answer : Result (List BlockRoot) LightError) → before ≡ Some input
    → IfSome before (λ i. IsLightAnswer i answer left) → IsLightAnswer input answer left
answered input before left answer is all =
    subst (λ (o : Option (List ℕ)). IfSome o (λ i. IsLightAnswer i answer left)) is all

module _ {D : Type 0} (now : D → ℕ) (disk : D → ℕ → Option DiskState)
    (told : D → Option (List Tell)) (next : NextBlock) where
  -- the proofs that follow the file were checked
  pub read_says : (old new : D) (input : List ℕ) (file : List BlockRoot)
      (before left : Option (List ℕ)) (result : Result Ending RunStop) → before ≡ Some input
      → IfSome before (λ i. IsLightAnswer i (Ok file) left)
      → ((rest : List ℕ) → left ≡ Some rest
      → Says next now disk told old new (checked_outcome file (framed rest)) result)
      → Says next now disk told old new (light_outcome (light_in input)) result
  read_says old new input file before left result is all says =
      let a = answered input before left (Ok file) is all in
      subst (λ (o : Option (List BlockRoot × List ℕ)). Says next now disk told old new
      (light_outcome o) result) (sym a.1) (says a.0 a.2)

  -- there is no file
  pub none_says : (old new : D) (input : List ℕ) (before left : Option (List ℕ))
      (result : Result Ending RunStop) → before ≡ Some input
      → IfSome before (λ i. IsLightAnswer i (Err errors.Form) left)
      → Says next now disk told old new (bad_input (codes "light")) result
      → Says next now disk told old new (light_outcome (light_in input)) result
  none_says old new input before left result is all says =
      let a = answered input before left (Err errors.Form) is all in
      subst (λ (o : Option (List BlockRoot × List ℕ)). Says next now disk told old new
      (light_outcome o) result) (sym a.0) says

pub read_left : (input : List ℕ) (file : List BlockRoot) (before left after_it : Option (List ℕ))
    (result : Result Ending RunStop) → before ≡ Some input
    → IfSome before (λ i. IsLightAnswer i (Ok file) left)
    → ((rest : List ℕ) → left ≡ Some rest
    → IfOk result (λ ending. after_it ≡ Some (framed rest).left))
    → IfOk result (λ ending. after_it ≡ Some (light_left input (light_in input)))
read_left input file before left after_it result is all leaves =
    let a = answered input before left (Ok file) is all in
    subst (λ (o : Option (List BlockRoot × List ℕ)). IfOk result
    (λ ending. after_it ≡ Some (light_left input o))) (sym a.1) (leaves a.0 a.2)

pub none_left : (input : List ℕ) (before left : Option (List ℕ)) → before ≡ Some input
    → IfSome before (λ i. IsLightAnswer i (Err errors.Form) left)
    → left ≡ Some (light_left input (light_in input))
none_left input before left is all =
    let a = answered input before left (Err errors.Form) is all in
    a.1 ∙ ap (λ (o : Option (List BlockRoot × List ℕ)). Some (light_left input o)) (sym a.0)
