use Rattle.std.proofs.Common.{◌≡◌, sym, ap, ◌∙◌, subst}
use Rattle.std.specs.Prelude.{IfOk, IfSome, Err}
use Rattle.contract_parse.specs.Syntax.{fault_of}
use Rattle.std.specs.Option.{option_map}
use Rattle.contract_tree.specs.Tree.{contract_of}
use Rattle.chain_exec.specs.Compiled.{functions_of}
use Rattle.chain_exec.proofs.Compilers.{compiled_is}
use Rattle.chain_exec.proofs.deploying.compile.Goals as goal

pub returns-in-Ok : goal.returns-in-Ok
returns-in-Ok c =
    let found = c.in-Ok.ensures.outcome in
    let is = compiled_is c.args.edition c.args.source.now found.0 found.1 ∙ ap functions_of found.2 in
    subst (λ wanted. IfOk c.faultless.result (λ code. option_map contract_of code ≡ wanted)) (sym is) c.faultless.ensures

pub returns-in-Err-Refused : goal.returns-in-Err-Refused
returns-in-Err-Refused c =
    let found = c.in-Err-Refused.ensures.outcome in
    let told = subst (λ error. IfSome (fault_of error) (λ fault. found.0 ≡ Err fault)) c.in-Err-Refused.field-0-is found.2 in
    sym (compiled_is c.args.edition c.args.source.now found.0 found.1 ∙ ap functions_of told)
