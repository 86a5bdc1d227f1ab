-- There is only one right compiler: a source has an outcome, and no other.
use Rattle.std.proofs.Common.{◌≡◌, sym, ap, ◌∙◌}
use Rattle.contract_parse.proofs.Outcomes.{some_outcome, one_outcome}
use Rattle.chain_exec.specs.Compiled.{Compiler, IsCompiler, functions_of, compiled_in}

pub compiled_is : IsCompiler compiled_in
unfolding compiled_in
compiled_is edition source outcome is =
    let some = some_outcome edition source in
    ap functions_of (one_outcome edition source some.0 outcome some.1 is)

pub one_compiler : (compile : Compiler) → IsCompiler compile → compile ≡ compiled_in
one_compiler compile is =
    λ i edition source.
    (let some = some_outcome edition source in
    is edition source some.0 some.1 ∙ sym (compiled_is edition source some.0 some.1)) i
