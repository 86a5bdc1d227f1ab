use Rattle.std.proofs.Common.{◌≡◌, sym, subst}
use Rattle.std.specs.Prelude.{IfOk}
use Rattle.cli_words.specs.declared.question.Question.{Question}
use Rattle.cli_output.specs.Questions.{made_bytes}
use Rattle.cli_proofs.proofs.proving.proof_of.Goals as goal

pub returns-in-Ancestors-clause-made : goal.returns-in-Ancestors-clause-made
returns-in-Ancestors-clause-made g c held =
    subst (λ (question : Question). IfOk c.prove_trace.result (λ bytes. bytes
    ≡ made_bytes c.args.lineage.now.rows c.args.lineage.now.digests c.args.root_at question))
    (sym c.in-Ancestors.is) (c.prove_trace.ensures.proved held)

pub returns-in-Between-clause-made : goal.returns-in-Between-clause-made
returns-in-Between-clause-made g c held =
    subst (λ (question : Question). IfOk c.prove_range.result (λ bytes. bytes
    ≡ made_bytes c.args.lineage.now.rows c.args.lineage.now.digests c.args.root_at question))
    (sym c.in-Between.is) (c.prove_range.ensures.proved held)
