use Rattle.std.proofs.Common.{subst}
use Rattle.cli_words.specs.Words.{IsFmt, IsPack, IsAlone, IsGenerationOf, IsScan, IsProve, IsVerify}
use Rattle.cli_words.specs.Words.{IsExpose, IsLight, IsAsk}
use Rattle.cli_words.proofs.Forms.{root_or_none}
use Rattle.cli_words.proofs.words.parse_command.Goals as goal

pub returns : goal.returns
returns c = root_or_none _ (subst (IsFmt _) c.in_default.is c.fmt_of.ensures)
    (subst (IsPack _) c.in_default-pack_of.is c.pack_of.ensures)
    (subst (IsAlone _) c.in_default-alone_of.is c.alone_of.ensures)
    (subst (IsGenerationOf _ _) c.in_default-generation_of.is c.generation_of.ensures)
    (subst (IsGenerationOf _ _) c.in_default-generation_of-2.is c.generation_of-2.ensures)
    (subst (IsScan _) c.in_default-scan_of.is c.scan_of.ensures)
    (subst (IsProve _) c.in_default-prove_of.is c.prove_of.ensures)
    (subst (IsVerify _) c.in_default-verify_of.is c.verify_of.ensures)
    (subst (IsExpose _) c.in_default-expose_of.is c.expose_of.ensures)
    (subst (IsLight _) c.in_default-light_of.is c.light_of.ensures)
    (subst (IsAsk _) c.in_default-ask_of.is c.ask_of.ensures)
    c.root_of.result c.root_of.ensures
