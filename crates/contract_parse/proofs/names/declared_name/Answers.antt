use Rattle.contract_parse.proofs.names.declared_name.Goals as goal

pub returns : goal.returns
returns c = c.name.ensures.read
