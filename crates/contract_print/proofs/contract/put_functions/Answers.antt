use Rattle.contract_print.proofs.Lists.{functions_written}
use Rattle.contract_print.proofs.contract.put_functions.Goals as goal

pub returns-in_ok-put_function-in-len1-up : goal.returns-in_ok-put_function-in-len1-up
returns-in_ok-put_function-in-len1-up c = functions_written c.put_rest.result c.args.functions.now c.first-item.result c.args.out.now.items c.put_function.new.out.items c.put_rest.new.out.items c.in-len1-up.len_at_least c.first-item.is c.in_ok-put_function-in-len1-up.ensures c.put_rest.ensures
