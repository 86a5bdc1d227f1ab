use Rattle.std.proofs.Common.{◌≡◌, ◌++◌, take}
use Rattle.contract_tokens.specs.Lexemes.{literal_body}
use Rattle.contract_print.proofs.writer.put_text.Given as goal

abbrev pub invariant-loop-byte : goal.invariant-loop-byte
invariant-loop-byte l = l.out.items ≡ l.fn.out.items ++ literal_body (take l.byte-index l.text)
