use Rattle.std.proofs.Common.{◌≡◌, ◌++◌, length, map}
use Rattle.prov_entry.specs.Spelling.{header_text}
use Rattle.text_clashes.proofs.lists.push_headers.Given as goal

abbrev pub invariant-loop-header : goal.invariant-loop-header
invariant-loop-header l = l.texts ++ map header_text l.headers ≡ l.fn.texts ++ map header_text l.fn.headers

abbrev pub decreases-loop-header : goal.decreases-loop-header
decreases-loop-header l = length l.headers
