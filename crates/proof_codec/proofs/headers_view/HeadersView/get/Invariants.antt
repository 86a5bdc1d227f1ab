use Rattle.std.proofs.Common.{◌≡◌, drop}
use Rattle.proof_codec.proofs.headers_view.HeadersView.get.Given as goal

abbrev pub invariant-loop : goal.invariant-loop
invariant-loop l = l.rest ≡ drop l.counter l.self
