use Rattle.std.proofs.Common.{◌≡◌, ◌≤◌, ℕ, List, [], ◌∷◌, drop, slice_get}
use Rattle.std.proofs.Common.{Option, Some, None, MatchOption, sym, arith}
use Rattle.std.specs.Option.{option_map}
use Rattle.entry_views.specs.Placed.{Placed}
use Rattle.entry_views.specs.prov_entry.declared.entry.Header.{Header}
use Rattle.entry_views.proofs.Indexed.{drop_one, none_there, next_is}
use Rattle.proof_codec.proofs.headers_view.HeadersView.get.Goals as goal

-- the header that is next after n of them
next_header : (next : Option (Placed Header)) (n i : ℕ) (all rest after : List Header)
    → i ≤ n → n ≤ i → rest ≡ drop n all
    → MatchOption next (rest ≡ []) (λ header. rest ≡ header.value ∷ after)
    → option_map (λ header. header.value) next ≡ slice_get all i
next_header None n i all rest after le ge is end = next_is None n i all rest after le ge is end
next_header (Some header) n i all rest after le ge is parts =
    next_is (Some header.value) n i all rest after le ge is parts

pub returns-in-None : goal.returns-in-None
returns-in-None c =
    sym (none_there c.loop.counter c.args.i c.args.self.now c.loop.rest c.loop.invariant
    c.in-None.ensures (omega (arith, c.loop-test.true)))

pub loop-preserved : goal.loop-preserved
loop-preserved c =
    drop_one c.loop.counter c.args.self.now c.loop.rest c.next.new.self _ c.loop.invariant
    c.in-Some.ensures

pub returns : goal.returns
returns c =
    next_header c.next-2.result c.loop.counter c.args.i c.args.self.now c.loop.rest
    c.next-2.new.self (omega (arith, c.loop-test.false))
    (omega (arith, c.loop.auto.counter-end)) c.loop.invariant c.next-2.ensures
