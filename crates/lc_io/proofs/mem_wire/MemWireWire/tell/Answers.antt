use Rattle.std.proofs.Common.{◌≡◌, ℕ, ◌+◌, List, [], ◌∷◌, ◌++◌, length, Some, ap, sym, ◌∙◌, rules}
use Rattle.std.proofs.lemmas.List.{length-append}
use Rattle.lc_io.specs.Outside.{Tell}
use Rattle.lc_io.specs.Fakes.{WireState, CallsState}
use Rattle.lc_io.specs.Marks.{pieces}
use Rattle.lc_io.proofs.Pieces.{more_pieces}
use Rattle.lc_io.proofs.mem_wire.MemWireWire.tell.Goals as goal

told_is : (c : goal.After-record) → pieces c.record.new.bytes.items c.record.new.marks.items ≡ c.args.self.now.told ++ record { at = c.args.self.now.calls; bytes = c.args.bytes.now } ∷ []
told_is c = rw (c.record.ensures.bytes, c.record.ensures.marks, c.in_ok-number.ensures.exact.1) (more_pieces c.self.inside.bytes.items c.args.bytes.now c.self.inside.marks.items c.self.inside.calls.made c.self.invariant.within ∙ ap (λ (w : WireState). w.told ++ record { at = w.calls; bytes = c.args.bytes.now } ∷ []) c.self.view_is)

bytes_are : (c : goal.After-record) → length c.record.new.bytes.items ≡ c.args.self.now.bytes + length c.args.bytes.now
bytes_are c = ap length c.record.ensures.bytes ∙ length-append c.self.inside.bytes.items c.args.bytes.now ∙ ap (λ (w : WireState). w.bytes + length c.args.bytes.now) c.self.view_is

pub returns-clause-told : goal.returns-clause-told
returns-clause-told c = ap Some (told_is c)

abbrev state : List Tell → ℕ → CallsState → WireState
state told bytes calls = record {
  told = told;
  calls = calls.made;
  bytes = bytes;
  room_calls = calls.room.calls;
  room_bytes = calls.room.bytes;
  failing = calls.failing;
  faults = calls.faults;
}

pub returns-clause-exact : goal.returns-clause-exact
returns-clause-exact c =
    let old : WireState = c.args.self.now in
    let marked : List Tell = pieces c.record.new.bytes.items c.record.new.marks.items in
    let count : ℕ = length c.record.new.bytes.items in
    let told : List Tell = old.told ++ record { at = old.calls; bytes = c.args.bytes.now } ∷ [] in
    let numbered : CallsState = record c.self.inside.calls { made = c.self.inside.calls.made + 1 } in (
      search rules,
      search rules,
      ap (λ (calls : CallsState). state marked count calls) (c.in_ok-pass.ensures.exact.1 ∙ c.in_ok-number.ensures.exact.2)
          ∙ ap (λ (pieces : List Tell). state pieces count numbered) (told_is c)
          ∙ ap (λ (bytes : ℕ). state told bytes numbered) (bytes_are c)
          ∙ ap (λ (w : WireState). record w { told = told; calls = w.calls + 1; bytes = old.bytes + length c.args.bytes.now }) c.self.view_is,
    )
