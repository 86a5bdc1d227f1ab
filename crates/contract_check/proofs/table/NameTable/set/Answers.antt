use Rattle.std.proofs.Common.{◌==◌, length, None, Some, refl, sym}
use Rattle.std.specs.Cmp.Lexicographic.{pointwise}
use Rattle.std.proofs.lemmas.Option.{slice_get_read}
use Rattle.contract_check.proofs.FirstPlaces.{found_at, still_noted}
use Rattle.contract_check.proofs.table.NameTable.set.Goals as goal

pub invariant_of-self : goal.invariant_of-self
invariant_of-self g c =
    let at = slice_get_read c.self.inside.entries.items (length c.self.inside.entries.items) c.in-Some.index c.index_mut.result.now refl (rw c.self.view_is c.in-Some.ensures.within) c.index_mut.ensures.value in
    still_noted c.self.inside.entries.items c.self.inside.indexes c.in-Some.index c.index_mut.result.now c.args.value at c.self.invariant

pub returns-in-Some : goal.returns-in-Some
returns-in-Some g c =
    let at = slice_get_read c.self.inside.entries.items (length c.self.inside.entries.items) c.in-Some.index c.index_mut.result.now refl (rw c.self.view_is c.in-Some.ensures.within) c.index_mut.ensures.value in
    let there = found_at (pointwise ◌==◌ c.args.name.now) c.self.inside.entries.items (Some c.in-Some.index) (rw c.self.view_is (sym c.in-Some.ensures.index)) c.index_mut.result.now at in
    rw (← c.self.view_is) (sym (there.1 c.args.value))

pub returns-in_default : goal.returns-in_default
returns-in_default g c = sym ((found_at (pointwise ◌==◌ c.args.name.now) c.args.self.now None (sym c.in_default.ensures.index)).1 c.args.value)
