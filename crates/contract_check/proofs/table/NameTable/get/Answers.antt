use Rattle.std.proofs.Common.{◌==◌, length, None, Some, refl, sym}
use Rattle.std.specs.Cmp.Lexicographic.{pointwise}
use Rattle.std.proofs.lemmas.Option.{slice_get_read}
use Rattle.contract_check.proofs.FirstPlaces.{found_at}
use Rattle.contract_check.proofs.table.NameTable.get.Goals as goal

pub returns-in-None : goal.returns-in-None
returns-in-None g c = sym (found_at (pointwise ◌==◌ c.args.name.now) c.args.self.now None (sym c.in-None.ensures.index)).0

pub returns-in-Some : goal.returns-in-Some
returns-in-Some g c =
    let at = slice_get_read c.self.inside.entries.items (length c.self.inside.entries.items) c.in-Some.index c.index.result.now refl (rw c.self.view_is c.in-Some.ensures.within) c.index.ensures in
    sym (found_at (pointwise ◌==◌ c.args.name.now) c.args.self.now (Some c.in-Some.index) (sym c.in-Some.ensures.index) c.index.result.now (rw (← c.self.view_is) at)).0
