use Rattle.std.proofs.Common.{◌≡◌, ◌&&◌, not, false, List, length, sym, subst, ◌∙◌, arith}
use Rattle.std.specs.Prelude.{nat_le}
use Rattle.std.specs.List.{All}
use Rattle.std.specs.Option.{option_copied}
use Rattle.lc_base.specs.declared.row.Dep.{Dep}
use Rattle.dep_capture.specs.declared.access.Read.{Read}
use Rattle.dep_capture.specs.declared.access.Put.{Put}
use Rattle.dep_capture.specs.declared.limits.TheConstants.{MAX_KEYS_PUT}
use Rattle.dep_capture.specs.Captured.{WasBacked, AreBackedDeps, IsCapture}
use Rattle.dep_capture.specs.Capture.{was_put, deps_of}
use Rattle.dep_capture.proofs.Backed.{deps_are_backed}
use Rattle.dep_capture.proofs.Keeping.{put_keeps}
use Rattle.dep_capture.proofs.capture.Capture.put.Goals as goal

pub invariant_of-self-2 : goal.invariant_of-self-2
invariant_of-self-2 c =
    let reads : List Read = c.self.inside.reads in
    let puts : List Put = c.self.inside.puts in
    let named = option_copied c.args.named in
    let deps : List Dep = c.in_ok-deps.deps in
    let are : deps ≡ deps_of reads named = c.in_ok-deps.ensures.deps in
    let backed : AreBackedDeps reads deps = record {
      few = omega (arith, c.if-len-gt-MAX_DEPS.false, c.len.ensures);
      once = c.in_ok-deps.ensures.once;
      backed = subst (All (WasBacked reads)) (sym are) (deps_are_backed reads named);
    } in
    let room : (not (was_put puts c.args.key) && nat_le MAX_KEYS_PUT (length puts))
    ≡ false = sym c.is_one_too_many.ensures ∙ c.if-is_one_too_many.false in
    subst (IsCapture reads) (sym c.in_ok-set.ensures.ok)
    (put_keeps reads puts (record { key = c.args.key; value = c.args.value; deps = deps })
    c.self.invariant backed room)
