use Rattle.std.proofs.Common.{◌≡◌, ◌∙◌, List, Option, Some, sym, ap, arith}
use Rattle.std.specs.Prelude.{slice_get}
use Rattle.std.proofs.lemmas.Option.{slice_get_within}
use Rattle.lc_base.specs.declared.digest.Digest.{Digest}
use Rattle.merkle_dag.proofs.root.root_at.Goals as goal

pub returns-in-Some : goal.returns-in-Some
returns-in-Some c =
    let kept = c.args.kept.now in
    let there : slice_get kept.roots.items c.args.at ≡ Some (Some c.in-Some.root) =
    ap (λ (roots : List (Option Digest)). slice_get roots c.args.at) (sym c.deref.ensures.value)
    ∙ sym c.root_made.ensures ∙ c.in_ok-root.was ∙ ap (λ (one : Option Digest). Some one) c.in-Some.is in (
      omega (
        arith,
        slice_get_within kept.roots.items c.args.at (Some c.in-Some.root) there,
        c.requires.roots_are.many,
      ),
      c.requires.roots_are.each c.args.at (Some c.in-Some.root) there,
    )

pub returns-in-None : goal.returns-in-None
returns-in-None c =
    let kept = c.args.kept.now in
    let there : slice_get kept.roots.items c.args.at ≡ Some c.in_ok-root.field-0 =
    ap (λ (roots : List (Option Digest)). slice_get roots c.args.at) (sym c.deref.ensures.value)
    ∙ sym c.root_made.ensures ∙ c.in_ok-root.was in (
      omega (
        arith,
        slice_get_within kept.roots.items c.args.at c.in_ok-root.field-0 there,
        c.requires.roots_are.many,
      ),
      c.made_root.ensures,
    )
