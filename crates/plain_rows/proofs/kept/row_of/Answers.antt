use Rattle.std.proofs.Common.{◌∙◌, List, ℕ, sym, subst}
use Rattle.plain_rows.specs.Users.{AreVersionsAt}
use Rattle.plain_rows.proofs.kept.row_of.Goals as goal

pub versions_at-requires : goal.versions_at-requires
versions_at-requires c =
    let row = c.requires.1 in
    (c.requires.0, row.deps, c.requires.2, subst (λ (is : List ℕ). AreVersionsAt c.requires.0 is row.deps) (sym c.as_slice.ensures) c.requires.3.deps_are)

pub returns : goal.returns
returns c all row are so =
    let deps = c.in_ok-deps.ensures all row.deps are (subst (λ (is : List ℕ). AreVersionsAt all is row.deps) (sym c.as_slice.ensures) so.deps_are) in
    let value = c.in_ok-value.ensures ∙ so.value_is in
    λ i. record { key = so.key_is i; block = so.block_is i; tx = so.tx_is i; value = value i; deps = deps i }
