use Rattle.std.proofs.Common.{◌<◌, ◌∙◌, ap, sym, subst, cond, length, List, ℕ, Option, Some}
use Rattle.std.specs.Prelude.{IfSome}
use Rattle.std.specs.Ordering.{nat_cmp, is_eq}
use Rattle.std.specs.Cmp.Lexicographic.{slice_cmp}
use Rattle.sha2.specs.Sha256.{sha256}
use Rattle.text_clashes.specs.declared.table.Places.{Places}
use Rattle.text_clashes.specs.Places.{entry_of, entry_with}
use Rattle.text_clashes.proofs.Adding.{table_after}
use Rattle.text_clashes.proofs.Looking.{entry_within}
use Rattle.text_clashes.proofs.table.add_text.Goals as goal

pub places_after-places-requires : goal.places_after-places-requires
places_after-places-requires c =
    let text = c.args.text.now in
    let e = c.copied.ensures ∙ c.get.ensures.value ∙ ap (entry_of c.args.table.now) c.text_digest-digest.ensures in
    subst (λ (o : Option Places). IfSome o (λ places. places.first < length c.args.before.now)) (sym e) (entry_within (sha256 text) c.args.before.now _ (c.requires (sha256 text)))

pub returns : goal.returns
returns c =
    let text = c.args.text.now in
    let before = c.args.before.now in
    let look : List ℕ → Option Places = entry_of c.args.table.now in
    let e = c.copied.ensures ∙ c.get.ensures.value ∙ ap look c.text_digest-digest.ensures in
    table_after before text c.args.table.now c.insert.new.self c.requires (λ digest.
    c.in_ok-insert.ensures.updates.0 digest
    ∙ ap (λ (d : List ℕ). cond (is_eq (slice_cmp nat_cmp d digest)) (Some c.places_after-places.result) (look digest)) c.text_digest-digest.ensures
    ∙ ap (λ (p : Places). cond (is_eq (slice_cmp nat_cmp (sha256 text) digest)) (Some p) (look digest)) (c.places_after-places.ensures ∙ ap (entry_with before text) e))
