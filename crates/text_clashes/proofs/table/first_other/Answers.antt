use Rattle.std.proofs.Common.{◌<◌, ◌∙◌, ap, sym, subst, length, Option}
use Rattle.std.specs.Prelude.{IfSome}
use Rattle.sha2.specs.Sha256.{sha256}
use Rattle.text_clashes.specs.declared.table.Places.{Places}
use Rattle.text_clashes.specs.Places.{IsEntry, IsFirstOther, entry_of}
use Rattle.text_clashes.proofs.Looking.{entry_within, other_found}
use Rattle.text_clashes.proofs.table.first_other.Goals as goal

pub other_at-requires : goal.other_at-requires
other_at-requires c =
    let text = c.args.text.now in
    let e = c.copied.ensures ∙ c.get.ensures.value ∙ ap (entry_of c.args.table.now) c.text_digest-digest.ensures in
    subst (λ (o : Option Places). IfSome o (λ places. places.first < length c.args.texts.now)) (sym e) (entry_within (sha256 text) c.args.texts.now _ (c.requires (sha256 text)))

pub returns : goal.returns
returns c =
    let text = c.args.text.now in
    let e = c.copied.ensures ∙ c.get.ensures.value ∙ ap (entry_of c.args.table.now) c.text_digest-digest.ensures in
    subst (IsFirstOther text c.args.texts.now) (sym c.other_at.ensures)
    (other_found c.args.texts.now text c.copied.result (subst (IsEntry (sha256 text) c.args.texts.now) (sym e) (c.requires (sha256 text))))
