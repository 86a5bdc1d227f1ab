use Rattle.std.proofs.Common.{◌≡◌, ◌∙◌, List, ℕ, sym, subst}
use Rattle.lc_base.specs.declared.answer.Answer.TheVariants as answers
use Rattle.lc_base.specs.declared.answer.Kind.TheVariants.{Hist, Back, Fwd}
use Rattle.lc_base.specs.History.{uses}
use Rattle.plain_rows.specs.Users.{AreVersionsAt}
use Rattle.plain_rows.specs.Kept.{rows_of}
use Rattle.plain_rows.proofs.AnswerParts.{answer_found}
use Rattle.plain_rows.proofs.Keeping.{kept_there}
use Rattle.plain_rows.proofs.asking.answer_about.Goals as goal

pub versions_at-requires-in-Fwd : goal.versions_at-requires-in-Fwd
versions_at-requires-in-Fwd c =
    let rows = rows_of c.args.rows.now in
    let found = c.requires.found in
    (rows, uses rows found.0.key found.0.block, c.requires.holds.kept_are, c.uses.ensures rows found.0 c.requires.holds.index_is found.2)

pub returns-in_ok-value-in-Hist : goal.returns-in_ok-value-in-Hist
returns-in_ok-value-in-Hist c =
    let rows = rows_of c.args.rows.now in
    let found = c.requires.found in
    let so = kept_there rows c.args.rows.now c.args.place c.index-rows-place.result found.0 c.requires.holds.kept_are found.2 c.index-rows-place.is in
    let value = c.in_ok-value-in-Hist.ensures ∙ so.value_is in
    let made : answers.Hist c.index-rows-place.result.block c.index-rows-place.result.tx c.in_ok-value-in-Hist.value ≡ answers.Hist found.0.block found.0.tx found.0.value =
    λ i. answers.Hist (so.block_is i) (so.tx_is i) (value i) in
    made ∙ sym (answer_found rows c.args.query.now Hist found.0 c.in-Hist.is found.1)

pub returns-in_ok-deps-in-Back : goal.returns-in_ok-deps-in-Back
returns-in_ok-deps-in-Back c =
    let rows = rows_of c.args.rows.now in
    let found = c.requires.found in
    let so = kept_there rows c.args.rows.now c.args.place c.index-rows-place.result found.0 c.requires.holds.kept_are found.2 c.index-rows-place.is in
    let at = subst (λ (indexes : List ℕ). AreVersionsAt rows indexes found.0.deps) (sym c.as_slice.ensures) so.deps_are in
    let deps = c.in_ok-deps-in-Back.ensures rows found.0.deps c.requires.holds.kept_are at in
    let made : answers.Back c.index-rows-place.result.block c.in_ok-deps-in-Back.deps ≡ answers.Back found.0.block found.0.deps =
    λ i. answers.Back (so.block_is i) (deps i) in
    made ∙ sym (answer_found rows c.args.query.now Back found.0 c.in-Back.is found.1)

pub returns-in_ok-uses-in-Fwd : goal.returns-in_ok-uses-in-Fwd
returns-in_ok-uses-in-Fwd c =
    let rows = rows_of c.args.rows.now in
    let found = c.requires.found in
    let so = kept_there rows c.args.rows.now c.args.place c.index-rows-place.result found.0 c.requires.holds.kept_are found.2 c.index-rows-place.is in
    let list = uses rows found.0.key found.0.block in
    let users = c.in_ok-uses-in-Fwd.ensures rows list c.requires.holds.kept_are (c.uses.ensures rows found.0 c.requires.holds.index_is found.2) in
    let made : answers.Fwd c.index-rows-place.result.block c.in_ok-uses-in-Fwd.uses ≡ answers.Fwd found.0.block list =
    λ i. answers.Fwd (so.block_is i) (users i) in
    made ∙ sym (answer_found rows c.args.query.now Fwd found.0 c.in-Fwd.is found.1)
