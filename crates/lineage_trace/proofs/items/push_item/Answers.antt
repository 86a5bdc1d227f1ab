use Rattle.std.proofs.Common.{◌∙◌, ◌++◌, ◌∷◌, [], Option, ap, sym}
use Rattle.std.specs.Option.{option_map}
use Rattle.std.proofs.lemmas.Option.{slice_get_within}
use Rattle.lc_base.specs.declared.row.Row.{Row}
use Rattle.proof_checks.specs.TraceMaking.{item_of}
use Rattle.proof_checks.specs.declared.trace_proof.TraceItem.{TraceItem}
use Rattle.lineage_trace.specs.Items.{with_item}
use Rattle.lineage_trace.proofs.Itemed.{push_lawful, push_long}
use Rattle.lineage_trace.proofs.items.push_item.Goals as goal

pub returns-in-None-clause-items : goal.returns-in-None-clause-items
returns-in-None-clause-items g c known =
    let rows = c.args.lineage.now.rows in
    sym (ap (λ (o : Option Row). with_item c.args.items.now (option_map (item_of rows) o))
    c.in-None.ensures.latest)

pub item_at-requires-clause-within : goal.item_at-requires-clause-within
item_at-requires-clause-within g c =
    let found = c.in-Some.ensures.latest in
    slice_get_within c.args.lineage.now.rows c.in-Some.index found.0 found.2

pub returns-in_ok-push-in-Some-clause-items : goal.returns-in_ok-push-in-Some-clause-items
returns-in_ok-push-in-Some-clause-items g c known =
    let rows = c.args.lineage.now.rows in
    let items = c.args.items.now in
    let found = c.in-Some.ensures.latest in
    c.in_ok-push-in-Some.ensures.ok
    ∙ ap (λ (item : TraceItem). items ++ item ∷ [])
    (c.in_ok-item-in-Some.ensures.item known found.0 found.2)
    ∙ sym (ap (λ (o : Option Row). with_item items (option_map (item_of rows) o)) found.1)

pub returns-in_ok-push-in-Some-clause-lawful : goal.returns-in_ok-push-in-Some-clause-lawful
returns-in_ok-push-in-Some-clause-lawful g c =
    push_lawful c.args.items.now c.push.new.self c.in_ok-item-in-Some.item
    c.in_ok-push-in-Some.ensures.ok c.requires.lawful c.in_ok-item-in-Some.ensures.lawful

pub returns-in_ok-push-in-Some-clause-few : goal.returns-in_ok-push-in-Some-clause-few
returns-in_ok-push-in-Some-clause-few g c =
    push_long c.args.items.now c.push.new.self c.in_ok-item-in-Some.item
    c.in_ok-push-in-Some.ensures.ok
