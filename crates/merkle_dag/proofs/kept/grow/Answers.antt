use Rattle.std.proofs.Common.{◌≡◌, ◌∙◌, ◌+◌, ◌++◌, ◌∷◌, [], sym, ap, subst, List, ℕ, length, map}
use Rattle.std.proofs.Common.{None}
use Rattle.std.proofs.Common.{arith}
use Rattle.std.specs.List.{All}
use Rattle.std.proofs.lemmas.List.{length-append, length-map}
use Rattle.std.proofs.lemmas.List.Elements.{All-append}
use Rattle.lc_base.specs.declared.row.Row.{Row}
use Rattle.lineage_rewind.specs.root_laws.TypedLedger.{IsTypedRow}
use Rattle.lineage_rewind.specs.lineage_index.Growth.{Grows}
use Rattle.lineage_rewind.specs.lineage_index.Index.{IsIndexOf}
use Rattle.body_store.specs.Bodies.{bodies_in}
use Rattle.lineage_rewind.specs.entry_store.Entries.{Entry}
use Rattle.merkle_dag.specs.declared.kept.Kept.{Kept}
use Rattle.merkle_dag.specs.Adding.{bytes_of}
use Rattle.merkle_dag.specs.Kept.{rows_kept}
use Rattle.merkle_dag.proofs.Keeping.{digests_are, grows, ledger_is, index_is, roots_are}
use Rattle.merkle_dag.proofs.RowBodies.{as_many_bodies, bodies_after, keeps_at, rows_are}
use Rattle.merkle_dag.proofs.kept.grow.Given.{Over}
use Rattle.merkle_dag.proofs.kept.grow.Goals as goal

pub add_block-requires : goal.add_block-requires
add_block-requires g c =
    let old = c.args.kept.now in
    let rows = rows_kept old.index in
    let given = c.requires in (
      rows,
      c.args.number,
      subst (λ (new : List Row). Grows rows new c.args.number) (sym c.as_slice-2.ensures)
          (grows rows c.args.new.now old.digests.items old.roots.items c.args.number c.args.digest
          given.whole.ledger given.next given.block given.lawful),
      subst (λ (m : ℕ). IsIndexOf rows m old.index) (sym given.next) given.whole.index_is,
    )

pub add_bodies-added-requires-clause-room : goal.add_bodies-added-requires-clause-room
add_bodies-added-requires-clause-room g c =
    let old = c.args.kept.now in
    let rows = rows_kept old.index in
    let given = c.requires in
    let growing = subst (λ (new : List Row). Grows rows new c.args.number) (sym
    c.as_slice-2.ensures)
    (grows rows c.args.new.now old.digests.items old.roots.items c.args.number c.args.digest
    given.whole.ledger given.next given.block given.lawful) in
    let before = subst (λ (m : ℕ). IsIndexOf rows m old.index) (sym given.next)
    given.whole.index_is in
    omega (
      arith,
      as_many_bodies rows old.index.store old.bodies
          given.whole.index_is.store.entries_are given.whole.bodies_are,
      length-append rows
          c.args.new.now,
      given.lawful.few,
      ap length c.as_slice-2.ensures,
      ap length c.as_slice-3.ensures,
      ap length (c.in_ok-spelled.ensures.bodies rows c.args.number growing before),
      length-map c.as_slice-2.result.now (bytes_of (rows ++ c.as_slice-2.result.now)),
    )

module _ (g : Over) (c : goal.After-drop-spelled-inside-in-Ok g) where
  abbrev old : Kept
  old = c.args.kept.now

  abbrev rows : List Row
  rows = rows_kept c.args.kept.now.index

  abbrev new : List Row
  new = c.args.new.now

  abbrev number : ℕ
  number = c.args.number

  growing : Grows rows new number
  growing = grows rows new old.digests.items old.roots.items number c.args.digest
      c.requires.whole.ledger c.requires.next c.requires.block c.requires.lawful

  before : IsIndexOf rows number old.index
  before = subst (λ (m : ℕ). IsIndexOf rows m old.index) (sym c.requires.next)
      c.requires.whole.index_is

  index : IsIndexOf (rows ++ new) (number + 1) c.add_block.new.self
  index =
      let after = c.in_ok-spelled.ensures.index rows number
      (subst (λ (more : List Row). Grows rows more number) (sym c.as_slice-2.ensures) growing)
      before in
      subst (λ (more : List Row). IsIndexOf (rows ++ more) (number + 1) c.add_block.new.self)
      c.as_slice-2.ensures after

  typed : All IsTypedRow (rows ++ new)
  typed = All-append IsTypedRow rows new c.requires.whole.typed
      (subst (All IsTypedRow) c.as_slice.ensures c.check_rows.ensures)

  all_rows : rows_kept c.add_block.new.self ≡ rows ++ new
  all_rows = rows_are (rows ++ new) (number + 1) c.add_block.new.self index typed

  spelled : c.as_slice-3.result.now ≡ map (bytes_of (rows ++ new)) new
  spelled =
      let made = c.in_ok-spelled.ensures.bodies rows number
      (subst (λ (more : List Row). Grows rows more number) (sym c.as_slice-2.ensures) growing)
      before in
      c.as_slice-3.ensures ∙ made
      ∙ ap (λ (more : List Row). map (bytes_of (rows ++ more)) more) c.as_slice-2.ensures

  bodies : bodies_in c.add_bodies-added.new.bodies ≡ map (λ (entry : Entry). entry.body)
      c.add_block.new.self.store
  bodies = bodies_after rows new number (number + 1) old.index c.add_block.new.self old.bodies
      c.add_bodies-added.new.bodies growing before index c.requires.whole.bodies_are
      (c.in-Ok.ensures.bodies
      ∙ ap (λ (more : List (List ℕ)). bodies_in old.bodies ++ more) spelled)

pub returns-in-Ok-clause-whole : goal.returns-in-Ok-clause-whole
returns-in-Ok-clause-whole g c =
    let given = c.requires in
    let digests = (old g c).digests.items in
    let roots = (old g c).roots.items in
    keeps_at (rows g c ++ new g c) _ c.add_block.new.self
    c.add_bodies-added.new.bodies (digests ++ c.args.digest ∷ []) _ (roots ++ None ∷ []) _
    (all_rows g c) c.in_ok-push.ensures.items c.in_ok-push-2.ensures.items (record {
      ledger = ledger_is (rows g c) (new g c) digests roots c.args.number c.args.digest
          given.whole.ledger given.next given.block given.lawful given.low;
      typed = typed g c;
      digests_fit = digests_are digests c.args.digest given.whole.digests_fit
          c.check_digest.ensures;
      index_is = index_is (rows g c) (new g c) digests roots c.args.number c.args.digest
          given.whole.ledger given.next given.block given.lawful c.add_block.new.self (index g c);
      bodies_are = bodies g c;
      roots_are = roots_are (rows g c) (new g c) digests roots c.args.number c.args.digest
          given.whole.ledger given.next given.block given.lawful given.whole.roots_are;
    })

pub returns-in-Ok-clause-rows : goal.returns-in-Ok-clause-rows
returns-in-Ok-clause-rows g c = all_rows g c
