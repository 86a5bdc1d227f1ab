use Rattle.std.proofs.Common.{◌≡◌, ◌∙◌, ◌+◌, ◌<◌, ℕ, List, [], ◌∷◌, ◌++◌, length, take, drop, get_or, ap, sym, subst, arith}
use Rattle.std.specs.List.{All}
use Rattle.std.proofs.lemmas.List.{take_more, append_assoc}
use Rattle.std.proofs.lemmas.List.Elements.{All-append, All-cons, All-nil}
use Rattle.std.proofs.Math.Seq.{take-length}
use Rattle.lc_base.specs.declared.row.Row.{Row}
use Rattle.lc_base.specs.History.{IsLawful}
use Rattle.plain_rows.specs.Index.{IsIndexOf, IsNext}
use Rattle.plain_rows.proofs.OneRow.{split_at}
use Rattle.root_laws.specs.TypedLedger.{IsTypedRow}
use Rattle.plain_rows.specs.declared.kept.KeptRow.{KeptRow}
use Rattle.plain_rows.specs.Kept.{AreKept, rows_with}
use Rattle.plain_rows.proofs.Keeping.{kept_as, kept_more, rows_more}
use Rattle.plain_rows.proofs.adding.add_to_index.Goals as goal

next_row : (rows new : List Row) (i : ℕ) (row : Row) → IsLawful (rows ++ new) → i < length new → row ≡ get_or new i row → IsNext (rows ++ take i new) row
next_row rows new i row lawful m is = record { rest = drop (i + 1) new; lawful = subst IsLawful (sym (split_at rows new i row m is)) lawful }

joined : (rows new : List Row) (i : ℕ) (row : Row) → i < length new → row ≡ get_or new i row → (rows ++ take i new) ++ row ∷ [] ≡ rows ++ take (i + 1) new
joined rows new i row m is =
    append_assoc rows (take i new) (row ∷ []) ∙ ap (λ (l : List Row). rows ++ l) (ap (λ (r : Row). take i new ++ r ∷ []) is ∙ sym (take_more new i row m))

typed_more : (new : List Row) (i : ℕ) (row : Row) → i < length new → row ≡ get_or new i row → All IsTypedRow (take i new) → IsTypedRow row → All IsTypedRow (take (i + 1) new)
typed_more new i row m is before now = subst (All IsTypedRow) (sym (take_more new i row m)) (All-append IsTypedRow (take i new) (get_or new i row ∷ []) before (All-cons IsTypedRow (get_or new i row) [] (subst IsTypedRow is now) (All-nil IsTypedRow)))

pub add-requires : goal.add-requires
add-requires c =
    let rows = c.requires.0 in
    let i = c.loop-row.row-index in
    (rows ++ take i c.args.new.now, next_row rows c.args.new.now i c.row-item.result c.requires.1 c.loop-row-test.true c.row-item.is, c.loop-row.invariant.index rows c.requires.1 c.requires.2)

pub loop-row-preserved : goal.loop-row-preserved
loop-row-preserved c =
    let new = c.args.new.now in
    let i = c.loop-row.row-index in
    let row = c.row-item.result in
    record {
      index = λ rows lawful is.
          let next = next_row rows new i row lawful c.loop-row-test.true c.row-item.is in
          subst (λ (all : List Row). IsIndexOf all c.add.new.self) (joined rows new i row c.loop-row-test.true c.row-item.is)
          (c.in_ok-deps.ensures.index (rows ++ take i new) next (c.loop-row.invariant.index rows lawful is));
      rows = λ rows lawful is.
          let done = rows ++ take i new in
          let next = next_row rows new i row lawful c.loop-row-test.true c.row-item.is in
          let at = c.in_ok-deps.ensures.deps done next (c.loop-row.invariant.index rows lawful is) in
          let so = kept_as done c.in_ok-kept.kept row c.in_ok-deps.deps c.in_ok-kept.ensures.kept at in
          ap (rows_with rows) c.in_ok-push.ensures.items
          ∙ rows_more rows done c.loop-row.more.items c.in_ok-kept.kept row (c.loop-row.invariant.rows rows lawful is) so
          ∙ joined rows new i row c.loop-row-test.true c.row-item.is;
      kept = λ rows before lawful is are.
          let done = rows ++ take i new in
          let next = next_row rows new i row lawful c.loop-row-test.true c.row-item.is in
          let at = c.in_ok-deps.ensures.deps done next (c.loop-row.invariant.index rows lawful is) in
          let so = kept_as done c.in_ok-kept.kept row c.in_ok-deps.deps c.in_ok-kept.ensures.kept at in
          let more = kept_more done (before ++ c.loop-row.more.items) c.in_ok-kept.kept row (c.loop-row.invariant.kept rows before lawful is are) so in
          subst (λ (all : List Row). AreKept all (before ++ c.push.new.self.items)) (joined rows new i row c.loop-row-test.true c.row-item.is)
          (subst (λ (ks : List KeptRow). AreKept (done ++ row ∷ []) ks) (append_assoc before c.loop-row.more.items (c.in_ok-kept.kept ∷ []) ∙ ap (λ (ks : List KeptRow). before ++ ks) (sym c.in_ok-push.ensures.items)) more);
      typed = typed_more new i row c.loop-row-test.true c.row-item.is c.loop-row.invariant.typed c.kept_row.ensures.typed;
    }

pub returns-clause-kept : goal.returns-clause-kept
returns-clause-kept c rows before lawful is are =
    let new = c.args.new.now in
    let all : c.loop-row.row-index ≡ length new = omega (arith, c.loop-row-test.false, c.loop-row.auto.row-index-end) in
    subst (λ (done : List Row). AreKept (rows ++ done) (before ++ c.loop-row.more.items)) (ap (λ n. take n new) all ∙ take-length new) (c.loop-row.invariant.kept rows before lawful is are)

pub returns-clause-typed : goal.returns-clause-typed
returns-clause-typed c =
    let new = c.args.new.now in
    let all : c.loop-row.row-index ≡ length new = omega (arith, c.loop-row-test.false, c.loop-row.auto.row-index-end) in
    subst (λ (done : List Row). All IsTypedRow done) (ap (λ n. take n new) all ∙ take-length new) c.loop-row.invariant.typed
