use Rattle.std.proofs.Common.{◌≡◌, ◌+◌, ◌-◌, false, ◌∷◌, [], ◌++◌, drop, refl, sym, ◌∙◌, ap, subst, arith}
use Rattle.std.specs.Prelude.{◌==◌}
use Rattle.std.proofs.lemmas.Bool.Decides.{nat_tests}
use Rattle.block_codec.specs.Spelling.{IsBlock}
use Rattle.block_log.specs.declared.layout.TheConstants.{MAX_RECORDS}
use Rattle.block_log.specs.declared.layout.Stored.{Stored}
use Rattle.block_log.specs.declared.reading.Record.TheVariants as records
use Rattle.block_log.specs.Standing.{blocks_in}
use Rattle.block_log.specs.Log.{marks, next_in_log}
use Rattle.block_log.specs.Reader.{AreReadTo, log_at, next_of}
use Rattle.block_log.proofs.Turns.{ended, broken, refused}
use Rattle.block_log.proofs.Chained.{given, near_next, none_given, next_same, read_more}
use Rattle.block_log.proofs.Marks.{some_fuel, zero_found, zero_near}
use Rattle.block_log.proofs.reader.judge.Goals as goal

pub returns-in-Closed-clause-found : goal.returns-in-Closed-clause-found
returns-in-Closed-clause-found c content stored read at image told =
    read.stands image told ∙ ended next_in_log (MAX_RECORDS + 1 - (c.args.count + marks c.args.marked)) c.args.marked c.args.gate stored (drop c.args.gate image) (some_fuel c.args.marked c.args.count c.requires.few) (sym (at image told).0 ∙ c.in-Closed.is)

pub returns-in-Broken-clause-found : goal.returns-in-Broken-clause-found
returns-in-Broken-clause-found c content stored read at image told =
    read.stands image told ∙ broken next_in_log (MAX_RECORDS + 1 - (c.args.count + marks c.args.marked)) c.args.marked c.args.gate stored (drop c.args.gate image) (some_fuel c.args.marked c.args.count c.requires.few) (sym (at image told).0 ∙ c.in-Broken.is)

pub returns-in-None-clause-found : goal.returns-in-None-clause-found
returns-in-None-clause-found c content stored read at image told =
    let there = at image told in
    let bytes = c.args.body.now in
    let same = rw c.in-Open.is at there.1 in
    let none = none_given c.args.gate (next_of c.args.count c.args.last c.args.marked bytes) (sym c.in-None.is ∙ c.in_ok-next.ensures.next) in
    read.stands image told
    ∙ refused next_in_log (MAX_RECORDS + 1 - (c.args.count + marks c.args.marked)) c.args.marked c.args.gate c.in-Open.size stored (drop c.args.gate image) (some_fuel c.args.marked c.args.count c.requires.few) (grind (arith, nat_tests, c.if-size-eq0.false)) (sym there.0 ∙ c.in-Open.is)
    (ap (next_in_log c.args.marked (blocks_in stored)) (sym same) ∙ sym (next_same c.args.count c.args.last c.args.marked stored read.held.count_is read.held.last_is bytes) ∙ none)

pub returns-in-Some-clause-found : goal.returns-in-Some-clause-found
returns-in-Some-clause-found c content stored read at =
    let bytes = c.args.body.now in
    let q = given c.in-Some.next c.args.gate (next_of c.args.count c.args.last c.args.marked bytes) (sym c.in-Some.is ∙ c.in_ok-next.ensures.next) in
    let lawful : IsBlock q.block = subst (λ (s : Stored). IsBlock s.block) q.next_is (rw c.in-Some.is at c.in_ok-next.ensures.lawful) in
    let after = c.args.gate + (5 + c.in-Open.size) in
    let low : (c.in-Open.size == 0) ≡ false = grind (arith, nat_tests, c.if-size-eq0.false) in
    subst (λ (s : Stored). AreReadTo (log_at after (c.args.count + 1) s.digest c.args.marked) content (stored ++ s ∷ [])) (sym q.next_is)
    (read_more content content c.args.gate c.args.count c.in-Open.size after c.args.last c.args.marked stored q.block bytes read c.requires.few (λ m. (c.requires.unmarked m).few) refl low q.found_is lawful refl
    (λ image told. let there = at image told in (sym there.0 ∙ c.in-Open.is, rw c.in-Open.is at there.1)))

pub returns-in-Some-clause-near : goal.returns-in-Some-clause-near
returns-in-Some-clause-near c =
    let bytes = c.args.body.now in
    let q = given c.in-Some.next c.args.gate (next_of c.args.count c.args.last c.args.marked bytes) (sym c.in-Some.is ∙ c.in_ok-next.ensures.next) in
    near_next c.args.gate c.args.count c.in-Open.size c.args.last c.args.marked c.in-Some.next bytes q.block q.next_is q.found_is (rw c.in-Some.is at c.in_ok-next.ensures.lawful)
    c.requires.few c.requires.unmarked (rw c.in-Open.is at c.requires.small)

pub returns-then-size-eq0-clause-found : goal.returns-then-size-eq0-clause-found
returns-then-size-eq0-clause-found c content stored read at =
    rw c.mark_found.ensures (zero_found content content c.args.gate c.args.count c.args.last c.args.marked stored read c.requires.few refl
    (λ image told. sym (at image told).0 ∙ c.in-Open.is ∙ ap records.Open c.if-size-eq0.true))

pub returns-then-size-eq0-clause-near : goal.returns-then-size-eq0-clause-near
returns-then-size-eq0-clause-near c = rw c.mark_found.ensures (zero_near c.args.gate c.args.count c.args.marked c.requires.unmarked)
