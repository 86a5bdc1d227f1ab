use Rattle.std.proofs.Common.{◌≡◌, ◌+◌, ◌≤◌, true, ℕ, List, ◌∷◌, [], ◌++◌, sym, ap, subst}
use Rattle.disk_model.specs.Disk.{content_of}
use Rattle.block_log.specs.declared.reader.Found.TheVariants as founds
use Rattle.block_log.specs.Reader.{AreRead, IsFound, log_at, reader_at}
use Rattle.block_log.proofs.Fronts.{ahead_after}
use Rattle.block_log.proofs.Readers.{read_as, all_read}
use Rattle.block_log.proofs.reader.LogReader.next.Goals as goal

pub returns-in-Closed-clause-answer : goal.returns-in-Closed-clause-answer
returns-in-Closed-clause-answer g c stored read =
    let log = c.log.inside in
    let old = content_of (g.M.Clock.disk c.args.machine.now (g.M.Clock.now c.args.machine.now)) in
    let new = content_of (g.M.Clock.disk c.find_next.new.machine (g.M.Clock.now c.find_next.new.machine)) in
    let still : new ≡ old = ap content_of c.find_next.ensures.disk.last in
    let here = read_as _ c.self.inside.log c.log.view_is c.self.inside.ahead c.args.self old new stored c.self.view_is still read in
    let found : IsFound new (log_at log.gate log.count log.last log.is_marked) stored founds.Closed = rw c.in-Closed.is at (c.in_ok-find_next.ensures.found new (sym still) here.ahead stored here.read) in
    all_read _ c.self.inside.log c.log.view_is new stored c.self.invariant.0 here.read found

pub returns-in-Mark-clause-answer : goal.returns-in-Mark-clause-answer
returns-in-Mark-clause-answer g c stored read =
    let log = c.log.inside in
    let after = c.in-Mark.after in
    let old = content_of (g.M.Clock.disk c.args.machine.now (g.M.Clock.now c.args.machine.now)) in
    let new = content_of (g.M.Clock.disk c.find_next.new.machine (g.M.Clock.now c.find_next.new.machine)) in
    let still : new ≡ old = ap content_of c.find_next.ensures.disk.last in
    let here = read_as _ c.self.inside.log c.log.view_is c.self.inside.ahead c.args.self old new stored c.self.view_is still read in
    let found : IsFound new (log_at log.gate log.count log.last log.is_marked) stored (founds.Mark after) = rw c.in-Mark.is at (c.in_ok-find_next.ensures.found new (sym still) here.ahead stored here.read) in
    let later : log.gate ≤ after = (rw c.in-Mark.is at c.in_ok-find_next.ensures.near).later in
    subst (λ (ahead : List ℕ). AreRead (reader_at after log.count log.last true ahead) new stored) (sym c.skip.ensures)
    (record { read = found; ahead = ahead_after log.gate after c.find_next.new.ahead new later (c.in_ok-find_next.ensures.ahead new (sym still) here.ahead) })

pub returns-in-Next-clause-answer : goal.returns-in-Next-clause-answer
returns-in-Next-clause-answer g c stored read =
    let log = c.log.inside in
    let after = c.in-Next.after in
    let next = c.in-Next.next in
    let old = content_of (g.M.Clock.disk c.args.machine.now (g.M.Clock.now c.args.machine.now)) in
    let new = content_of (g.M.Clock.disk c.find_next.new.machine (g.M.Clock.now c.find_next.new.machine)) in
    let still : new ≡ old = ap content_of c.find_next.ensures.disk.last in
    let here = read_as _ c.self.inside.log c.log.view_is c.self.inside.ahead c.args.self old new stored c.self.view_is still read in
    let found : IsFound new (log_at log.gate log.count log.last log.is_marked) stored (founds.Next next after) = rw c.in-Next.is at (c.in_ok-find_next.ensures.found new (sym still) here.ahead stored here.read) in
    let later : log.gate ≤ after = (rw c.in-Next.is at c.in_ok-find_next.ensures.near).later in
    subst (λ (ahead : List ℕ). AreRead (reader_at after (log.count + 1) next.digest log.is_marked ahead) new (stored ++ next ∷ [])) (sym c.skip-in-Next.ensures)
    (record { read = found; ahead = ahead_after log.gate after c.find_next.new.ahead new later (c.in_ok-find_next.ensures.ahead new (sym still) here.ahead) })
