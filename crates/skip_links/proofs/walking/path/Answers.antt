use Rattle.skip_links.specs.Links.{links}
use Rattle.skip_links.specs.Paths.{path}
use Rattle.std.proofs.Common.{◌-◌, length}
use Rattle.skip_links.proofs.Scans.{scan_begins, scan_goes_on, scan_ends, scan_is_over}
use Rattle.skip_links.proofs.walking.path.Goals as goal

pub loop-turn-init : goal.loop-turn-init
loop-turn-init c = rw (c.new-blocks.ensures, c.newest_block-next.ensures) (scan_begins c.args.rows.now c.args.key.now c.args.at)

pub loop-turn-preserved : goal.loop-turn-preserved
loop-turn-preserved c =
    rw (c.in_ok-next-in-Some.ensures, c.in_ok-push-in-Some.ensures.ok)
    (scan_goes_on c.loop-turn._turn (length c.args.rows.now) c.args.at c.in-Some.block (links c.args.rows.now c.args.key.now) c.loop-turn.blocks (path c.args.rows.now c.args.key.now c.args.at)
    c.loop-turn-test.true (rw c.in-Some.is at c.loop-turn.invariant))

pub returns-in-None : goal.returns-in-None
returns-in-None c =
    scan_ends (length c.args.rows.now - c.loop-turn._turn) c.args.at (links c.args.rows.now c.args.key.now) c.loop-turn.blocks (path c.args.rows.now c.args.key.now c.args.at)
    (rw c.in-None.is at c.loop-turn.invariant)

pub returns : goal.returns
returns c =
    scan_is_over c.loop-turn._turn (length c.args.rows.now) c.args.at (links c.args.rows.now c.args.key.now) c.loop-turn.next c.loop-turn.blocks (path c.args.rows.now c.args.key.now c.args.at)
    c.loop-turn-test.false c.loop-turn.invariant
