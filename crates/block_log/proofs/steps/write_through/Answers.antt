use Rattle.std.proofs.Common.{ap}
use Rattle.disk_model.specs.Disk.{content_of}
use Rattle.block_log.proofs.Resting.{step_write, step_sync}
use Rattle.block_log.proofs.steps.write_through.Goals as goal

pub returns-in_err-write_at-clause-images : goal.returns-in_err-write_at-clause-images
returns-in_err-write_at-clause-images g c content rests = step_write g.M.Clock.now g.M.Clock.disk _ _ _ _ content _ rests (c.requires.within content (ap content_of rests)) c.write_at.ensures.disk

pub returns-in_err-sync-clause-images : goal.returns-in_err-sync-clause-images
returns-in_err-sync-clause-images g c content rests =
    let within = c.requires.within content (ap content_of rests) in
    step_sync g.M.Clock.now g.M.Clock.disk _ _ _ c.args.at c.args.bytes.now content _ rests within (step_write g.M.Clock.now g.M.Clock.disk _ _ _ _ content _ rests within c.write_at.ensures.disk) c.in_ok-write_at.ensures.disk c.sync.ensures.disk

pub returns-clause-images : goal.returns-clause-images
returns-clause-images g c content rests =
    let within = c.requires.within content (ap content_of rests) in
    step_sync g.M.Clock.now g.M.Clock.disk _ _ _ c.args.at c.args.bytes.now content _ rests within (step_write g.M.Clock.now g.M.Clock.disk _ _ _ _ content _ rests within c.write_at.ensures.disk) c.in_ok-write_at.ensures.disk c.sync.ensures.disk
