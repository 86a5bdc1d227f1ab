use Rattle.std.proofs.Common.{refl, rules}
use Rattle.chain_input.proofs.Taken.{input_of}
use Rattle.cli_proofs.specs.Checking.{ChecksProof}
use Rattle.cli_proofs.proofs.Checked.{same_input, disk_ends, wire_ends, reads_ends, writes_ends}
use Rattle.cli_proofs.proofs.Checked.{keeps_ends}
use Rattle.cli_proofs.proofs.checking.check_frames.Goals as goal

pub returns-clause-takes : goal.returns-clause-takes
returns-clause-takes g c =
    let all = input_of _ (λ s. s.machine.now) (ChecksProof g.M.Clock.now g.M.Clock.disk
    g.M.Clock.told g.M.Clock.disk_faults g.M.Clock.wire_faults)
    (λ s t chain frame turned has. has) _ _ _ _ c.take_frames.ensures.takes in
    same_input (ChecksProof g.M.Clock.now g.M.Clock.disk g.M.Clock.told g.M.Clock.disk_faults
    g.M.Clock.wire_faults) _ _ _ c.take_frames.new.taker.machine.now _ (search rules) all

pub returns-clause-disk : goal.returns-clause-disk
returns-clause-disk g c =
    let all = input_of _ (λ s. s.machine.now) (ChecksProof g.M.Clock.now g.M.Clock.disk
    g.M.Clock.told g.M.Clock.disk_faults g.M.Clock.wire_faults)
    (λ s t chain frame turned has. has) _ _ _ _ c.take_frames.ensures.takes in
    search (
      rules,
      disk_ends g.M.Clock.now g.M.Clock.disk g.M.Clock.told g.M.Clock.disk_faults
          g.M.Clock.wire_faults _ c.args.file _ _ refl _ all,
    )

pub returns-clause-untold : goal.returns-clause-untold
returns-clause-untold g c =
    let all = input_of _ (λ s. s.machine.now) (ChecksProof g.M.Clock.now g.M.Clock.disk
    g.M.Clock.told g.M.Clock.disk_faults g.M.Clock.wire_faults)
    (λ s t chain frame turned has. has) _ _ _ _ c.take_frames.ensures.takes in
    search (
      rules,
      wire_ends g.M.Clock.now g.M.Clock.disk g.M.Clock.told g.M.Clock.disk_faults
          g.M.Clock.wire_faults _ c.args.file _ _ refl _ all,
    )

pub returns-clause-reads : goal.returns-clause-reads
returns-clause-reads g c is =
    let all = input_of _ (λ s. s.machine.now) (ChecksProof g.M.Clock.now g.M.Clock.disk
    g.M.Clock.told g.M.Clock.disk_faults g.M.Clock.wire_faults)
    (λ s t chain frame turned has. has) _ _ _ _ c.take_frames.ensures.takes in
    reads_ends g.M.Clock.now g.M.Clock.disk g.M.Clock.told g.M.Clock.disk_faults
    g.M.Clock.wire_faults _ c.args.file _ _ refl _ all is

pub returns-clause-writes : goal.returns-clause-writes
returns-clause-writes g c is =
    let all = input_of _ (λ s. s.machine.now) (ChecksProof g.M.Clock.now g.M.Clock.disk
    g.M.Clock.told g.M.Clock.disk_faults g.M.Clock.wire_faults)
    (λ s t chain frame turned has. has) _ _ _ _ c.take_frames.ensures.takes in
    writes_ends g.M.Clock.now g.M.Clock.disk g.M.Clock.told g.M.Clock.disk_faults
    g.M.Clock.wire_faults _ c.args.file _ _ refl _ all is

pub returns-clause-keeps : goal.returns-clause-keeps
returns-clause-keeps g c is =
    let all = input_of _ (λ s. s.machine.now) (ChecksProof g.M.Clock.now g.M.Clock.disk
    g.M.Clock.told g.M.Clock.disk_faults g.M.Clock.wire_faults)
    (λ s t chain frame turned has. has) _ _ _ _ c.take_frames.ensures.takes in
    keeps_ends g.M.Clock.now g.M.Clock.disk g.M.Clock.told g.M.Clock.disk_faults
    g.M.Clock.wire_faults _ c.args.file _ _ refl _ all is
