use Rattle.std.proofs.Common.{false, [], sym, ap, subst, ◌∙◌}
use Rattle.disk_model.specs.Disk.{content_of}
use Rattle.block_log.specs.Log.{LogState}
use Rattle.block_log.specs.Ahead.{ReaderState}
use Rattle.block_codec.specs.Placement.{no_parent}
use Rattle.block_log.specs.declared.layout.TheConstants.{FIRST_GATE}
use Rattle.block_log.specs.Reader.{AreRead, AreAll, reader_at}
use Rattle.block_log.proofs.Heads.{just_opened, blank_started, other_head}
use Rattle.block_log.proofs.log.Log.start.Goals as goal

pub returns-in-Log-clause-answer : goal.returns-in-Log-clause-answer
returns-in-Log-clause-answer g c =
    let content = content_of (g.M.Clock.disk c.read_head.new.machine (g.M.Clock.now c.read_head.new.machine)) in
    subst (λ (reader : ReaderState). AreRead reader content []) (sym (c.first_reader.ensures ∙ ap (reader_at FIRST_GATE 0 no_parent false) c.new-ahead.ensures))
    (just_opened content (λ image told. sym (c.in_ok-read_head.ensures.head image (ap content_of (sym c.read_head.ensures.disk.last) ∙ told)) ∙ c.in-Log.is))

pub returns-in-Blank-clause-answer : goal.returns-in-Blank-clause-answer
returns-in-Blank-clause-answer g c =
    let content = content_of (g.M.Clock.disk c.read_head.new.machine (g.M.Clock.now c.read_head.new.machine)) in
    subst (λ (log : LogState). AreAll log content []) (sym c.blank_log.ensures)
    (blank_started content c.in-Blank.is_begun (λ image told. sym (c.in_ok-read_head.ensures.head image (ap content_of (sym c.read_head.ensures.disk.last) ∙ told)) ∙ c.in-Blank.is))

pub returns-in-Other-clause-answer : goal.returns-in-Other-clause-answer
returns-in-Other-clause-answer g c image told = other_head image (sym (c.in_ok-read_head.ensures.head image (ap content_of (sym c.read_head.ensures.disk.last) ∙ told)) ∙ c.in-Other.is)
