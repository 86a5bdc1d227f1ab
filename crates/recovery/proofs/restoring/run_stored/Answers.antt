use Rattle.std.proofs.Common.{refl, sym, ◌∙◌}
use Rattle.recovery.proofs.Placing.{next_stored}
use Rattle.recovery.proofs.restoring.run_stored.Goals as goal

pub returns-in_ok-longer-in-Next-clause-run : goal.returns-in_ok-longer-in-Next-clause-run
returns-in_ok-longer-in-Next-clause-run g c known blocks stands fits digest =
    let here = sym (c.place.ensures.stands blocks stands digest) ∙ c.in-Next.is in (
      here,
      c.in_ok-longer-in-Next.ensures.stands known blocks stands digest
          (next_stored c.args.marked blocks c.args.next.now.block fits here),
    )

pub returns-in_default-clause-run : goal.returns-in_default-clause-run
returns-in_default-clause-run g c known blocks stands fits digest =
    (λ is. c.in_default.not-Next (c.place.ensures.stands blocks stands digest ∙ is), refl)
