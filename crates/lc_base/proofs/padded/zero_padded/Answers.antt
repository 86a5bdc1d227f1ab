use Rattle.std.proofs.lemmas.List.{drop-replicate}
use Rattle.lc_base.proofs.padded.zero_padded.Goals as goal

pub returns : goal.returns
returns g c = rw c.copy_from_slice.ensures.after (simp drop-replicate)
