-- The roots of earlier blocks stay when later blocks are appended.
use Rattle.std.proofs.Common.{◌≡◌, ◌∙◌, ℕ, suc, ◌<◌, List, [], ◌++◌, length, ap}
use Rattle.std.proofs.lemmas.List.{get_or_append_left}
use Rattle.std.proofs.lemmas.List.Elements.{recursion_from_All}
use Rattle.sha2.specs.Sha256.{sha256}
use Rattle.lc_base.specs.declared.digest.Digest.{Digest}
use Rattle.lc_base.specs.declared.row.Row.{Row}
use Rattle.lc_base.specs.History.{up_to}
use Rattle.root_laws.specs.Root.{root_of, root_text, digest_at, leaves}
use Rattle.root_laws.specs.GrowthLaws.{AreFrom}
use Rattle.root_laws.proofs.Growing.{IsFrom, up_to_low}

pub earlier_roots_stay : (rows more : List Row) (digests others : List Digest) (block : ℕ) → AreFrom (suc block) more → block < length digests
    → root_of (rows ++ more) (digests ++ others) block ≡ root_of rows digests block
unfolding root_of
earlier_roots_stay rows more digests others block later l =
    ap (λ (rs : List Row). sha256 (root_text block (digest_at (digests ++ others) block) (leaves rs))) (up_to_low rows more block (recursion_from_All (IsFrom (suc block)) more later))
    ∙ ap (λ (x : Digest). sha256 (root_text block x.0 (leaves (up_to rows block)))) (get_or_append_left digests others (record { 0 = [] }) block l)
