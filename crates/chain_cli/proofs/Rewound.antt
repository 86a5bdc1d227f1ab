-- The root at a block is that of the lineage of the blocks up to it.
use Rattle.std.proofs.Common.{◌≡◌, ◌∙◌, ℕ, ◌+◌, ◌<◌, ◌≤◌, Bool, true, nat_le, List, []}
use Rattle.std.proofs.Common.{length, take, ap, arith, Option, Some, None}
use Rattle.std.specs.Prelude.{MatchOption}
use Rattle.std.proofs.lemmas.List.{get_or-take, length-take-le}
use Rattle.std.proofs.lemmas.List.Elements.{filter_passes, recursion_from_All}
use Rattle.lc_base.specs.declared.digest.Digest.{Digest}
use Rattle.lc_base.specs.declared.row.Row.{Row}
use Rattle.lc_base.specs.History.{up_to}
use Rattle.root_laws.specs.Root.{digest_at, root_of}
use Rattle.root_laws.proofs.Lists.{keep_all}
use Rattle.merkle_dag.specs.Ledger.{Ledger}

up_to_twice : (rows : List Row) (block : ℕ) → up_to (up_to rows block) block ≡ up_to rows block
up_to_twice rows block =
    let early : Row → Bool = λ (row : Row). nat_le row.block block in
    keep_all early (up_to rows block)
    (recursion_from_All (λ (row : Row). early row ≡ true) (up_to rows block)
    (filter_passes early rows))

digest_stays : (digests : List Digest) (block : ℕ)
    → digest_at (take (block + 1) digests) block ≡ digest_at digests block
digest_stays digests block = ap (λ (d : Digest). d.0)
    (get_or-take (block + 1) digests block (record { 0 = [] }) (omega arith))

root_again : (rows : List Row) (digests : List Digest) (block : ℕ)
    → root_of (up_to rows block) (take (block + 1) digests) block ≡ root_of rows digests block
unfolding root_of
root_again rows digests block = cc (up_to_twice rows block, digest_stays digests block)

-- the root at the last block of the lineage that was made of the blocks up to it
pub root_rewound : (whole part : Ledger) (at : ℕ) (found : Option Digest)
    → part ≡ record { rows = up_to whole.rows at; digests = take (at + 1) whole.digests }
    → at < length whole.digests
    → MatchOption found (length part.digests ≤ at)
    (λ root. (at < length part.digests) × (root.0 ≡ root_of part.rows part.digests at))
    → MatchOption found (length whole.digests ≤ at)
    (λ root. (at < length whole.digests) × (root.0 ≡ root_of whole.rows whole.digests at))
root_rewound whole part at None same within none =
    let long : length part.digests ≡ at + 1 = ap (λ (l : Ledger). length l.digests) same
    ∙ length-take-le (at + 1) whole.digests (omega (arith, within)) in
    absurd (omega (arith, none, long))
root_rewound whole part at (Some root) same within (low, is) = (
  within,
  is ∙ ap (λ (l : Ledger). root_of l.rows l.digests at) same
      ∙ root_again whole.rows whole.digests at,
)
