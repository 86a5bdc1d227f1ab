-- Of no rows, the sentinel is kept, and nothing else.
use Rattle.std.proofs.Common.{[], ◌∷◌, refl, rules, arith}
use Rattle.std.proofs.lemmas.Option.{none-some}
use Rattle.plain_rows.specs.root_laws.Root.{sentinel}
use Rattle.lineage_index.specs.Entries.{entries_after}
use Rattle.lineage_index.specs.Blocks.{IsKeptIndex}

pub kept_at_first : IsKeptIndex [] 0 (sentinel [] ∷ []) [] [] [] []
unfolding entries_after
kept_at_first = record {
  store = record { lawful = record { few = omega arith; ordered = search rules; lawful_deps = search rules }; entries_are = refl };
  within = search rules;
  heads = record { apart = search rules; leaves_are = refl; lists_are = refl; newest_are = refl };
  closed_are = record { long = refl; each = λ index row at. absurd (none-some row at) };
}
