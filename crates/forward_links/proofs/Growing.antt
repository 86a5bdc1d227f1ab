-- A list with one use more at its end, and what is read of lists.
use Rattle.std.proofs.Common.{◌≡◌, ◌∙◌, ℕ, ◌<◌, List, [], ◌∷◌, ◌++◌, length, map, get_or, sym, ap}
use Rattle.std.proofs.Common.{ap₂, arith}
use Rattle.std.proofs.Math.ListN.{set}
use Rattle.std.proofs.lemmas.List.{length-map, map-append, map-set, get_or-map}
use Rattle.std.proofs.lemmas.List.Sums.{fold_push}
use Rattle.lc_base.specs.declared.row.Dep.{Dep}
use Rattle.prov_entry.specs.ForwardLists.{no_uses, uses_digest, with_use}
use Rattle.forward_links.specs.declared.open_list.OpenList.{OpenList}
use Rattle.forward_links.specs.declared.kept_list.KeptList.{KeptList}
use Rattle.forward_links.specs.declared.kept_list.Closed.{Closed}
use Rattle.forward_links.specs.Lists.{
  Use,
  closed_list,
  closed_of,
  emptied_at,
  kept_at,
  kept_of,
  open_list,
  open_of,
  rows_of,
  versions_of,
  with_one,
  with_one_at,
  with_use_at,
}

-- What is kept of a list with one use more.
pub kept_with_one : (uses : List Use) (version : Dep) (row : ℕ)
    → kept_of (uses ++ record { version = version; row = row } ∷ []) ≡ with_one
    (kept_of uses) version row
kept_with_one uses version row =
    let use_ : Use = record { version = version; row = row } in
    ap₂ (λ (rows : List ℕ) (digest : List ℕ).
    let kept : KeptList = record { rows = rows; digest = record { 0 = digest } } in kept)
    (map-append (λ (u : Use). u.row) uses (use_ ∷ []))
    (ap uses_digest (map-append (λ (u : Use). u.version) uses (use_ ∷ []))
    ∙ fold_push with_use no_uses (versions_of uses) version)

within_lists : (kept : List KeptList) (lists : List (List Use)) (index : ℕ)
    → kept ≡ map kept_of lists → index < length kept → index < length lists
within_lists kept lists index are below = omega (
  arith,
  below,
  ap length are,
  length-map lists
      kept_of,
)

-- What is kept of the list at an index, among others.
pub uses_kept : (kept : List KeptList) (lists : List (List Use)) (index : ℕ)
    → kept ≡ map kept_of lists → index < length kept → kept_at kept index ≡ kept_of
    (get_or lists index [])
uses_kept kept lists index are below =
    ap (λ (all : List KeptList). kept_at all index) are
    ∙ get_or-map kept_of lists index [] (kept_of []) (within_lists kept lists index are below)

-- The list at an index gets one use more.
pub uses_with_one : (kept : List KeptList) (lists : List (List Use)) (index : ℕ) (version : Dep)
    (row : ℕ)
    → kept ≡ map kept_of lists → index < length kept
    → with_one_at kept index version row
    ≡ map kept_of (with_use_at lists index (record { version = version; row = row }))
uses_with_one kept lists index version row are below =
    let use_ : Use = record { version = version; row = row } in
    ap₂ (λ (all : List KeptList) (one : KeptList). set all index (with_one one version row)) are
    (uses_kept kept lists index are below)
    ∙ ap (set (map kept_of lists) index) (sym (kept_with_one (get_or lists index []) version row))
    ∙ sym (map-set kept_of lists index (get_or lists index [] ++ use_ ∷ []))

-- The list at an index is emptied.
pub uses_emptied : (kept : List KeptList) (lists : List (List Use)) (index : ℕ)
    → kept ≡ map kept_of lists
    → emptied_at kept index ≡ map kept_of (set lists index [])
uses_emptied kept lists index are =
    ap (λ (all : List KeptList). emptied_at all index) are ∙ sym (map-set kept_of lists index [])

-- ---- what is read of the list at an index

closed_kept : (uses : List Use) → closed_list (kept_of uses) ≡ closed_of uses
closed_kept uses = ap (λ (count : ℕ).
    let one : Closed = record
    { count = count; digest = record { 0 = uses_digest (versions_of uses) }; rows = rows_of uses }
    in one)
    (length-map uses (λ (u : Use). u.row))

open_kept : (uses : List Use) → open_list (kept_of uses) ≡ open_of uses
open_kept uses = ap (λ (count : ℕ).
    let one : OpenList = record {
      count = count;
      digest = record {
        0 = uses_digest
            (versions_of uses);
      };
    } in one)
    (length-map uses (λ (u : Use). u.row))

pub closed_uses : (kept : List KeptList) (lists : List (List Use)) (index : ℕ)
    → kept ≡ map kept_of lists
    → index < length kept → closed_list (kept_at kept index) ≡ closed_of (get_or lists index [])
closed_uses kept lists index are below =
    ap closed_list (uses_kept kept lists index are below) ∙ closed_kept (get_or lists index [])

pub open_uses : (kept : List KeptList) (lists : List (List Use)) (index : ℕ)
    → kept ≡ map kept_of lists
    → index < length kept → open_list (kept_at kept index) ≡ open_of (get_or lists index [])
open_uses kept lists index are below =
    ap open_list (uses_kept kept lists index are below) ∙ open_kept (get_or lists index [])

pub rows_kept : (kept : List KeptList) (lists : List (List Use)) (index : ℕ)
    → kept ≡ map kept_of lists
    → index < length kept → (kept_at kept index).rows ≡ rows_of (get_or lists index [])
rows_kept kept lists index are below =
    ap (λ (one : KeptList). one.rows) (uses_kept kept lists index are below)
