-- One row of a block more becomes the newest version of its key, and closes the list before.
use Rattle.std.proofs.Common.{◌≡◌, ℕ, ◌<◌, List, [], ◌∷◌, ◌++◌, length, take, drop, refl, sym}
use Rattle.std.proofs.Common.{subst}
use Rattle.std.specs.List.{AllByRecursion}
use Rattle.std.proofs.lemmas.List.{append_assoc, take-append-drop}
use Rattle.lc_base.specs.declared.row.Row.{Row}
use Rattle.entry_views.specs.prov_entry.declared.entry.Leaf.{Leaf}
use Rattle.forward_links.specs.declared.kept_list.KeptList.{KeptList}
use Rattle.plain_rows.proofs.root_laws.Lists.{all_front}
use Rattle.lineage_index.specs.Growth.{open_uses}
use Rattle.lineage_index.specs.Heads.{AreHeads, with_version}
use Rattle.lineage_index.specs.Settling.{AreSettling, settled_states}
use Rattle.lineage_index.specs.Closed.{AreClosed, CanClose, closed_with}
use Rattle.lineage_index.proofs.Blocks.{rows_now}
use Rattle.lineage_index.proofs.ClosedLists.{settled_to}
use Rattle.lineage_index.proofs.ClosedRows.{can_close, closed_more}
use Rattle.lineage_index.proofs.Settled.{heads_more}

first_now : (rows new : List Row) (n i : ℕ) → AllByRecursion (λ (row : Row). row.block ≡ n) new
    → AllByRecursion (λ (row : Row). row.block ≡ n) (take i new)
first_now rows new n i now = all_front (λ (row : Row). row.block ≡ n) (take i new) (drop i new)
    (subst (AllByRecursion (λ (row : Row). row.block ≡ n)) (sym (take-append-drop i new)) now)

-- The list that the next row closes has a place.
pub may_close : (rows new : List Row) (n i : ℕ) (row : Row) (tree : List Leaf)
    (lists : List KeptList)
    (newest : List ℕ) (closed : List (List ℕ)) → i < length new
    → AreSettling rows new (take i new) n tree lists newest closed
    → CanClose (settled_states rows (open_uses rows new) (take i new)) row.key closed
may_close rows new n i row tree lists newest closed l s =
    can_close (rows ++ new) (rows ++ take i new) row (settled_states rows (open_uses rows new)
    (take i new)) closed
    s.closed_are refl refl (settled_to rows new (take i new) n row.key s.grows
    (first_now rows new n i (rows_now rows new n s.grows)))

pub settled_more : (rows new : List Row) (n i : ℕ) (row : Row) (tree tree' : List Leaf)
    (lists lists' : List KeptList)
    (newest newest' : List ℕ) (closed closed' : List (List ℕ)) (index : ℕ) → i < length new
    → index ≡ length (rows ++ take i new)
    → AreSettling rows new (take i new) n tree lists newest closed
    → AreHeads tree' lists' newest' (with_version (settled_states rows (open_uses rows new)
    (take i new)) row.key index)
    → closed' ≡ closed_with (settled_states rows (open_uses rows new) (take i new)) row.key closed
    → AreSettling rows new (take i new ++ row ∷ []) n tree' lists' newest' closed'
settled_more rows new n i row tree tree' lists lists' newest newest' closed closed' index l at s
    heads is =
    let done = take i new in
    let list = settled_to rows new done n row.key s.grows (first_now rows new n i
    (rows_now rows new n s.grows)) in
    record {
      grows = s.grows;
      heads = heads_more rows done (open_uses rows new) row tree' lists' newest' index at heads;
      closed_are = subst (λ (after : List (List ℕ)). AreClosed (rows ++ new) (rows ++
          (done ++ row ∷ [])) after) (sym is)
          (subst (λ (first : List Row). AreClosed (rows ++ new) first (closed_with
          (settled_states rows (open_uses rows new) done) row.key closed))
          (append_assoc rows done (row ∷ []))
          (closed_more (rows ++ new) (rows ++ done) row (settled_states rows
          (open_uses rows new) done) closed s.closed_are refl refl list));
    }
