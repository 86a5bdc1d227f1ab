-- The next row of a lawful history can be added: its dependencies are on rows before it, and
-- nothing was derived from it yet.
use Rattle.std.proofs.Common.{◌≡◌, ℕ, ◌+◌, ◌<◌, ◌≤◌, List, [], ◌∷◌, ◌++◌, length, get_or, take}
use Rattle.std.proofs.Common.{drop, sym, ap, subst, ◌∙◌, arith}
use Rattle.std.proofs.lemmas.List.{append_assoc, length-append, take-append-drop, take_more}
use Rattle.std.proofs.lemmas.List.{get_or_append_left}
use Rattle.std.proofs.Math.Seq.{get_or-append_seam}
use Rattle.std.proofs.lemmas.Option.{slice_get_within, get_or_from_slice_get}
use Rattle.std.specs.BTreeMap.{BTreeMap}
use Rattle.lc_base.specs.declared.row.Row.{Row}
use Rattle.lc_base.specs.History.{IsLawful, HasLawfulDeps, StandsBefore}
use Rattle.plain_rows.specs.declared.places.Place.{Place}
use Rattle.plain_rows.specs.Places.{ArePlaces}
use Rattle.plain_rows.specs.Users.{AreUsers, CanUse, IsUnused}
use Rattle.plain_rows.proofs.Later.{blocks_rise}
use Rattle.plain_rows.proofs.Recorded.{dep_stands, is_unused}

-- the rows before an index, the row there, and the rows after it
pub split_at : (rows new : List Row) (i : ℕ) (row : Row) → i < length new → row ≡ get_or new i row →
    (rows ++ take i new) ++ row ∷ drop (i + 1) new ≡ rows ++ new
split_at rows new i row m is =
    append_assoc rows (take i new) (row ∷ drop (i + 1) new)
    ∙ ap (λ (l : List Row). rows ++ l)
    (sym (append_assoc (take i new) (row ∷ []) (drop (i + 1) new))
    ∙ ap (λ (l : List Row). l ++ drop (i + 1) new)
    (ap (λ (r : Row). take i new ++ r ∷ []) is ∙ sym (take_more new i row m))
    ∙ take-append-drop (i + 1) new)

module _ (done rest : List Row) (row : Row) (lawful : IsLawful (done ++ row ∷ rest)) where
  own_deps : HasLawfulDeps (done ++ row ∷ rest) row
  own_deps = subst (HasLawfulDeps (done ++ row ∷ rest)) (get_or-append_seam done row rest row)
      (lawful.lawful_deps (length done) row (omega (arith, length-append done (row ∷ rest))))

  pub can_use : (places : BTreeMap (List ℕ) (List Place)) (lists : List (List ℕ))
      → ArePlaces done places → AreUsers done lists → CanUse done row.deps places lists
  can_use places lists kept users = record {
    ordered = λ i j d l k.
        let whole = lawful.ordered i j d l (omega (arith, length-append done (row ∷ rest), k)) in
        subst (λ (b : Row). StandsBefore (get_or done i d) b)
        (get_or_append_left done (row ∷ rest) d j k)
        (subst (λ (a : Row). StandsBefore a (get_or (done ++ row ∷ rest) j d))
        (get_or_append_left done (row ∷ rest) d i (omega (arith, l, k))) whole);
    kept = kept;
    once = own_deps.once;
    stand = λ k d m. dep_stands done rest row (get_or row.deps k d) lawful (own_deps.newest k d m);
    users = users;
  }

  pub unused_here : IsUnused (done ++ row ∷ []) row
  unused_here = is_unused (done ++ row ∷ rest) (done ++ row ∷ []) row lawful (λ i r at.
      let within = slice_get_within (done ++ row ∷ []) i r at in
      let low : i ≤ length done = omega (arith, length-append done (row ∷ []), within) in
      let long : length done < length (done ++ row ∷ rest) = omega
      (arith, length-append done (row ∷ rest)) in
      let same : get_or (done ++ row ∷ rest) i r ≡ r =
      ap (λ (l : List Row). get_or l i r) (sym (append_assoc done (row ∷ []) rest))
      ∙ get_or_append_left (done ++ row ∷ []) rest r i within
      ∙ get_or_from_slice_get (done ++ row ∷ []) i r r at in
      let block_low = blocks_rise (done ++ row ∷ rest) lawful i (length done) r low long in (
        subst (HasLawfulDeps (done ++ row ∷ rest)) same
            (lawful.lawful_deps i r (omega (arith, low, long))),
        subst (λ (b : Row). r.block ≤ b.block) (get_or-append_seam done row rest r)
            (subst (λ (a : Row). a.block ≤ (get_or (done ++ row ∷ rest) (length done) r).block) same
            block_low),
      ))
