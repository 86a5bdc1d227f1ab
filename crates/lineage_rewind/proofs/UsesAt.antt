-- The uses of a version up to a block are those of the rows up to it.
use Rattle.std.proofs.Common.{◌≡◌, ◌∙◌, ℕ, ◌+◌, ◌<◌, ◌≤◌, true, false, nat_le, List, [], ◌∷◌}
use Rattle.std.proofs.Common.{◌++◌, length, get_or, take, filter, refl, sym, ap, ap₂, arith, inl}
use Rattle.std.proofs.Common.{inr}
use Rattle.std.proofs.lemmas.Bool.{cases_Bool}
use Rattle.std.proofs.lemmas.List.{append-nil, length-map, length-take-le, length_push, take_more}
use Rattle.std.proofs.lemmas.List.Elements.{filter-append}
use Rattle.lc_base.specs.declared.digest.Digest.{Digest}
use Rattle.lc_base.specs.declared.row.Dep.{Dep}
use Rattle.lc_base.specs.declared.row.Row.{Row}
use Rattle.lc_base.specs.History.{depends_on, up_to, uses, version_of}
use Rattle.lineage_index.specs.forward_links.declared.open_list.OpenList.{OpenList}
use Rattle.lineage_index.specs.prov_entry.ForwardLists.{uses_digest, with_use}
use Rattle.lineage_index.proofs.root_laws.Growing.{uses_digest_append}
use Rattle.lineage_index.proofs.root_laws.Parts.{filter_short}
use Rattle.lineage_rewind.specs.LeavesAt.{is_up_to, told_of, versions_up_to}

pub uses_cut : (rows : List Row) (key : List ℕ) (block at : ℕ)
    → versions_up_to at (uses rows key block) ≡ uses (up_to rows at) key block
uses_cut [] key block at = refl
uses_cut (row ∷ rows) key block at =
    let rest = uses_cut rows key block at in
    elim (cases_Bool (depends_on key block row)) [
      | inl t ↦ elim (cases_Bool (nat_le row.block at)) [
        | inl u ↦ rw (t, u) (rw t (ap (λ (found : List Dep). version_of row ∷ found) rest))
        | inr u ↦ rw (t, u) rest
      ]
      | inr t ↦ elim (cases_Bool (nat_le row.block at)) [
        | inl u ↦ rw (t, u) (rw t rest)
        | inr u ↦ rw (t, u) rest
      ]
    ]

-- What is told of uses with one more.
pub told_more : (told : OpenList) (versions : List Dep) (version : Dep) (at count : ℕ)
    (digest : Digest) → told ≡ told_of versions → nat_le version.block at ≡ true
    → count ≡ told.count + 1 → digest.0 ≡ with_use told.digest.0 version
    → record { count = count; digest = digest } ≡ told_of (versions ++ versions_up_to at
    (version ∷ []))
told_more told versions version at count digest is low count_is digest_is =
    let one : versions_up_to at (version ∷ []) ≡ version ∷ [] = rw low refl in
    let more : length (versions ++ version ∷ []) ≡ length versions + 1 = length_push versions
    version in
    let count' : count ≡ length (versions ++ version ∷ []) = count_is
    ∙ ap (λ (t : OpenList). t.count + 1) is ∙ sym more in
    let digest' : digest.0 ≡ uses_digest (versions ++ version ∷ []) = digest_is
    ∙ ap (λ (t : OpenList). with_use t.digest.0 version) is
    ∙ sym (uses_digest_append versions (version ∷ [])) in
    ap₂ (λ (c : ℕ) (d : List ℕ). let t : OpenList = record { count = c; digest = record { 0 = d } } in
    t) count' digest' ∙ ap (λ (vs : List Dep). told_of (versions ++ vs)) (sym one)

pub told_same : (told : OpenList) (versions : List Dep) (version : Dep) (at : ℕ)
    → told ≡ told_of versions → nat_le version.block at ≡ false
    → told ≡ told_of (versions ++ versions_up_to at (version ∷ []))
told_same told versions version at is high =
    let none : versions_up_to at (version ∷ []) ≡ [] = rw high refl in
    is ∙ ap told_of (sym (append-nil versions))
    ∙ ap (λ (vs : List Dep). told_of (versions ++ vs)) (sym none)

-- The versions up to a block among the first ones, with one more.
pub first_up_to : (versions : List Dep) (version d : Dep) (at i : ℕ) → i < length versions
    → version ≡ get_or versions i d
    → versions_up_to at (take i versions) ++ versions_up_to at (version ∷ [])
    ≡ versions_up_to at (take (i + 1) versions)
first_up_to versions version d at i within is =
    sym (filter-append (is_up_to at) (take i versions) (version ∷ []))
    ∙ ap (λ (v : Dep). versions_up_to at (take i versions ++ v ∷ [])) is
    ∙ ap (versions_up_to at) (sym (take_more versions i d within))

-- Of the first versions at most all are up to a block.
pub few_up_to : (versions : List Dep) (at i : ℕ) → i ≤ length versions
    → length (versions_up_to at (take i versions)) ≤ i
few_up_to versions at i within = omega (
  arith,
  filter_short (is_up_to at) (take i versions),
  length-take-le i versions within,
)

-- There are at most as many uses as rows.
pub few_uses : (rows : List Row) (key : List ℕ) (block : ℕ)
    → length (uses rows key block) ≤ length rows
few_uses rows key block = omega (
  arith,
  length-map (filter (depends_on key block) rows) version_of,
  filter_short (depends_on key block) rows,
)
