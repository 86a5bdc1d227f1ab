-- A leaf covers a key if its own key is the greatest one that isn't above it.
use Rattle.std.proofs.Common.{◌≡◌, ◌∙◌, ℕ, ◌<◌, true, List, length, slice_get, Some, refl, sym, ap, subst, inl, inr}
use Rattle.std.specs.List.{All, Contains}
use Rattle.std.proofs.lemmas.Option.{slice_get_within, get_or_from_slice_get}
use Rattle.lc_base.specs.declared.row.Row.{Row}
use Rattle.lc_base.specs.History.{IsLawful}
use Rattle.prov_entry.specs.declared.entry.Leaf.{Leaf}
use Rattle.prov_entry.specs.Spelling.{key_or_empty}
use Rattle.root_laws.specs.Root.{keys_of, is_below, next_key, leaf_of, leaves}
use Rattle.root_laws.proofs.Lists.{all_weaker, all_contained}
use Rattle.root_laws.specs.TypedLedger.{IsTypedRow}
use Rattle.root_laws.proofs.Spellings.{leaf_cases}
use Rattle.state_tree.specs.Covering.{Covers}
use Rattle.proof_checks.specs.Checks.{covers}
use Rattle.proof_checks.proofs.MadeThere.{leaf_covers, leaf_of_key}

-- A leaf names the key that follows its own.
next_is_own : (rows : List Row) (lawful : IsLawful rows) (are : All IsTypedRow rows) (leaf : Leaf) → Contains (leaves rows) leaf → leaf.next ≡ next_key (keys_of rows) (key_or_empty leaf.key)
next_is_own rows lawful are leaf has =
    let P : Leaf → Type 0 = λ (l : Leaf). l.next ≡ next_key (keys_of rows) (key_or_empty l.key) in
    elim (leaf_cases rows lawful are leaf has) [
      | inl first ↦ subst P (sym first) refl
      | inr of_key ↦ subst P (sym of_key.2) refl
    ]

pub covers_key : (rows : List Row) (key : List ℕ) (index : ℕ) (leaf : Leaf) → IsLawful rows → All IsTypedRow rows → 0 < length key → slice_get (leaves rows) index ≡ Some leaf → Covers (leaves rows) key index → covers key leaf ≡ true
covers_key rows key index leaf lawful are some at covering =
    let has : Contains (leaves rows) leaf = (index, slice_get_within (leaves rows) index leaf at, get_or_from_slice_get (leaves rows) index leaf leaf at) in
    let same : covering.leaf ≡ leaf = cc (covering.held, at) in
    leaf_covers (keys_of rows) key leaf some (next_is_own rows lawful are leaf has) (ap (λ (l : Leaf). is_below key (key_or_empty l.key)) (sym same) ∙ covering.not_above)
    (all_weaker (Contains (keys_of rows)) (λ (other : List ℕ). is_below (key_or_empty leaf.key) other ≡ true → is_below key other ≡ true)
    (λ other c above. covering.greatest (leaf_of rows other) (leaf_of_key rows other c) (ap (λ (l : Leaf). is_below (key_or_empty l.key) other) same ∙ above)) (keys_of rows) (all_contained (keys_of rows)))
