-- Versions that are inserted one after another.
use Rattle.std.proofs.Common.{◌≡◌, ◌∙◌, ℕ, ◌+◌, ◌<◌, ◌≤◌, List, ◌∷◌, length, drop, get_or, sym}
use Rattle.std.proofs.Common.{ap}
use Rattle.std.proofs.lemmas.List.{at_drop_more, at_drop_all}
use Rattle.lc_base.specs.declared.row.Dep.{Dep}
use Rattle.root_laws.specs.Ancestors.{inserted, all_inserted, itself}

pub one_inserted : (versions : List Dep) (i : ℕ) (version : Dep) (now new all : List Dep)
    → i < length versions → version ≡ get_or versions i version
    → new ≡ inserted itself version now → all_inserted itself (drop i versions) now ≡ all
    → all_inserted itself (drop (i + 1) versions) new ≡ all
one_inserted versions i version now new all low is put before =
    ap (all_inserted itself (drop (i + 1) versions)) put
    ∙ ap (λ (v : Dep). all_inserted itself (v ∷ drop (i + 1) versions) now) is
    ∙ sym (at_drop_more (λ (vs : List Dep). all_inserted itself vs now) versions i version low)
    ∙ before

pub none_left : (versions : List Dep) (i : ℕ) (now all : List Dep) → length versions ≤ i
    → all_inserted itself (drop i versions) now ≡ all → now ≡ all
none_left versions i now all past before =
    sym (at_drop_all (λ (vs : List Dep). all_inserted itself vs now) versions i past) ∙ before
