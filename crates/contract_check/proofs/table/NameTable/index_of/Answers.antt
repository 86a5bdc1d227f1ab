use Rattle.std.proofs.Common.{rules, ◌≡◌, ◌∙◌, ◌<◌, ◌==◌, ℕ, List, length, Option, is_some, sym, ap, subst}
use Rattle.std.specs.Prelude.{IfSome}
use Rattle.std.specs.Ordering.{nat_cmp}
use Rattle.std.specs.BTreeMap.{get}
use Rattle.std.specs.Cmp.Lexicographic.{pointwise}
use Rattle.contract_check.specs.Indexes.{index_in}
use Rattle.contract_check.proofs.FirstPlaces.{index_of_key, found_where_placed, index_within}
use Rattle.contract_check.proofs.table.NameTable.index_of.Given as given
use Rattle.contract_check.proofs.table.NameTable.index_of.Goals as goal

compared : (g : given.Over) (c : goal.After-index_among g) → c.index_among.result ≡ index_in c.args.self.now c.args.name.now
compared g c =
    let all : c.as_slice.result.now ≡ c.args.self.now = search rules in
    c.index_among.ensures ∙ index_of_key (pointwise ◌==◌ c.args.name.now) c.as_slice.result.now ∙ ap (λ (entries : List (List ℕ × g.row.T.Denot)). index_in entries c.args.name.now) all

pub returns-else-len-gt-FEW-clause-index : goal.returns-else-len-gt-FEW-clause-index
returns-else-len-gt-FEW-clause-index g c = compared g c

pub returns-else-len-gt-FEW-clause-found : goal.returns-else-len-gt-FEW-clause-found
returns-else-len-gt-FEW-clause-found g c =
    ap (λ (o : Option ℕ). is_some o) (compared g c) ∙ found_where_placed (pointwise ◌==◌ c.args.name.now) c.args.self.now

pub returns-then-len-gt-FEW-clause-within : goal.returns-then-len-gt-FEW-clause-within
returns-then-len-gt-FEW-clause-within g c =
    let found : c.copied.result ≡ index_in c.args.self.now c.args.name.now =
    c.copied.ensures ∙ c.get.ensures.value ∙ ap (λ (key : ℕ). get nat_cmp c.self.inside.indexes key) c.code_of.ensures.code ∙ c.self.invariant c.args.name.now c.code_of.ensures.is_name
    ∙ ap (λ (entries : List (List ℕ × g.row.T.Denot)). index_in entries c.args.name.now) c.self.view_is in
    subst (λ (o : Option ℕ). IfSome o (λ index. index < length c.args.self.now)) (sym found) (index_within (pointwise ◌==◌ c.args.name.now) c.args.self.now)
