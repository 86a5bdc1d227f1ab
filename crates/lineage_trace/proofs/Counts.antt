-- The count of the versions that lookups look at, over several lookups.
use Rattle.std.proofs.Common.{◌≡◌, ◌∙◌, ℕ, ◌+◌, ◌-◌, ◌*◌, ◌^◌, ◌<◌, ◌≤◌, List, [], ◌∷◌, ◌++◌}
use Rattle.std.proofs.Common.{length}
use Rattle.std.proofs.Common.{reverse, refl, sym, ap, arith}
use Rattle.std.proofs.lemmas.List.{reverse-append}
use Rattle.std.proofs.Math.Nat.{add-mul}
use Rattle.lc_base.specs.declared.row.Dep.{Dep}
use Rattle.lc_base.specs.declared.row.Row.{Row}
use Rattle.skip_links.specs.Paths.{path}
use Rattle.entry_store.specs.Steps.{raised_count}
use Rattle.root_laws.specs.AncestorSteps.{steps_of}
use Rattle.lineage_trace.specs.Counting.{RisesUpTo}

-- ---- the steps of several lookups

pub steps_append : (rows : List Row) (versions others : List Dep)
    → steps_of rows (versions ++ others) ≡ steps_of rows versions + steps_of rows others
steps_append rows [] others = omega arith
steps_append rows (version ∷ versions) others =
    let rest = steps_append rows versions others in omega (arith, rest)

pub steps_push : (rows : List Row) (versions : List Dep) (version : Dep)
    → steps_of rows (versions ++ version ∷ [])
    ≡ steps_of rows versions + length (path rows version.key version.block)
steps_push rows versions version =
    let both = steps_append rows versions (version ∷ []) in omega (arith, both)

pub steps_reverse : (rows : List Row) (versions : List Dep)
    → steps_of rows (reverse versions) ≡ steps_of rows versions
steps_reverse rows [] = refl
steps_reverse rows (version ∷ versions) =
    let rest = steps_reverse rows versions in
    let push = steps_push rows (reverse versions) version in
    rw (reverse-append (version ∷ []) versions) (omega (arith, rest, push))

-- ---- a count that rises

raised_twice : (count more most : ℕ)
    → raised_count (raised_count count more) most ≡ raised_count count (more + most)
raised_twice count more most = omega arith

pub none_counted : (rows : List Row) (found : List Dep) (count : ℕ) → count < 2 ^ 64
    → found ≡ [] → count ≡ raised_count count (steps_of rows found)
none_counted rows found count fits none =
    let no_steps : steps_of rows found ≡ 0 = ap (steps_of rows) none in
    omega (arith, fits, no_steps)

pub one_counted : (rows : List Row) (found : List Dep) (version : Dep) (start count next : ℕ)
    → count ≡ raised_count start (steps_of rows found)
    → next ≡ raised_count count (length (path rows version.key version.block))
    → next ≡ raised_count start (steps_of rows (found ++ version ∷ []))
one_counted rows found version start count next before is =
    let more = length (path rows version.key version.block) in
    is ∙ ap (λ (n : ℕ). raised_count n more) before
    ∙ raised_twice start (steps_of rows found) more
    ∙ ap (raised_count start) (sym (steps_push rows found version))

-- What was counted so far is a part of all.
pub part_counted : (rows : List Row) (found rest all : List Dep) (start count : ℕ)
    → start < 2 ^ 64 → found ++ rest ≡ all
    → count ≡ raised_count start (steps_of rows found)
    → RisesUpTo (steps_of rows all) start count
part_counted rows found rest all start count fits whole is =
    let both = steps_append rows found rest in
    let sum : steps_of rows all ≡ steps_of rows (found ++ rest) = ap (steps_of rows) (sym whole) in
    (omega (arith, is, fits), omega (arith, is, both, sum))

-- All that was found is counted.
pub rises_found : (rows : List Row) (found all : List Dep) (start count : ℕ) → start < 2 ^ 64
    → found ≡ all → count ≡ raised_count start (steps_of rows found)
    → RisesUpTo (steps_of rows all) start count
rises_found rows found all start count fits whole is =
    let same : steps_of rows found ≡ steps_of rows all = ap (steps_of rows) whole in
    (omega (arith, is, fits), omega (arith, is, same))

pub stays_counted : (all start : ℕ) → start < 2 ^ 64 → RisesUpTo all start start
stays_counted all start fits = (omega arith, omega (arith, fits))

-- One lookup, and then others.
pub then_counted : (start more next all after : ℕ) → next ≡ raised_count start more
    → after ≡ raised_count next all → after ≡ raised_count start (more + all)
then_counted start more next all after first others =
    others ∙ ap (λ (n : ℕ). raised_count n all) first ∙ raised_twice start more all

pub then_rises : (start more next all after : ℕ) → start < 2 ^ 64 → next ≡ raised_count start more
    → RisesUpTo all next after → RisesUpTo (more + all) start after
then_rises start more next all after fits first others = (
  omega (arith, first, others.0, fits),
  omega (arith, first, others.1),
)

pub all_rises : (start all after : ℕ) → start < 2 ^ 64 → after ≡ raised_count start all
    → RisesUpTo all start after
all_rises start all after fits is = (omega (arith, is, fits), omega (arith, is))

pub first_rises : (start more next all : ℕ) → start < 2 ^ 64 → next ≡ raised_count start more
    → RisesUpTo (more + all) start next
first_rises start more next all fits first = (omega (arith, first, fits), omega (arith, first))

-- ---- few steps

pub few_more : (n most start count next : ℕ) → count ≤ start + n * most → next ≤ count + most
    → next ≤ start + (n + 1) * most
few_more n most start count next before more =
    let sum = add-mul n 1 most in omega (arith, before, more, sum)

pub few_of_all : (n all most start count : ℕ) → n ≤ all → count ≤ start + n * most
    → count ≤ start + all * most
few_of_all n all most start count within few =
    let others : all ≡ n + (all - n) = omega (arith, within) in
    let sum : all * most ≡ n * most + (all - n) * most =
    ap (λ (m : ℕ). m * most) others ∙ add-mul n (all - n) most in
    omega (arith, few, sum)

pub few_first : (n most start next after : ℕ) → next ≤ start + most → after ≤ next + n * most
    → after ≤ start + (n + 1) * most
few_first n most start next after first others =
    let sum = add-mul n 1 most in omega (arith, first, others, sum)

-- A count that rises up to so many of the steps that are few.
pub few_risen : (all bound start after : ℕ) → all ≤ bound → after ≤ raised_count start all
    → after ≤ start + bound
few_risen all bound start after few risen = omega (arith, few, risen)
