-- A version that becomes wanted later becomes wanted after all that passed before it.
use Rattle.std.proofs.Common.{◌≡◌, ◌+◌, ℕ, suc, arith, List, ◌∷◌, Option, Some, None, Result, Ok}
use Rattle.std.proofs.Common.{sym, subst, inl, inr}
use Rattle.std.specs.Prelude.{IsOkAnd}
use Rattle.std.specs.Option.{option_map}
use Rattle.prov_entry.specs.declared.entry.BodyDep.{BodyDep}
use Rattle.prov_entry.specs.declared.entry.Header.{Header}
use Rattle.prov_entry.specs.declared.entry.Body.{Body}
use Rattle.proof_verifier.specs.proof_checks.declared.trace_proof.TraceItem.{TraceItem}
use Rattle.proof_verifier.specs.proof_checks.declared.trace_reject.TraceReject.{TraceReject}
use Rattle.proof_verifier.specs.proof_checks.TraceChecks.{with_dep, after_item}
use Rattle.trace_verifier.specs.declared.error.TraceError.{TraceError}
use Rattle.trace_verifier.specs.declared.error.TraceError.TheVariants as errors
use Rattle.trace_verifier.specs.Starting.{wanted_in}
use Rattle.trace_verifier.specs.Items.{item_fault}
use Rattle.trace_verifier.specs.Wanting.{BecomesWanted, DepsWant, ItemWants, ItemsWant, StartWants}
use Rattle.trace_verifier.specs.Wanting.{AnyWants, MayRunOut, block_of_header}
use Rattle.trace_verifier.proofs.Starts.{block_shown}

-- The result of a check that passes.
abbrev Checked : Type 0
Checked = Result (List BodyDep) TraceReject

-- ---- the dependencies of an item

-- A dependency that becomes wanted after one that passes.
pub deps_later : (number block : ℕ) (dep : BodyDep) (all deps wanted next : List BodyDep)
    → all ≡ dep ∷ deps → with_dep number block dep wanted ≡ Ok next
    → DepsWant number block deps next → DepsWant number block all wanted
deps_later number block dep all deps wanted next are passes want =
    subst (λ (deps : List BodyDep). DepsWant number block deps wanted) (sym are)
    (inr (subst (λ (r : Checked). IsOkAnd r (DepsWant number block deps)) (sym passes) want))

-- Memory runs out for the first of them.
pub dep_short : (number block : ℕ) (dep : BodyDep) (all deps wanted first before : List BodyDep)
    (error : TraceError) → all ≡ dep ∷ deps
    → (DepsWant number block all wanted → DepsWant number block first before)
    → MayRunOut (λ short. (short ≡ number) × BecomesWanted block dep wanted) ⊥ error
    → MayRunOut (λ short. (short ≡ number) × DepsWant number block first before) ⊥ error
dep_short number block dep all deps wanted first before (errors.Rejected fault) are on may = tt
dep_short number block dep all deps wanted first before (errors.WantedMemory short) are on may = (
  may.0,
  on (subst (λ (deps : List BodyDep). DepsWant number block deps wanted) (sym are)
      (inl may.1)),
)
dep_short number block dep all deps wanted first before errors.Memory are on may = may

-- ---- the items

-- An item that wants a version after one that passes.
pub items_later : (number : ℕ) (item : TraceItem) (all items : List TraceItem)
    (wanted next : List BodyDep) (short : ℕ) → all ≡ item ∷ items
    → after_item number item wanted ≡ Ok next → ItemsWant (number + 1) items next short
    → ItemsWant number all wanted short
items_later number item all items wanted next short are passes want =
    let later : ItemsWant (suc number) items next short =
    subst (λ (n : ℕ). ItemsWant n items next short) (omega arith) want in
    subst (λ (items : List TraceItem). ItemsWant number items wanted short) (sym are)
    (inr (subst (λ (r : Checked). IsOkAnd r (λ next. ItemsWant (suc number) items next short))
    (sym passes) later))

-- Memory runs out for the first item.
pub item_short : (number : ℕ) (item : TraceItem) (all items first : List TraceItem)
    (wanted before : List BodyDep) (error : TraceError) → all ≡ item ∷ items
    → ((short : ℕ) → ItemsWant number all wanted short → ItemsWant 1 first before short)
    → MayRunOut (λ short. (short ≡ number) × ItemWants number item wanted) ⊥ error
    → MayRunOut (ItemsWant 1 first before) ⊥ error
item_short number item all items first wanted before (errors.Rejected fault) are on may = tt
item_short number item all items first wanted before (errors.WantedMemory short) are on may =
    on short (subst (λ (items : List TraceItem). ItemsWant number items wanted short) (sym are)
    (inl may))
item_short number item all items first wanted before errors.Memory are on may = may

-- Memory runs out for what an item wants that is the last version.
pub last_short : (number : ℕ) (item : TraceItem) (last : BodyDep) (others wanted : List BodyDep)
    (error : TraceError) → wanted ≡ last ∷ others → None ≡ item_fault number item last
    → MayRunOut (λ short.
    (short ≡ number) × DepsWant number item.header.block item.body.deps others) ⊥ error
    → MayRunOut (λ short. (short ≡ number) × ItemWants number item wanted) ⊥ error
last_short number item last others wanted (errors.Rejected fault) are passes may = tt
last_short number item last others wanted (errors.WantedMemory short) are passes may = (
  may.0,
  subst (λ (deps : List BodyDep). ItemWants number item deps) (sym are)
      (sym passes, may.1),
)
last_short number item last others wanted errors.Memory are passes may = may

-- ---- the start and the items

module _ (block : Option ℕ) (body : Option Body) (items : List TraceItem) where
  -- Memory runs out for what the start wants.
  pub start_short : (shows : Type 0) (error : TraceError)
      → MayRunOut (λ short. (short ≡ 0) × StartWants block body) ⊥ error
      → MayRunOut (AnyWants block body items) shows error
  start_short shows (errors.Rejected fault) may = tt
  start_short shows (errors.WantedMemory short) may = inl may
  start_short shows errors.Memory may = absurd may

  -- Or for what an item wants.
  pub items_short : (shows : Type 0) (wanted : List BodyDep) (error : TraceError)
      → wanted_in block body ≡ Ok wanted → MayRunOut (ItemsWant 1 items wanted) ⊥ error
      → MayRunOut (AnyWants block body items) shows error
  items_short shows wanted (errors.Rejected fault) are may = tt
  items_short shows wanted (errors.WantedMemory short) are may =
      inr (subst (λ (r : Checked). IsOkAnd r (λ wanted. ItemsWant 1 items wanted short))
      (sym are) may)
  items_short shows wanted errors.Memory are may = absurd may

-- What the start wants doesn't depend on the block if there is no body.
same_wants : (last : Option Header) (body : Option Body) (items : List TraceItem) (short : ℕ)
    → AnyWants (block_shown last body) body items short
    → AnyWants (option_map block_of_header last) body items short
same_wants None body items short want = want
same_wants (Some header) None items short want = want
same_wants (Some header) (Some body) items short want = want

-- Where memory may run out by the block that the start shows, it may by its last header.
pub may_by_header : (last : Option Header) (body : Option Body) (items : List TraceItem)
    (block : Option ℕ) (shows told : Type 0) (error : TraceError)
    → block ≡ block_shown last body → (shows → told)
    → MayRunOut (AnyWants block body items) shows error
    → MayRunOut (AnyWants (option_map block_of_header last) body items) told error
may_by_header last body items block shows told (errors.Rejected fault) is on may = tt
may_by_header last body items block shows told (errors.WantedMemory short) is on may =
    same_wants last body items short
    (subst (λ (b : Option ℕ). AnyWants b body items short) is may)
may_by_header last body items block shows told errors.Memory is on may = on may
