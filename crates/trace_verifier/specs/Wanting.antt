-- Where memory may run out while a proof is checked: a version becomes wanted that wasn't. No check
-- before it fails, so the memory that a rejection may lack is only that of what is wanted.
use Rattle.std.specs.Prelude.{◌≡◌, ◌⊎◌, ◌<◌, ℕ, suc, false, List, [], ◌∷◌, Option, Some, None}
use Rattle.std.specs.Prelude.{IsOkAnd}
use Rattle.std.specs.List.{list_any}
use Rattle.std.specs.Option.{option_map}
use Rattle.prov_entry.specs.declared.entry.BodyDep.{BodyDep}
use Rattle.prov_entry.specs.declared.entry.Header.{Header}
use Rattle.prov_entry.specs.declared.entry.Body.{Body}
use Rattle.proof_codec.specs.Spelling.{last_of}
use Rattle.root_laws.specs.Naming.{is_named}
use Rattle.proof_verifier.specs.proof_checks.declared.trace_proof.TraceItem.{TraceItem}
use Rattle.proof_verifier.specs.proof_checks.declared.trace_proof.TraceProof.{TraceProof}
use Rattle.proof_verifier.specs.proof_checks.TraceChecks.{with_dep, after_item}
use Rattle.trace_verifier.specs.declared.error.TraceError.{TraceError}
use Rattle.trace_verifier.specs.declared.error.TraceError.TheVariants as errors
use Rattle.trace_verifier.specs.Starting.{wanted_in}
use Rattle.trace_verifier.specs.Items.{item_fault}

-- A dependency of an item whose version is in this block becomes wanted: it is of an earlier block,
-- and its version isn't wanted yet.
pub record BecomesWanted (block : ℕ) (dep : BodyDep) (wanted : List BodyDep) : Type 0 where
  pub earlier : dep.block < block
  pub not_yet : list_any (is_named dep.key dep.block) wanted ≡ false

-- One of the dependencies of the item with this number becomes wanted; none before it fails.
abbrev pub DepsWant : ℕ → ℕ → List BodyDep → List BodyDep → Type 0
DepsWant number block [] wanted = ⊥
DepsWant number block (dep ∷ deps) wanted =
    BecomesWanted block dep wanted
    ⊎ IsOkAnd (with_dep number block dep wanted) (DepsWant number block deps)

-- The item is the last version that is wanted, by its key, its block and its digests, and one of
-- its dependencies becomes wanted.
abbrev pub ItemWants : ℕ → TraceItem → List BodyDep → Type 0
ItemWants number item [] = ⊥
ItemWants number item (last ∷ wanted) =
    (item_fault number item last ≡ None)
    × DepsWant number item.header.block item.body.deps wanted

-- The items before `short` pass, and a dependency of `short` becomes wanted. The first item has
-- this number.
abbrev pub ItemsWant : ℕ → List TraceItem → List BodyDep → ℕ → Type 0
ItemsWant number [] wanted short = ⊥
ItemsWant number (item ∷ items) wanted short =
    ((short ≡ number) × ItemWants number item wanted)
    ⊎ IsOkAnd (after_item number item wanted) (λ next. ItemsWant (suc number) items next short)

-- A dependency of the start becomes wanted, given the block of its version and its body.
abbrev pub StartWants : Option ℕ → Option Body → Type 0
StartWants None body = ⊥
StartWants (Some block) None = ⊥
StartWants (Some block) (Some body) = DepsWant 0 block body.deps []

-- The same of all: the start is item 0.
abbrev pub AnyWants : Option ℕ → Option Body → List TraceItem → ℕ → Type 0
AnyWants block body items short =
    ((short ≡ 0) × StartWants block body)
    ⊎ IsOkAnd (wanted_in block body) (λ wanted. ItemsWant 1 items wanted short)

-- The block of a header.
abbrev pub block_of_header : Header → ℕ
block_of_header header = header.block

-- The item with this number makes a version wanted, or the start does, which is item 0. No check of
-- what comes before that version fails.
abbrev pub Wants : TraceProof → ℕ → Type 0
Wants trace short =
    AnyWants (option_map block_of_header (last_of trace.start.headers)) trace.start.body
    trace.items short

-- Memory may run out as the error says: for what an item wants if that holds of the item, and for
-- the versions that are shown if `shows` holds.
abbrev pub MayRunOut : (ℕ → Type 0) → Type 0 → TraceError → Type 0
MayRunOut wants shows (errors.Rejected fault) = Unit {0}
MayRunOut wants shows (errors.WantedMemory item) = wants item
MayRunOut wants shows errors.Memory = shows
