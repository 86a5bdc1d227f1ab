-- The rows of one transaction are few, of distinct keys, and have dependencies on newest versions.
use Rattle.std.proofs.Common.{◌≡◌, ◌≢◌, ℕ, ◌≤◌, ◌+◌, false, not, List, [], ◌∷◌, length, Option, Some, None, refl, sym, ap, subst, arith}
use Rattle.std.specs.Option.{option_map}
use Rattle.std.specs.List.{list_any, filter_map, cons_option, All, AllPairs}
use Rattle.std.proofs.lemmas.Bool.{or_parts}
use Rattle.std.proofs.lemmas.List.Elements.{All-nil, All-cons, All-head, All-tail, All-weaker, All-map, All-filter, All-contains}
use Rattle.lc_base.specs.declared.limits.TheConstants.{MAX_DEPS}
use Rattle.lc_base.specs.declared.row.Dep.{Dep}
use Rattle.lc_base.specs.declared.row.Row.{Row}
use Rattle.lc_base.specs.declared.tx_status.TxStatus.{TxStatus}
use Rattle.lc_base.specs.declared.tx_status.TxStatus.TheVariants as statuses
use Rattle.lc_base.specs.Deps.{is_same_dep, without_repeats}
use Rattle.lc_base.proofs.Repeats.{length_once, apart_once}
use Rattle.contract_tree.specs.declared.tree.Contract.{Contract}
use Rattle.dep_capture.specs.declared.access.Read.{Read}
use Rattle.dep_capture.specs.Captured.{Captured, WasBacked, AreBackedDeps, AreLawfulRows}
use Rattle.dep_capture.specs.Capture.{row_of_put, rows_of_puts}
use Rattle.world_state.specs.Known.{Known}
use Rattle.world_state.specs.World.{newest_of, is_written}
use Rattle.world_state.specs.declared.held.Held.{Held}
use Rattle.contract_eval.specs.contract_semantics.Answers.{place_in, IsFaithful}
use Rattle.contract_eval.specs.contract_semantics.Calls.{rows_written}
use Rattle.contract_eval.specs.contract_semantics.Reading.{block_of}
use Rattle.contract_eval.specs.contract_semantics.Scenes.{Place}
use Rattle.chain_exec.specs.BlockRows.{IsOnNewest, HasNewestDeps, AreTxRows}
use Rattle.chain_exec.specs.Effect.{meets_conflict}
use Rattle.chain_exec.specs.Running.{dep_in, deps_in}

pub no_rows : (place : Place) (number at : ℕ) → AreTxRows place number at []
no_rows place number at =
    record {
      few = omega arith;
      of_block = All-nil (λ (row : Row). row.block ≡ number);
      of_tx = All-nil (λ (row : Row). row.tx ≡ at);
      once = λ i j d lt within. absurd (omega arith);
      unwritten = All-nil (λ (row : Row). place.written row.key ≡ false);
      deps = All-nil (HasNewestDeps place.newest);
    }

-- ---- dependencies on the newest versions of keys

all_found : (world : Known Contract) (key : List ℕ) (found : Option Held) (deps : List Dep) → newest_of world key ≡ found → All (IsOnNewest (newest_of world)) deps →
    All (IsOnNewest (newest_of world)) (cons_option (option_map (λ (held : Held). record { key = key; block = held.block }) found) deps)
all_found world key None deps e all = all
all_found world key (Some held) deps e all = All-cons (IsOnNewest (newest_of world)) (record { key = key; block = held.block }) deps (ap block_of e) all

all_on_newest : (world : Known Contract) (keys : List (List ℕ)) → All (IsOnNewest (newest_of world)) (filter_map (dep_in world) keys)
all_on_newest world [] = All-nil (IsOnNewest (newest_of world))
all_on_newest world (key ∷ keys) = all_found world key (newest_of world key) (filter_map (dep_in world) keys) refl (all_on_newest world keys)

all_once : (P : Dep → Type 0) (deps : List Dep) → All P deps → All P (without_repeats deps)
all_once P [] all = All-nil P
all_once P (dep ∷ deps) all =
    All-cons P dep _ (All-head P dep deps all) (All-filter (λ other. not (is_same_dep dep other)) P (without_repeats deps) (all_once P deps (All-tail P dep deps all)))

length_one_found : (found : Option Dep) (deps : List Dep) → length (cons_option found deps) ≤ length deps + 1
length_one_found None deps = omega arith
length_one_found (Some dep) deps = omega arith

length_found : (world : Known Contract) (keys : List (List ℕ)) → length (filter_map (dep_in world) keys) ≤ length keys
length_found world [] = omega arith
length_found world (key ∷ keys) = omega (arith, length_found world keys, length_one_found (dep_in world key) (filter_map (dep_in world) keys))

-- ---- a Set

one_row : (world : Known Contract) (number at : ℕ) (row : Row) (keys : List (List ℕ)) → row.block ≡ number → row.tx ≡ at → row.deps ≡ deps_in world keys → length keys ≤ MAX_DEPS → is_written world row.key ≡ false
    → AreTxRows (place_in world) number at (row ∷ [])
one_row world number at row keys block tx deps few unwritten =
    let lawful : HasNewestDeps (newest_of world) row =
    record {
      few = omega (arith, ap length deps, few, length_once (filter_map (dep_in world) keys), length_found world keys);
      once = subst (AllPairs ◌≢◌) (sym deps) (apart_once (filter_map (dep_in world) keys));
      on_newest = subst (All (IsOnNewest (newest_of world))) (sym deps) (all_once (IsOnNewest (newest_of world)) (filter_map (dep_in world) keys) (all_on_newest world keys));
    }
    in
    record {
      few = omega arith;
      of_block = All-cons (λ (r : Row). r.block ≡ number) row [] block (All-nil (λ (r : Row). r.block ≡ number));
      of_tx = All-cons (λ (r : Row). r.tx ≡ at) row [] tx (All-nil (λ (r : Row). r.tx ≡ at));
      once = λ i j d lt within. absurd (omega arith);
      unwritten = All-cons (λ (r : Row). is_written world r.key ≡ false) row [] unwritten (All-nil (λ (r : Row). is_written world r.key ≡ false));
      deps = All-cons (HasNewestDeps (newest_of world)) row [] lawful (All-nil (HasNewestDeps (newest_of world)));
    }

-- the row of a Set that meets no conflict
pub set_row : (world : Known Contract) (number at : ℕ) (row : Row) (keys : List (List ℕ)) → row.block ≡ number → row.tx ≡ at → row.deps ≡ deps_in world keys → length keys ≤ MAX_DEPS → meets_conflict (is_written world) row.key keys ≡ false
    → AreTxRows (place_in world) number at (row ∷ [])
set_row world number at row keys block tx deps few free = one_row world number at row keys block tx deps few (or_parts (list_any (is_written world) keys) (is_written world row.key) free).1

-- ---- a Call

backed_on_newest : (place : Place) (reads : List Read) (deps : List Dep) → All (λ (read : Read). read.version ≡ block_of (place.newest read.key)) reads → All (WasBacked reads) deps → All (IsOnNewest place.newest) deps
backed_on_newest place reads deps are backed =
    All-weaker (WasBacked reads) (IsOnNewest place.newest)
    (λ dep was. sym (All-contains (λ (read : Read). read.version ≡ block_of (place.newest read.key)) reads (record { key = dep.key; version = Some dep.block }) are was)) deps backed

lawful_deps : (place : Place) (reads : List Read) (row : Row) → All (λ (read : Read). read.version ≡ block_of (place.newest read.key)) reads → AreBackedDeps reads row.deps → HasNewestDeps place.newest row
lawful_deps place reads row are backed = record { few = backed.few; once = backed.once; on_newest = backed_on_newest place reads row.deps are backed.backed }

put_rows : (place : Place) (number at : ℕ) (c : Captured) → AreLawfulRows c.reads (rows_of_puts number at c.puts) → IsFaithful place c → AreTxRows place number at (rows_of_puts number at c.puts)
put_rows place number at c lawful faithful =
    record {
      few = lawful.few;
      of_block = All-map (λ (row : Row). row.block ≡ number) (row_of_put number at) c.puts (λ k d within. refl);
      of_tx = All-map (λ (row : Row). row.tx ≡ at) (row_of_put number at) c.puts (λ k d within. refl);
      once = lawful.keys_once;
      unwritten = All-map (λ (row : Row). place.written row.key ≡ false) (row_of_put number at) c.puts faithful.puts;
      deps = All-weaker (λ (row : Row). AreBackedDeps c.reads row.deps) (HasNewestDeps place.newest) (λ row backed. lawful_deps place c.reads row faithful.reads backed) (rows_of_puts number at c.puts) lawful.backed_deps;
    }

written_rows : (place : Place) (number at : ℕ) (status : TxStatus) (c : Captured) → AreLawfulRows c.reads (rows_written number at status c) → IsFaithful place c → AreTxRows place number at (rows_written number at status c)
written_rows place number at statuses.Ok c lawful faithful = put_rows place number at c lawful faithful
written_rows place number at _ c lawful faithful = no_rows place number at

pub call_rows : (place : Place) (number at : ℕ) (status : TxStatus) (c : Captured) (rows : List Row) → rows ≡ rows_written number at status c → AreLawfulRows c.reads rows → IsFaithful place c → AreTxRows place number at rows
call_rows place number at status c rows is lawful faithful =
    subst (AreTxRows place number at) (sym is) (written_rows place number at status c (subst (AreLawfulRows c.reads) is lawful) faithful)
