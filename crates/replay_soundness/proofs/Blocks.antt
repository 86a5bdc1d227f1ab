-- A block adds typed rows: each transaction does, by the kind of the transaction.
use Rattle.std.proofs.Common.{◌≡◌, ◌≢◌, ◌==◌, ℕ, ◌+◌, ◌*◌, ◌<◌, ◌≤◌, true, false, not, List, [], ◌∷◌, ◌++◌, length, get_or, filter_map, reverse, Option, None, Some, refl, sym, ap, ◌∙◌, subst, arith}
use Rattle.std.specs.Prelude.{IfSome}
use Rattle.std.specs.Option.{option_map}
use Rattle.std.specs.List.{All, AllPairs, cons_option}
use Rattle.std.specs.Cmp.Lexicographic.{pointwise, bytes_decides}
use Rattle.std.proofs.lemmas.Bool.{or_parts, both_ways}
use Rattle.std.proofs.lemmas.List.{length-append}
use Rattle.std.proofs.lemmas.List.Elements.{All-nil, All-cons, All-head, All-tail, All-append, All-map, All-filter, All-weaker, All-contains}
use Rattle.lc_base.specs.declared.limits.TheConstants.{MAX_DEPS}
use Rattle.lc_base.specs.Deps.{is_same_dep, without_repeats}
use Rattle.lc_base.proofs.Repeats.{length_once, apart_once}
use Rattle.lc_base.specs.History.{newest, version_of}
use Rattle.lc_base.specs.declared.row.Dep.{Dep}
use Rattle.lc_base.specs.declared.row.Row.{Row}
use Rattle.lc_base.specs.declared.tx_status.TxStatus.{TxStatus}
use Rattle.lc_base.specs.declared.tx_status.TxStatus.TheVariants as statuses
use Rattle.dep_capture.specs.Captured.{Captured, WasBacked, AreBackedDeps, AreLawfulRows}
use Rattle.dep_capture.specs.Capture.{row_of_put, rows_of_puts}
use Rattle.dep_capture.specs.declared.limits.TheConstants.{MAX_KEYS_PUT}
use Rattle.dep_capture.specs.declared.access.Read.{Read}
use Rattle.world_state.specs.Rows.{held_of, held_in}
use Rattle.world_state.specs.declared.held.Held.{Held}
use Rattle.contract_semantics.specs.Answers.{IsFaithful}
use Rattle.contract_semantics.specs.Calls.{rows_written}
use Rattle.contract_semantics.specs.Reading.{block_of}
use Rattle.contract_semantics.specs.Scenes.{Place}
use Rattle.chain_input.specs.chain_exec.BlockRows.{IsOnNewest, HasNewestDeps, AreTxRows}
use Rattle.chain_input.specs.chain_exec.BlockRows.{AreBlockRows}
use Rattle.chain_input.specs.chain_exec.Effect.{version_to_depend_on, deps_on, is_written}
use Rattle.chain_input.proofs.chain_exec.BlockSteps.{pairs_append}
use Rattle.chain_input.proofs.chain_exec.TxRows.{no_rows}
use Rattle.replay_soundness.proofs.Reading.{found_typed}

-- ---- a Set

module _ (rows : List Row) where
  dep_on : (key : List ℕ) (o : Option Row) (deps : List Dep) → newest rows key ≡ o → IfSome o (λ row. Unit {0} × (pointwise ◌==◌ row.key key ≡ true)) → All (IsOnNewest (held_in rows)) deps → All (IsOnNewest (held_in rows)) (cons_option (option_map version_of o) deps)
  dep_on key None deps e h all = all
  dep_on key (Some row) deps e h all = All-cons (IsOnNewest (held_in rows)) (version_of row) deps
      (ap (λ k. block_of (held_in rows k)) ((bytes_decides row.key key).0 h.1) ∙ ap (λ (o : Option Row). block_of (option_map held_of o)) e) all

  all_on : (keys : List (List ℕ)) → All (IsOnNewest (held_in rows)) (filter_map (version_to_depend_on rows) keys)
  all_on [] = All-nil (IsOnNewest (held_in rows))
  all_on (key ∷ keys) = dep_on key (newest rows key) (filter_map (version_to_depend_on rows) keys) refl
      (found_typed (λ (row : Row). Unit {0}) (λ (row : Row). pointwise ◌==◌ row.key key) (reverse rows) (λ k d within. tt)) (all_on keys)

  one_more : (o : Option Dep) (deps : List Dep) → length (cons_option o deps) ≤ length deps + 1
  one_more None deps = omega arith
  one_more (Some dep) deps = omega arith

  few_found : (keys : List (List ℕ)) → length (filter_map (version_to_depend_on rows) keys) ≤ length keys
  few_found [] = omega arith
  few_found (key ∷ keys) = omega (arith, few_found keys, one_more (version_to_depend_on rows key) (filter_map (version_to_depend_on rows) keys))

  once_all : (P : Dep → Type 0) (deps : List Dep) → All P deps → All P (without_repeats deps)
  once_all P [] h = h
  once_all P (dep ∷ deps) h = All-cons P dep _ (All-head P dep deps h) (All-filter (λ other. not (is_same_dep dep other)) P (without_repeats deps) (once_all P deps (All-tail P dep deps h)))

  pub set_deps : (row : Row) (keys : List (List ℕ)) → row.deps ≡ deps_on rows keys → length keys ≤ MAX_DEPS → HasNewestDeps (held_in rows) row
  set_deps row keys e few = record {
    few = omega (arith, ap length e, few, length_once (filter_map (version_to_depend_on rows) keys), few_found keys);
    once = subst (AllPairs ◌≢◌) (sym e) (apart_once (filter_map (version_to_depend_on rows) keys));
    on_newest = subst (All (IsOnNewest (held_in rows))) (sym e) (once_all (IsOnNewest (held_in rows)) (filter_map (version_to_depend_on rows) keys) (all_on keys));
  }

-- ---- a Call

module _ (place : Place) (number at : ℕ) (c : Captured) (faithful : IsFaithful place c) where
  on_newest : (deps : List Dep) → All (WasBacked c.reads) deps → All (IsOnNewest place.newest) deps
  on_newest deps h = All-weaker (WasBacked c.reads) (IsOnNewest place.newest)
      (λ dep was. sym (All-contains (λ (read : Read). read.version ≡ block_of (place.newest read.key)) c.reads (record { key = dep.key; version = Some dep.block }) faithful.reads was)) deps h

  call_deps : (row : Row) → AreBackedDeps c.reads row.deps → HasNewestDeps place.newest row
  call_deps row h = record { few = h.few; once = h.once; on_newest = on_newest row.deps h.backed }

  put_rows : AreLawfulRows c.reads (rows_of_puts number at c.puts) → AreTxRows place number at (rows_of_puts number at c.puts)
  put_rows h = record {
    few = h.few;
    of_block = All-map (λ (row : Row). row.block ≡ number) (row_of_put number at) c.puts (λ k d within. refl);
    of_tx = All-map (λ (row : Row). row.tx ≡ at) (row_of_put number at) c.puts (λ k d within. refl);
    once = h.keys_once;
    unwritten = All-map (λ (row : Row). place.written row.key ≡ false) (row_of_put number at) c.puts faithful.puts;
    deps = All-weaker (λ (row : Row). AreBackedDeps c.reads row.deps) (HasNewestDeps place.newest) call_deps (rows_of_puts number at c.puts) h.backed_deps;
  }

  pub written_rows : (status : TxStatus) → AreLawfulRows c.reads (rows_written number at status c) → AreTxRows place number at (rows_written number at status c)
  written_rows statuses.Ok h = put_rows h
  written_rows _ h = no_rows place number at

-- ---- one more transaction

unwritten_key : (key : List ℕ) (rows : List Row) → is_written rows key ≡ false → All (λ (row : Row). row.key ≢ key) rows
unwritten_key key [] none = All-nil (λ (row : Row). row.key ≢ key)
unwritten_key key (row ∷ rows) none =
    let parts = or_parts (pointwise ◌==◌ row.key key) (is_written rows key) none in
    All-cons (λ (r : Row). r.key ≢ key) row rows (λ same. both_ways (pointwise ◌==◌ row.key key) parts.0 ((bytes_decides row.key key).1 same)) (unwritten_key key rows parts.1)

pub more_rows : (held : List ℕ → Option Held) (number at : ℕ) (rows more : List Row) → AreBlockRows held number at rows → AreTxRows (record { newest = held; written = is_written rows }) number at more → AreBlockRows held number (at + 1) (rows ++ more)
more_rows held number at rows more so_far new =
    let bound : MAX_KEYS_PUT * (at + 1) ≡ MAX_KEYS_PUT * at + MAX_KEYS_PUT = omega arith in
    record {
      few = omega (arith, length-append rows more, so_far.few, new.few, bound);
      of_block = All-append (λ (row : Row). row.block ≡ number) rows more so_far.of_block new.of_block;
      of_tx = All-append (λ (row : Row). row.tx < at + 1) rows more (All-weaker (λ (row : Row). row.tx < at) (λ (row : Row). row.tx < at + 1) (λ row lt. omega (arith, lt)) rows so_far.of_tx)
          (All-weaker (λ (row : Row). row.tx ≡ at) (λ (row : Row). row.tx < at + 1) (λ row e. omega (arith, e)) more new.of_tx);
      ordered = pairs_append (λ (a b : Row). a.tx ≤ b.tx) rows more so_far.ordered
          (λ i j d lt within. omega (arith, new.of_tx i d (omega arith), new.of_tx j d within))
          (λ j e within i d inside. omega (arith, so_far.of_tx i d inside, new.of_tx j e within));
      once = pairs_append (λ (a b : Row). a.key ≢ b.key) rows more so_far.once new.once (λ j e within. unwritten_key (get_or more j e).key rows (new.unwritten j e within));
      deps = All-append (HasNewestDeps held) rows more so_far.deps new.deps;
    }
