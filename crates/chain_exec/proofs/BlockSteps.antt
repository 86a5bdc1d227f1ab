-- One more transaction of a block: its rows and receipt keep what holds of those before.
use Rattle.std.proofs.Common.{◌≡◌, ◌≢◌, ◌==◌, eqb, ℕ, ◌+◌, ◌*◌, ◌<◌, ◌≤◌, suc, false, List, [], ◌∷◌, ◌++◌, length, get_or, take, drop, map, Option, None, Some, sym, ap, ◌∙◌, subst, arith}
use Rattle.std.specs.Prelude.{IfSome}
use Rattle.std.specs.List.{All, AllPairs}
use Rattle.std.specs.Map.{lookup}
use Rattle.std.specs.Cmp.Lexicographic.{pointwise, bytes_decides}
use Rattle.std.proofs.lemmas.Bool.{or_parts, both_ways}
use Rattle.std.proofs.lemmas.List.{append_assoc, append-nil, length-append, take_more, at_drop_more}
use Rattle.std.proofs.lemmas.List.Elements.{All-nil, All-cons, All-head, All-tail, All-append, All-push, All-weaker}
use Rattle.std.proofs.lemmas.List.Quantifiers.{all_pairs_push}
use Rattle.lc_base.specs.declared.row.Row.{Row}
use Rattle.contract_tree.specs.declared.tree.Contract.{Contract}
use Rattle.dep_capture.specs.declared.limits.TheConstants.{MAX_KEYS_PUT}
use Rattle.world_state.specs.Known.{Known}
use Rattle.world_state.specs.Rows.{entry_of, is_staged}
use Rattle.world_state.specs.World.{newest_of, StandsForRows}
use Rattle.world_state.specs.declared.held.Held.{Held}
use Rattle.contract_eval.specs.contract_semantics.Answers.{place_in}
use Rattle.block_codec.specs.declared.block.Tx.{Tx}
use Rattle.chain_exec.specs.declared.receipt.Receipt.{Receipt}
use Rattle.chain_exec.specs.declared.staging.TxRun.{TxRun}
use Rattle.chain_exec.specs.declared.block.BlockRun.{BlockRun}
use Rattle.chain_exec.specs.BlockRows.{HasNewestDeps, AreTxRows, AreBlockRows, IsWithinBudget, AreWithinBudgets}
use Rattle.chain_exec.specs.Compiled.{compiled_in}
use Rattle.chain_exec.specs.Effect.{Effect, effect_of}
use Rattle.chain_exec.specs.Fold.{Staged, nothing_staged, with_effect, effects_after}
use Rattle.chain_exec.specs.Running.{codes_seen, history_in, staged_in, effect_in, HasEffect}
use Rattle.chain_exec.proofs.SameEffects.{effect_is}

-- ---- two lists, one after the other

pub pairs_append : {X : Type 0} (R : X → X → Type 0) (xs ys : List X) → AllPairs R xs → AllPairs R ys → All (λ y. All (λ x. R x y) xs) ys → AllPairs R (xs ++ ys)
pairs_append R xs [] first second cross = subst (AllPairs R) (sym (append-nil xs)) first
pairs_append R xs (y ∷ ys) first second cross =
    let tail : AllPairs R ys = λ i j d lt within. second (suc i) (suc j) d (omega arith) (omega arith) in
    let head : All (R y) ys = λ k d within. second 0 (suc k) d (omega arith) (omega arith) in
    let crosses = All-tail (λ z. All (λ x. R x z) xs) y ys cross in
    let pushed : AllPairs R (xs ++ y ∷ []) = all_pairs_push R xs y first (All-head (λ z. All (λ x. R x z) xs) y ys cross) in
    subst (AllPairs R) (append_assoc xs (y ∷ []) ys)
    (pairs_append R (xs ++ y ∷ []) ys pushed tail (λ k d within. All-push (λ x. R x (get_or ys k d)) xs y (crosses k d within) (head k d within)))

-- ---- rows

-- a key that is not staged is the key of none of the rows
unstaged : (key : List ℕ) (rows : List Row) → is_staged (map entry_of rows) key ≡ false → All (λ (row : Row). row.key ≢ key) rows
unstaged key [] none = All-nil (λ (row : Row). row.key ≢ key)
unstaged key (row ∷ rows) none =
    let parts = or_parts (pointwise eqb row.key key) (is_staged (map entry_of rows) key) none in
    All-cons (λ (r : Row). r.key ≢ key) row rows (λ same. both_ways (pointwise eqb row.key key) parts.0 ((bytes_decides row.key key).1 same)) (unstaged key rows parts.1)

pub no_block_rows : (newest : List ℕ → Option Held) (number : ℕ) → AreBlockRows newest number 0 []
no_block_rows newest number =
    record {
      few = omega arith;
      of_block = All-nil (λ (row : Row). row.block ≡ number);
      of_tx = All-nil (λ (row : Row). row.tx < 0);
      ordered = λ i j d lt within. absurd (omega arith);
      once = λ i j d lt within. absurd (omega arith);
      deps = All-nil (HasNewestDeps newest);
    }

-- the rows of one more transaction
pub more_rows : (start old : Known Contract) (number at : ℕ) (rows more : List Row) → old.newest ≡ start.newest → old.staged ≡ map entry_of rows → AreBlockRows (newest_of start) number at rows → AreTxRows (place_in old) number at more
    → AreBlockRows (newest_of start) number (at + 1) (rows ++ more)
more_rows start old number at rows more newest staged so_far new =
    let of_tx : All (λ (row : Row). row.tx < at + 1) more = All-weaker (λ (row : Row). row.tx ≡ at) (λ (row : Row). row.tx < at + 1) (λ row e. omega (arith, e)) more new.of_tx in
    let deps : All (HasNewestDeps (newest_of start)) more = subst (λ (entries : List (List ℕ × Held)). All (HasNewestDeps (λ key. lookup (pointwise ◌==◌ key) entries)) more) newest new.deps in
    let bound : MAX_KEYS_PUT * (at + 1) ≡ MAX_KEYS_PUT * at + MAX_KEYS_PUT = omega arith in
    record {
      few = omega (arith, length-append rows more, so_far.few, new.few, bound);
      of_block = All-append (λ (row : Row). row.block ≡ number) rows more so_far.of_block new.of_block;
      of_tx = All-append (λ (row : Row). row.tx < at + 1) rows more (All-weaker (λ (row : Row). row.tx < at) (λ (row : Row). row.tx < at + 1) (λ row lt. omega (arith, lt)) rows so_far.of_tx) of_tx;
      ordered = pairs_append (λ (a b : Row). a.tx ≤ b.tx) rows more so_far.ordered
          (λ i j d lt within. omega (arith, new.of_tx i d (omega arith), new.of_tx j d within))
          (λ j e within i d inside. omega (arith, so_far.of_tx i d inside, new.of_tx j e within));
      once = pairs_append (λ (a b : Row). a.key ≢ b.key) rows more so_far.once new.once
          (λ j e within. unstaged (get_or more j e).key rows (subst (λ entries. is_staged entries (get_or more j e).key ≡ false) staged (new.unwritten j e within)));
      deps = All-append (HasNewestDeps (newest_of start)) rows more so_far.deps deps;
    }

-- ---- receipts

pub receipts_push : (txs : List Tx) (receipts : List Receipt) (tx : Tx) (receipt : Receipt)
    → AreWithinBudgets txs receipts → IsWithinBudget tx receipt
    → AreWithinBudgets (txs ++ tx ∷ []) (receipts ++ receipt ∷ [])
receipts_push [] [] tx receipt all new = (new, tt)
receipts_push [] (r ∷ rs) tx receipt all new = absurd all
receipts_push (t ∷ ts) [] tx receipt all new = absurd all
receipts_push (t ∷ ts) (r ∷ rs) tx receipt all new = (all.0, receipts_push ts rs tx receipt all.1 new)

-- the receipt of one more transaction
pub more_receipts : (txs : List Tx) (receipts after : List Receipt) (at : ℕ) (tx : Tx) (receipt : Receipt) → at < length txs → tx ≡ get_or txs at tx → AreWithinBudgets (take at txs) receipts → IsWithinBudget tx receipt → after ≡ receipts ++ receipt ∷ []
    → AreWithinBudgets (take (at + 1) txs) after
more_receipts txs receipts after at tx receipt within is all new after_is =
    let more : take (at + 1) txs ≡ take at txs ++ tx ∷ [] = take_more txs at tx within ∙ ap (λ (t : Tx). take at txs ++ t ∷ []) (sym is) in
    subst (λ ts. AreWithinBudgets ts after) (sym more) (subst (λ rs. AreWithinBudgets (take at txs ++ tx ∷ []) rs) (sym after_is) (receipts_push (take at txs) receipts tx receipt all new))

-- ---- effects

-- what one more transaction adds to what is done
more_effects : (rows : List Row) (start old new : Known Contract) (before after : BlockRun) (run : TxRun) (edition number at : ℕ) (tx : Tx) → StandsForRows start rows → old.newest ≡ start.newest → old.codes ≡ start.codes
    → old.staged ≡ map entry_of before.rows → HasEffect old new run (effect_in rows old edition number at tx) → after.rows ≡ before.rows ++ run.rows → after.receipts ≡ before.receipts ++ run.receipt ∷ []
    → staged_in new after ≡ with_effect (staged_in old before) (effect_of (compiled_in edition) (history_in rows start) before.rows (codes_seen old.staged_codes) number at tx)
more_effects rows start old new before after run edition number at tx stands newest codes staged has rows_are receipts_are =
    let stands_old : StandsForRows old rows = λ key. ap (λ (entries : List (List ℕ × Held)). lookup (pointwise ◌==◌ key) entries) newest ∙ stands key in
    let same_codes : history_in rows old ≡ history_in rows start = ap (λ cs. record { rows = rows; codes = codes_seen cs }) codes in
    let effect : Effect = effect_in rows old edition number at tx in
    let is : effect ≡ effect_of (compiled_in edition) (history_in rows start) before.rows (codes_seen old.staged_codes) number at tx =
    effect_is old rows before.rows stands_old staged edition number at tx ∙ ap (λ h. effect_of (compiled_in edition) h before.rows (codes_seen old.staged_codes) number at tx) same_codes
    in
    let all_rows : after.rows ≡ before.rows ++ effect.rows = rows_are ∙ ap (λ (r : TxRun). before.rows ++ r.rows) has.handed in
    let all_receipts : after.receipts ≡ before.receipts ++ effect.receipt ∷ [] = receipts_are ∙ ap (λ (r : TxRun). before.receipts ++ r.receipt ∷ []) has.handed in
    let now : staged_in new after ≡ with_effect (staged_in old before) effect = λ i. record { rows = all_rows i; codes = has.codes i; receipts = all_receipts i } in
    now ∙ ap (with_effect (staged_in old before)) is

-- what is done so far, and then what is left to do, over a host of these rows
abbrev so_far : List Row → Known Contract → ℕ → ℕ → ℕ → Staged → List Tx → Staged
so_far rows start edition number at done txs = effects_after (compiled_in edition) (history_in rows start) number at done txs

pub more_told : (told now : Option (List Row)) (start old new : Known Contract) (before after : BlockRun) (run : TxRun) (edition number at : ℕ) (txs : List Tx) (tx : Tx) → now ≡ told → at < length txs → tx ≡ get_or txs at tx
    → old.newest ≡ start.newest → old.codes ≡ start.codes → old.staged ≡ map entry_of before.rows → after.rows ≡ before.rows ++ run.rows → after.receipts ≡ before.receipts ++ run.receipt ∷ []
    → IfSome told (StandsForRows start) → IfSome now (λ rows. HasEffect old new run (effect_in rows old edition number at tx))
    → IfSome told (λ rows. so_far rows start edition number at (staged_in old before) (drop at txs) ≡ so_far rows start edition number 0 nothing_staged txs)
    → IfSome told (λ rows. so_far rows start edition number (at + 1) (staged_in new after) (drop (at + 1) txs) ≡ so_far rows start edition number 0 nothing_staged txs)
more_told None now start old new before after run edition number at txs tx same within is newest codes staged rows_are receipts_are stands has done = tt
more_told (Some rows) now start old new before after run edition number at txs tx same within is newest codes staged rows_are receipts_are stands has done =
    let has_now = subst (λ (o : Option (List Row)). IfSome o (λ rows. HasEffect old new run (effect_in rows old edition number at tx))) same has in
    let left : List Tx = drop (at + 1) txs in
    let go : List Tx → Staged = λ ts. so_far rows start edition number at (staged_in old before) ts in
    let next : go (drop at txs) ≡ go (tx ∷ left) = at_drop_more go txs at tx within ∙ ap (λ (t : Tx). go (t ∷ left)) (sym is) in
    ap (λ s. so_far rows start edition number (at + 1) s left) (more_effects rows start old new before after run edition number at tx stands newest codes staged has_now rows_are receipts_are)
    ∙ sym next ∙ done
