-- A call that ends with Ok depends on its block only through the keys that it read and put, so two
-- such calls can be exchanged.
use Rattle.std.specs.Prelude.{◌≡◌, ◌||◌, ℕ, Bool, true, false, List}
use Rattle.std.specs.List.{All}
use Rattle.lc_base.specs.declared.value.Value.{Value}
use Rattle.lc_base.specs.declared.tx_status.TxStatus.TheVariants as statuses
use Rattle.contract_tree.specs.Tree.{FunctionTree}
use Rattle.dep_capture.specs.Captured.{Captured}
use Rattle.dep_capture.specs.Capture.{was_read, was_put}
use Rattle.dep_capture.specs.declared.access.Read.{Read}
use Rattle.dep_capture.specs.declared.access.Put.{Put}
use Rattle.contract_semantics.specs.declared.site.CallSite.{CallSite}
use Rattle.contract_semantics.specs.Scenes.{Scene}
use Rattle.contract_semantics.specs.Calls.{call_result}
use Rattle.contract_semantics.specs.CallLookups.{questions_of, keys_met}
use Rattle.contract_semantics.specs.Laws.{HoldAlike, AnswerAlike}

-- The block hasn't written the key, and the key was read or put.
pub record IsUsedAndUnwritten (s : Scene) (c : Captured) (key : List ℕ) : Type 0 where
  pub unwritten : s.place.written key ≡ false
  pub used : (was_read c.reads key || was_put c.puts key) ≡ true

-- If a call ends with Ok, the block has written none of the keys that the call met, and each of
-- them was read or put.
abbrev pub KeysMetAreReadOrPut : Type 0
KeysMetAreReadOrPut =
    (functions : List FunctionTree) (s : Scene) (args : List Value)
    → (call_result functions s args).outcome.status ≡ statuses.Ok
    → All (IsUsedAndUnwritten s (call_result functions s args).capture) (keys_met functions s args)

-- None of the keys that were read or put is written.
pub record IsApartFrom (written : List ℕ → Bool) (c : Captured) : Type 0 where
  pub reads : All (λ (read : Read). written read.key ≡ false) c.reads
  pub puts : All (λ (put : Put). written put.key ≡ false) c.puts

-- A call that ended with Ok has the same result in each scene of its site that has the same newest
-- versions of the keys that it read, the same answers to its questions, and none of the keys that
-- it read or put written by the block.
abbrev pub ReadsAndPutsAreComplete : Type 0
ReadsAndPutsAreComplete =
    (functions : List FunctionTree) (s t : Scene) (args : List Value)
    → (call_result functions s args).outcome.status ≡ statuses.Ok
    → t.site ≡ s.site
    → HoldAlike s t (call_result functions s args).capture.reads
    → AnswerAlike s t (questions_of functions s args)
    → IsApartFrom t.place.written (call_result functions s args).capture
    → call_result functions t args ≡ call_result functions s args

-- The scene after a transaction of the same block that put these keys.
abbrev pub after_puts : List Put → Scene → Scene
after_puts puts s =
    record s {
      place = record s.place { written = λ key. s.place.written key || was_put puts key };
    }

-- A call that ended with Ok has the same result after a transaction of its block that put none of
-- the keys that it read or put.
abbrev pub PutsOfOthersChangeNothing : Type 0
PutsOfOthersChangeNothing =
    (functions : List FunctionTree) (s : Scene) (args : List Value) (others : List Put)
    → (call_result functions s args).outcome.status ≡ statuses.Ok
    → IsApartFrom (was_put others) (call_result functions s args).capture
    → call_result functions (after_puts others s) args ≡ call_result functions s args

-- The scene with another call site.
abbrev pub with_site : CallSite → Scene → Scene
with_site site s = record s { site = site }

-- Two calls of one block can be exchanged: if the first ends with Ok, the second after it too, and
-- the first read no key that the second put, each has the same result in the other order.
abbrev pub CallsCanBeExchanged : Type 0
CallsCanBeExchanged =
    (functions functions' : List FunctionTree) (s : Scene) (site' : CallSite)
    (args args' : List Value) →
    let first = call_result functions s args in
    let second = call_result functions' (after_puts first.capture.puts (with_site site' s)) args' in
    first.outcome.status ≡ statuses.Ok
    → second.outcome.status ≡ statuses.Ok
    → All (λ (read : Read). was_put second.capture.puts read.key ≡ false) first.capture.reads
    → (call_result functions' (with_site site' s) args' ≡ second)
    × (call_result functions (after_puts second.capture.puts s) args ≡ first)
