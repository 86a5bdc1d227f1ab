-- What a crash at any moment of a run may leave, whatever the source returns.
use Rattle.std.proofs.Common.{◌≡◌, ℕ, Bool, true, false, List, length, refl, sym, ap, subst, ◌∙◌}
use Rattle.std.specs.Prelude.{Option, Some, None, Result, Ok}
use Rattle.std.specs.Option.{is_some}
use Rattle.std.proofs.Math.Seq.{take-length}
use Rattle.lc_io.specs.Disk.{DiskState, Stays}
use Rattle.lc_io.specs.Outside.{Tell}
use Rattle.disk_model.specs.Disk.{IsSettled, Keeps, Rests, content_of}
use Rattle.disk_model.proofs.Moments.{then_keeps, weaker, stays_on}
use Rattle.block_codec.specs.declared.block.Block.{Block}
use Rattle.block_log.specs.Standing.{Standing, NextBlock, Logged, with_blocks, logged_of, chain_of}
use Rattle.block_log.specs.Standing.{standing}
use Rattle.block_log.specs.Log.{LogState, Agrees, IsOldOrMarked, next_in_log}
use Rattle.cli_append.specs.recovery.Node.{NodeState, IsNodeOf, IsNodeStarted, next_in_chain}
use Rattle.cli_append.specs.recovery.Node.{IsLogOf, IsLogStored, logged_in}
use Rattle.cli_append.specs.cli_promises.Promises.{NoChange, Appends, Marks}
use Rattle.cli_append.proofs.cli_promises.Tellings.{still}
use Rattle.cli_append.specs.cli_promises.Appending.{IsKnown, GoesFrom, Grows, Upgrades}
use Rattle.cli_append.specs.cli_promises.declared.ending.RunStop.{RunStop}
use Rattle.cli_words.specs.declared.words.Command.{Command}
use Rattle.cli_words.specs.declared.words.Command.TheVariants.{Upgrade}
use Rattle.cli_output.specs.Running.{HeldIsGiven, MayLeaveBy}
use Rattle.cli_output.specs.Uses.{appends_log, changes_log}
use Rattle.cli_append.proofs.ByLog.{log_stands}
use Rattle.cli_append.proofs.cli_promises.Resting.{rests_each}

rests_told : (state : Option DiskState) (content : List ℕ) → IsSettled state
    → content_of state ≡ Some content → Rests state (λ c. c ≡ content)
rests_told None content rests told = tt
rests_told (Some s) content rests told = (rests, cc told)

is_told : (state : Option DiskState) (content : List ℕ) → content_of state ≡ Some content
    → IsKnown state
is_told None content told = absurd (cc told)
is_told (Some s) content told = refl

-- a node that was started is that of the chain that the bytes stand for
pub started_chain : (node : NodeState) (state : Option DiskState) (stands : Standing)
    (started : IsNodeStarted state stands (Ok node))
    → logged_of stands ≡ Some (logged_in node.log started.0.blocks)
started_chain node state stands started =
    started.1 ∙ ap (λ (m : Bool). Some (record { blocks = started.0.blocks; marked = m }))
    (sym started.2.1)

-- the chain, and any blocks after it
longer_any : (next : NextBlock) (command : Option Command) → appends_log command ≡ true
    → (content : List ℕ) (logged : Logged) → chain_of next content ≡ Some logged → (c : List ℕ)
    → (more : List Block) × (chain_of next c ≡ Some (with_blocks logged more))
    → MayLeaveBy next command content c
longer_any next command appends content logged stands c more = (
  Appends more.0,
  appends,
  (
    logged,
    stands,
    (
      length more.0,
      more.1 ∙ ap (λ (b : List Block). Some (with_blocks logged b))
          (sym (take-length more.0)),
    ),
  ),
)

module _ {D : Type 0} (now : D → ℕ) (disk : D → ℕ → Option DiskState)
    (told : D → Option (List Tell)) where
  -- the disk is left as it is
  pub stays_any : (next : NextBlock) (command : Option Command) (old new : D) (content : List ℕ)
      → IsSettled (disk old (now old)) → content_of (disk old (now old)) ≡ Some content
      → Stays now disk old new → Keeps now disk old new (MayLeaveBy next command content)
  stays_any next command old new content settled here stays =
      weaker now disk old new (λ c. c ≡ content) (MayLeaveBy next command content)
      (still next now disk told old new (λ c. c ≡ content)
      (rests_each (disk old (now old)) (λ c. c ≡ content)
      (rests_told (disk old (now old)) content settled here)) stays)
      (λ c same. (NoChange, tt, same))

  -- the disk is left as it is, in two steps
  pub stays_twice : (next : NextBlock) (command : Option Command) (old mid new : D)
      → IsSettled (disk old (now old))
      → Stays now disk old mid → Stays now disk mid new → (content : List ℕ)
      → content_of (disk old (now old)) ≡ Some content → Keeps now disk old new
      (MayLeaveBy next command content)
  stays_twice next command old mid new settled begins stays content here =
      stays_any next command old new content settled here
      (stays_on now disk old mid new begins stays)

  -- the disk is left as it is, and then whatever it holds is so
  then_any : (next : NextBlock) (command : Option Command) (old mid new : D) (content : List ℕ)
      (P : List ℕ → Type 0)
      → IsSettled (disk old (now old)) → content_of (disk old (now old)) ≡ Some content
      → Stays now disk old mid
      → Keeps now disk mid new P → ((c : List ℕ) → P c → MayLeaveBy next command content c)
      → Keeps now disk old new (MayLeaveBy next command content)
  then_any next command old mid new content P settled here begins keeps leads =
      then_keeps now disk old mid new (MayLeaveBy next command content)
      (stays_any next command old mid content settled here begins)
      (weaker now disk mid new P (MayLeaveBy next command content) keeps leads)

  -- `append` and `follow`, over the node that they started with
  pub taken_any : (command : Option Command) → appends_log command ≡ true → (old mid new : D)
      (node : NodeState) → IsSettled (disk old (now old))
      → Stays now disk old mid
      → ((content : List ℕ) → content_of (disk old (now old)) ≡ Some content
      → IsNodeStarted (disk mid (now mid)) (standing next_in_chain content) (Ok node))
      → ((blocks : List Block) → IsNodeOf node (disk mid (now mid)) blocks
      → IsKnown (disk mid (now mid)) → Keeps now disk mid new
      (GoesFrom (logged_in node.log blocks)))
      → (content : List ℕ) → content_of (disk old (now old)) ≡ Some content → Keeps now disk old new
      (MayLeaveBy next_in_chain command content)
  taken_any command appends old mid new node settled begins started goes content here =
      let s = started content here in
      let logged : Logged = logged_in node.log s.0.blocks in
      let stands = started_chain node (disk mid (now mid)) (standing next_in_chain content) s in
      let still_known : IsKnown (disk mid (now mid)) = ap is_some begins.last
      ∙ is_told (disk old (now old)) content here in
      then_any next_in_chain command old mid new content (GoesFrom logged) settled here begins
      (goes s.0.blocks s.2.0 still_known)
      (longer_any next_in_chain command appends content logged stands)

  -- the same by the log alone, over any node that is ready
  pub taken_log : (command : Option Command) → appends_log command ≡ true → (old mid new : D)
      (log : LogState) → IsSettled (disk old (now old))
      → Stays now disk old mid → Rests (disk mid (now mid)) (Agrees log)
      → ((content : List ℕ) → content_of (disk mid (now mid)) ≡ Some content
      → Keeps now disk mid new (Grows next_in_log content))
      → (content : List ℕ) → content_of (disk old (now old)) ≡ Some content → Keeps now disk old new
      (MayLeaveBy next_in_log command content)
  taken_log command appends old mid new log settled begins rests goes content here =
      let there : content_of (disk mid (now mid)) ≡ Some content = ap content_of begins.last
      ∙ here in
      let stands = log_stands log (disk mid (now mid)) content rests there in
      then_any next_in_log command old mid new content (Grows next_in_log content) settled here
      begins (goes content there)
      (λ c on. longer_any next_in_log command appends content stands.0 stands.1 c
      (on stands.0 stands.1))

  -- `upgrade`, over the log that it opened
  pub upgrade_any : {T : Type 0} (old mid new : D) (log : LogState) (answer : Result T RunStop)
      → IsSettled (disk old (now old)) → Stays now disk old mid
      → ((content : List ℕ) → content_of (disk old (now old)) ≡ Some content
      → IsLogStored (disk mid (now mid)) (standing next_in_chain content) (Ok log))
      → ((logged : Logged) → IsLogOf log (disk mid (now mid)) logged
      → Upgrades now disk told mid new logged answer)
      → (content : List ℕ) → content_of (disk old (now old)) ≡ Some content → Keeps now disk old new
      (MayLeaveBy next_in_chain (Some Upgrade) content)
  upgrade_any old mid new log answer settled begins opened upgrades content here =
      let s = opened content here in
      let still_known : IsKnown (disk mid (now mid)) = ap is_some begins.last
      ∙ is_told (disk old (now old)) content here in
      then_any next_in_chain (Some Upgrade) old mid new content (IsOldOrMarked next_in_chain s.0)
      settled here begins ((upgrades s.0 s.2).images still_known)
      (λ c at. (Marks, refl, (s.0, s.1, at)))

  -- the same with rows not counted
  pub upgrade_by_log : (old mid new : D) (log : LogState) → IsSettled (disk old (now old))
      → Stays now disk old mid → Rests (disk mid (now mid)) (Agrees log)
      → ((content : List ℕ) (logged : Logged) → content_of (disk mid (now mid)) ≡ Some content
      → chain_of next_in_log content ≡ Some logged → Keeps now disk mid new
      (IsOldOrMarked next_in_log logged))
      → (content : List ℕ) → content_of (disk old (now old)) ≡ Some content → Keeps now disk old new
      (MayLeaveBy next_in_log (Some Upgrade) content)
  upgrade_by_log old mid new log settled begins rests images content here =
      let there : content_of (disk mid (now mid)) ≡ Some content = ap content_of begins.last
      ∙ here in
      let stands = log_stands log (disk mid (now mid)) content rests there in
      then_any next_in_log (Some Upgrade) old mid new content (IsOldOrMarked next_in_log stands.0)
      settled here begins (images content stands.0 there stands.1)
      (λ c at. (Marks, refl, (stands.0, stands.1, at)))

  -- a command that is known
  pub leaves_of : (next : NextBlock) (command given : Command) → command ≡ given → (old new : D)
      (content : List ℕ) → Keeps now disk old new (MayLeaveBy next (Some given) content)
      → Keeps now disk old new (MayLeaveBy next (Some command) content)
  leaves_of next command given is old new content keeps =
      subst (λ (c : Command). Keeps now disk old new (MayLeaveBy next (Some c) content)) (sym is)
      keeps

  -- a command that words are
  pub goes_by : (next : NextBlock) (held : Bool) (given command : Option Command)
      → command ≡ given → (old new : D)
      → (changes_log given ≡ true → HeldIsGiven held given → (content : List ℕ)
      → content_of (disk old (now old)) ≡ Some content
      → Keeps now disk old new (MayLeaveBy next given content))
      → changes_log command ≡ true → HeldIsGiven held command → (content : List ℕ)
      → content_of (disk old (now old)) ≡ Some content
      → Keeps now disk old new (MayLeaveBy next command content)
  goes_by next held given command is old new goes =
      subst (λ (k : Option Command). changes_log k ≡ true → HeldIsGiven held k
      → (content : List ℕ) → content_of (disk old (now old)) ≡ Some content
      → Keeps now disk old new (MayLeaveBy next k content)) (sym is) goes

  -- the same by the log alone
  pub log_goes_by : (next : NextBlock) (given command : Option Command) → command ≡ given
      → (old new : D)
      → (changes_log given ≡ true → (content : List ℕ)
      → content_of (disk old (now old)) ≡ Some content
      → Keeps now disk old new (MayLeaveBy next given content))
      → changes_log command ≡ true → (content : List ℕ)
      → content_of (disk old (now old)) ≡ Some content
      → Keeps now disk old new (MayLeaveBy next command content)
  log_goes_by next given command is old new goes =
      subst (λ (k : Option Command). changes_log k ≡ true → (content : List ℕ)
      → content_of (disk old (now old)) ≡ Some content
      → Keeps now disk old new (MayLeaveBy next k content)) (sym is) goes

  -- a command, whether it changes the log or not
  by_use : (next : NextBlock) (command : Option Command) (changes : Bool) (old new : D)
      → IsSettled (disk old (now old)) → (changes ≡ false → Stays now disk old new)
      → (changes ≡ true → (content : List ℕ) → content_of (disk old (now old)) ≡ Some content
      → Keeps now disk old new (MayLeaveBy next command content))
      → (content : List ℕ) → content_of (disk old (now old)) ≡ Some content → Keeps now disk old new
      (MayLeaveBy next command content)
  by_use next command false old new settled stays goes content here =
      stays_any next command old new content settled here (stays refl)
  by_use next command true old new settled stays goes content here = goes refl content here

  -- the same of the command that the words are, by the one that was found in them
  pub any_command : (next : NextBlock) (found command : Option Command) → command ≡ found
      → (old new : D) → IsSettled (disk old (now old))
      → (changes_log found ≡ false → Stays now disk old new)
      → (changes_log found ≡ true → (content : List ℕ)
      → content_of (disk old (now old)) ≡ Some content
      → Keeps now disk old new (MayLeaveBy next found content))
      → (content : List ℕ) → content_of (disk old (now old)) ≡ Some content → Keeps now disk old new
      (MayLeaveBy next command content)
  any_command next found command is old new settled stays goes content here =
      subst (λ (c : Option Command). Keeps now disk old new (MayLeaveBy next c content)) (sym is)
      (by_use next found (changes_log found) old new settled stays goes content here)
