-- Storing a block on a disk without a log: it is created, and then the block is appended.
use Rattle.std.proofs.Common.{◌≡◌, inl, ℕ, Bool, false, List, Option, Some}
use Rattle.std.proofs.Common.{Result, Ok, Err, sym, ap, subst, ◌∙◌}
use Rattle.std.specs.Prelude.{MatchBool, IfOk}
use Rattle.std.specs.Option.{is_some}
use Rattle.lc_io.specs.Disk.{DiskState}
use Rattle.disk_model.specs.Disk.{Keeps, Rests, content_of}
use Rattle.disk_model.proofs.Moments.{then_keeps, weaker}
use Rattle.block_codec.specs.Reading.{block_in}
use Rattle.block_codec.specs.declared.block.Block.{Block}
use Rattle.block_log.specs.Standing.{Blank, Logged, Placer, NextBlock, next_block, logged_of}
use Rattle.block_log.specs.Standing.{nothing_logged, standing, chain_of, with_block}
use Rattle.block_log.specs.Log.{LogState, Agrees, AgreesWithBlocks, AgreesWithBlank, IsNextAfter}
use Rattle.block_log.specs.Log.{StandsBy, IsOldOrNew}
use Rattle.block_log.specs.Stricter.{restanding}
use Rattle.block_log.proofs.Stricter.{stands_stricter}
use Rattle.block_log.proofs.Resting.{rests_at, rests_some, told_some}

-- bytes that are no log yet stand for no block, and no mark
pub no_log : (log : LogState) (state : Option DiskState) (place : Placer) (content : List ℕ)
    (logged : Logged) → log.is_ready ≡ false → Rests state (Agrees log)
    → content_of state ≡ Some content → StandsBy place content logged → logged ≡ nothing_logged
no_log log state place content logged headless rests told by =
    let agrees : Agrees log content = (rests_at (Agrees log) state content rests told).1 in
    let blank : AgreesWithBlank log content = subst
    (λ (ready : Bool). MatchBool ready (AgreesWithBlocks log content)
    (AgreesWithBlank log content)) headless agrees in
    let stands : standing (next_block block_in place) content ≡ Blank = stands_stricter place
    by.stricter content ∙ ap (restanding place) blank.stands in
    let found : Some logged ≡ Some nothing_logged = sym by.stands ∙ ap logged_of stands in
    cc found

pub no_block : (log : LogState) (state : Option DiskState) (place : Placer)
    (content bytes : List ℕ) (logged : Logged) (block : Block)
    → log.is_ready ≡ false → Rests state (Agrees log) → content_of state ≡ Some content
    → IsNextAfter place content bytes logged block → logged ≡ nothing_logged
no_block log state place content bytes logged block headless rests told next =
    no_log log state place content logged headless rests told
    (record { stricter = next.stricter; stands = next.stands })

HasNone : NextBlock → List ℕ → Type 0
HasNone next image = chain_of next image ≡ Some nothing_logged

module _ {D : Type 0} (now : D → ℕ) (disk : D → ℕ → Option DiskState) where
  -- if creating fails, the bytes stand for no block, as before
  pub only_headed : (old new : D) (next : NextBlock) (logged : Logged) (P : List ℕ → Type 0)
      → logged ≡ nothing_logged
      → Keeps now disk old new (λ image. chain_of next image ≡ Some nothing_logged)
      → ((image : List ℕ) → chain_of next image ≡ Some logged → P image)
      → Keeps now disk old new P
  only_headed old new next logged P none keeps leads =
      weaker now disk old new (λ image. chain_of next image ≡ Some nothing_logged) P keeps
      (λ c is. leads c (is ∙ ap Some (sym none)))

  pub only_created : (old new : D) (place : Placer) (logged : Logged) (block : Block)
      → logged ≡ nothing_logged → Keeps now disk old new
      (λ image. chain_of (next_block block_in place) image ≡ Some nothing_logged)
      → Keeps now disk old new (IsOldOrNew (next_block block_in place) logged block)
  only_created old new place logged block none keeps =
      only_headed old new (next_block block_in place) logged
      (IsOldOrNew (next_block block_in place) logged block) none keeps (λ c is. inl is)

  -- the block is the next one after no block
  next_created : (mid : D) (place : Placer) (content there bytes : List ℕ) (logged : Logged)
      (block : Block) → IsNextAfter place content bytes logged block → logged ≡ nothing_logged
      → chain_of (next_block block_in place) there ≡ Some nothing_logged
      → IsNextAfter place there bytes nothing_logged block
  next_created mid place content there bytes logged block next none stands = record {
    stricter = next.stricter;
    stands = stands;
    decoded = next.decoded;
    placed = ap (λ (all : Logged). place all.marked all.blocks block) (sym none) ∙ next.placed;
  }

  -- what the content stands for once the log is created
  pub created_there : (old mid : D) (next : NextBlock) (content : List ℕ)
      → content_of (disk old (now old)) ≡ Some content
      → is_some (disk mid (now mid)) ≡ is_some (disk old (now old))
      → Rests (disk mid (now mid)) (λ image. chain_of next image ≡ Some nothing_logged)
      → (there : List ℕ) × (content_of (disk mid (now mid)) ≡ Some there)
      × (chain_of next there ≡ Some nothing_logged)
  created_there old mid next content told still empty =
      let there = rests_some (λ image. chain_of next image ≡ Some nothing_logged)
      (disk mid (now mid)) empty (still ∙ told_some (disk old (now old)) content told) in
      (there.0, ap content_of there.1, there.2)

  pub then_appended : (old mid new : D) (place : Placer) (content bytes : List ℕ)
      (logged : Logged) (block : Block) → content_of (disk old (now old)) ≡ Some content
      → IsNextAfter place content bytes logged block → logged ≡ nothing_logged
      → Keeps now disk old mid
      (λ image. chain_of (next_block block_in place) image ≡ Some nothing_logged)
      → ((next : NextBlock) → Rests (disk mid (now mid))
      (λ image. chain_of next image ≡ Some nothing_logged))
      → ((place : Placer) (content : List ℕ) (logged : Logged) (block : Block)
      → content_of (disk mid (now mid)) ≡ Some content
      → IsNextAfter place content bytes logged block
      → Keeps now disk mid new (IsOldOrNew (next_block block_in place) logged block))
      → Keeps now disk old new (IsOldOrNew (next_block block_in place) logged block)
  then_appended old mid new place content bytes logged block told next none created empty appended =
      let there = created_there old mid (next_block block_in place) content told created.told
      (empty (next_block block_in place)) in
      then_keeps now disk old mid new (IsOldOrNew (next_block block_in place) logged block)
      (only_created old mid place logged block none created)
      (subst (λ (all : Logged). Keeps now disk mid new
      (IsOldOrNew (next_block block_in place) all block)) (sym none)
      (appended place there.0 nothing_logged block there.1
      (next_created mid place content there.0 bytes logged block next none there.2)))

  pub then_added : (old mid new : D) (place : Placer) (content bytes : List ℕ) (logged : Logged)
      (block : Block) → content_of (disk old (now old)) ≡ Some content
      → IsNextAfter place content bytes logged block → logged ≡ nothing_logged
      → is_some (disk mid (now mid)) ≡ is_some (disk old (now old))
      → ((next : NextBlock) → Rests (disk mid (now mid))
      (λ image. chain_of next image ≡ Some nothing_logged))
      → ((place : Placer) (content : List ℕ) (logged : Logged) (block : Block)
      → content_of (disk mid (now mid)) ≡ Some content
      → IsNextAfter place content bytes logged block
      → Rests (disk new (now new))
      (λ image. chain_of (next_block block_in place) image ≡ Some (with_block logged block)))
      → Rests (disk new (now new))
      (λ image. chain_of (next_block block_in place) image ≡ Some (with_block logged block))
  then_added old mid new place content bytes logged block told next none still empty appended =
      let there = created_there old mid (next_block block_in place) content told still
      (empty (next_block block_in place)) in
      subst (λ (all : Logged). Rests (disk new (now new))
      (λ image. chain_of (next_block block_in place) image ≡ Some (with_block all block)))
      (sym none)
      (appended place there.0 nothing_logged block there.1
      (next_created mid place content there.0 bytes logged block next none there.2))

-- what holds of a result that is Ok, and what follows from it
pub if_ok : {A E : Type 0} (result : Result A E) (P Q : A → Type 0) → IfOk result P
    → ((x : A) → P x → Q x) → IfOk result Q
if_ok (Ok x) P Q is leads = leads x is
if_ok (Err e) P Q is leads = tt
