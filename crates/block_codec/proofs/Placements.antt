-- What it takes to be known or next: each test of a placement, both ways.
use Rattle.std.proofs.Common.{◌≡◌, ◌≢◌, ℕ, Bool, true, false, refl, arith}
use Rattle.std.specs.Prelude.{Option, Some, None, not, if◌then◌else◌, ◌==◌, ◌||◌, nat_lt}
use Rattle.std.proofs.lemmas.Bool.{le-ltb, ltb-false, eq-eqb, eqb-true, ne_eqb}
use Rattle.std.proofs.lemmas.Bool.Decides.{nat_tests}
use Rattle.lc_base.specs.declared.digest.Digest.{Digest}
use Rattle.block_codec.specs.Placement.{is_same_digest, block_budget, most_blocks, wanted_version, new_placement}
use Rattle.block_codec.specs.Placement.{placement, IsNextPlaced}
use Rattle.block_codec.specs.declared.limits.TheConstants.{MAX_BLOCK_BUDGET, MAX_ROWS_BEFORE_BLOCK}
use Rattle.block_codec.specs.declared.block.Block.{Block}
use Rattle.block_codec.specs.declared.placement.Placement.{Placement}
use Rattle.block_codec.specs.declared.placement.Placement.TheVariants.{Known, Next, Not}
use Rattle.block_codec.specs.declared.placement.Misplaced.{Misplaced}
use Rattle.block_codec.specs.declared.placement.Misplaced.TheVariants.{Fork}

-- ---- a block whose number is not held

-- the reason that a test finds didn't apply, where the place is another
passed : (place : Placement) (test : Bool) (why : Misplaced) (rest : Placement) → Not why ≢ place
    → (if test then Not why else rest) ≡ place → (test ≡ false) × (rest ≡ place)
passed place true why rest other is = absurd (other is)
passed place false why rest other is = (refl, is)

is_true : (test : Bool) → not test ≡ false → test ≡ true
is_true true is = refl
is_true false is = absurd (cc is)

module _ (marked : Bool) (held rows : ℕ) (parent : Digest) (block : Block) where
  pub next_is_placed : new_placement marked held rows parent block ≡ Next
      → IsNextPlaced marked held rows parent block
  next_is_placed is =
      let full : Bool = held == most_blocks marked || nat_lt MAX_ROWS_BEFORE_BLOCK rows in
      let dear : Bool = nat_lt MAX_BLOCK_BUDGET (block_budget block) in
      let has_room = passed Next full _ _ (λ e. cc e) is in
      let numbered = passed Next (not (block.number == held)) _ _ (λ e. cc e) has_room.1 in
      let joined = passed Next (not (is_same_digest block.parent parent)) _ _ (λ e. cc e)
      numbered.1 in
      let versioned = passed Next (not (block.version == wanted_version marked)) _ _ (λ e. cc e)
      joined.1 in
      let within = passed Next dear _ _ (λ e. cc e) versioned.1 in
      let some = has_room.0 in
      let same = numbered.0 in
      record {
        room = λ last. absurd (grind (arith, nat_tests, some, last));
        few_rows = grind (arith, nat_tests, some);
        number = grind (arith, nat_tests, same);
        parent_is = is_true (is_same_digest block.parent parent) joined.0;
        version_is = eqb-true block.version (wanted_version marked)
            (is_true (block.version == wanted_version marked) versioned.0);
        cheap = ltb-false MAX_BLOCK_BUDGET (block_budget block) within.0;
      }

  pub placed_is_next : IsNextPlaced marked held rows parent block
      → new_placement marked held rows parent block ≡ Next
  placed_is_next placed =
      rw (
        ne_eqb held (most_blocks marked) placed.room,
        le-ltb MAX_ROWS_BEFORE_BLOCK rows placed.few_rows,
        eq-eqb block.number held placed.number,
        placed.parent_is,
        eq-eqb block.version (wanted_version marked) placed.version_is,
        le-ltb MAX_BLOCK_BUDGET (block_budget block) placed.cheap,
      ) refl

  pub new_is_not_known : new_placement marked held rows parent block ≢ Known
  new_is_not_known is =
      let full : Bool = held == most_blocks marked || nat_lt MAX_ROWS_BEFORE_BLOCK rows in
      let dear : Bool = nat_lt MAX_BLOCK_BUDGET (block_budget block) in
      let has_room = passed Known full _ _ (λ e. cc e) is in
      let numbered = passed Known (not (block.number == held)) _ _ (λ e. cc e) has_room.1 in
      let joined = passed Known (not (is_same_digest block.parent parent)) _ _ (λ e. cc e)
      numbered.1 in
      let versioned = passed Known (not (block.version == wanted_version marked)) _ _ (λ e. cc e)
      joined.1 in
      let within = passed Known dear _ _ (λ e. cc e) versioned.1 in
      cc within.1

-- ---- any block

held_is_not_next : (same : Bool) (have : Digest)
    → (if same then Known else Not (Fork have)) ≢ Next
held_is_not_next true have is = cc is
held_is_not_next false have is = cc is

-- a block that is known has a number that is held
pub known_is_held : (marked : Bool) (held rows : ℕ) (have : Option Digest) (parent : Digest)
    (block : Block) (digest : Digest) → placement marked held rows have parent block digest ≡ Known
    → (d : Digest) × (have ≡ Some d)
known_is_held marked held rows (Some d) parent block digest is = (d, refl)
known_is_held marked held rows None parent block digest is =
    absurd (new_is_not_known marked held rows parent block is)

-- a block that is next has a number that is not held
pub next_is_new : (marked : Bool) (held rows : ℕ) (have : Option Digest) (parent : Digest)
    (block : Block) (digest : Digest) → placement marked held rows have parent block digest ≡ Next
    → (have ≡ None) × (new_placement marked held rows parent block ≡ Next)
next_is_new marked held rows (Some have) parent block digest is =
    absurd (held_is_not_next (is_same_digest have digest) have is)
next_is_new marked held rows None parent block digest is = (refl, is)

pub next_has_passed : (marked : Bool) (held rows : ℕ) (have : Option Digest) (parent : Digest)
    (block : Block) (digest : Digest) → placement marked held rows have parent block digest ≡ Next
    → IsNextPlaced marked held rows parent block
next_has_passed marked held rows have parent block digest is =
    next_is_placed marked held rows parent block
    (next_is_new marked held rows have parent block digest is).1
