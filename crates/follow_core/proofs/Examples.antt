-- Examples of what becomes of a block whose number is held.
use Rattle.std.proofs.Common.{◌≡◌, ℕ, [], ◌∷◌, refl}
use Rattle.lc_base.specs.declared.digest.Digest.{Digest}
use Rattle.block_codec.specs.declared.placement.Misplaced.TheVariants.{Fork}
use Rattle.follower_steps.specs.chain_replay.declared.refusal.Refusal.TheVariants.{Placed}
use Rattle.follower_steps.specs.declared.cause.Cause.TheVariants.{Refused}
use Rattle.follow_core.specs.declared.turn.Turn.TheVariants.{Known, Dropped}
use Rattle.follow_core.specs.Turning.{held_turn}

-- a digest, by its last byte
abbrev digest : ℕ → Digest
digest last = record { 0 = 1 ∷ last ∷ [] }

the_held_block : held_turn 7 2 (digest 5) (digest 5) ≡ Known 2
the_held_block = refl

-- the fork names the held block, and the frame that brought the other one
another_block : held_turn 7 2 (digest 5) (digest 6) ≡ Dropped 7 (Refused (Placed (Fork (digest 5))))
another_block = refl
