-- Examples of what is to become of a block, by its number alone.
use Rattle.std.proofs.Common.{◌≡◌, ℕ, [], ◌∷◌, refl}
use Rattle.follower_steps.specs.declared.cause.Cause.TheVariants.{Far, Taken}
use Rattle.follower_steps.specs.declared.waiting.Waiting.{Waiting}
use Rattle.follower_steps.specs.declared.waiting.Arrival.TheVariants.{Held, Due, Early, Dropped}
use Rattle.follower_steps.specs.Steps.{arrival_of}

-- a block that waits with this number
abbrev numbered : ℕ → Waiting
numbered number = record { index = 0; number = number; bytes = [] }

first_of_none : arrival_of 0 [] 0 ≡ Due
first_of_none = refl

held_already : arrival_of 3 (numbered 3 ∷ []) 2 ≡ Held 2
held_already = refl

comes_early : arrival_of 0 (numbered 2 ∷ []) 1 ≡ Early 1
comes_early = refl

as_far_as_may_be : arrival_of 0 [] 64 ≡ Early 64
as_far_as_may_be = refl

too_far : arrival_of 0 [] 65 ≡ Dropped (Far 0)
too_far = refl

as_far_above_three : arrival_of 3 [] 67 ≡ Early 67
as_far_above_three = refl

too_far_above_three : arrival_of 3 [] 68 ≡ Dropped (Far 3)
too_far_above_three = refl

-- a held number is never far
held_long_ago : arrival_of 100 [] 0 ≡ Held 0
held_long_ago = refl

waits_already : arrival_of 0 (numbered 1 ∷ numbered 2 ∷ []) 2 ≡ Dropped Taken
waits_already = refl

-- the next block may wait where no further turn was made: then another of its number is dropped
next_waits_already : arrival_of 5 (numbered 5 ∷ []) 5 ≡ Dropped Taken
next_waits_already = refl

-- too far is told before taken
far_before_taken : arrival_of 1 (numbered 70 ∷ []) 70 ≡ Dropped (Far 1)
far_before_taken = refl
