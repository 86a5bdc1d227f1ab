-- What an arrival says of a block's number.
use Rattle.std.proofs.Common.{◌≡◌, ◌≢◌, ℕ, ◌+◌, ◌-◌, ◌<◌, ◌≤◌, Bool, true, false, List, refl, sym}
use Rattle.std.proofs.Common.{◌∙◌, ap, subst, arith}
use Rattle.std.specs.Prelude.{is_some, if◌then◌else◌, nat_lt, Result, Ok, Err}
use Rattle.std.proofs.lemmas.Bool.{ltb-true, ltb-false}
use Rattle.block_codec.specs.declared.block.Block.{Block}
use Rattle.block_codec.specs.declared.placement.Misplaced.TheVariants.{Number}
use Rattle.chain_replay.specs.declared.refusal.Refusal.TheVariants.{Placed}
use Rattle.follower_steps.specs.declared.cause.Cause.TheVariants.{Far, Refused, Taken}
use Rattle.follower_steps.specs.declared.limits.TheConstants.{MAX_AHEAD}
use Rattle.follower_steps.specs.declared.waiting.Waiting.{Waiting}
use Rattle.follower_steps.specs.declared.waiting.Arrival.{Arrival}
use Rattle.follower_steps.specs.declared.waiting.Arrival.TheVariants.{Held, Due, Early, Dropped}
use Rattle.follower_steps.specs.Steps.{arrival_of, arrival_in, position_of}

-- the answer of a test didn't apply, if another is given
passed : (test : Bool) (this rest other : Arrival) → this ≢ other
    → (if test then this else rest) ≡ other → (test ≡ false) × (rest ≡ other)
passed true this rest other differs is = absurd (differs is)
passed false this rest other differs is = (refl, is)

last_is_early : (test : Bool) (number other : ℕ)
    → (if test then Early number else Due) ≡ Early other → (test ≡ true) × (number ≡ other)
last_is_early true number other is = (refl, cc is)
last_is_early false number other is = absurd (cc is)

-- what is kept comes after the next block, is near enough, and no other block has its number
pub record IsEarly (held : ℕ) (waiting : List Waiting) (number : ℕ) : Type 0 where
  pub later : held < number
  pub near : number ≤ held + MAX_AHEAD
  pub free : is_some (position_of number waiting) ≡ false

early_of : (held : ℕ) (waiting : List Waiting) (number other : ℕ)
    → arrival_of held waiting number ≡ Early other → IsEarly held waiting other × (number ≡ other)
early_of held waiting number other is =
    let new = passed (nat_lt number held) (Held number) _ (Early other) (λ e. cc e) is in
    let near = passed (nat_lt MAX_AHEAD (number - held)) (Dropped (Far held)) _ (Early other)
    (λ e. cc e) new.1 in
    let free = passed (is_some (position_of number waiting)) (Dropped Taken) _ (Early other)
    (λ e. cc e) near.1 in
    let early = last_is_early (nat_lt held number) number other free.1 in (
      subst (IsEarly held waiting) early.1 (record {
        later = ltb-true held number early.0;
        near = omega (arith, ltb-false MAX_AHEAD (number - held) near.0);
        free = free.0;
      }),
      early.1,
    )

pub early_is : (held : ℕ) (waiting : List Waiting) (decoded : Result Block ℕ) (number : ℕ)
    → arrival_in held waiting decoded ≡ Early number → IsEarly held waiting number
early_is held waiting (Ok block) number is = (early_of held waiting block.number number is).0
early_is held waiting (Err offset) number is = absurd (cc is)

-- and it is a block with this number
pub early_spells : (held : ℕ) (waiting : List Waiting) (decoded : Result Block ℕ) (number : ℕ)
    → arrival_in held waiting decoded ≡ Early number
    → (block : Block) × (decoded ≡ Ok block) × (block.number ≡ number)
early_spells held waiting (Ok block) number is =
    (block, refl, (early_of held waiting block.number number is).1)
early_spells held waiting (Err offset) number is = absurd (cc is)

-- a number is held only by the first test
never_held : (far taken later : Bool) (held number other : ℕ)
    → (if far then Dropped (Far held)
    else (if taken then Dropped Taken else (if later then Early number else Due))) ≢ Held other
never_held true taken later held number other is = cc is
never_held false true later held number other is = cc is
never_held false false true held number other is = cc is
never_held false false false held number other is = cc is

first_is_held : (test : Bool) (number other : ℕ) (rest : Arrival) → rest ≢ Held other
    → (if test then Held number else rest) ≡ Held other → (test ≡ true) × (number ≡ other)
first_is_held true number other rest never is = (refl, cc is)
first_is_held false number other rest never is = absurd (never is)

-- a block whose number is held comes before the next one
pub held_is : (held : ℕ) (waiting : List Waiting) (decoded : Result Block ℕ) (number : ℕ)
    → arrival_in held waiting decoded ≡ Held number
    → (block : Block) × (decoded ≡ Ok block) × (block.number ≡ number) × (number < held)
held_is held waiting (Ok block) number is =
    let found = first_is_held (nat_lt block.number held) block.number number _
    (never_held (nat_lt MAX_AHEAD (block.number - held))
    (is_some (position_of block.number waiting)) (nat_lt held block.number) held block.number
    number) is in (
      block,
      refl,
      found.1,
      subst (λ (n : ℕ). n < held) found.1 (ltb-true block.number held found.0),
    )
held_is held waiting (Err offset) number is = absurd (cc is)

never_for_number : (held far taken later : Bool) (n number want : ℕ)
    → (if held then Held number
    else (if far then Dropped (Far n)
    else (if taken then Dropped Taken else (if later then Early number else Due))))
    ≢ Dropped (Refused (Placed (Number want)))
never_for_number true far taken later n number want is = cc is
never_for_number false true taken later n number want is = cc is
never_for_number false false true later n number want is = cc is
never_for_number false false false true n number want is = cc is
never_for_number false false false false n number want is = cc is

-- what is dropped when it arrives isn't dropped for its number
pub arrival_not : (held : ℕ) (waiting : List Waiting) (number want : ℕ)
    → arrival_of held waiting number ≢ Dropped (Refused (Placed (Number want)))
arrival_not held waiting number want = never_for_number (nat_lt number held)
    (nat_lt MAX_AHEAD (number - held)) (is_some (position_of number waiting))
    (nat_lt held number) held number want

last_is_due : (test : Bool) (number : ℕ) → (if test then Early number else Due) ≡ Due
    → test ≡ false
last_is_due true number is = absurd (cc is)
last_is_due false number is = refl

due_of : (held : ℕ) (waiting : List Waiting) (number : ℕ) → arrival_of held waiting number ≡ Due
    → (number ≡ held) × (is_some (position_of number waiting) ≡ false)
due_of held waiting number is =
    let new = passed (nat_lt number held) (Held number) _ Due (λ e. cc e) is in
    let near = passed (nat_lt MAX_AHEAD (number - held)) (Dropped (Far held)) _ Due (λ e. cc e)
    new.1 in
    let free = passed (is_some (position_of number waiting)) (Dropped Taken) _ Due (λ e. cc e)
    near.1 in
    let most = ltb-false held number (last_is_due (nat_lt held number) number free.1) in
    (omega (arith, ltb-false number held new.0, most), free.0)

-- a block that is due is the next one, and none waits with its number
pub due_is : (held : ℕ) (waiting : List Waiting) (decoded : Result Block ℕ)
    → arrival_in held waiting decoded ≡ Due
    → (block : Block) × (decoded ≡ Ok block) × (block.number ≡ held)
    × (is_some (position_of block.number waiting) ≡ false)
due_is held waiting (Ok block) is =
    let next = due_of held waiting block.number is in (block, refl, next.0, next.1)
due_is held waiting (Err offset) is = absurd (cc is)
