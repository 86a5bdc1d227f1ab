-- Readers of tokens, and the few ways to combine them.
use Rattle.std.specs.Prelude.{◌≡◌, ℕ, zero, suc, Bool, true, false, List, [], ◌∷◌, ◌++◌, length, Option, Some, None, Result, Ok, Err}
use Rattle.contract_tokens.specs.declared.token.Token.{Token}
use Rattle.contract_grammar.specs.declared.Obstacle.{Obstacle}
use Rattle.contract_grammar.specs.declared.Obstacle.TheVariants.{Unfit, Surplus, Pending, Nesting, Height}
use Rattle.contract_tokens.specs.declared.token.Mark.TheVariants.{BraceOpen}
use Rattle.contract_grammar.specs.Marks.{opens, is, has, name_of}

-- What a reader returns, and the tokens that are left.
abbrev pub Read : Type 0 → Type 0
Read A = Result A Obstacle × List Token

-- A reader: what it returns for these tokens.
abbrev pub Rule : Type 0 → Type 0
Rule A = List Token → Read A

-- Whether there is a next token, and it passes the test.
abbrev pub head_is : (Token → Bool) → List Token → Bool
head_is test [] = false
head_is test (t ∷ ts) = test t

-- Returns this and takes nothing.
abbrev pub ret : {A : Type 0} → A → Rule A
ret a ts = (Ok a, ts)

-- Returns this and takes nothing, or stops if the test failed.
abbrev pub guard : {A : Type 0} → Bool → Obstacle → A → Rule A
guard true why a ts = (Ok a, ts)
guard false why a ts = (Err why, ts)

-- Takes a token if something was made of it.
abbrev pub one_by : {A : Type 0} → Option A → Token → List Token → Read A
one_by (Some a) t ts = (Ok a, ts)
one_by None t ts = (Err Unfit, t ∷ ts)

-- Takes one token, of which the function makes something.
abbrev pub one : {A : Type 0} → (Token → Option A) → Rule A
one f [] = (Err Unfit, [])
one f (t ∷ ts) = one_by (f t) t ts

-- Why a token is refused: `why` if it is the one that would be too many, `Unfit` otherwise.
abbrev pub refusal : Obstacle → Bool → Obstacle
refusal why true = why
refusal why false = Unfit

-- Stops, since a token that passes the test would be one too many.
abbrev pub refuse : {B : Type 0} → Obstacle → (Token → Bool) → Rule B
refuse why test ts = (Err (refusal why (head_is test ts)), ts)

-- Continues with what a reader returned.
abbrev pub next : {A B : Type 0} → (A → Rule B) → Read A → Read B
next q (Ok a, rest) = q a rest
next q (Err why, rest) = (Err why, rest)

-- One reader after another; the second may depend on what the first returned.
abbrev pub seq : {A B : Type 0} → Rule A → (A → Rule B) → Rule B
seq p q ts = next q (p ts)

-- The first reader, or the second.
abbrev pub either_by : {A : Type 0} → Bool → Rule A → Rule A → Rule A
either_by true p q ts = p ts
either_by false p q ts = q ts

-- The first reader if the next token passes the test, else the second.
abbrev pub either : {A : Type 0} → (Token → Bool) → Rule A → Rule A → Rule A
either test p q ts = either_by (head_is test ts) p q ts

-- Repeats the step while the next token passes the test, fewer times than this.
abbrev pub turns_below : {A : Type 0} → ℕ → (Token → Bool) → (A → Rule A) → A → Rule A
turns_below zero test step a ts = (Err Unfit, ts)
turns_below (suc n) test step a ts = either test (seq (step a) (turns_below n test step)) (ret a) ts

-- Repeats the step while the next token passes the test. Each step of the grammar takes a token, so
-- there are no more steps than tokens.
unfoldable pub turns : {A : Type 0} → (Token → Bool) → (A → Rule A) → A → Rule A
turns test step a ts = turns_below (suc (length ts)) test step a ts

-- One more item, which may depend on how many there are.
abbrev pub put : {A : Type 0} → (ℕ → Rule A) → List A → Rule (List A)
put item all = seq (item (length all)) (λ a. ret (all ++ a ∷ []))

-- Appends items to those that there are, while the next token passes the test.
abbrev pub each : {A : Type 0} → (Token → Bool) → (ℕ → Rule A) → List A → Rule (List A)
each test item = turns test (put item)

-- Whether the obstacle is a limit that stops the reader before the next token.
abbrev pub is_limit : Obstacle → Bool
is_limit Surplus = true
is_limit Pending = true
is_limit Nesting = true
is_limit _ = false

-- The token is one that the limit is about.
abbrev pub IsLimitAt : Obstacle → Token → Type 0
IsLimitAt Surplus t = has name_of t ≡ true
IsLimitAt Pending t = opens t ≡ true
IsLimitAt Nesting t = is BraceOpen t ≡ true
IsLimitAt Unfit t = Unit {0}
IsLimitAt (Height at) t = Unit {0}
