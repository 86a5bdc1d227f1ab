-- Lists of items that stay in the bytes that they were read from.
use Rattle.std.specs.Prelude.{ℕ, List, [], Result, Ok, Err}
use Rattle.byte_fields.specs.Reading.{Field}
use Rattle.byte_fields.specs.Reader.{fault_left, ReadsAs}
use Rattle.byte_fields.specs.declared.fault.Fault.{Fault}

-- The items that were read; none if one of them was invalid.
abbrev pub items_read : {A : Type 0} → Field (List A) → List A
items_read (Ok read) = read.0
items_read (Err left) = []

-- All items were read.
abbrev pub AreRead : {A : Type 0} → Field (List A) → Type 0
AreRead (Ok read) = Unit {0}
AreRead (Err left) = ⊥

-- The reader went past the items, and they were read; or it is at the fault of one of them.
abbrev pub Skips : {A : Type 0} → Result (Unit {0}) Fault → Field (List A) → List ℕ → Type 0
Skips result read rest = ReadsAs (λ none. items_read read) fault_left result read rest
