-- What a reader returns, in terms of what reading its bytes gives.
use Rattle.std.specs.Prelude.{List, ℕ, Option, Some, None, Result}
use Rattle.lc_base.specs.declared.value.Value.{Value}
use Rattle.lc_base.specs.declared.value.Value.TheVariants.{Int, Text, Gone}
use Rattle.lc_base.specs.Answers.{Answers}
use Rattle.byte_fields.specs.Reading.{Field}
use Rattle.byte_fields.specs.declared.fault.Fault.{Fault}
use Rattle.byte_fields.specs.declared.fault.ReadError.{ReadError}
use Rattle.byte_fields.specs.declared.fault.ReadError.TheVariants as errors
use Rattle.byte_fields.specs.declared.value_view.ValueView.{ValueView}
use Rattle.byte_fields.specs.declared.value_view.ValueView.TheVariants as views

-- How many bytes are left from the start of the invalid field on.
abbrev pub fault_left : Fault → Option ℕ
fault_left fault = Some fault.left

-- The same for an error that may be out of memory, which says nothing about the bytes.
abbrev pub error_left : ReadError → Option ℕ
error_left (errors.Fault fault) = fault_left fault
error_left errors.Memory = None

-- The result is what is read at the start, and `rest` is what is left; or it is the fault, of which
-- `left_of` says how many bytes are left from the invalid field on; or memory ran out.
abbrev pub Reads : {A E : Type 0} → (E → Option ℕ) → Result A E → Field A → List ℕ → Type 0
Reads left_of result read rest = Answers (λ value. (value, rest)) left_of result read

-- The same for a result that stands for what is read, as `view` says.
abbrev pub ReadsAs : {A B E : Type 0} → (A → B) → (E → Option ℕ) → Result A E → Field B → List ℕ → Type 0
ReadsAs view left_of result read rest = Answers (λ value. (view value, rest)) left_of result read

-- The value that a view shows: an int, the text of the borrowed bytes, or gone.
abbrev pub value_seen : ValueView → Value
value_seen (views.Int number) = Int number
value_seen (views.Text text) = Text text.now
value_seen views.Gone = Gone
