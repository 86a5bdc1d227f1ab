-- A contract's questions about the past are answered by scanning the rows before its block.
use Rattle.std.specs.Prelude.{ℕ, ℤ, pos, negsuc, nat_lt, if◌then◌else◌, List, length, Option, Some, None, is_some, slice_get, Result, Ok, Err}
use Rattle.lc_base.specs.History.{scan}
use Rattle.lc_base.specs.Parts.{question, version_in, list_in}
use Rattle.lc_base.specs.declared.row.Row.{Row}
use Rattle.lc_base.specs.declared.row.Dep.{Dep}
use Rattle.lc_base.specs.declared.answer.Kind.{Kind}
use Rattle.lc_base.specs.declared.answer.Kind.TheVariants.{Hist}
use Rattle.lc_base.specs.declared.answer.Answer.{Answer}
use Rattle.lc_base.specs.declared.row.Version.{Version}
use Rattle.lc_base.specs.declared.value.Value.{Value}
use Rattle.lc_base.specs.declared.value.Value.TheVariants as values
use Rattle.lc_base.specs.declared.tx_status.TxStatus.{TxStatus}
use Rattle.lc_base.specs.declared.tx_status.TxStatus.TheVariants.{NoKey, BadBlock, BadIndex}
use Rattle.contract_semantics.specs.Numbers.{truth}
use Rattle.contract_semantics.specs.Steps.{and_so}
use Rattle.contract_semantics.specs.Reading.{key_of_text}

-- A block before the block `number`; else BadBlock.
abbrev pub block_before : ℕ → ℤ → Result ℕ TxStatus
block_before number (pos n) = if nat_lt n number then Ok n else Err BadBlock
block_before number (negsuc n) = Err BadBlock

-- The answer to a question about the key that a text spells, up to a block before this one.
abbrev pub answer_up_to : List Row → ℕ → Kind → List ℕ → ℤ → Result Answer TxStatus
answer_up_to rows number kind text at =
    and_so (key_of_text text)
    (λ key. and_so (block_before number at) (λ block. Ok (scan rows (question kind key block))))

-- The version that the question is about; `None` if there is none.
abbrev pub version_asked : List Row → ℕ → List ℕ → ℤ → Result (Option Version) TxStatus
version_asked rows number text at =
    and_so (answer_up_to rows number Hist text at) (λ answer. Ok (version_in answer))

-- The list of a version; NoKey if there is no version.
abbrev pub list_told : Option (List Dep) → Result (List Dep) TxStatus
list_told None = Err NoKey
list_told (Some deps) = Ok deps

-- The dependencies or the uses of the version that the question is about.
abbrev pub list_asked : List Row → ℕ → Kind → List ℕ → ℤ → Result (List Dep) TxStatus
list_asked rows number kind text at =
    and_so (answer_up_to rows number kind text at) (λ answer. list_told (list_in answer))

-- ---- what a contract can learn of a version

-- The value of the version.
abbrev pub value_told : Option Version → Result Value TxStatus
value_told None = Err NoKey
value_told (Some version) = Ok version.value

-- The block of the version.
abbrev pub block_told : Option Version → Result Value TxStatus
block_told None = Err NoKey
block_told (Some version) = Ok (values.Int (pos version.block))

-- The index of the version's transaction in its block.
abbrev pub tx_told : Option Version → Result Value TxStatus
tx_told None = Err NoKey
tx_told (Some version) = Ok (values.Int (pos version.tx))

-- 1 if there is a version, else 0.
abbrev pub seen_told : Option Version → Result Value TxStatus
seen_told version = Ok (values.Int (truth (is_some version)))

-- ---- what a contract can learn of a list

-- The number of items.
abbrev pub count_told : List Dep → Result Value TxStatus
count_told deps = Ok (values.Int (pos (length deps)))

-- The number of items; NoKey if there is no version.
abbrev pub count_value : Option ℕ → Result Value TxStatus
count_value None = Err NoKey
count_value (Some count) = Ok (values.Int (pos count))

-- The index, if it is from 0 to `count - 1`.
abbrev pub index_in : ℕ → ℤ → Option ℕ
index_in count (pos n) = if nat_lt n count then Some n else None
index_in count (negsuc n) = None

-- The index; BadIndex if there is no item at it.
abbrev pub index_found : Option ℕ → Result ℕ TxStatus
index_found None = Err BadIndex
index_found (Some index) = Ok index

-- The index among the items of a version; NoKey if there is no version.
abbrev pub index_told : Option ℕ → ℤ → Result ℕ TxStatus
index_told None index = Err NoKey
index_told (Some count) index = index_found (index_in count index)

-- The item; BadIndex if there is none at the index.
abbrev pub item_told : Option Dep → Result Dep TxStatus
item_told None = Err BadIndex
item_told (Some dep) = Ok dep

-- The item at an index, from 0.
abbrev pub item_of : List Dep → ℤ → Result Dep TxStatus
item_of deps (pos n) = item_told (slice_get deps n)
item_of deps (negsuc n) = Err BadIndex

-- The item at an index of the list in an answer.
abbrev pub item_part_of : Answer → ℤ → Result Dep TxStatus
item_part_of answer index = and_so (list_told (list_in answer)) (λ deps. item_of deps index)

-- The dependency or use at an index of the version that the question is about.
abbrev pub item_asked : List Row → ℕ → Kind → List ℕ → ℤ → ℤ → Result Dep TxStatus
item_asked rows number kind text at index =
    and_so (answer_up_to rows number kind text at) (λ answer. item_part_of answer index)

-- The key of an item, as a text.
abbrev pub key_value : Dep → Result Value TxStatus
key_value dep = Ok (values.Text dep.key)

-- The block of an item.
abbrev pub block_value : Dep → Result Value TxStatus
block_value dep = Ok (values.Int (pos dep.block))
