-- Transactions, as drafts spell them.
use Rattle.std.specs.Prelude.{ℕ, ◌+◌, ◌==◌, ◌&&◌, nat_le, is_none, if◌then◌else◌, List, [], ◌∷◌, codes, length, Option, Some, None, option_map, Result, Ok, Err}
use Rattle.std.specs.Result.{result_ok}
use Rattle.serde_json.specs.Data.{Data}
use Rattle.serde_json.specs.Find.{get, as_number, as_str, as_i64, as_u64}
use Rattle.lc_base.specs.Key.{key_of}
use Rattle.lc_base.specs.Name.{name_of}
use Rattle.lc_base.specs.TextBytes.{bad_text_byte}
use Rattle.lc_base.specs.declared.limits.TheConstants.{MAX_DEPS}
use Rattle.lc_base.specs.declared.value.Value.{Value}
use Rattle.lc_base.specs.declared.value.Value.TheVariants.{Int, Text}
use Rattle.block_codec.specs.declared.limits.TheConstants.{MAX_ARGS, MAX_CALL_BUDGET, MAX_SOURCE_BYTES}
use Rattle.block_codec.specs.declared.block.Tx.{Tx}
use Rattle.block_codec.specs.declared.block.Tx.TheVariants.{Set, Deploy, Call}
use Rattle.chain_pack.specs.Json.{◌>>=◌, items_in, member_count}

-- ---- what the fields of a transaction are

-- A key: a string whose bytes are a key.
abbrev pub key_in : Data → Option (List ℕ)
key_in json = as_str json >>= λ bytes. result_ok (key_of bytes)

-- A name: a string whose bytes are a name.
abbrev pub name_in : Data → Option (List ℕ)
name_in json = as_str json >>= λ bytes. result_ok (name_of bytes)

-- A source: a string of at most `MAX_SOURCE_BYTES` bytes of UTF-8.
abbrev pub source_in : Data → Option (List ℕ)
source_in json = as_str json >>= λ bytes. if nat_le (length bytes) MAX_SOURCE_BYTES then Some bytes else None

-- The bytes, if they are a text of at most `longest` bytes.
abbrev pub text_of : ℕ → List ℕ → Option (List ℕ)
text_of longest bytes = if nat_le (length bytes) longest && is_none (bad_text_byte bytes) then Some bytes else None

-- The first of two options, or the second if the first is `None`.
abbrev pub either : {A : Type 0} → Option A → Option A → Option A
either None second = second
either (Some first) second = Some first

-- A value: a number that is an integer of 64 bits, or a string whose bytes are a text of at most
-- `longest` bytes.
abbrev pub value_in : ℕ → Data → Option Value
value_in longest json = either (option_map Int (as_number json >>= as_i64)) (option_map Text (as_str json >>= text_of longest))

-- A budget: an integer from 0 to `MAX_CALL_BUDGET`.
abbrev pub budget_in : Data → Option ℕ
budget_in json = as_number json >>= as_u64 >>= λ steps. if nat_le steps MAX_CALL_BUDGET then Some steps else None

-- An item in front of others.
abbrev pub with_first : {A E : Type 0} → A → Result (List A) E → Result (List A) E
with_first first (Ok others) = Ok (first ∷ others)
with_first first (Err fault) = Err fault

-- What is made of the item at this index, if anything is, and of those after it.
abbrev pub then_each : {A : Type 0} → ℕ → Option A → Result (List A) ℕ → Result (List A) ℕ
then_each index None others = Err index
then_each index (Some first) others = with_first first others

-- What is made of each item, in order, the first at this index; or the index of the first item of
-- which nothing is made.
unfoldable pub each : {A B : Type 0} → (A → Option B) → ℕ → List A → Result (List B) ℕ
each make index [] = Ok []
each make index (item ∷ items) = then_each index (make item) (each make (index + 1) items)

-- What is made of each of at most `limit` items.
abbrev pub all_in : {B : Type 0} → (Data → Option B) → ℕ → Data → Option (List B)
all_in make limit json = items_in json >>= λ items. if nat_le (length items) limit then result_ok (each make 0 items) else None

-- ---- what a transaction is

-- The member of this name, if it is a key.
abbrev pub key_at : List ℕ → Data → Option (List ℕ)
key_at name json = get name json >>= key_in

-- The member of this name, if it is a name.
abbrev pub name_at : List ℕ → Data → Option (List ℕ)
name_at name json = get name json >>= name_in

-- A Set with this number of members, which depends on these keys, and whose text has at most
-- `longest` bytes.
abbrev pub set_with : ℕ → ℕ → List (List ℕ) → Data → Option Tx
set_with longest members deps json = do
  sender ← key_at (codes "sender") json
  key ← key_at (codes "key") json
  value ← get (codes "value") json >>= value_in longest
  count ← member_count json
  if count == members then Some (Set sender key value deps) else None

-- A Set without or with the member `deps`.
abbrev pub set_by : ℕ → Option Data → Data → Option Tx
set_by longest None json = set_with longest 3 [] json
set_by longest (Some deps) json = all_in key_in MAX_DEPS deps >>= λ keys. set_with longest 4 keys json

-- A Set: an object of the members `sender`, `key` and `value`, and possibly `deps`. Its text has at
-- most `longest` bytes.
abbrev pub set_in : ℕ → Data → Option Tx
set_in longest json = set_by longest (get (codes "deps") json) json

-- A Deploy: an object of the members `sender`, `name` and `source`.
abbrev pub deploy_in : Data → Option Tx
deploy_in json = do
  sender ← key_at (codes "sender") json
  name ← name_at (codes "name") json
  source ← get (codes "source") json >>= source_in
  count ← member_count json
  if count == 3 then Some (Deploy sender name source) else None

-- A Call: an object of the members `sender`, `contract`, `function`, `args` and `budget`. Its texts
-- have at most `longest` bytes.
abbrev pub call_in : ℕ → Data → Option Tx
call_in longest json = do
  sender ← key_at (codes "sender") json
  contract ← name_at (codes "contract") json
  function ← name_at (codes "function") json
  args ← get (codes "args") json >>= all_in (value_in longest) MAX_ARGS
  budget ← get (codes "budget") json >>= budget_in
  count ← member_count json
  if count == 5 then Some (Call sender contract function args budget) else None

-- The transaction of the member that there is.
abbrev pub tx_by : ℕ → Option Data → Option Data → Option Data → Option Tx
tx_by longest (Some set) deploy call = set_in longest set
tx_by longest None (Some deploy) call = deploy_in deploy
tx_by longest None None (Some call) = call_in longest call
tx_by longest None None None = None

-- A transaction, whose texts have at most `longest` bytes: an object of one member, `set`, `deploy`
-- or `call`.
abbrev pub tx_in : ℕ → Data → Option Tx
tx_in longest json = do
  count ← member_count json
  if count == 1 then tx_by longest (get (codes "set") json) (get (codes "deploy") json) (get (codes "call") json) else None
