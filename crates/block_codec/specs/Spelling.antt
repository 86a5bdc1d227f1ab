-- Blocks and the one spelling of each.
use Rattle.std.specs.Prelude.{◌≡◌, ℕ, ◌^◌, ◌<◌, ◌≤◌, ◌==◌, ◌||◌, Bool, true, if◌then◌else◌, List, [], ◌∷◌, ◌++◌, length, min, Result, Ok, Err}
use Rattle.std.specs.List.{concat, flat_map, AllByRecursion}
use Rattle.std.specs.Int.{w16, w32, to_be_bytes}
use Rattle.lc_base.specs.KeyBytes.{IsKey}
use Rattle.lc_base.specs.NameBytes.{IsName}
use Rattle.lc_base.specs.declared.value.Value.{Value}
use Rattle.byte_fields.specs.Prefixes.{IsLongestPrefix}
use Rattle.byte_fields.specs.Spelling.{IsBytes, string_fields, value_fields, IsBlockValue}
use Rattle.lc_base.specs.declared.limits.TheConstants.{MAX_DEPS, MAX_TEXT_BYTES}
use Rattle.block_codec.specs.declared.limits.TheConstants.{MAX_ARGS, MAX_BLOCK_BYTES, MAX_CALL_BUDGET, MAX_FIRST_TEXT_BYTES, MAX_SOURCE_BYTES, MAX_TXS}
use Rattle.block_codec.specs.declared.block.TheConstants.{SET, DEPLOY, CALL, FIRST_VERSION, SECOND_VERSION}
use Rattle.block_codec.specs.declared.block.Tx.{Tx}
use Rattle.block_codec.specs.declared.block.Tx.TheVariants.{Set, Deploy, Call}
use Rattle.block_codec.specs.declared.block.Block.{Block}

-- ---- what a block may be

-- Whether blocks have this version.
abbrev pub is_version : ℕ → Bool
is_version version = version == FIRST_VERSION || version == SECOND_VERSION

-- The greatest number of bytes of a text in a block of this version.
abbrev pub text_limit : ℕ → ℕ
text_limit version = if version == SECOND_VERSION then MAX_TEXT_BYTES else MAX_FIRST_TEXT_BYTES

-- A sender, a key, a value, whose text has at most `most` bytes, and at most `MAX_DEPS` dependency
-- keys.
pub record IsSet (most : ℕ) (sender key : List ℕ) (value : Value) (deps : List (List ℕ)) : Type 0 where
  pub sender_is_key : IsKey sender
  pub key_is_key : IsKey key
  pub value_is_value : IsBlockValue most value
  pub few_deps : length deps ≤ MAX_DEPS
  pub deps_are_keys : AllByRecursion IsKey deps

-- A sender, a name and a source of at most `MAX_SOURCE_BYTES` bytes.
pub record IsDeploy (sender name source : List ℕ) : Type 0 where
  pub sender_is_key : IsKey sender
  pub name_is_name : IsName name
  pub short_source : length source ≤ MAX_SOURCE_BYTES

-- A sender, the names of a contract and of a function, at most `MAX_ARGS` values, whose texts have
-- at most `most` bytes, and a budget of at most `MAX_CALL_BUDGET`.
pub record IsCall (most : ℕ) (sender contract function : List ℕ) (args : List Value) (budget : ℕ) : Type 0 where
  pub sender_is_key : IsKey sender
  pub contract_is_name : IsName contract
  pub function_is_name : IsName function
  pub few_args : length args ≤ MAX_ARGS
  pub args_are_values : AllByRecursion (IsBlockValue most) args
  pub low_budget : budget ≤ MAX_CALL_BUDGET

-- What a transaction may be, if its texts have at most `most` bytes.
abbrev pub IsTx : ℕ → Tx → Type 0
IsTx most (Set sender key value deps) = IsSet most sender key value deps
IsTx most (Deploy sender name source) = IsDeploy sender name source
IsTx most (Call sender contract function args budget) = IsCall most sender contract function args budget

-- A version, a number of 32 bits, a digest of 32 bytes, and at most `MAX_TXS` transactions, whose
-- texts are within the limit of the version.
pub record IsBlock (block : Block) : Type 0 where
  pub version_is : is_version block.version ≡ true
  pub number_fits : block.number < 2 ^ 32
  pub parent_fits : length block.parent.0 ≡ 32
  pub few_txs : length block.txs ≤ MAX_TXS
  pub txs_are_txs : AllByRecursion (IsTx (text_limit block.version)) block.txs

-- ---- how a block is spelled, field by field

-- The sender, the key, the value, the number of dependency keys in one byte, and these keys.
abbrev pub set_fields : List ℕ → List ℕ → Value → List (List ℕ) → List (List ℕ)
set_fields sender key value deps = string_fields sender ++ string_fields key ++ value_fields value ++ (length deps ∷ []) ∷ flat_map string_fields deps

-- The sender, the name and the source.
abbrev pub deploy_fields : List ℕ → List ℕ → List ℕ → List (List ℕ)
deploy_fields sender name source = string_fields sender ++ string_fields name ++ string_fields source

-- The sender, the names of the contract and of the function, the number of arguments in one byte,
-- and the arguments.
abbrev pub invocation_fields : List ℕ → List ℕ → List ℕ → List Value → List (List ℕ)
invocation_fields sender contract function args = string_fields sender ++ string_fields contract ++ string_fields function ++ (length args ∷ []) ∷ flat_map value_fields args

-- The sender, the contract, function and arguments that it calls, and the budget in four bytes.
abbrev pub call_fields : List ℕ → List ℕ → List ℕ → List Value → ℕ → List (List ℕ)
call_fields sender contract function args budget = invocation_fields sender contract function args ++ to_be_bytes w32 budget ∷ []

-- The kind, and the fields of that kind.
abbrev pub tx_fields : Tx → List (List ℕ)
tx_fields (Set sender key value deps) = (SET ∷ []) ∷ set_fields sender key value deps
tx_fields (Deploy sender name source) = (DEPLOY ∷ []) ∷ deploy_fields sender name source
tx_fields (Call sender contract function args budget) = (CALL ∷ []) ∷ call_fields sender contract function args budget

-- The version, the number, the parent, the number of transactions, and the transactions.
abbrev pub block_fields : Block → List (List ℕ)
block_fields block = (block.version ∷ []) ∷ to_be_bytes w32 block.number ∷ block.parent.0 ∷ to_be_bytes w16 (length block.txs) ∷ flat_map tx_fields block.txs

-- The bytes spell the block: they are its fields, one after another, and at most `MAX_BLOCK_BYTES`.
pub record Spells (bytes : List ℕ) (block : Block) : Type 0 where
  pub lawful : IsBlock block
  pub spelled : bytes ≡ concat (block_fields block)
  pub short : length bytes ≤ MAX_BLOCK_BYTES

-- ---- what bytes spell

-- The offset at which bytes are invalid: the end of the longest prefix of them that is whole fields
-- of some block, or MAX_BLOCK_BYTES if that is less.
pub record IsFaultOffset (bytes : List ℕ) (offset : ℕ) : Type 0 where
  pub reach : ℕ
  pub longest : IsLongestPrefix block_fields IsBlock bytes reach
  pub offset_is : offset ≡ min reach MAX_BLOCK_BYTES

-- What bytes spell: a block, or the offset at which they are invalid.
abbrev pub Decoder : Type 0
Decoder = List ℕ → Result Block ℕ

-- A decoder is right if it returns the block that the bytes spell and no other, and for bytes that
-- spell none the offset at which they are invalid.
pub record IsDecoder (read : Decoder) : Type 0 where
  pub found : (bytes : List ℕ) (block : Block) → IsBytes bytes → read bytes ≡ Ok block → Spells bytes block
  pub again : (bytes : List ℕ) (block : Block) → IsBytes bytes → Spells bytes block → read bytes ≡ Ok block
  pub invalid : (bytes : List ℕ) (offset : ℕ) → IsBytes bytes → read bytes ≡ Err offset → IsFaultOffset bytes offset
