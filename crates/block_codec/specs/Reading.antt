-- Reading a block from its bytes, field by field.
use Rattle.std.specs.Prelude.{ℕ, ◌-◌, min, Bool, ◌==◌, ◌||◌, nat_le, nat_lt, if◌then◌else◌, List, length, Result, Ok, Err}
use Rattle.std.specs.Int.{w16, w32}
use Rattle.lc_base.specs.declared.value.Value.{Value}
use Rattle.byte_fields.specs.Reading.{Field, all_read, bind_at, then_at, made_at, ruled_at, items_at, number_at, byte_at, bytes_at, key_at, name_at, any_bytes_at, value_at}
use Rattle.lc_base.specs.declared.limits.TheConstants.{MAX_DEPS}
use Rattle.block_codec.specs.declared.limits.TheConstants.{MAX_ARGS, MAX_BLOCK_BYTES, MAX_CALL_BUDGET, MAX_SOURCE_BYTES, MAX_TXS}
use Rattle.block_codec.specs.declared.block.TheConstants.{SET, DEPLOY, CALL}
use Rattle.block_codec.specs.declared.block.Tx.{Tx}
use Rattle.block_codec.specs.declared.block.Tx.TheVariants.{Set, Deploy, Call}
use Rattle.block_codec.specs.declared.block.Block.{Block}
use Rattle.block_codec.specs.Spelling.{is_version, text_limit}

-- At most `MAX_DEPS` keys, after their count.
unfoldable pub dep_keys_at : List ℕ → Field (List (List ℕ))
dep_keys_at = bind_at (ruled_at (λ n. nat_le n MAX_DEPS) byte_at) (items_at key_at)

-- A Set from its parts.
abbrev pub set_of : List ℕ × (List ℕ × (Value × List (List ℕ))) → Tx
set_of parts = Set parts.0 parts.1.0 parts.1.1.0 parts.1.1.1

-- What follows the kind of a Set, whose text has at most `most` bytes.
unfoldable pub set_at : ℕ → List ℕ → Field Tx
set_at most =
    made_at set_of (then_at key_at (then_at key_at (then_at (value_at most) dep_keys_at)))

-- A Deploy from its parts.
abbrev pub deploy_of : List ℕ × (List ℕ × List ℕ) → Tx
deploy_of parts = Deploy parts.0 parts.1.0 parts.1.1

-- What follows the kind of a Deploy.
unfoldable pub deploy_at : List ℕ → Field Tx
deploy_at = made_at deploy_of (then_at key_at (then_at name_at (any_bytes_at MAX_SOURCE_BYTES)))

-- At most `MAX_ARGS` values, after their count. Their texts have at most `most` bytes.
unfoldable pub args_at : ℕ → List ℕ → Field (List Value)
args_at most = bind_at (ruled_at (λ n. nat_le n MAX_ARGS) byte_at) (items_at (value_at most))

-- A Call from its parts.
abbrev pub call_of : List ℕ × (List ℕ × (List ℕ × (List Value × ℕ))) → Tx
call_of parts = Call parts.0 parts.1.0 parts.1.1.0 parts.1.1.1.0 parts.1.1.1.1

-- What follows the kind of a Call, whose texts have at most `most` bytes.
unfoldable pub call_at : ℕ → List ℕ → Field Tx
call_at most = made_at call_of (then_at key_at (then_at name_at (then_at name_at (then_at (args_at most) (ruled_at (λ n. nat_le n MAX_CALL_BUDGET) (number_at w32))))))

-- Whether transactions have this kind.
abbrev pub is_kind : ℕ → Bool
is_kind kind = kind == SET || kind == DEPLOY || kind == CALL

-- What follows the kind of a transaction, whose texts have at most `most` bytes.
abbrev pub kind_at : ℕ → ℕ → List ℕ → Field Tx
kind_at most kind = if kind == SET then set_at most else (if kind == DEPLOY then deploy_at else call_at most)

-- A transaction, whose texts have at most `most` bytes: its kind, then what follows the kind.
unfoldable pub tx_at : ℕ → List ℕ → Field Tx
tx_at most = bind_at (ruled_at is_kind byte_at) (kind_at most)

-- At most `MAX_TXS` transactions, after their count. Their texts have at most `most` bytes.
unfoldable pub txs_at : ℕ → List ℕ → Field (List Tx)
txs_at most = bind_at (ruled_at (λ n. nat_le n MAX_TXS) (number_at w16)) (items_at (tx_at most))

-- A block of this version from its other parts.
abbrev pub block_of : ℕ → ℕ × (List ℕ × List Tx) → Block
block_of version parts =
    record { version = version; number = parts.0; parent = record { 0 = parts.1.0 }; txs = parts.1.1 }

-- What follows the version of a block.
abbrev pub versioned_at : ℕ → List ℕ → Field Block
versioned_at version =
    made_at (block_of version) (then_at (number_at w32) (then_at (bytes_at 32) (txs_at (text_limit version))))

-- A block: its version, then what follows the version.
unfoldable pub block_at : List ℕ → Field Block
block_at = bind_at (ruled_at is_version byte_at) versioned_at

-- A block without trailing bytes, or how many bytes are left from the invalid field on.
unfoldable pub whole_block : List ℕ → Result Block ℕ
whole_block bytes = all_read (block_at bytes)

-- A block of at most `MAX_BLOCK_BYTES` bytes, or the offset at which they are invalid.
abbrev pub with_offset : ℕ → Result Block ℕ → Result Block ℕ
with_offset total (Ok block) = if nat_lt MAX_BLOCK_BYTES total then Err MAX_BLOCK_BYTES else Ok block
with_offset total (Err left) = Err (min (total - left) MAX_BLOCK_BYTES)

-- The block that the bytes spell, or the offset at which they are invalid.
unfoldable pub block_in : List ℕ → Result Block ℕ
block_in bytes = with_offset (length bytes) (whole_block bytes)
