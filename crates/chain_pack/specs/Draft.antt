-- Drafts, and the texts of the blocks that they are packed into.
use Rattle.std.specs.Prelude.{ℕ, ◌+◌, nat_lt, if◌then◌else◌, List, [], ◌∷◌, length, Option, Some, None, Result, Ok, Err}
use Rattle.std.specs.List.{concat}
use Rattle.serde_json.specs.Data.{Data}
use Rattle.lc_base.specs.declared.digest.Digest.{Digest}
use Rattle.block_codec.specs.Spelling.{Spells, block_fields, text_limit}
use Rattle.block_codec.specs.Placement.{bytes_digest, block_budget, no_parent}
use Rattle.block_codec.specs.declared.limits.TheConstants.{MAX_BLOCK_BUDGET, MAX_BLOCK_BYTES, MAX_TXS}
use Rattle.block_codec.specs.declared.block.Tx.{Tx}
use Rattle.block_codec.specs.declared.block.Block.{Block}
use Rattle.chain_pack.specs.Json.{json_in, items_in}
use Rattle.chain_pack.specs.Transactions.{each, with_first, tx_in}
use Rattle.chain_pack.specs.declared.error.PackError.{PackError}
use Rattle.chain_pack.specs.declared.error.PackError.TheVariants.{Json, Top, Shape, BlockLimit, Memory}

-- What an error says about the draft, or `None` if memory ran out.
abbrev pub pack_fault : PackError → Option PackError
pack_fault Json = Some Json
pack_fault Top = Some Top
pack_fault (Shape block tx) = Some (Shape block tx)
pack_fault (BlockLimit block) = Some (BlockLimit block)
pack_fault Memory = None

-- The transactions of the block of this number, or the place of the first item that is none.
abbrev pub at_block : ℕ → Result (List Tx) ℕ → Result (List Tx) PackError
at_block number (Ok txs) = Ok txs
at_block number (Err index) = Err (Shape number index)

-- At most `MAX_TXS` items, each a transaction of a block of this version.
abbrev pub txs_of : ℕ → ℕ → Option (List Data) → Result (List Tx) PackError
txs_of version number None = Err (BlockLimit number)
txs_of version number (Some items) = if nat_lt MAX_TXS (length items) then Err (BlockLimit number) else at_block number (each (tx_in (text_limit version)) 0 items)

-- The transactions of the block of this version and number, from an array of them.
abbrev pub txs_in : ℕ → ℕ → Data → Result (List Tx) PackError
txs_in version number json = txs_of version number (items_in json)

-- The spelling of a block with a budget of at most `MAX_BLOCK_BUDGET` and at most `MAX_BLOCK_BYTES`
-- bytes.
abbrev pub text_of : Block → Result (List ℕ) PackError
text_of block =
    if nat_lt MAX_BLOCK_BUDGET (block_budget block) then Err (BlockLimit block.number)
    else (if nat_lt MAX_BLOCK_BYTES (length (concat (block_fields block))) then Err (BlockLimit block.number)
    else Ok (concat (block_fields block)))

-- The text of the block of this version, number and parent, with these transactions.
abbrev pub text_with : ℕ → ℕ → Digest → Result (List Tx) PackError → Result (List ℕ) PackError
text_with version number parent (Ok txs) = text_of (record { version = version; number = number; parent = parent; txs = txs })
text_with version number parent (Err fault) = Err fault

-- The text of the block of this version, number and parent.
abbrev pub text_in : ℕ → ℕ → Digest → Data → Result (List ℕ) PackError
text_in version number parent json = text_with version number parent (txs_in version number json)

-- A text, then those after it.
abbrev pub then_texts : Result (List ℕ) PackError → (List ℕ → Result (List (List ℕ)) PackError) → Result (List (List ℕ)) PackError
then_texts (Ok text) others = with_first text (others text)
then_texts (Err fault) others = Err fault

-- The texts of blocks of this version. The first has this number and parent; each other one has the
-- next number and the digest of the block before as its parent. The first fault in this order
-- decides.
unfoldable pub texts_from : ℕ → ℕ → Digest → List Data → Result (List (List ℕ)) PackError
texts_from version number parent [] = Ok []
texts_from version number parent (json ∷ others) = then_texts (text_in version number parent json) (λ text. texts_from version (number + 1) (bytes_digest text) others)

-- The texts of an array of blocks of this version.
abbrev pub texts_of : ℕ → Option (List Data) → Result (List (List ℕ)) PackError
texts_of version None = Err Top
texts_of version (Some blocks) = texts_from version 0 no_parent blocks

-- The texts of the blocks of a JSON value, which have this version.
abbrev pub packed_of : ℕ → Option Data → Result (List (List ℕ)) PackError
packed_of version None = Err Json
packed_of version (Some json) = texts_of version (items_in json)

-- The texts of the blocks of a draft, which have this version, or its first fault.
abbrev pub texts_of_draft : ℕ → List ℕ → Result (List (List ℕ)) PackError
texts_of_draft version draft = packed_of version (json_in draft)

-- A text spells a block.
abbrev pub IsBlockText : List ℕ → Type 0
IsBlockText text = (block : Block) × Spells text block
