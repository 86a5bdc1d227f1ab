-- Histories and ledgers whose parts are within their types. In contracts a row is made of plain
-- numbers and lists, which may be anything; what a program keeps is always within its types.
use Rattle.std.specs.Prelude.{◌≡◌, ◌^◌, ◌<◌, List, length}
use Rattle.std.specs.List.{All}
use Rattle.lc_base.specs.KeyBytes.{IsKey}
use Rattle.lc_base.specs.declared.digest.Digest.{Digest}
use Rattle.lc_base.specs.declared.row.Row.{Row}
use Rattle.lc_base.specs.History.{IsLawful}
use Rattle.prov_entry.specs.byte_fields.Spelling.{IsValue}

-- A key, a block number of 32 bits, the index of a transaction in 16 bits, and a value.
-- Dependencies are on rows of a lawful history, so their keys and blocks are within their types
-- too.
pub record IsTypedRow (row : Row) : Type 0 where
  pub key_is_key : IsKey row.key
  pub block_fits : row.block < 2 ^ 32
  pub tx_fits : row.tx < 2 ^ 16
  pub value_is_value : IsValue row.value

-- A lawful history of such rows.
pub record IsTypedHistory (rows : List Row) : Type 0 where
  pub lawful : IsLawful rows
  pub typed : All IsTypedRow rows

-- A ledger: such a history, and the digests of its blocks, which 32 bits count. Each row is of a block
-- that has a digest, and digests have 32 bytes.
pub record IsTypedLedger (rows : List Row) (digests : List Digest) : Type 0 where
  pub history : IsTypedHistory rows
  pub within : All (λ (row : Row). row.block < length digests) rows
  pub few : length digests < 2 ^ 32
  pub digests_fit : All (λ (digest : Digest). length digest.0 ≡ 32) digests
