-- Laws of typed histories and ledgers.
use Rattle.std.specs.Prelude.{◌≡◌, ℕ, ◌^◌, ◌<◌, List, length}
use Rattle.std.specs.List.{All}
use Rattle.lc_base.specs.declared.digest.Digest.{Digest}
use Rattle.lc_base.specs.declared.row.Row.{Row}
use Rattle.lc_base.specs.History.{up_to}
use Rattle.prov_entry.specs.Spelling.{IsHeader, IsBody, IsLeaf}
use Rattle.root_laws.specs.Naming.{header_of, body_of}
use Rattle.root_laws.specs.Root.{leaves, digest_at}
use Rattle.root_laws.specs.TypedLedger.{IsTypedHistory, IsTypedLedger}

-- The rows of a typed history up to a block are a typed history.
abbrev pub PartsAreTyped : Type 0
PartsAreTyped = (rows : List Row) (block : ℕ) → IsTypedHistory rows → IsTypedHistory (up_to rows block)

-- The number of a ledger's block has 32 bits, and its digest 32 bytes.
abbrev pub BlocksAreTyped : Type 0
BlocksAreTyped =
    (rows : List Row) (digests : List Digest) (block : ℕ) → IsTypedLedger rows digests → block < length digests
    → (block < 2 ^ 32) × (length (digest_at digests block) ≡ 32)

-- The headers of a typed history can be spelled.
abbrev pub HeadersAreHeaders : Type 0
HeadersAreHeaders = (rows : List Row) → IsTypedHistory rows → All (λ (row : Row). IsHeader (header_of rows row)) rows

-- The bodies of a typed history can be spelled.
abbrev pub BodiesAreBodies : Type 0
BodiesAreBodies = (rows : List Row) → IsTypedHistory rows → All (λ (row : Row). IsBody (body_of rows row)) rows

-- The leaves of a typed history can be spelled.
abbrev pub LeavesAreLeaves : Type 0
LeavesAreLeaves = (rows : List Row) → IsTypedHistory rows → All IsLeaf (leaves rows)
