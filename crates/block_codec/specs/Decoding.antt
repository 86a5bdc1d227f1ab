-- What `decode` returns.
use Rattle.std.specs.Prelude.{ℕ, Option, Some, None}
use Rattle.block_codec.specs.declared.decoding.DecodeError.{DecodeError}
use Rattle.block_codec.specs.declared.decoding.DecodeError.TheVariants.{Malformed, Memory}

-- The offset at which an error says that bytes are invalid, or `None` if it is out of memory.
abbrev pub fault_offset : DecodeError → Option ℕ
fault_offset (Malformed offset) = Some offset
fault_offset Memory = None
