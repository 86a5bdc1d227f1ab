-- What a look at the path saw.
use Rattle.std.specs.Prelude.{ℕ, ◌==◌, Bool, false, ◌&&◌, Option, Some, None}
use Rattle.file_machine.specs.declared.calls.Node.{Node}
use Rattle.file_machine.specs.declared.calls.Stat.{Stat}

-- Two files are the same one.
abbrev pub is_node : Node → Node → Bool
is_node one other = (one.device == other.device) && (one.inode == other.inode)

-- The path leads to this file, which has this length.
abbrev pub is_file_of : Node → ℕ → Option Stat → Bool
is_file_of node len None = false
is_file_of node len (Some stat) = is_node stat.node node && (stat.len == len)
