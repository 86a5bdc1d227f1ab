-- The words that a program was started with.
use Rattle.std.specs.Prelude.{Option, Some, None}
use Rattle.std.specs.declared.io.ErrorKind.{ErrorKind}
use Rattle.std.specs.declared.io.ErrorKind.TheVariants.{OutOfMemory}
use Rattle.cli_lines.specs.declared.status.Status.{Status}
use Rattle.cli_lines.specs.declared.status.Status.TheVariants as statuses

-- The status of a program that could not read its words, by the kind of the error: memory ran out,
-- or else a word is no text, which is part of no command.
abbrev pub status_without_words : ErrorKind → Option Status
status_without_words OutOfMemory = Some statuses.Memory
status_without_words _ = None
