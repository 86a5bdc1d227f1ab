use Rattle.light_client.proofs.Files.{written_files_are_read}
use Rattle.light_client.proofs.file_laws.written_files_are_read.Goals as goal

pub returns : goal.returns
returns c = written_files_are_read
