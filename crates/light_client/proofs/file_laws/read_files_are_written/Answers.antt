use Rattle.light_client.proofs.Files.{read_files_are_written}
use Rattle.light_client.proofs.file_laws.read_files_are_written.Goals as goal

pub returns : goal.returns
returns c = read_files_are_written
