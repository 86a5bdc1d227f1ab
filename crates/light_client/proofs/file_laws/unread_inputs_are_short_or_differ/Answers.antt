use Rattle.light_client.proofs.Files.{unread_inputs_are_short_or_differ}
use Rattle.light_client.proofs.file_laws.unread_inputs_are_short_or_differ.Goals as goal

pub returns : goal.returns
returns c = unread_inputs_are_short_or_differ
