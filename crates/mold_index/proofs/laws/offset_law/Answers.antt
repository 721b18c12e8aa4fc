use Rattle.mold_index.proofs.LayoutLemmas.{message_in_file, message_there, messages_there}
use Rattle.mold_index.proofs.laws.offset_law.Goals as goal

pub returns : goal.returns
returns c = record { messages = messages_there; message = message_there; file = message_in_file }
