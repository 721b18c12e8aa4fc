use Rattle.mold_session.proofs.SavingLemmas.{are_file_messages}
use Rattle.mold_session.proofs.journal.Journal.save.Goals as goal

pub save_file-requires : goal.save_file-requires
save_file-requires g c =
    are_file_messages c.self.inside.max_message c.self.inside.list.messages c.self.invariant.0 c.self.invariant.1
