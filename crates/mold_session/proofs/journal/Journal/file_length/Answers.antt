use Rattle.std.proofs.Common.{ap, arith}
use Rattle.mold_session.specs.File.{file_length}
use Rattle.mold_session.specs.Journal.{JournalState}
use Rattle.mold_session.proofs.PackingLemmas.{file_bytes}
use Rattle.mold_session.proofs.journal.Journal.file_length.Goals as goal

pub returns : goal.returns
returns c =
    omega (
      arith,
      c.total_length.ensures.value,
      c.len.ensures,
      file_bytes c.self.inside.list.messages,
      ap (λ (j : JournalState). file_length j.messages) c.self.view_is,
    )
