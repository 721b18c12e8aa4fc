use Rattle.mold_receiver.proofs.AboveLemmas.{dropped_after}
use Rattle.mold_receiver.proofs.RoomLemmas.{begun_kept, empty_kept, whole_kept}
use Rattle.mold_receiver.proofs.laws.room_law.Goals as goal

pub returns-clause-next : goal.returns-clause-next
returns-clause-next c = begun_kept

pub returns-clause-empty : goal.returns-clause-empty
returns-clause-empty c = empty_kept

pub returns-clause-whole : goal.returns-clause-whole
returns-clause-whole c = whole_kept

pub returns-clause-dropped : goal.returns-clause-dropped
returns-clause-dropped c = dropped_after
