use Rattle.std.proofs.Common.{◌≡◌, ◌+◌, [], List, ℕ, length, subst, sym}
use Rattle.std.specs.List.{All}
use Rattle.mold_capture.specs.Consistent.{Consistent}
use Rattle.mold_capture.specs.Seen.{Seen, seen_of}
use Rattle.mold_capture.specs.Verdict.{IsWholeSeen}
use Rattle.mold_ffi.specs.Laws.{AreTaken, said}
use Rattle.mold_wire.specs.Block.{IsBytes}
use Rattle.mold_ffi.proofs.CheckerLemmas.{all_joined}
use Rattle.mold_ffi.proofs.laws.checked_law.Goals as goal

-- The same for a checker that begins with no datagram.
from_none : (c : goal.After-whole_is_one_law) (list : List (List ℕ)) → All IsBytes list → AreTaken (seen_of []) list
    → Consistent list × (said (seen_of []) list ≡ seen_of list)
from_none c list = all_joined c.reason_law.ensures.accepted c.after_law.ensures list [] c.reason_law.ensures.none

pub returns-clause-consistent : goal.returns-clause-consistent
returns-clause-consistent c = λ list bytes taken. (from_none c list bytes taken).0

pub returns-clause-said : goal.returns-clause-said
returns-clause-said c = λ list bytes taken. (from_none c list bytes taken).1

pub returns-clause-whole : goal.returns-clause-whole
returns-clause-whole c = λ list verdict bytes taken tells.
    let found = from_none c list bytes taken in
    c.whole_is_one_law.ensures.whole list verdict.messages found.0 (subst (λ (s : Seen). IsWholeSeen s (verdict.messages + 1)) found.1 tells.whole)

pub returns-clause-missing : goal.returns-clause-missing
returns-clause-missing c = λ list verdict bytes taken tells messages whole.
    let found = from_none c list bytes taken in
    tells.not_whole (length messages + 1)
    (subst (λ (s : Seen). IsWholeSeen s (length messages + 1)) (sym found.1) (c.whole_is_one_law.ensures.received list messages whole))
