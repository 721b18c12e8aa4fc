use Rattle.mold_publish.proofs.DatagramLemmas.{PackingLaws, full_room, room_behind, all_sent}
use Rattle.std.proofs.Common.{◌+◌, ◌∙◌, ap, length}
use Rattle.mold_session.specs.Journal.{JournalState}
use Rattle.mold_session.specs.Publisher.{PublisherState}
use Rattle.mold_show.proofs.PackLemmas.{journal_before, room_before, turn_full, turn_end, turn_refused}
use Rattle.mold_show.proofs.pack.PackLineCommand.turn.Given.{Over}
use Rattle.mold_show.proofs.pack.PackLineCommand.turn.Goals as goal
use Rattle.mold_show.proofs.pack.PackLineCommand.turn.Goals.{After-packing_law, In-Full, In-End}

laws : (g : Over) → After-packing_law g → PackingLaws
laws g c = record {
  is_front = c.front_law.ensures.front;
  only = c.front_law.ensures.only;
  stops = c.front_law.ensures.stops;
  some = c.front_law.ensures.some;
  whole = c.front_law.ensures.whole;
  none = c.packing_law.ensures.none;
  first = c.packing_law.ensures.first;
}

pub invariant_of-self-in_err-push_datagram-in-Full : goal.invariant_of-self-in_err-push_datagram-in-Full
invariant_of-self-in_err-push_datagram-in-Full g c =
    let filled = rw c.in-Full.is at c.in_ok-fill.ensures.filled in
    rw c.push_datagram.ensures.sent
    (full_room (laws g (goal.at.invariant_of-self-in_err-push_datagram-in-Full g c).After-packing_law) _ filled.room)

pub invariant_of-self-in-Full : goal.invariant_of-self-in-Full
invariant_of-self-in-Full g c =
    let filled = rw c.in-Full.is at c.in_ok-fill.ensures.filled in
    rw c.push_datagram.ensures.sent
    (full_room (laws g (goal.at.invariant_of-self-in-Full g c).After-packing_law) _ filled.room)

pub invariant_of-self-in_err-push_datagram-in-End : goal.invariant_of-self-in_err-push_datagram-in-End
invariant_of-self-in_err-push_datagram-in-End g c =
    let filled = rw c.in-End.is at c.in_ok-fill.ensures.filled in
    rw c.push_datagram-in-End.ensures.sent
    (room_behind (laws g (goal.at.invariant_of-self-in_err-push_datagram-in-End g c).After-packing_law) _ filled.room)

pub push_end-requires : goal.push_end-requires
push_end-requires g c =
    let filled = rw c.in-End.is at c.in_ok-fill.ensures.filled in
    rw c.push_datagram-in-End.ensures.sent
    (all_sent (laws g (goal.at.push_end-requires g c).After-packing_law) _ filled.room)

pub invariant_of-self-in_err-push_end-in-End : goal.invariant_of-self-in_err-push_end-in-End
invariant_of-self-in_err-push_end-in-End g c =
    let filled = rw c.in-End.is at c.in_ok-fill.ensures.filled in
    let room =
    room_behind (laws g (goal.at.invariant_of-self-in_err-push_end-in-End g c).After-packing_law) _ filled.room in
    rw (c.push_end.ensures.closed, c.push_datagram-in-End.ensures.sent) (record { sent = room.sent; fits = room.fits })

pub invariant_of-self-in-End : goal.invariant_of-self-in-End
invariant_of-self-in-End g c =
    let filled = rw c.in-End.is at c.in_ok-fill.ensures.filled in
    let room = room_behind (laws g (goal.at.invariant_of-self-in-End g c).After-packing_law) _ filled.room in
    rw (c.push_end.ensures.closed, c.push_datagram-in-End.ensures.sent) (record { sent = room.sent; fits = room.fits })

pub returns-in_ok-push_datagram-in-Full-clause-told : goal.returns-in_ok-push_datagram-in-Full-clause-told
returns-in_ok-push_datagram-in-Full-clause-told g c =
    rw (← c.self.view_is)
    (turn_full g.M.MessageReader.input_kind g.M.MessageReader.entries (laws g (goal.at.returns-in_ok-push_datagram-in-Full-clause-told g c).After-packing_law)
    _ c.fill.new.publisher _ _ _ _ _
    (rw c.in-Full.is at c.in_ok-fill.ensures.filled) c.push_datagram.ensures.sent
    c.in_ok-push_datagram-in-Full.ensures.text)

pub returns-in_ok-push_end-in-End-clause-told : goal.returns-in_ok-push_end-in-End-clause-told
returns-in_ok-push_end-in-End-clause-told g c =
    rw (← c.self.view_is)
    (turn_end g.M.MessageReader.input_kind g.M.MessageReader.entries (laws g (goal.at.returns-in_ok-push_end-in-End-clause-told g c).After-packing_law)
    _ c.fill.new.publisher _ _ _ _ c.push_datagram-in-End.new.out.items _
    (rw c.in-End.is at c.in_ok-fill.ensures.filled) c.in_ok-push_datagram-in-End.ensures.text
    (rw c.push_datagram-in-End.ensures.sent at c.in_ok-push_end-in-End.ensures.text))

pub invariant_of-self-in_err-push_before-in-Refused : goal.invariant_of-self-in_err-push_before-in-Refused
invariant_of-self-in_err-push_before-in-Refused g c =
    let filled = rw c.in-Refused.is at c.in_ok-fill.ensures.filled in
    rw c.push_before.ensures.left
    (room_before (laws g (goal.at.invariant_of-self-in_err-push_before-in-Refused g c).After-packing_law) _ _ filled.room)

pub invariant_of-self-in_err-push_message_refused-in-Refused : goal.invariant_of-self-in_err-push_message_refused-in-Refused
invariant_of-self-in_err-push_message_refused-in-Refused g c =
    let filled = rw c.in-Refused.is at c.in_ok-fill.ensures.filled in
    rw c.push_before.ensures.left
    (room_before (laws g (goal.at.invariant_of-self-in_err-push_message_refused-in-Refused g c).After-packing_law) _ _
    filled.room)

pub invariant_of-self-in-Refused : goal.invariant_of-self-in-Refused
invariant_of-self-in-Refused g c =
    let filled = rw c.in-Refused.is at c.in_ok-fill.ensures.filled in
    rw c.push_before.ensures.left
    (room_before (laws g (goal.at.invariant_of-self-in-Refused g c).After-packing_law) _ _ filled.room)

pub returns-in_ok-push_message_refused-in-Refused-clause-told : goal.returns-in_ok-push_message_refused-in-Refused-clause-told
returns-in_ok-push_message_refused-in-Refused-clause-told g c =
    let now = c.fill.new.publisher in
    let left = c.push_before.ensures.left in
    rw (← c.self.view_is)
    (turn_refused g.M.MessageReader.input_kind g.M.MessageReader.entries
    (laws g (goal.at.returns-in_ok-push_message_refused-in-Refused-clause-told g c).After-packing_law)
    _ now _ _ _ _ c.push_before.new.out.items _ c.next.result c.in-Refused.refusal
    (rw c.in-Refused.is at c.in_ok-fill.ensures.filled)
    (c.next.ensures.value
    ∙ ap (λ (j : JournalState). length j.messages + 1)
    (c.journal.ensures ∙ ap (λ (p : PublisherState). p.journal) left ∙ journal_before c.in-Refused.refusal.kind now))
    c.in_ok-push_before-in-Refused.ensures.text
    c.in_ok-push_message_refused-in-Refused.ensures.text)
