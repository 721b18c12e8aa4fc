use Rattle.std.proofs.Common.{◌∙◌, ap, ℕ, ◌+◌}
use Rattle.mold_world.proofs.RowLemmas.{datagram_room, datagram_row}
use Rattle.mold_world.specs.Inside.{world_of}
use Rattle.mold_world.proofs.participants.Participants.datagram.Goals as goal

pub unwrap-requires : goal.unwrap-requires
unwrap-requires c =
    let longest = c.requires.world.publisher.longest in
    c.store-stored.ensures.room
    (datagram_room c.args.self.now.publisher c.reserve.new.self _ _ c.front_law.ensures.front
    c.spelling_length_law.ensures.fits c.requires.world.publisher
    (ap (λ (t : ℕ). t + 22) (c.from-limit.ensures ∙ c.max_message.ensures ∙ ap (λ t. t.max_message) c.journal.ensures)
    ∙ longest) c.in_ok-reserve.ensures.room c.datagram.ensures.lent)

pub returns-clause-applied : goal.returns-clause-applied
returns-clause-applied c =
    let stored = rw c.unwrap.ensures at c.store-stored.ensures.stored in
    let reported = rw c.unwrap.ensures at c.store-stored.ensures.told in
    datagram_row (world_of c.args.self.now) c.unwrap.result c.datagram.follows.lender-at-none
    c.store-stored.new.sent.messages (record {
      lent = _;
      lends = c.datagram.ensures.lent;
      left = c.datagram.follows.holds-at-none;
      reported = rw c.in_ok-reserve.ensures.same at reported;
      now = rw c.in_ok-reserve.ensures.same at stored;
    })
