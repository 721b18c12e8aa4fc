use Rattle.std.proofs.Common.{ap, ◌∙◌, refl}
use Rattle.mold_messages.specs.Listed.{byte_count}
use Rattle.mold_session.specs.Publisher.{PublisherState, unsent_of}
use Rattle.mold_session.proofs.PublisherLemmas.{too_many, full_tells}
use Rattle.mold_unsent.proofs.UnsentLemmas.{joined_in_memory}
use Rattle.mold_unsent.proofs.unsent_publisher.UnsentPublisher.is_full.Goals as goal

pub returns-then-lengths-room-clause-full : goal.returns-then-lengths-room-clause-full
returns-then-lengths-room-clause-full c = (
  λ _ fits. too_many c.args.self.now c.limit-room.result c.unsent-lengths.result c.unsent-lengths.ensures.publisher
      c.limit-room.ensures.value c.unsent-lengths.ensures.value c.if-lengths-room.true fits,
  λ _. refl,
)

pub returns-clause-full : goal.returns-clause-full
returns-clause-full c =
    let f = c.self.inside in
    full_tells c.args.self.now c.limit-room.result c.unsent-lengths.result c.joined_length-joined.result
    c.unsent-lengths.ensures.publisher c.limit-room.ensures.value c.unsent-lengths.ensures.value
    (c.joined_length-joined.ensures
    ∙ joined_in_memory f.earlier f.list.messages f.packed f.packer.limit c.len.result c.len.ensures
    ∙ ap (λ (p : PublisherState). byte_count (unsent_of p)) c.self.view_is) c.if-lengths-room.false
