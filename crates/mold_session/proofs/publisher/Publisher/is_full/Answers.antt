use Rattle.std.proofs.Common.{ap, ◌∙◌, refl}
use Rattle.mold_messages.specs.Listed.{byte_count}
use Rattle.mold_session.specs.Publisher.{PublisherState, unsent_of}
use Rattle.mold_session.proofs.PublisherLemmas.{too_many, full_tells}
use Rattle.mold_session.proofs.publisher.Publisher.is_full.Goals as goal

pub returns-then-lengths-room-clause-full : goal.returns-then-lengths-room-clause-full
returns-then-lengths-room-clause-full c = (
  λ _ fits. too_many c.args.self.now c.self.inside.limit c.unsent-lengths.result c.unsent-lengths.ensures.publisher
      (ap (λ (p : PublisherState). p.limit) c.self.view_is) c.unsent-lengths.ensures.value c.if-lengths-room.true fits,
  λ _. refl,
)

pub returns-clause-full : goal.returns-clause-full
returns-clause-full c =
    full_tells c.args.self.now c.self.inside.limit c.unsent-lengths.result c.joined_from.result c.unsent-lengths.ensures.publisher
    (ap (λ (p : PublisherState). p.limit) c.self.view_is) c.unsent-lengths.ensures.value
    (c.joined_from.ensures ∙ ap (λ (p : PublisherState). byte_count (unsent_of p)) c.self.view_is) c.if-lengths-room.false
